use Rattle.std.proofs.Common.{◌∙◌, ◌<◌, sym, length, arith}
use Rattle.foreign_keys.specs.Pairs.{is_same_pair}
use Rattle.foreign_keys.proofs.Pairing.{any-pair-next, any-pair-end}
use Rattle.foreign_keys.proofs.ways.is_among.Goals as goal

pub loop-at-preserved : goal.loop-at-preserved
loop-at-preserved c =
    let within : c.loop-at.at < length c.args.places.now = omega (arith, c.requires) in
    sym (any-pair-next (is_same_pair (c.args.own, c.args.column)) c.args.others.now c.args.places.now c.loop-at.at _ c.loop-at-test.true within (sym c.if-is_same_pair.false ∙ c.is_same_pair.ensures))
    ∙ c.loop-at.invariant

pub returns-then-is_same_pair : goal.returns-then-is_same_pair
returns-then-is_same_pair c =
    let within : c.loop-at.at < length c.args.places.now = omega (arith, c.requires) in
    sym (any-pair-next (is_same_pair (c.args.own, c.args.column)) c.args.others.now c.args.places.now c.loop-at.at _ c.loop-at-test.true within (sym c.if-is_same_pair.true ∙ c.is_same_pair.ensures))
    ∙ c.loop-at.invariant

pub returns : goal.returns
returns c =
    sym (any-pair-end (is_same_pair (c.args.own, c.args.column)) c.args.others.now c.args.places.now c.loop-at.at (omega arith)) ∙ c.loop-at.invariant
