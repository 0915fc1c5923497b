use Rattle.std.proofs.Common.{◌∙◌, ◌<◌, ℕ, sym, length, arith}
use Rattle.std.specs.List.{list_any, zip}
use Rattle.foreign_keys.specs.Pairs.{is_same_pair}
use Rattle.foreign_keys.proofs.Pairing.{all-pairs-next, all-pairs-end}
use Rattle.foreign_keys.proofs.ways.are_within.Goals as goal

pub loop-at-preserved : goal.loop-at-preserved
loop-at-preserved c =
    let within : c.loop-at.at < length c.args.to.now = omega (arith, c.requires.pairs) in
    sym (all-pairs-next (λ (pair : ℕ × ℕ). list_any (is_same_pair pair) (zip c.args.others.now c.args.places.now)) c.args.from.now c.args.to.now c.loop-at.at _ c.loop-at-test.true within
    (sym c.if-not-is_among.false ∙ c.is_among.ensures))
    ∙ c.loop-at.invariant

pub returns-then-not-is_among : goal.returns-then-not-is_among
returns-then-not-is_among c =
    let within : c.loop-at.at < length c.args.to.now = omega (arith, c.requires.pairs) in
    sym (all-pairs-next (λ (pair : ℕ × ℕ). list_any (is_same_pair pair) (zip c.args.others.now c.args.places.now)) c.args.from.now c.args.to.now c.loop-at.at _ c.loop-at-test.true within
    (sym c.if-not-is_among.true ∙ c.is_among.ensures))
    ∙ c.loop-at.invariant

pub returns : goal.returns
returns c =
    sym (all-pairs-end (λ (pair : ℕ × ℕ). list_any (is_same_pair pair) (zip c.args.others.now c.args.places.now)) c.args.from.now c.args.to.now c.loop-at.at (omega arith))
    ∙ c.loop-at.invariant
