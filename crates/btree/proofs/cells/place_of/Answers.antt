use Rattle.std.proofs.Common.{◌<◌, length, ◌∙◌, sym, ap, arith}
use Rattle.btree_read.specs.Nodes.{precedes}
use Rattle.btree.proofs.CellLemmas.{put_new, put_over_to}
use Rattle.btree.proofs.WithLemmas.{behind_place, behind_same}
use Rattle.btree.proofs.cells.place_of.Goals as goal

pub returns-then-at-len-clause-put : goal.returns-then-at-len-clause-put
returns-then-at-len-clause-put c =
    λ value cell e. put_new _ value _ _ cell c.first_place-at.ensures.within c.first_place-at.ensures.before
    (λ l. absurd (omega (arith, l, c.if-at-len.true, c.len.ensures.length))) e

pub returns-then-is_before-clause-put : goal.returns-then-is_before-clause-put
returns-then-is_before-clause-put c =
    λ value cell e. put_new _ value _ _ cell c.first_place-at.ensures.within c.first_place-at.ensures.before
    (λ l. sym (ap (precedes c.args.key.now) c.key.ensures) ∙ sym c.is_before.ensures ∙ c.if-is_before.true) e

pub returns-clause-put : goal.returns-clause-put
returns-clause-put c =
    let l : c.first_place-at.result < length c.args.leaf.now.cells = omega (arith, c.first_place-at.ensures.within, c.len.ensures.length) in
    λ value cell e. put_over_to _ value _ _ cell l c.first_place-at.ensures.before (c.first_place-at.ensures.behind _ (omega arith) l)
    (sym (ap (precedes c.args.key.now) c.key.ensures) ∙ sym c.is_before.ensures ∙ c.if-is_before.false) e

pub returns-then-is_before-clause-behind : goal.returns-then-is_before-clause-behind
returns-then-is_before-clause-behind c =
    λ i o l. behind_place _ _ _ c.len.ensures.cells _ i (sym (ap (precedes c.args.key.now) c.key.ensures) ∙ sym c.is_before.ensures ∙ c.if-is_before.true) o l

pub returns-clause-behind : goal.returns-clause-behind
returns-clause-behind c =
    let l : c.first_place-at.result < length c.args.leaf.now.cells = omega (arith, c.first_place-at.ensures.within, c.len.ensures.length) in
    λ i o m. behind_same _ _ _ c.len.ensures.cells _ i (c.first_place-at.ensures.behind _ (omega arith) l) o m
