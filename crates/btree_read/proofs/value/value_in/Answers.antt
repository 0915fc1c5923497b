use Rattle.std.proofs.Common.{◌<◌, length, ◌∙◌, sym, ap, arith, Some}
use Rattle.btree_read.specs.Nodes.{precedes}
use Rattle.btree_read.proofs.PlaceLemmas.{get_past, get_at}
use Rattle.btree_read.proofs.value.value_in.Goals as goal

pub returns-then-at-len : goal.returns-then-at-len
returns-then-at-len c = sym (get_past _ _ (λ i h. c.first_place-at.ensures.before i (omega (arith, h, c.if-at-len.true, c.len.ensures.length))))

pub returns-then-is_before : goal.returns-then-is_before
returns-then-is_before c =
    let l : c.first_place-at.result < length c.args.leaf.now.cells = omega (arith, c.first_place-at.ensures.within, c.len.ensures.length) in
    sym (get_at _ _ _ c.first_place-at.ensures.before l (c.first_place-at.ensures.behind _ (omega arith) l)
    ∙ rw (sym (ap (precedes c.args.key.now) c.key.ensures) ∙ sym c.is_before.ensures ∙ c.if-is_before.true))

pub returns : goal.returns
returns c =
    let l : c.first_place-at.result < length c.args.leaf.now.cells = omega (arith, c.first_place-at.ensures.within, c.len.ensures.length) in
    ap Some (c.in_ok-from_slice.ensures ∙ c.value.ensures.value)
    ∙ sym (get_at _ _ _ c.first_place-at.ensures.before l (c.first_place-at.ensures.behind _ (omega arith) l)
    ∙ rw (sym (ap (precedes c.args.key.now) c.key.ensures) ∙ sym c.is_before.ensures ∙ c.if-is_before.false))
