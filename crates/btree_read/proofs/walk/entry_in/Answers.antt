use Rattle.std.proofs.Common.{◌<◌, length, sym, arith}
use Rattle.btree_read.proofs.PlaceLemmas.{first_past, first_at}
use Rattle.btree_read.proofs.walk.entry_in.Goals as goal

pub returns-then-at-len : goal.returns-then-at-len
returns-then-at-len c = sym (first_past _ _ _ (λ i h. c.first_place-at.ensures.before i (omega (arith, h, c.if-at-len.true, c.len.ensures.length))))

pub returns : goal.returns
returns c =
    let l : c.first_place-at.result < length c.args.leaf.now.cells = omega (arith, c.first_place-at.ensures.within, c.len.ensures.length) in
    rw (c.in_ok-key.ensures, c.in_ok-value.ensures, c.key.ensures, c.value.ensures.value)
    (sym (first_at _ _ _ _ c.first_place-at.ensures.before l (c.first_place-at.ensures.behind _ (omega arith) l)))
