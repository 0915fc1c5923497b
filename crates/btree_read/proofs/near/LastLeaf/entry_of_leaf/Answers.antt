use Rattle.std.proofs.Common.{◌<◌, length, sym, arith}
use Rattle.btree_read.specs.declared.entry.Start.TheVariants.{Behind}
use Rattle.btree_read.proofs.PlaceLemmas.{first_past, first_at}
use Rattle.btree_read.proofs.near.LastLeaf.entry_of_leaf.Goals as goal

pub returns-then-at-len-clause-found : goal.returns-then-at-len-clause-found
returns-then-at-len-clause-found c = sym (first_past Behind _ _ (λ i h. c.first_place-at.ensures.before i (omega (arith, h, c.if-at-len.true, c.len.ensures.length))))

pub returns-clause-found : goal.returns-clause-found
returns-clause-found c =
    let l : c.first_place-at.result < length c.args.leaf.now.cells = omega (arith, c.first_place-at.ensures.within, c.len.ensures.length, c.if-at-len.false) in
    rw c.in_ok-entry_at.ensures (sym (first_at Behind _ _ _ c.first_place-at.ensures.before l (c.first_place-at.ensures.behind _ (omega arith) l)))
