use Rattle.std.proofs.Common.{◌<◌, length, arith}
use Rattle.btree_read.proofs.NearLemmas.{found_kept}
use Rattle.btree_read.proofs.near.LastLeaf.entry_behind.Goals as goal

pub returns-in_ok-entry_at-in-Some : goal.returns-in_ok-entry_at-in-Some
returns-in_ok-entry_at-in-Some c entries ascends part =
    let l : c.first_place-at.result < length c.page-leaf.result.cells = omega (arith, c.first_place-at.ensures.within, c.len.ensures.length, c.if-at-len.false) in
    found_kept _ entries _ _ _ _ _ c.in-Some.is c.page-leaf.ensures ascends part c.first_place-at.ensures.before c.if-at-eq0.false l
    (c.first_place-at.ensures.behind _ (omega arith) l) c.in_ok-entry_at-in-Some.ensures
