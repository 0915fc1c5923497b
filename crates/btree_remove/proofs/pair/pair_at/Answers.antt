use Rattle.std.proofs.Common.{refl}
use Rattle.btree_remove.proofs.PlacedLemmas.{pair_first, pair_later}
use Rattle.btree_remove.proofs.pair.pair_at.Goals as goal

pub returns-then-at-eq0 : goal.returns-then-at-eq0
returns-then-at-eq0 c = pair_first _ _ _ _ _ c.if-at-eq0.true c.requires.some c.child_at-left.ensures c.child_at-right.ensures

pub returns : goal.returns
returns c = pair_later _ _ _ _ _ _ c.if-at-eq0.false refl c.requires.place c.child_at-left-2.ensures c.child_at-right-2.ensures
