use Rattle.btree_read.proofs.EntryLemmas.{one_leaf_more}
use Rattle.btree_read.proofs.entries.Entries.put.Goals as goal

pub returns : goal.returns
returns c = one_leaf_more c.self.inside.leaves _ _ _ _ c.in_ok-push.ensures.ok c.in_ok-kept.ensures c.self.view_is
