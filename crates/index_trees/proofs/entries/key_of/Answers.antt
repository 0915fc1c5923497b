use Rattle.index_trees.proofs.EntryLemmas.{key_more}
use Rattle.index_trees.proofs.entries.key_of.Goals as goal

pub loop-column-preserved : goal.loop-column-preserved
loop-column-preserved c =
    rw c.in_ok-push.ensures.ok (key_more _ _ c.loop-column.column-index c.in_ok-value.value _ c.loop-column-test.true c.in_ok-value.ensures c.loop-column.invariant)
