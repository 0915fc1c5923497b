use Rattle.std.proofs.Common.{◌≡◌, ◌++◌}
use Rattle.database_trees.specs.Unindexed.{without_named}
use Rattle.database_trees.proofs.unindexing.without_named.Given as goal

abbrev pub invariant-loop-index : goal.invariant-loop-index
invariant-loop-index l = l.left ++ without_named l.name l.index-iterator.rest.items ≡ without_named l.name l.fn.indexes
