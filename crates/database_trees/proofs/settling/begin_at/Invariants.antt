use Rattle.std.proofs.Common.{◌≡◌, take}
use Rattle.database_trees.specs.Exchanged.{with_roots}
use Rattle.database_trees.proofs.settling.begin_at.Given as goal

abbrev pub invariant-loop-at : goal.invariant-loop-at
invariant-loop-at l = with_roots (take l.at l.roots) l.indexes ≡ l.indexes
