use Rattle.std.proofs.Common.{◌≡◌, map, take}
use Rattle.update_delete.proofs.trees.columns_of.Given as goal

abbrev pub invariant-loop-assignment : goal.invariant-loop-assignment
invariant-loop-assignment l = l.columns ≡ map (λ a. a.column) (take l.assignment-index l.assignments)
