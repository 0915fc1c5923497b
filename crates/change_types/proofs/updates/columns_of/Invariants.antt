use Rattle.std.proofs.Common.{◌≡◌, map, take}
use Rattle.change_types.proofs.updates.columns_of.Given as goal

-- the columns so far
abbrev pub invariant-loop-assignment : goal.invariant-loop-assignment
invariant-loop-assignment l = l.columns ≡ map (λ assignment. assignment.column) (take l.assignment-index l.assignments)
