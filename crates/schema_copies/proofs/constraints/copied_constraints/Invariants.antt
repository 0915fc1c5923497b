use Rattle.std.proofs.Common.{◌≡◌, take}
use Rattle.schema_copies.proofs.constraints.copied_constraints.Given as goal

abbrev pub invariant-loop-constraint : goal.invariant-loop-constraint
invariant-loop-constraint l = l.copied ≡ take l.constraint-index l.constraints
