use Rattle.std.proofs.Common.{drop}
use Rattle.std.specs.Prelude.{◌↔◌}
use Rattle.std.specs.List.{AllByRecursion}
use Rattle.catalog_records.specs.Keepable.{IsConstraintOver}
use Rattle.catalog_records.proofs.columns.are_constraints_over.Given as goal

-- what is left decides
abbrev pub invariant-loop-constraint : goal.invariant-loop-constraint
invariant-loop-constraint l = AllByRecursion (IsConstraintOver l.count) (drop l.constraint-index l.constraints) ↔ AllByRecursion (IsConstraintOver l.count) l.constraints
