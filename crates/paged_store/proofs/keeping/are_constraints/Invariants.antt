use Rattle.std.proofs.Common.{drop}
use Rattle.std.specs.List.{AllByRecursion}
use Rattle.catalog_records.specs.Keepable.{IsConstraint}
use Rattle.paged_store.proofs.keeping.are_constraints.Given as goal

abbrev pub invariant-loop-constraint : goal.invariant-loop-constraint
invariant-loop-constraint l = AllByRecursion IsConstraint (drop l.constraint-index l.constraints) → AllByRecursion IsConstraint l.constraints
