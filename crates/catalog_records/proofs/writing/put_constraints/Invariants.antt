use Rattle.std.proofs.Common.{◌≡◌, ℕ, ◌+◌, ◌++◌, drop}
use Rattle.catalog_records.specs.Records.{constraint_records}
use Rattle.catalog_records.proofs.writing.put_constraints.Given as goal

abbrev pub invariant-loop-place : goal.invariant-loop-place
invariant-loop-place l = l.records ++ constraint_records l.name (l.place + 1) (drop l.place l.constraints) ≡ l.initial.records ++ constraint_records l.name 1 l.constraints
