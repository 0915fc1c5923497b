use Rattle.std.proofs.Common.{◌≡◌, ℕ, ◌+◌, ◌++◌, drop}
use Rattle.catalog_records.specs.Records.{column_records}
use Rattle.catalog_records.proofs.writing.put_columns.Given as goal

abbrev pub invariant-loop-place : goal.invariant-loop-place
invariant-loop-place l = l.records ++ column_records l.name l.place (drop l.place l.columns) ≡ l.initial.records ++ column_records l.name 0 l.columns
