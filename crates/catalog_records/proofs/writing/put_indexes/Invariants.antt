use Rattle.std.proofs.Common.{◌≡◌, ℕ, ◌+◌, ◌++◌, drop}
use Rattle.catalog_records.specs.Records.{index_records}
use Rattle.catalog_records.proofs.writing.put_indexes.Given as goal

abbrev pub invariant-loop-place : goal.invariant-loop-place
invariant-loop-place l = l.records ++ index_records l.name (l.place + 1) (drop l.place l.indexes) ≡ l.initial.records ++ index_records l.name 1 l.indexes
