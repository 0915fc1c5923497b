use Rattle.std.proofs.Common.{◌≡◌, ℕ, ◌+◌, List, ◌++◌, length, drop}
use Rattle.std.specs.List.{AllByRecursion}
use Rattle.sqlval.specs.declared.schema.Index.{Index}
use Rattle.catalog_records.specs.declared.record.Record.{Record}
use Rattle.catalog_records.specs.Records.{key_of, index_record, index_records}
use Rattle.catalog_records.specs.Keepable.{IsIndex}
use Rattle.catalog_records.specs.Rows.{EndsAt}
use Rattle.catalog_records.proofs.NumberedLemmas.{RemainsFrom}
use Rattle.catalog_records.proofs.reading.indexes_first.Given as goal

abbrev pub invariant-loop-place : goal.invariant-loop-place
invariant-loop-place l = record {
  sound : index_records l.name 1 l.indexes ++ drop l.place l.records ≡ l.records;
  count : length l.indexes ≡ l.place;
  kept : AllByRecursion IsIndex l.indexes;
  again : (all : List Index) (more : List Record) → AllByRecursion IsIndex all → EndsAt (key_of l.name 3) more → index_records l.name 1 all ++ more ≡ l.records
      → RemainsFrom (λ (x : ℕ × Index). index_record l.name x.0 x.1) IsIndex all l.indexes (l.place + 1) (drop l.place l.records) more;
}
