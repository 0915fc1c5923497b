use Rattle.std.proofs.Common.{◌≡◌, ℕ, List, ◌++◌, length, drop}
use Rattle.std.specs.List.{AllByRecursion}
use Rattle.sqlval.specs.declared.schema.Column.{Column}
use Rattle.catalog_records.specs.declared.record.Record.{Record}
use Rattle.catalog_records.specs.Records.{key_of, column_record, column_records}
use Rattle.catalog_records.specs.Keepable.{IsColumn}
use Rattle.catalog_records.specs.Rows.{EndsAt}
use Rattle.catalog_records.proofs.NumberedLemmas.{RemainsFrom}
use Rattle.catalog_records.proofs.reading.columns_first.Given as goal

abbrev pub invariant-loop-place : goal.invariant-loop-place
invariant-loop-place l = record {
  sound : column_records l.name 0 l.columns ++ drop l.place l.records ≡ l.records;
  count : length l.columns ≡ l.place;
  kept : AllByRecursion IsColumn l.columns;
  again : (all : List Column) (more : List Record) → AllByRecursion IsColumn all → EndsAt (key_of l.name 1) more → column_records l.name 0 all ++ more ≡ l.records
      → RemainsFrom (λ (x : ℕ × Column). column_record l.name x.0 x.1) IsColumn all l.columns l.place (drop l.place l.records) more;
}
