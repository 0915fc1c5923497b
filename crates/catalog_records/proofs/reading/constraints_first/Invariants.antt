use Rattle.std.proofs.Common.{◌≡◌, ℕ, ◌+◌, List, ◌++◌, length, drop}
use Rattle.std.specs.List.{AllByRecursion}
use Rattle.sqlval.specs.declared.schema.Constraint.{Constraint}
use Rattle.catalog_records.specs.declared.record.Record.{Record}
use Rattle.catalog_records.specs.Records.{key_of, constraint_record, constraint_records}
use Rattle.catalog_records.specs.Keepable.{IsConstraint}
use Rattle.catalog_records.specs.Rows.{EndsAt}
use Rattle.catalog_records.proofs.NumberedLemmas.{RemainsFrom}
use Rattle.catalog_records.proofs.reading.constraints_first.Given as goal

abbrev pub invariant-loop-place : goal.invariant-loop-place
invariant-loop-place l = record {
  sound : constraint_records l.name 1 l.constraints ++ drop l.place l.records ≡ l.records;
  count : length l.constraints ≡ l.place;
  kept : AllByRecursion IsConstraint l.constraints;
  again : (all : List Constraint) (more : List Record) → AllByRecursion IsConstraint all → EndsAt (key_of l.name 2) more → constraint_records l.name 1 all ++ more ≡ l.records
      → RemainsFrom (λ (x : ℕ × Constraint). constraint_record l.name x.0 x.1) IsConstraint all l.constraints (l.place + 1) (drop l.place l.records) more;
}
