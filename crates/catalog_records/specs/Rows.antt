-- What stands in the records of a table beside their keys, which name the table and the place.
use Rattle.std.specs.Prelude.{◌≡◌, ℕ, ◌<◌, List, [], ◌∷◌}
use Rattle.catalog_records.specs.declared.record.Record.{Record}
use Rattle.sqlval.specs.declared.value.Value.{Value}
use Rattle.sqlval.specs.declared.schema.Table.{Table}
use Rattle.sqlval.specs.declared.schema.Column.{Column}
use Rattle.sqlval.specs.declared.schema.Constraint.{Constraint}
use Rattle.sqlval.specs.declared.schema.Index.{Index}
use Rattle.catalog_records.specs.Records.{key_of, column_record, constraint_record, index_record, schema_records}
use Rattle.catalog_records.specs.Keepable.{AreTables}
use Rattle.catalog_records.specs.References.{AreReferencesOver}

abbrev pub column_row : Column → List Value
column_row column = (column_record [] 0 column).row

abbrev pub constraint_row : Constraint → List Value
constraint_row constraint = (constraint_record [] 0 constraint).row

abbrev pub index_row : Index → List Value
index_row index = (index_record [] 0 index).row

-- the first of these records has no key of this kind
abbrev pub EndsAt : (ℕ → List Value) → List Record → Type 0
EndsAt key records = (number : ℕ) (first : Record) (others : List Record) → records ≡ first ∷ others
    → first.key ≡ key number → ⊥

-- the first of these records belongs to no table before it: it is no column, constraint or index
abbrev pub EndsTable : List Record → Type 0
EndsTable records = (name : List ℕ) (kind : ℕ) → 0 < kind → EndsAt (key_of name kind) records

-- no schema that the program can hold has these records
abbrev pub IsNoSchema : List Record → Type 0
IsNoSchema records = (tables : List Table) → AreTables tables → AreReferencesOver tables → schema_records tables ≡ records
    → ⊥
