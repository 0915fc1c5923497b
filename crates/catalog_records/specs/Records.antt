-- What a store keeps of a schema: records of values, in the order of their keys. Our own choice.
use Rattle.std.specs.Prelude.{ℕ, ◌+◌, pos, List, [], ◌∷◌, ◌++◌, map, Option, Some, None}
use Rattle.std.specs.List.{enumerate_from, flat_map}
use Rattle.sqlval.specs.declared.value.Value.{Value}
use Rattle.sqlval.specs.declared.value.Value.TheVariants.{Null, Int, Text}
use Rattle.sqlval.specs.declared.storing.ColumnType.{ColumnType}
use Rattle.sqlval.specs.declared.storing.ColumnType.TheVariants.{Integer, Varchar}
use Rattle.sqlval.specs.declared.schema.Schema.{Schema}
use Rattle.sqlval.specs.declared.schema.Table.{Table}
use Rattle.sqlval.specs.declared.schema.Column.{Column}
use Rattle.sqlval.specs.declared.schema.Constraint.{Constraint}
use Rattle.sqlval.specs.declared.schema.Reference.{Reference}
use Rattle.sqlval.specs.declared.schema.Rule.{Rule}
use Rattle.sqlval.specs.declared.schema.Rule.TheVariants.{NotNull, PrimaryKey, Unique, Check, ForeignKey}
use Rattle.sqlval.specs.declared.schema.Index.{Index}
use Rattle.catalog_records.specs.declared.record.Record.{Record}
use Rattle.catalog_records.specs.Places.{places_text}

-- a number that is not negative, as a value
abbrev pub counted : ℕ → Value
counted n = Int (pos n)

-- the name of the table, the kind of the record, and its number among those of its kind
abbrev pub key_of : List ℕ → ℕ → ℕ → List Value
key_of name kind number = Text name ∷ counted kind ∷ counted number ∷ []

-- kind 0: where the tree of the table's rows begins
abbrev pub table_record : List ℕ → ℕ → Record
table_record name root = record { key = key_of name 0 0; row = counted root ∷ [] }

-- the n of VARCHAR(n), and 0 of INTEGER
abbrev pub width_of : ColumnType → ℕ
width_of Integer = 0
width_of (Varchar n) = n

-- kind 1: a column, by its place from 0
abbrev pub column_record : List ℕ → ℕ → Column → Record
column_record name place c = record { key = key_of name 1 place; row = Text c.name ∷ counted (width_of c.column_type) ∷ [] }

abbrev pub sort_of : Rule → ℕ
sort_of (NotNull column) = 1
sort_of (PrimaryKey columns) = 2
sort_of (Unique columns) = 3
sort_of (Check text) = 4
sort_of (ForeignKey reference) = 5

-- the places of its own columns, or the text of a CHECK's condition
abbrev pub detail_of : Rule → List ℕ
detail_of (NotNull column) = places_text (column ∷ [])
detail_of (PrimaryKey columns) = places_text columns
detail_of (Unique columns) = places_text columns
detail_of (Check text) = text
detail_of (ForeignKey reference) = places_text reference.columns

-- behind that nothing, but of a foreign key the name of the table that it references, and the
-- places of that table's columns
abbrev pub referenced_values : Reference → List Value
referenced_values reference = Text reference.table ∷ Text (places_text reference.referenced) ∷ []

abbrev pub others_of : Rule → List Value
others_of (NotNull column) = []
others_of (PrimaryKey columns) = []
others_of (Unique columns) = []
others_of (Check text) = []
others_of (ForeignKey reference) = referenced_values reference

-- kind 2: a constraint, by its place from 1
abbrev pub constraint_record : List ℕ → ℕ → Constraint → Record
constraint_record name place c = record { key = key_of name 2 place; row = Text c.name ∷ counted (sort_of c.rule) ∷ Text (detail_of c.rule) ∷ others_of c.rule }

-- an index that a constraint owns has no name
abbrev pub name_value : Option (List ℕ) → Value
name_value None = Null
name_value (Some name) = Text name

-- the place of the owning constraint from 1, or 0
abbrev pub owner_number : Option ℕ → ℕ
owner_number None = 0
owner_number (Some place) = place + 1

-- kind 3: an index, by its place from 1
abbrev pub index_record : List ℕ → ℕ → Index → Record
index_record name place i = record { key = key_of name 3 place; row = name_value i.name ∷ counted (owner_number i.owner) ∷ counted i.root ∷ Text (places_text i.columns) ∷ [] }

abbrev pub column_records : List ℕ → ℕ → List Column → List Record
column_records name from columns = map (λ (c : ℕ × Column). column_record name c.0 c.1) (enumerate_from from columns)

abbrev pub constraint_records : List ℕ → ℕ → List Constraint → List Record
constraint_records name from constraints = map (λ (c : ℕ × Constraint). constraint_record name c.0 c.1) (enumerate_from from constraints)

abbrev pub index_records : List ℕ → ℕ → List Index → List Record
index_records name from indexes = map (λ (i : ℕ × Index). index_record name i.0 i.1) (enumerate_from from indexes)

-- all that is kept of a table
abbrev pub table_records : Table → List Record
table_records t =
    table_record t.name t.root ∷ (column_records t.name 0 t.columns ++ (constraint_records t.name 1 t.constraints ++ index_records t.name 1 t.indexes))

abbrev pub schema_records : List Table → List Record
schema_records tables = flat_map table_records tables
