-- What tables the entries of a catalogue declare, whatever they are. Our own choice.
use Rattle.std.specs.Prelude.{ℕ, ◌-◌, ◌==◌, if◌then◌else◌, List, [], ◌∷◌, length, Option, None, Some, pos, negsuc, ℤ, slice_index_or}
use Rattle.sqlval.specs.declared.value.Value.{Value}
use Rattle.sqlval.specs.declared.value.Value.TheVariants.{Null, Int, Text}
use Rattle.sqlval.specs.declared.storing.ColumnType.{ColumnType}
use Rattle.sqlval.specs.declared.storing.ColumnType.TheVariants.{Integer, Varchar}
use Rattle.sqlval.specs.declared.schema.Table.{Table}
use Rattle.sqlval.specs.declared.schema.Column.{Column}
use Rattle.sqlval.specs.declared.schema.Constraint.{Constraint}
use Rattle.sqlval.specs.declared.schema.Reference.{Reference}
use Rattle.sqlval.specs.declared.schema.Rule.{Rule}
use Rattle.sqlval.specs.declared.schema.Rule.TheVariants.{NotNull, PrimaryKey, Unique, Check, ForeignKey}
use Rattle.sqlval.specs.declared.schema.Index.{Index}
use Rattle.btree_read.specs.declared.entry.Entry.{Entry}
use Rattle.stored_tables.specs.Values.{row_in, name_in}
use Rattle.stored_tables.specs.Places.{places_in}

abbrev pub natural : ℤ → ℕ
natural (pos n) = n
natural (negsuc n) = 0

abbrev pub number_of : Value → ℕ
number_of Null = 0
number_of (Int n) = natural n
number_of (Text codes) = 0

abbrev pub text_of : Value → List ℕ
text_of Null = []
text_of (Int n) = []
text_of (Text codes) = codes

abbrev pub name_of : Value → Option (List ℕ)
name_of Null = None
name_of (Int n) = None
name_of (Text codes) = Some codes

abbrev pub at : List Value → ℕ → Value
at row k = slice_index_or row k Null

-- 0 is INTEGER, and n VARCHAR(n)
abbrev pub type_of : ℕ → ColumnType
type_of width = if width == 0 then Integer else Varchar width

abbrev pub column_of : List Value → Column
column_of row = record { name = text_of (at row 0); column_type = type_of (number_of (at row 1)) }

-- its own columns, the table that it references, and that table's columns
abbrev pub reference_of : List Value → Reference
reference_of row = record { columns = places_in (text_of (at row 2)); table = text_of (at row 3); referenced = places_in (text_of (at row 4)) }

abbrev pub rule_of : ℕ → List ℕ → List Value → Rule
rule_of sort detail row =
    if sort == 1 then NotNull (slice_index_or (places_in detail) 0 0)
    else if sort == 2 then PrimaryKey (places_in detail) else if sort == 3 then Unique (places_in detail)
    else if sort == 5 then ForeignKey (reference_of row) else Check detail

abbrev pub constraint_of : List Value → Constraint
constraint_of row = record { name = text_of (at row 0); rule = rule_of (number_of (at row 1)) (text_of (at row 2)) row }

abbrev pub owner_of : ℕ → Option ℕ
owner_of number = if number == 0 then None else Some (number - 1)

abbrev pub index_of : List Value → Index
index_of row = record { name = name_of (at row 0); columns = places_in (text_of (at row 3)); owner = owner_of (number_of (at row 1)); root = number_of (at row 2) }

-- tables, and before them what belongs to a table whose record is to come
pub record Parts : Type 0 where
  pub columns : List Column
  pub constraints : List Constraint
  pub indexes : List Index
  pub tables : List Table

abbrev pub no_parts : Parts
no_parts = record { columns = []; constraints = []; indexes = []; tables = [] }

-- with the table of this name, to which these parts belong
abbrev pub with_its_table : List ℕ → ℕ → Parts → Parts
with_its_table name root p = record {
  columns = [];
  constraints = [];
  indexes = [];
  tables = record { name = name; columns = p.columns; constraints = p.constraints; indexes = p.indexes; root = root } ∷ p.tables;
}

-- Before them what one record says. A record of a table has one value, of a column two, of a
-- constraint three, five if it is a foreign key, and of an index four.
abbrev pub with_record : List ℕ → List Value → Parts → Parts
with_record name row p =
    if length row == 1 then with_its_table name (number_of (at row 0)) p
    else if length row == 2 then record { columns = column_of row ∷ p.columns; constraints = p.constraints; indexes = p.indexes; tables = p.tables }
    else if length row == 3 then record { columns = p.columns; constraints = constraint_of row ∷ p.constraints; indexes = p.indexes; tables = p.tables }
    else if length row == 5 then record { columns = p.columns; constraints = constraint_of row ∷ p.constraints; indexes = p.indexes; tables = p.tables }
    else record { columns = p.columns; constraints = p.constraints; indexes = index_of row ∷ p.indexes; tables = p.tables }

abbrev pub parts_of : List Entry → Parts
parts_of [] = no_parts
parts_of (e ∷ entries) = with_record (name_in e.key) (row_in e.value) (parts_of entries)

abbrev pub tables_in : List Entry → List Table
tables_in entries = (parts_of entries).tables
