-- How a text writes rows: whether its first record names the columns, and whether fields are
-- written plainly. All of it is our own choice.
use Rattle.std.specs.Prelude.{◌≡◌, ℕ, zero, suc, Bool, true, false, not, ◌&&◌, List, [], ◌∷◌, ◌++◌, map, length, Option, Some, None, if◌then◌else◌, slice_get}
use Rattle.std.specs.List.{list_all, list_any, position_from}
use Rattle.refusals.specs.declared.refusal.Refusal.{Refusal}
use Rattle.refusals.specs.declared.refusal.Refusal.TheVariants.{Invalid, Memory}
use Rattle.refusals.specs.declared.reason.Reason.TheVariants as reason
use Rattle.sqlval.specs.declared.schema.Column.{Column}
use Rattle.sqlval.specs.declared.schema.Table.{Table}
use Rattle.sqlval.specs.declared.storing.ColumnType.{ColumnType}
use Rattle.sqlval.specs.declared.storing.ColumnType.TheVariants.{Integer, Varchar}
use Rattle.sqlval.specs.Schema.{same_name}
use Rattle.sqlval.specs.Value.{Row}
use Rattle.sqlrecord.specs.Storable.{AllStorable}
use Rattle.std.specs.List.{AllByRecursion}
use Rattle.denote.specs.Database.{Name}
use Rattle.csv_rows.specs.Paired.{ArePaired}
use Rattle.csv_rows.specs.Written.{AreRowsBy}
use Rattle.csv_rows.specs.declared.source.Source.{Source}
use Rattle.csv_rows.specs.declared.source.Writing.{Writing}
use Rattle.csv_rows.specs.declared.source.Writing.TheVariants.{Printed, PlainInteger, PlainText}
use Rattle.csvio.specs.declared.form.Form.{Form}
use Rattle.csvio.specs.TableName.{IsNameIn}

-- ---- columns

-- the columns of the table of this name, among these
abbrev pub columns_named : List Table → Name → Option (List Column)
columns_named [] name = None
columns_named (table ∷ tables) name = if same_name table.name name then Some table.columns else columns_named tables name

-- how the fields of a column of this type are written
abbrev pub writing_of : Bool → ColumnType → Writing
writing_of false column_type = Printed
writing_of true Integer = PlainInteger
writing_of true (Varchar most) = PlainText

-- how a field is written that stands where this column does; a field behind the last column is
-- taken as a text
abbrev pub writing_at : Bool → Option Column → Writing
writing_at plain (Some column) = writing_of plain column.column_type
writing_at false None = Printed
writing_at true None = PlainText

-- ---- a text without a header: a field for each column, in order

abbrev pub placed_source : Bool → List Column → ℕ → Source
placed_source plain columns place = record { place = Some place; writing = writing_at plain (slice_get columns place) }

abbrev pub placed_sources : Bool → List Column → ℕ → List Source
placed_sources plain columns zero = []
placed_sources plain columns (suc n) = placed_sources plain columns n ++ placed_source plain columns n ∷ []

-- ---- a text with a header

-- whether a column has this name
abbrev pub is_column : List Column → Name → Bool
is_column columns name = list_any (λ column. same_name column.name name) columns

-- whether no name stands twice
abbrev pub are_distinct : List Name → Bool
are_distinct [] = true
are_distinct (name ∷ names) = not (list_any (λ other. same_name other name) names) && are_distinct names

-- These are the names that the fields of the first record are, folded as in a statement: each is
-- that of a column.
pub record NamesColumns (columns : List Column) (fields : List (List ℕ)) (names : List Name) : Type 0 where
  pub are : ArePaired IsNameIn fields names
  pub known : list_all (is_column columns) names ≡ true

-- a column's values stand where the header has its name
abbrev pub named_source : Bool → List Name → Column → Source
named_source plain names column = record { place = position_from (λ name. same_name name column.name) 0 names; writing = writing_of plain column.column_type }

abbrev pub named_sources : Bool → List Name → List Column → List Source
named_sources plain names columns = map (named_source plain names) columns

-- ---- the rows of a text

-- The rows of these records, in this form: none of no records; of others behind a header, which
-- names columns, none twice; or of all, field by field in the order of the columns.
pub data AreFormed (form : Form) (columns : List Column) : List (List (List ℕ)) → List Row → Type 0 where
  none : AreFormed form columns [] []
  named : (fields : List (List ℕ)) (others : List (List (List ℕ))) (names : List Name) (rows : List Row)
      → form.header ≡ true
      → NamesColumns columns fields names → are_distinct names ≡ true
      → AreRowsBy (named_sources form.plain names columns) others rows → AreFormed form columns (fields ∷ others) rows
  placed : (fields : List (List ℕ)) (others : List (List (List ℕ))) (rows : List Row) → form.header ≡ false
      → AreRowsBy (placed_sources form.plain columns (length fields)) (fields ∷ others) rows
      → AreFormed form columns (fields ∷ others) rows

-- The refusal of a header: want of memory; a field that names no column, or is no name; a name that
-- stands twice.
pub data RefusesHeader (columns : List Column) (fields : List (List ℕ)) (refusal : Refusal) : Type 0 where
  wanting : refusal ≡ Memory → RefusesHeader columns fields refusal
  unnamed : ((names : List Name) → NamesColumns columns fields names → ⊥) → refusal ≡ Invalid reason.Name
      → RefusesHeader columns fields refusal
  twice : (names : List Name) → NamesColumns columns fields names → are_distinct names ≡ false
      → refusal ≡ Invalid reason.Duplicate → RefusesHeader columns fields refusal

-- no rows that a table may hold are those of the records
abbrev pub HaveNoRows : Form → List Column → List (List (List ℕ)) → Type 0
HaveNoRows form columns records = (rows : List Row) → AllByRecursion AllStorable rows
    → AreFormed form columns records rows → ⊥

-- The refusal of records: want of memory; that of their header; or a field that is no value.
pub data RefusesForm (form : Form) (columns : List Column) (records : List (List (List ℕ))) (refusal : Refusal) : Type 0 where
  wanting : refusal ≡ Memory → RefusesForm form columns records refusal
  header : (fields : List (List ℕ)) (others : List (List (List ℕ))) → records ≡ fields ∷ others → form.header ≡ true
      → RefusesHeader columns fields refusal → RefusesForm form columns records refusal
  field : HaveNoRows form columns records → refusal ≡ Invalid reason.Field → RefusesForm form columns records refusal

-- the refusal of rows that are to stand by these sources: want of memory, or a field that is no
-- value
pub data RefusesRows (sources : List Source) (records : List (List (List ℕ))) (refusal : Refusal) : Type 0 where
  wanting : refusal ≡ Memory → RefusesRows sources records refusal
  field : ((rows : List Row) → AllByRecursion AllStorable rows → AreRowsBy sources records rows → ⊥)
      → refusal ≡ Invalid reason.Field → RefusesRows sources records refusal
