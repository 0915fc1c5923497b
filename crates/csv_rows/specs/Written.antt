-- Rows of records whose columns say how their fields are written, and where they stand. All of it
-- is our own choice.
use Rattle.std.specs.Prelude.{◌≡◌, ◌≢◌, ℕ, List, [], length, Option, Some, None}
use Rattle.std.specs.Fmt.{signed_decimal}
use Rattle.std.specs.List.{AllByRecursion}
use Rattle.csv.specs.Reading.{AreRecords, default_config, strip_bom}
use Rattle.csv.specs.Records.{field_at}
use Rattle.csv.specs.declared.parser.State.TheVariants as st
use Rattle.sqlval.specs.Value.{Row}
use Rattle.sqlval.specs.declared.value.Value.{Value}
use Rattle.sqlval.specs.declared.value.Value.TheVariants.{Null, Int, Text}
use Rattle.replies.specs.Printed.{printed_value}
use Rattle.csv_rows.specs.declared.source.Writing.{Writing}
use Rattle.csv_rows.specs.declared.source.Writing.TheVariants.{Printed, PlainInteger, PlainText}
use Rattle.csv_rows.specs.declared.source.Source.{Source}
use Rattle.csv_rows.specs.Paired.{ArePaired}

-- ---- values

-- a value as it is written plainly: null as nothing, an integer in decimal, a text as it stands
abbrev pub plain_value : Value → List ℕ
plain_value Null = []
plain_value (Int number) = signed_decimal number
plain_value (Text text) = text

-- this field is the value, written so; plainly, a value of another type and the empty text have no
-- field
abbrev pub IsWritten : Writing → Value → List ℕ → Type 0
IsWritten Printed value field = printed_value value ≡ field
IsWritten PlainInteger Null field = field ≡ []
IsWritten PlainInteger (Int number) field = plain_value (Int number) ≡ field
IsWritten PlainInteger (Text text) field = ⊥
IsWritten PlainText Null field = field ≡ []
IsWritten PlainText (Int number) field = ⊥
IsWritten PlainText (Text text) field = (field ≢ []) × (plain_value (Text text) ≡ field)

-- ---- rows

-- the field at this place of a record is the value
abbrev pub IsWrittenAt : Option ℕ → Writing → List (List ℕ) → Value → Type 0
IsWrittenAt None writing fields value = value ≡ Null
IsWrittenAt (Some place) writing fields value = (field : List ℕ) × (field_at fields place ≡ Some field)
    × IsWritten writing value field

-- the value of a column in a record
abbrev pub IsValueBy : List (List ℕ) → Source → Value → Type 0
IsValueBy fields source value = IsWrittenAt source.place source.writing fields value

-- the row has a value for each column: the one that is written in its field, and null where it has
-- none
abbrev pub IsRowBy : List Source → List (List ℕ) → Row → Type 0
IsRowBy sources fields row = ArePaired (IsValueBy fields) sources row

-- a row for each record
abbrev pub AreRowsBy : List Source → List (List (List ℕ)) → List Row → Type 0
AreRowsBy sources records rows = ArePaired (IsRowBy sources) records rows

-- ---- the records of a text

-- these are the records of a text, a byte order mark left off, and all have so many fields
pub record AreRecordsOf (bytes : List ℕ) (records : List (List (List ℕ))) : Type 0 where
  pub are : AreRecords default_config st.StartRecord (strip_bom bytes) records
  pub width : ℕ
  pub even : AllByRecursion (λ fields. length fields ≡ width) records
