-- What `load_formed`, `load_formed_batches` and `dump_formed` do: rows from and to a text of a
-- form, for the columns of a table as the session sees it. All of it is our own choice.
use Rattle.std.specs.Prelude.{◌≡◌, ◌&&◌, ℕ, Bool, true, false, List, [], ◌++◌, map, flat_map, Option, Some, None}
use Rattle.std.specs.FinMap.{get}
use Rattle.std.specs.Io.KnownBytes.{Keeps}
use Rattle.std.specs.List.{list_any}
use Rattle.csv.specs.Writing.{default_writer, row_text}
use Rattle.refusals.specs.declared.refusal.Refusal.{Refusal}
use Rattle.refusals.specs.declared.refusal.Refusal.TheVariants.{Invalid, Memory}
use Rattle.refusals.specs.declared.reason.Reason.TheVariants as reason
use Rattle.sqlval.specs.declared.schema.Column.{Column}
use Rattle.sqlval.specs.declared.schema.Schema.{Schema}
use Rattle.sqlval.specs.declared.schema.Table.{Table}
use Rattle.sqlval.specs.Value.{Row}
use Rattle.sqlval.specs.declared.value.Value.{Value}
use Rattle.sqlval.specs.declared.value.Value.TheVariants as value
use Rattle.lexer.specs.Token.{Bytes}
use Rattle.denote.specs.Database.{Name}
use Rattle.denote.specs.SchemaOf.{IsSchemaOf}
use Rattle.replies.specs.declared.reply.Reply.{Reply}
use Rattle.replies.specs.declared.reply.Reply.TheVariants as says
use Rattle.replies.specs.Printed.{printed_value}
use Rattle.replies.specs.Writes.{Writes}
use Rattle.session_definitions.specs.Refusals.{IsReserved}
use Rattle.session_definitions.specs.Rules.{Rules}
use Rattle.session_definitions.specs.Transactions.{begun}
use Rattle.session_definitions.specs.World.{Session, World}
use Rattle.csv_rows.specs.Written.{AreRecordsOf, plain_value}
use Rattle.csvio.specs.Batches.{PutsCut}
use Rattle.csvio.specs.Dumping.{AsksAll, is_rows, written_reply}
use Rattle.csvio.specs.Forms.{AreFormed, RefusesForm, columns_named}
use Rattle.csvio.specs.Loading.{PutsIn}
use Rattle.csvio.specs.TableName.{IsNameIn}
use Rattle.csvio.specs.declared.form.Form.{Form}

-- ---- the columns of a table

-- the schema is that of the database that the session sees: of its transaction, or of the last
-- commit where it has none
pub record Sees (old : World) (s : ℕ) (schema : Schema) : Type 0 where
  pub session : Session
  pub stands : get old.sessions s ≡ Some session
  pub of_database : IsSchemaOf schema (begun old session).working

-- the table of this name has these columns, or there is none
pub record SeesColumns (old : World) (s : ℕ) (name : Name) (found : Option (List Column)) : Type 0 where
  pub schema : Schema
  pub sees : Sees old s schema
  pub is : found ≡ columns_named schema.tables name

-- ---- rows of a text

-- the text has records, and of these so much is refused, where it is known
abbrev pub RefusesText : Form → List Column → Option (List ℕ) → Refusal → Type 0
RefusesText form columns input refusal = (bytes : List ℕ) → input ≡ Some bytes
    → (records : List (List (List ℕ))) × AreRecordsOf bytes records
    × RefusesForm form columns records refusal

-- the records of the text have not all one length, where it is known
abbrev pub HasNoRecords : Option (List ℕ) → Type 0
HasNoRecords input = (bytes : List ℕ) → input ≡ Some bytes → (records : List (List (List ℕ)))
    → AreRecordsOf bytes records → ⊥

-- these are its rows
abbrev pub HasFormed : Form → List Column → Option (List ℕ) → List Row → Type 0
HasFormed form columns input rows = (bytes : List ℕ) → input ≡ Some bytes
    → (records : List (List (List ℕ))) × AreRecordsOf bytes records
    × AreFormed form columns records rows

-- Why the rows of a text are not found for a table that has these columns: want of memory, or what
-- the reader refuses; the text has no records; or its header, or a field, is refused.
pub data RefusesFor (columns : List Column) (form : Form) (input : Option (List ℕ)) (refusal : Refusal) : Type 0 where
  unread : IsReserved refusal → RefusesFor columns form input refusal
  no_records : HasNoRecords input → refusal ≡ Invalid reason.Field → RefusesFor columns form input refusal
  refused : RefusesText form columns input refusal → RefusesFor columns form input refusal

-- why they are not found for the table of this name, among these tables: there is none, or so
pub data RefusesIn (tables : List Table) (form : Form) (name : Name) (input : Option (List ℕ)) (refusal : Refusal) : Type 0 where
  no_table : columns_named tables name ≡ None → refusal ≡ Invalid reason.Name → RefusesIn tables form name input refusal
  refused : (columns : List Column) → columns_named tables name ≡ Some columns → RefusesFor columns form input refusal
      → RefusesIn tables form name input refusal

-- these are the rows of a text for the table of this name, among these tables
pub record FindsIn (tables : List Table) (form : Form) (name : Name) (input : Option (List ℕ)) (rows : List Row) : Type 0 where
  pub columns : List Column
  pub is : columns_named tables name ≡ Some columns
  pub formed : HasFormed form columns input rows

-- Why no rows are found: the table's text names no table that could be; the schema is not read; or
-- why none are found for the table of that name, as the session sees it.
pub data FindsNone (old : World) (s : ℕ) (form : Form) (table : Bytes) (input : Option (List ℕ)) (refusal : Refusal) : Type 0 where
  no_name : ((name : Name) → IsNameIn table name → ⊥) → refusal ≡ Invalid reason.Name
      → FindsNone old s form table input refusal
  unread : IsReserved refusal → FindsNone old s form table input refusal
  refused : (name : Name) (schema : Schema) → IsNameIn table name → Sees old s schema
      → RefusesIn schema.tables form name input refusal → FindsNone old s form table input refusal

-- the rows of the text, for the table that a text names, as the session sees it
pub record FindsRows (old : World) (s : ℕ) (form : Form) (table : Bytes) (input : Option (List ℕ)) (name : Name) (rows : List Row) : Type 0 where
  pub schema : Schema
  pub named : IsNameIn table name
  pub sees : Sees old s schema
  pub finds : FindsIn schema.tables form name input rows

-- ---- loads

-- the rows are not found; or they are put in
pub data LoadsFormed (rules : Rules) (form : Form) (old : World) (s : ℕ) (table : Bytes) (input : Option (List ℕ)) (reply : Reply) (new : World) : Type 0 where
  unloaded : (refusal : Refusal) → FindsNone old s form table input refusal → reply ≡ says.Refused refusal → new ≡ old
      → LoadsFormed rules form old s table input reply new
  puts_in : (name : Name) (rows : List Row) → FindsRows old s form table input name rows
      → PutsIn rules old s name rows reply new → LoadsFormed rules form old s table input reply new

-- the same by batches, where so many rows stand committed
pub data LoadsFormedBatches (rules : Rules) (form : Form) (old : World) (s : ℕ) (table : Bytes) (most : ℕ) (input : Option (List ℕ)) (reply : Reply) (committed : ℕ) (new : World) : Type 0 where
  unloaded : (refusal : Refusal) → FindsNone old s form table input refusal → reply ≡ says.Refused refusal
      → committed ≡ 0 → new ≡ old → LoadsFormedBatches rules form old s table most input reply committed new
  puts_in : (name : Name) (rows : List Row) → FindsRows old s form table input name rows
      → PutsCut rules old s name most rows reply committed new
      → LoadsFormedBatches rules form old s table most input reply committed new

-- ---- dumps

-- a field of a value
abbrev pub field_text : Bool → Value → List ℕ
field_text true v = plain_value v
field_text false v = printed_value v

-- whether a value is the empty text, which would come back as null
abbrev pub is_empty_text : Value → Bool
is_empty_text (value.Text []) = true
is_empty_text v = false

abbrev pub has_empty_text : List Row → Bool
has_empty_text rows = list_any (λ row. list_any is_empty_text row) rows

-- a record of the names, where a header is asked for
abbrev pub header_text : Bool → List Column → Bytes
header_text false columns = []
header_text true columns = row_text default_writer (map (λ column. column.name) columns)

-- a record for each row
abbrev pub records_text : Bool → List Row → Bytes
records_text plain rows = flat_map (λ row. row_text default_writer (map (field_text plain) row)) rows

-- the records of the rows behind the header; each ends with a line feed
abbrev pub formed_text : Form → List Column → List Row → Bytes
formed_text form columns rows = header_text form.header columns ++ records_text form.plain rows

-- There is no memory for the text, or a row would come back as another one; or the text is written:
-- a beginning of it where the writer refuses, and else all.
pub data WritesFormed (form : Form) (columns : List Column) (rows : List Row) (held holds : Option (List ℕ)) (reply : Reply) : Type 0 where
  wanting : reply ≡ says.Refused Memory → Keeps held holds → WritesFormed form columns rows held holds reply
  empty : (form.plain && has_empty_text rows) ≡ true → reply ≡ says.Refused (Invalid reason.Field)
      → Keeps held holds → WritesFormed form columns rows held holds reply
  writes : (whole : Bool) → (form.plain && has_empty_text rows) ≡ false
      → Writes held holds whole (formed_text form columns rows) → reply ≡ written_reply whole rows
      → WritesFormed form columns rows held holds reply

-- The rows are written, for the columns of the table of this name that the session sees; or these
-- are not found, for want of memory or by the device.
pub data WritesSeen (form : Form) (old : World) (s : ℕ) (name : Name) (rows : List Row) (held holds : Option (List ℕ)) (reply : Reply) : Type 0 where
  unread : (refusal : Refusal) → IsReserved refusal → reply ≡ says.Refused refusal → Keeps held holds
      → WritesSeen form old s name rows held holds reply
  no_table : SeesColumns old s name None → reply ≡ says.Refused (Invalid reason.Name) → Keeps held holds
      → WritesSeen form old s name rows held holds reply
  writes : (columns : List Column) → SeesColumns old s name (Some columns)
      → WritesFormed form columns rows held holds reply → WritesSeen form old s name rows held holds reply

-- The text names no table that could be, or was not read for want of memory; or what is asked gives
-- no rows; or its rows are written. The transaction that the query began stays.
pub data DumpsFormed (rules : Rules) (form : Form) (old : World) (s : ℕ) (table : Bytes) (held holds : Option (List ℕ)) (reply : Reply) (new : World) : Type 0 where
  no_name : ((name : Name) → IsNameIn table name → ⊥) → reply ≡ says.Refused (Invalid reason.Name) → new ≡ old
      → Keeps held holds → DumpsFormed rules form old s table held holds reply new
  unread : reply ≡ says.Refused Memory → new ≡ old → Keeps held holds
      → DumpsFormed rules form old s table held holds reply new
  no_rows : (name : Name) → IsNameIn table name → AsksAll rules old s name reply new → is_rows reply ≡ false
      → Keeps held holds → DumpsFormed rules form old s table held holds reply new
  gives : (name : Name) (rows : List Row) → IsNameIn table name → AsksAll rules old s name (says.Rows rows) new
      → WritesSeen form new s name rows held holds reply → DumpsFormed rules form old s table held holds reply new
