-- The INSERT of rows that are given: what it makes, and what it is refused for.
use Rattle.std.specs.Prelude.{◌≡◌, List, Ok}
use Rattle.refusals.specs.declared.refusal.Refusal.{Refusal}
use Rattle.sqlval.specs.declared.schema.Schema.{Schema}
use Rattle.sqlval.specs.Value.{Row}
use Rattle.typing.specs.declared.statement.Change.TheVariants as does
use Rattle.typing.specs.declared.statement.Insert.{Insert}
use Rattle.typing.specs.Finding.{Finding, reasons_in}
use Rattle.typing.specs.Finds.{IsReasonOf}
use Rattle.typing.specs.Known.{known}
use Rattle.denote.specs.Database.{Name, Database, CheckReading}
use Rattle.replies.specs.declared.reply.Reply.{Reply}
use Rattle.session_definitions.specs.InsertedRows.{insert_of_rows}
use Rattle.store.specs.declared.error.StoreLimit.{StoreLimit}
use Rattle.store.specs.Contents.{Contents}
use Rattle.store.specs.Stored.{Stored}
use Rattle.constraints.specs.Changed.{RefusesChange}
use Rattle.table_changes.specs.Given.{HasAccepted}
use Rattle.change.specs.Reached.{ChangeReaches}

-- what the rules of names and types find
abbrev pub given_found : Schema → Name → List Row → Finding Insert
given_found schema name rows = insert_of_rows (known schema) name rows

-- the rows fit their table, and the INSERT of them is made
pub record InsertsGiven (reading : CheckReading) (schema : Schema) (old : Stored) (name : Name) (rows : List Row) (reply : Reply) (new : Stored) : Type 0 where
  pub insert : Insert
  pub found : given_found schema name rows ≡ Ok insert
  pub accepted : HasAccepted reading old (does.Insert insert) reply new

-- a reason why they do not fit, or what the INSERT of them may be refused for
pub data RefusesGiven (reading : CheckReading) (schema : Schema) (db : Database) (name : Name) (rows : List Row) (refusal : Refusal) : Type 0 where
  wrong : IsReasonOf (reasons_in (given_found schema name rows)) refusal
      → RefusesGiven reading schema db name rows refusal
  refused : (insert : Insert) → given_found schema name rows ≡ Ok insert
      → RefusesChange reading db (does.Insert insert) refusal → RefusesGiven reading schema db name rows refusal

-- they fit, and the INSERT of them reaches this limit
abbrev pub GivenReaches : (StoreLimit → Type 0) → Type 0 → Schema → Contents → Name → List Row → StoreLimit → Type 0
GivenReaches counted sound schema c name rows which =
    (insert : Insert) × (given_found schema name rows ≡ Ok insert)
    × ChangeReaches counted sound schema c (does.Insert insert) which
