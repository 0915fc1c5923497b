-- The rows that evaluation gives for an INSERT (ISO/IEC 9075:1992, 13.8), and what is left of a
-- store up to the order of rows.
use Rattle.std.specs.Prelude.{◌≡◌, ℕ, List, Option, Some, Ok}
use Rattle.std.specs.FinMap.{get}
use Rattle.sqlval.specs.Value.{Row}
use Rattle.typing.specs.declared.statement.Change.{Change}
use Rattle.typing.specs.declared.statement.Insert.{Insert}
use Rattle.typing.specs.declared.statement.InsertSource.{InsertSource}
use Rattle.denote.specs.Bag.{Permutes}
use Rattle.denote.specs.Change.{changed, inserted_rows, IsAccepted}
use Rattle.denote.specs.Database.{Name, Table, Database, CheckReading, checks_of, rows_in}
use Rattle.replies.specs.declared.reply.Reply.{Reply}
use Rattle.session_definitions.specs.Statements.{counted}
use Rattle.store.specs.Contents.{Contents, database_of}
use Rattle.store.specs.Stored.{Stored}
use Rattle.constraints.specs.Foreseen.{with_more}

-- an INSERT of what this source gives into these columns of a table
abbrev pub into : Name → List ℕ → InsertSource → Insert
into table columns source = record { table = table; columns = columns; source = source }

-- its table is there, and these are the rows that it stores, in any order, none of which faults
pub record AreGiven (reading : CheckReading) (db : Database) (i : Insert) (rows : List Row) : Type 0 where
  pub table : Table
  pub there : get db i.table ≡ Some table
  pub meant : List Row
  pub given : inserted_rows (checks_of reading i.table table) (rows_in db) table i.columns i.source ≡ Ok meant
  pub order : Permutes meant rows

-- in the other database the table of this name, which is there, has these rows at its end
pub record HasMore (db : Database) (name : Name) (rows : List Row) (made : Database) : Type 0 where
  pub table : Table
  pub there : get db name ≡ Some table
  pub more : get made name ≡ Some (with_more table rows)

-- the newest version holds what the change makes of it, up to the order of rows; nothing else is
-- changed, but the mark
pub record HasAccepted (reading : CheckReading) (old : Stored) (change : Change) (reply : Reply) (new : Stored) : Type 0 where
  pub contents : Contents
  pub marked : Contents
  pub count : Option ℕ
  pub accepted : IsAccepted (changed reading (database_of old.working) change) (database_of contents) count
  pub says_so : reply ≡ counted count
  pub leaves : new ≡ record old { working = contents; marked = marked }
