-- What `load` does: the INSERT of the rows of a text, and a COMMIT. All of it is our own choice.
use Rattle.std.specs.Prelude.{◌≡◌, ◌⊎◌, ℕ, true, false, List, Option, Some, codes, if◌then◌else◌}
use Rattle.std.specs.List.{AllByRecursion}
use Rattle.refusals.specs.declared.refusal.Refusal.TheVariants.{Disk, Invalid, Memory}
use Rattle.refusals.specs.declared.reason.Reason.TheVariants as reason
use Rattle.sqlval.specs.Value.{Row}
use Rattle.sqlrecord.specs.Storable.{AllStorable}
use Rattle.lexer.specs.Token.{Bytes}
use Rattle.denote.specs.Database.{Name}
use Rattle.replies.specs.declared.reply.Reply.{Reply}
use Rattle.replies.specs.declared.reply.Reply.TheVariants as says
use Rattle.replies.specs.Refused.{is_refusal}
use Rattle.session_definitions.specs.Asked.{Asked}
use Rattle.session_definitions.specs.Rules.{Rules}
use Rattle.session_definitions.specs.Step.{Step, StepOf}
use Rattle.session_definitions.specs.World.{World}
use Rattle.csv_rows.specs.Rows.{AreRowsOf}
use Rattle.csvio.specs.TableName.{IsNameIn}

abbrev pub commit_text : Bytes
commit_text = codes "COMMIT"

-- of two replies the first refusal, else the first reply
abbrev pub first_refusal : Reply → Reply → Reply
first_refusal first second = if is_refusal second then second else first

-- The rows are put in, and where that is accepted a COMMIT follows. Where the COMMIT is refused the
-- rows stand in the open transaction.
pub data PutsIn (rules : Rules) (old : World) (s : ℕ) (table : Name) (rows : List Row) (reply : Reply) (new : World) : Type 0 where
  refused : StepOf rules old s (Asked.Insert table rows) reply new → is_refusal reply ≡ true
      → PutsIn rules old s table rows reply new
  accepted : (mid : World) (inserted committed : Reply) → StepOf rules old s (Asked.Insert table rows) inserted mid
      → is_refusal inserted ≡ false → Step rules mid s commit_text committed new
      → reply ≡ first_refusal inserted committed → PutsIn rules old s table rows reply new

-- no rows that a table may hold have this text, where it is known
abbrev pub HasNoRows : Option (List ℕ) → Type 0
HasNoRows input = (bytes : List ℕ) → input ≡ Some bytes → (rows : List Row) → AllByRecursion AllStorable rows
    → AreRowsOf bytes rows → ⊥

-- these are its rows
abbrev pub HasRows : Option (List ℕ) → List Row → Type 0
HasRows input rows = (bytes : List ℕ) → input ≡ Some bytes → AreRowsOf bytes rows

-- The text names no table that could be; or it was not read, for want of memory or since the reader
-- refused; or no rows have it; or its rows are put in.
pub data Loads (rules : Rules) (old : World) (s : ℕ) (table : Bytes) (input : Option (List ℕ)) (reply : Reply) (new : World) : Type 0 where
  no_name : ((name : Name) → IsNameIn table name → ⊥) → reply ≡ says.Refused (Invalid reason.Name) → new ≡ old
      → Loads rules old s table input reply new
  unread : (reply ≡ says.Refused Memory) ⊎ (reply ≡ says.Refused Disk) → new ≡ old
      → Loads rules old s table input reply new
  no_rows : HasNoRows input → reply ≡ says.Refused (Invalid reason.Field) → new ≡ old
      → Loads rules old s table input reply new
  puts_in : (name : Name) (rows : List Row) → IsNameIn table name → HasRows input rows
      → PutsIn rules old s name rows reply new
      → Loads rules old s table input reply new
