-- What `dump` does: all rows of a table, ordered by all its columns, as CSV. All of it is our own
-- choice.
use Rattle.std.specs.Prelude.{◌≡◌, ◌≢◌, ℕ, zero, suc, Bool, true, false, List, [], ◌∷◌, ◌++◌, map, length, flat_map, codes, decimal, Option, Some}
use Rattle.std.specs.Io.KnownBytes.{Keeps}
use Rattle.csv.specs.Writing.{default_writer, row_text}
use Rattle.refusals.specs.declared.refusal.Refusal.TheVariants.{Disk, Invalid, Memory}
use Rattle.refusals.specs.declared.reason.Reason.TheVariants as reason
use Rattle.sqlval.specs.Value.{Row}
use Rattle.lexer.specs.Token.{Bytes}
use Rattle.denote.specs.Database.{Name}
use Rattle.replies.specs.declared.reply.Reply.{Reply}
use Rattle.replies.specs.declared.reply.Reply.TheVariants as says
use Rattle.replies.specs.Printed.{printed_value}
use Rattle.replies.specs.Writes.{Writes}
use Rattle.session_definitions.specs.Rules.{Rules}
use Rattle.session_definitions.specs.Statements.{counted}
use Rattle.session_definitions.specs.Step.{Step}
use Rattle.session_definitions.specs.World.{World}
use Rattle.csvio.specs.TableName.{IsNameIn}

-- ---- what is asked

-- an order by so many positions, ascending
abbrev pub order_text : ℕ → Bytes
order_text zero = []
order_text (suc zero) = codes " ORDER BY 1"
order_text (suc (suc n)) = order_text (suc n) ++ (codes ", " ++ decimal (suc (suc n)))

-- all columns of a table, ordered by so many of them
abbrev pub query_text : Name → ℕ → Bytes
query_text table n = codes "SELECT * FROM " ++ (table ++ order_text n)

-- how many values a reply's rows have, 0 where it has none
abbrev pub width_of : Reply → ℕ
width_of (says.Rows (row ∷ rows)) = length row
width_of _ = 0

abbrev pub is_rows : Reply → Bool
is_rows (says.Rows rows) = true
is_rows _ = false

-- a text is asked, or there was no memory for it
pub data Asks (rules : Rules) (old : World) (s : ℕ) (text : Bytes) (reply : Reply) (new : World) : Type 0 where
  asked : Step rules old s text reply new → Asks rules old s text reply new
  unasked : reply ≡ says.Refused Memory → new ≡ old → Asks rules old s text reply new

-- All rows are asked for; and where there are any, once more, ordered by as many positions as they
-- have values.
pub data AsksAll (rules : Rules) (old : World) (s : ℕ) (table : Name) (reply : Reply) (new : World) : Type 0 where
  unordered : Asks rules old s (query_text table 0) reply new → width_of reply ≡ 0
      → AsksAll rules old s table reply new
  ordered : (mid : World) (found : Reply) → Asks rules old s (query_text table 0) found mid → width_of found ≢ 0
      → Asks rules mid s (query_text table (width_of found)) reply new → AsksAll rules old s table reply new

-- ---- what is written

-- a record for each row, a field for each value as it is printed; each record ends with a line feed
abbrev pub rows_text : List Row → Bytes
rows_text rows = flat_map (λ row. row_text default_writer (map printed_value row)) rows

-- how many rows were written; X0002 where the writer refused
abbrev pub written_reply : Bool → List Row → Reply
written_reply true rows = counted (Some (length rows))
written_reply false rows = says.Refused Disk

-- There is no memory for the text of the rows; or it is written: a beginning of it where the writer
-- refuses, and else all.
pub data WritesRows (rows : List Row) (held holds : Option (List ℕ)) (reply : Reply) : Type 0 where
  wanting : reply ≡ says.Refused Memory → Keeps held holds → WritesRows rows held holds reply
  writes : (whole : Bool) → Writes held holds whole (rows_text rows) → reply ≡ written_reply whole rows
      → WritesRows rows held holds reply

-- The text names no table that could be, or was not read for want of memory; or what is asked gives
-- no rows; or its rows are written. The transaction that the query began stays.
pub data Dumps (rules : Rules) (old : World) (s : ℕ) (table : Bytes) (held holds : Option (List ℕ)) (reply : Reply) (new : World) : Type 0 where
  no_name : ((name : Name) → IsNameIn table name → ⊥) → reply ≡ says.Refused (Invalid reason.Name) → new ≡ old
      → Keeps held holds → Dumps rules old s table held holds reply new
  unread : reply ≡ says.Refused Memory → new ≡ old → Keeps held holds
      → Dumps rules old s table held holds reply new
  no_rows : (name : Name) → IsNameIn table name → AsksAll rules old s name reply new → is_rows reply ≡ false
      → Keeps held holds → Dumps rules old s table held holds reply new
  gives : (name : Name) (rows : List Row) → IsNameIn table name → AsksAll rules old s name (says.Rows rows) new
      → WritesRows rows held holds reply → Dumps rules old s table held holds reply new
