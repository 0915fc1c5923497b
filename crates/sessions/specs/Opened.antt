-- What OPEN gives over what is read, and what its query may be refused for (ISO/IEC 9075:1992,
-- 13.2); and what FETCH says of a row (13.3).
use Rattle.std.specs.Prelude.{◌≡◌, ℕ, List, Option, None, Some}
use Rattle.refusals.specs.declared.refusal.Refusal.{Refusal}
use Rattle.ast.specs.declared.statement.OrderedQuery.{OrderedQuery}
use Rattle.sqlval.specs.Value.{Row}
use Rattle.replies.specs.declared.reply.Reply.{Reply}
use Rattle.replies.specs.declared.reply.Reply.TheVariants as says
use Rattle.ast.specs.declared.statement.Statement.TheVariants as asks
use Rattle.typing.specs.declared.statement.Typed.TheVariants as does
use Rattle.typing.specs.declared.typed.OrderedQuery as typed
use Rattle.denote.specs.Database.{Database}
use Rattle.denote.specs.Query.{denotes}
use Rattle.session_definitions.specs.Refusals.{IsReserved}
use Rattle.session_definitions.specs.Rules.{Rules, Means, IsReason}
use Rattle.store.specs.Contents.{Contents, database_of}
use Rattle.cursors.specs.declared.cursor.OpenCursor.{OpenCursor}
use Rattle.cursors.specs.Opened.{BeginsAt, Fits, HasNext, IsAhead, MayTake, cursor_of}

-- the query stands for one that the cursor has the outcome of, and no row was given yet
pub record OpensAs (rules : Rules) (contents : Contents) (x : OrderedQuery) (cursor : OpenCursor) : Type 0 where
  pub query : typed.OrderedQuery
  pub means : Means rules (database_of contents) (asks.Query x) (does.Query query)
  pub begins : BeginsAt cursor contents
  pub outcome : (cursor_of cursor contents).outcome ≡ denotes (database_of contents) query

-- a reason against it, or what may stand in place of any reply
pub data RefusesOpening (rules : Rules) (db : Database) (x : OrderedQuery) (refusal : Refusal) : Type 0 where
  withheld : IsReserved refusal → RefusesOpening rules db x refusal
  wrong : IsReason rules db (asks.Query x) refusal → RefusesOpening rules db x refusal

-- a row, or the end
abbrev pub told : Option Row → Reply
told None = says.EndOfRows
told (Some row) = says.Row row

-- what FETCH gives of a cursor, and leaves of it: a refusal leaves nothing
abbrev pub GivesNext : OpenCursor → Option OpenCursor → Reply → Contents → Type 0
GivesNext cursor None reply contents =
    (refusal : Refusal) × (reply ≡ says.Refused refusal) × MayTake refusal 1 (cursor_of cursor contents)
GivesNext cursor (Some to) reply contents =
    (next : Option Row) × (reply ≡ told next) × HasNext next (cursor_of cursor contents) (cursor_of to contents)
    × Fits to contents

-- what so many rows at once give of a cursor, and leave of it: a refusal leaves nothing
abbrev pub GivesRows : OpenCursor → ℕ → Option OpenCursor → Reply → Contents → Type 0
GivesRows cursor count None reply contents =
    (refusal : Refusal) × (reply ≡ says.Refused refusal) × MayTake refusal count (cursor_of cursor contents)
GivesRows cursor count (Some to) reply contents =
    (rows : List Row) × (reply ≡ says.Rows rows)
    × IsAhead rows count (cursor_of cursor contents) (cursor_of to contents)
    × Fits to contents
