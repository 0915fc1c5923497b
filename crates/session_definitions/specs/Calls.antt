-- What is answered to calls that are no statement's: of the query of a text, whose cursor has no
-- name and is one in a session, and of an INSERT of rows that are given. All of it is our own
-- choice.
use Rattle.std.specs.Prelude.{◌≡◌, ℕ, ◌<◌, Bool, true, false, List, [], length, is_some, Option, Some, None}
use Rattle.sqlval.specs.Value.{Row}
use Rattle.refusals.specs.declared.refusal.Refusal.{Refusal}
use Rattle.refusals.specs.declared.refusal.Refusal.TheVariants.{CursorState, Invalid}
use Rattle.refusals.specs.declared.reason.Reason.TheVariants as reason
use Rattle.lexer.specs.Token.{Bytes}
use Rattle.ast.specs.declared.statement.OrderedQuery.{OrderedQuery}
use Rattle.ast.specs.declared.statement.Statement.{Statement}
use Rattle.ast.specs.declared.statement.Statement.TheVariants as asks
use Rattle.statement_definitions.specs.Reading.{IsRead, IsUnread}
use Rattle.typing.specs.declared.statement.Typed.TheVariants as does
use Rattle.typing.specs.declared.typed.OrderedQuery as typed
use Rattle.denote.specs.declared.fault.Fault.{Fault}
use Rattle.denote.specs.Database.{Name}
use Rattle.denote.specs.Outcome.{OrderedOutcome}
use Rattle.denote.specs.Query.{denotes}
use Rattle.replies.specs.declared.reply.Reply.{Reply}
use Rattle.replies.specs.declared.reply.Reply.TheVariants as says
use Rattle.session_definitions.specs.Cursor.{MayGiveRows, IsAtEnd, MayRaise, having_given}
use Rattle.session_definitions.specs.Effect.{Effect}
use Rattle.session_definitions.specs.InsertedRows.{inserting}
use Rattle.session_definitions.specs.Refusals.{IsReserved, Refuses, refusal_of}
use Rattle.session_definitions.specs.Rules.{Rules, Means, IsReason}
use Rattle.session_definitions.specs.Statements.{Changes, IsSameOutcome}
use Rattle.session_definitions.specs.Transactions.{active, with_unnamed}
use Rattle.session_definitions.specs.World.{Cursor, Transaction, Session}

-- ---- the query of a text

abbrev pub is_query : Statement → Bool
is_query (asks.Query x) = true
is_query _ = false

-- `open_query`: as OPEN, of the query in this text. Another statement is refused by `syntax`. It
-- begins a transaction.
pub data OpensQuery (rules : Rules) (session : Session) (t : Transaction) (text : Bytes) (reply : Reply) (effect : Effect) : Type 0 where
  unread : (refusal : Refusal) → IsUnread text refusal → Refuses refusal reply effect
      → OpensQuery rules session t text reply effect
  other : (x : Statement) → IsRead text x → is_query x ≡ false → Refuses (Invalid reason.Syntax) reply effect
      → OpensQuery rules session t text reply effect
  open_already : (x : OrderedQuery) → IsRead text (asks.Query x) → is_some t.unnamed ≡ true
      → Refuses CursorState reply effect → OpensQuery rules session t text reply effect
  wrong : (x : OrderedQuery) (refusal : Refusal) → IsRead text (asks.Query x) → t.unnamed ≡ None
      → IsReason rules t.working (asks.Query x) refusal
      → Refuses refusal reply effect → OpensQuery rules session t text reply effect
  opens : (x : OrderedQuery) (query : typed.OrderedQuery) (outcome : OrderedOutcome) → IsRead text (asks.Query x)
      → t.unnamed ≡ None
      → Means rules t.working (asks.Query x) (does.Query query) → IsSameOutcome outcome (denotes t.working query)
      → reply ≡ says.Done
      → effect ≡ Effect.Becomes (active session (with_unnamed t (Some (record { outcome = outcome; given = [] }))))
      → OpensQuery rules session t text reply effect
  withheld : (refusal : Refusal) → IsReserved refusal → Refuses refusal reply effect
      → OpensQuery rules session t text reply effect

-- `take_rows`: as so many FETCHes. It gives so many rows; or fewer, and then the end is reached.
-- Where one of them would be refused, so is the whole, and the cursor is closed.
pub data TakesIn (session : Session) (t : Transaction) (count : ℕ) (reply : Reply) (effect : Effect) : Type 0 where
  not_open : t.unnamed ≡ None → Refuses CursorState reply effect → TakesIn session t count reply effect
  all : (cursor : Cursor) (rows : List Row) → t.unnamed ≡ Some cursor → MayGiveRows cursor rows → length rows ≡ count
      → reply ≡ says.Rows rows
      → effect ≡ Effect.Becomes (active session (with_unnamed t (Some (having_given cursor rows))))
      → TakesIn session t count reply effect
  fewer : (cursor : Cursor) (rows : List Row) → t.unnamed ≡ Some cursor → length rows < count
      → IsAtEnd (having_given cursor rows)
      → reply ≡ says.Rows rows
      → effect ≡ Effect.Becomes (active session (with_unnamed t (Some (having_given cursor rows))))
      → TakesIn session t count reply effect
  raises : (cursor : Cursor) (fault : Fault) → t.unnamed ≡ Some cursor → 0 < count → MayRaise cursor fault
      → reply ≡ says.Refused (refusal_of fault) → effect ≡ Effect.Becomes (active session (with_unnamed t None))
      → TakesIn session t count reply effect
  withheld : (refusal : Refusal) (cursor : Cursor) → t.unnamed ≡ Some cursor → IsReserved refusal
      → reply ≡ says.Refused refusal → effect ≡ Effect.Becomes (active session (with_unnamed t None))
      → TakesIn session t count reply effect

-- in an idle session it is not open
abbrev pub TakesRows : Session → Option Transaction → ℕ → Reply → Effect → Type 0
TakesRows session None count reply effect = Refuses CursorState reply effect
TakesRows session (Some t) count reply effect = TakesIn session t count reply effect

-- `close_query`: as CLOSE. Nothing may stand in place of its reply.
pub data ClosesQueryIn (session : Session) (t : Transaction) (reply : Reply) (effect : Effect) : Type 0 where
  not_open : t.unnamed ≡ None → Refuses CursorState reply effect → ClosesQueryIn session t reply effect
  closes : is_some t.unnamed ≡ true → reply ≡ says.Done
      → effect ≡ Effect.Becomes (active session (with_unnamed t None)) → ClosesQueryIn session t reply effect

abbrev pub ClosesQuery : Session → Option Transaction → Reply → Effect → Type 0
ClosesQuery session None reply effect = Refuses CursorState reply effect
ClosesQuery session (Some t) reply effect = ClosesQueryIn session t reply effect

-- ---- rows that are given

-- `insert_rows`: the change that an INSERT of these rows is; the limit `statement` is no matter of
-- it.
pub data InsertsRows (rules : Rules) (session : Session) (t : Transaction) (obstacle : Option Refusal) (table : Name) (rows : List Row) (reply : Reply) (effect : Effect) : Type 0 where
  changes : (x : Statement) → Changes (inserting rules table rows) session t obstacle x reply effect
      → InsertsRows rules session t obstacle table rows reply effect
  withheld : (refusal : Refusal) → IsReserved refusal → Refuses refusal reply effect
      → InsertsRows rules session t obstacle table rows reply effect
