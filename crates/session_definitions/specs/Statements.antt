-- What each statement answers and does. A rule speaks of the session in which the statement is made
-- and of the transaction in which it runs, its own or one that begins now.
use Rattle.std.specs.Prelude.{◌≡◌, ◌⊎◌, ℕ, ◌<◌, ◌≤◌, zero, suc, true, false, List, [], ◌∷◌, ◌++◌, Option, Some, None, Ok, Err}
use Rattle.std.specs.FinMap.{get, contains_key, len, insert}
use Rattle.sqlval.specs.Value.{Row}
use Rattle.refusals.specs.declared.refusal.Refusal.{Refusal}
use Rattle.refusals.specs.declared.refusal.Refusal.TheVariants.{Violated, CursorState, TransactionState, SerializationFailure, Exceeded}
use Rattle.refusals.specs.declared.limit.Limit.TheVariants as limit
use Rattle.ast.specs.declared.statement.AccessMode.{AccessMode}
use Rattle.ast.specs.declared.statement.DeclareCursor.{DeclareCursor}
use Rattle.ast.specs.declared.statement.OrderedQuery.{OrderedQuery}
use Rattle.ast.specs.declared.statement.Statement.{Statement}
use Rattle.ast.specs.declared.statement.Statement.TheVariants as asks
use Rattle.typing.specs.declared.statement.Change.{Change}
use Rattle.typing.specs.declared.statement.Typed.TheVariants as does
use Rattle.typing.specs.declared.typed.OrderedQuery as typed
use Rattle.denote.specs.declared.fault.Fault.{Fault}
use Rattle.denote.specs.Answer.{Answers}
use Rattle.denote.specs.Bag.{IsSame}
use Rattle.denote.specs.Change.{changed, IsAccepted, IsRaised, IsNamed}
use Rattle.denote.specs.Database.{Name, Database}
use Rattle.denote.specs.Outcome.{OrderedOutcome}
use Rattle.denote.specs.Query.{denotes}
use Rattle.replies.specs.declared.reply.Reply.{Reply}
use Rattle.replies.specs.declared.reply.Reply.TheVariants as says
use Rattle.session_definitions.specs.Cursor.{MayGive, IsAtEnd, MayRaise}
use Rattle.session_definitions.specs.Effect.{Effect}
use Rattle.session_definitions.specs.Refusals.{refusal_of, Refuses}
use Rattle.session_definitions.specs.Rules.{Rules, Means, IsReason}
use Rattle.session_definitions.specs.Transactions.{active, is_open, is_open_in, with_cursor, without_cursor}
use Rattle.session_definitions.specs.World.{Cursor, Transaction, Session}

-- ---- queries

-- A query (20.2): its rows, over the working database. It begins a transaction, but not where it is
-- refused.
pub data Queries (rules : Rules) (session : Session) (t : Transaction) (x : OrderedQuery) (reply : Reply) (effect : Effect) : Type 0 where
  wrong : (refusal : Refusal) → IsReason rules t.working (asks.Query x) refusal
      → Refuses refusal reply effect → Queries rules session t x reply effect
  gives : (query : typed.OrderedQuery) (rows : List Row) → Means rules t.working (asks.Query x) (does.Query query)
      → Answers (Ok rows) (denotes t.working query)
      → reply ≡ says.Rows rows → effect ≡ Effect.Becomes (active session t) → Queries rules session t x reply effect
  raises : (query : typed.OrderedQuery) (fault : Fault) → Means rules t.working (asks.Query x) (does.Query query)
      → Answers (Err fault) (denotes t.working query)
      → Refuses (refusal_of fault) reply effect → Queries rules session t x reply effect

-- EXPLAIN (our own choice): as a query, but nothing is evaluated. Which lines it answers is open
-- here: `query_answers` says what they show.
pub data Explains (rules : Rules) (session : Session) (t : Transaction) (x : OrderedQuery) (reply : Reply) (effect : Effect) : Type 0 where
  wrong : (refusal : Refusal) → IsReason rules t.working (asks.Explain x) refusal
      → Refuses refusal reply effect → Explains rules session t x reply effect
  shows : (query : typed.OrderedQuery) (lines : List (List ℕ))
      → Means rules t.working (asks.Explain x) (does.Explain query)
      → reply ≡ says.Lines lines → effect ≡ Effect.Becomes (active session t) → Explains rules session t x reply effect

-- ---- changes

-- the reply to a change: how many rows it touched, where it speaks of rows at all (our own choice;
-- 22.1 for 02000)
abbrev pub counted : Option ℕ → Reply
counted None = says.Done
counted (Some zero) = says.Unchanged
counted (Some (suc n)) = says.Changed (suc n)

-- CREATE, DROP, INSERT, UPDATE and DELETE (11.3, 11.18, 13.7, 13.8, 13.10). `obstacle` is what
-- stands in its way. The session is the writer from then on, also where no row was touched.
pub data Changes (rules : Rules) (session : Session) (t : Transaction) (obstacle : Option Refusal) (x : Statement) (reply : Reply) (effect : Effect) : Type 0 where
  reads_only : obstacle ≡ Some TransactionState → Refuses TransactionState reply effect
      → Changes rules session t obstacle x reply effect
  has_cursor : obstacle ≡ Some CursorState → Refuses CursorState reply effect
      → Changes rules session t obstacle x reply effect
  overtaken : obstacle ≡ Some SerializationFailure → reply ≡ says.Refused SerializationFailure
      → effect ≡ Effect.RollsBack
      → Changes rules session t obstacle x reply effect
  wrong : (refusal : Refusal) → obstacle ≡ None → IsReason rules t.working x refusal
      → Refuses refusal reply effect → Changes rules session t obstacle x reply effect
  makes : (change : Change) (db : Database) (count : Option ℕ) → obstacle ≡ None
      → Means rules t.working x (does.Change change)
      → IsAccepted (changed rules.check t.working change) db count
      → reply ≡ counted count → effect ≡ Effect.Writes (active session (record t { working = db }))
      → Changes rules session t obstacle x reply effect
  raises : (change : Change) (fault : Fault) → obstacle ≡ None → Means rules t.working x (does.Change change)
      → IsRaised (changed rules.check t.working change) fault
      → Refuses (refusal_of fault) reply effect → Changes rules session t obstacle x reply effect
  violates : (change : Change) (name : Name) → obstacle ≡ None → Means rules t.working x (does.Change change)
      → IsNamed (changed rules.check t.working change) name
      → Refuses (Violated name) reply effect → Changes rules session t obstacle x reply effect

-- ---- the end of a transaction

-- COMMIT (14.3). In an idle session it does nothing.
abbrev pub Ends : Option Transaction → Reply → Effect → Type 0
Ends None reply effect = (reply ≡ says.Done) × (effect ≡ Effect.Nothing)
Ends (Some t) reply effect = (reply ≡ says.Done) × (effect ≡ Effect.Commits t)

-- ROLLBACK (14.4). In an idle session it does nothing.
abbrev pub Undoes : Option Transaction → Reply → Effect → Type 0
Undoes None reply effect = (reply ≡ says.Done) × (effect ≡ Effect.Nothing)
Undoes (Some t) reply effect = (reply ≡ says.Done) × (effect ≡ Effect.RollsBack)

-- SET TRANSACTION (14.1): the mode of the next transaction. Refused while there is one.
abbrev pub SetsMode : Session → Option Transaction → AccessMode → Reply → Effect → Type 0
SetsMode session None mode reply effect = (reply ≡ says.Done)
    × (effect ≡ Effect.Becomes (record session { next = mode }))
SetsMode session (Some t) mode reply effect = Refuses TransactionState reply effect

-- ---- cursors

-- the greatest number of queries that a session has declared: our own choice
abbrev pub most_cursors : ℕ
most_cursors = 8

-- DECLARE (13.1): the session keeps the query. That it takes the place of one of that name whose
-- cursor is not open, and is 24000 where it is open, is our own choice. It begins no transaction.
pub data Declares (session : Session) (x : DeclareCursor) (reply : Reply) (effect : Effect) : Type 0 where
  open_already : is_open_in session.transaction x.cursor ≡ true → Refuses CursorState reply effect
      → Declares session x reply effect
  too_many : is_open_in session.transaction x.cursor ≡ false → contains_key session.declared x.cursor ≡ false
      → most_cursors ≤ len session.declared
      → Refuses (Exceeded limit.Cursors) reply effect → Declares session x reply effect
  declares : is_open_in session.transaction x.cursor ≡ false
      → (contains_key session.declared x.cursor ≡ true) ⊎ (len session.declared < most_cursors)
      → reply ≡ says.Done
      → effect ≡ Effect.Becomes (record session { declared = insert session.declared x.cursor x.query })
      → Declares session x reply effect

-- the same bag, the same faults and the same order keys
pub record IsSameOutcome (o p : OrderedOutcome) : Type 0 where
  pub unordered : IsSame o.unordered p.unordered
  pub keys : o.keys ≡ p.keys

-- OPEN (13.2): the cursor has the outcome of its query over the working database as it is now. It
-- begins a transaction.
pub data Opens (rules : Rules) (session : Session) (t : Transaction) (name : Name) (reply : Reply) (effect : Effect) : Type 0 where
  open_already : is_open t name ≡ true → Refuses CursorState reply effect → Opens rules session t name reply effect
  undeclared : get session.declared name ≡ None → Refuses CursorState reply effect
      → Opens rules session t name reply effect
  wrong : (x : OrderedQuery) (refusal : Refusal) → is_open t name ≡ false → get session.declared name ≡ Some x
      → IsReason rules t.working (asks.Query x) refusal
      → Refuses refusal reply effect → Opens rules session t name reply effect
  opens : (x : OrderedQuery) (query : typed.OrderedQuery) (outcome : OrderedOutcome) → is_open t name ≡ false
      → get session.declared name ≡ Some x
      → Means rules t.working (asks.Query x) (does.Query query) → IsSameOutcome outcome (denotes t.working query)
      → reply ≡ says.Done
      → effect ≡ Effect.Becomes (active session (with_cursor t name (record { outcome = outcome; given = [] })))
      → Opens rules session t name reply effect

-- FETCH (13.3): a row, the end, or a fault of the query, which closes the cursor (our own choice).
pub data FetchesIn (session : Session) (t : Transaction) (name : Name) (reply : Reply) (effect : Effect) : Type 0 where
  not_open : get t.cursors name ≡ None → Refuses CursorState reply effect → FetchesIn session t name reply effect
  gives : (cursor : Cursor) (row : Row) → get t.cursors name ≡ Some cursor → MayGive cursor row
      → reply ≡ says.Row row
      → effect ≡ Effect.Becomes (active session (with_cursor t name (record cursor { given = cursor.given ++ row ∷ [] })))
      → FetchesIn session t name reply effect
  ends : (cursor : Cursor) → get t.cursors name ≡ Some cursor → IsAtEnd cursor
      → reply ≡ says.EndOfRows → effect ≡ Effect.Nothing → FetchesIn session t name reply effect
  raises : (cursor : Cursor) (fault : Fault) → get t.cursors name ≡ Some cursor → MayRaise cursor fault
      → reply ≡ says.Refused (refusal_of fault) → effect ≡ Effect.Becomes (active session (without_cursor t name))
      → FetchesIn session t name reply effect

-- In an idle session no cursor is open. FETCH begins no transaction.
abbrev pub Fetches : Session → Option Transaction → Name → Reply → Effect → Type 0
Fetches session None name reply effect = Refuses CursorState reply effect
Fetches session (Some t) name reply effect = FetchesIn session t name reply effect

-- CLOSE (13.4).
pub data ClosesIn (session : Session) (t : Transaction) (name : Name) (reply : Reply) (effect : Effect) : Type 0 where
  not_open : is_open t name ≡ false → Refuses CursorState reply effect → ClosesIn session t name reply effect
  closes : is_open t name ≡ true → reply ≡ says.Done → effect ≡ Effect.Becomes (active session (without_cursor t name))
      → ClosesIn session t name reply effect

-- CLOSE begins no transaction either.
abbrev pub Closes : Session → Option Transaction → Name → Reply → Effect → Type 0
Closes session None name reply effect = Refuses CursorState reply effect
Closes session (Some t) name reply effect = ClosesIn session t name reply effect

-- ---- any statement

abbrev pub CarriesOut : Rules → Session → Transaction → Option Refusal → Statement → Reply → Effect → Type 0
CarriesOut rules session t obstacle (asks.Query x) = Queries rules session t x
CarriesOut rules session t obstacle (asks.Explain x) = Explains rules session t x
CarriesOut rules session t obstacle (asks.CreateTable x) = Changes rules session t obstacle (asks.CreateTable x)
CarriesOut rules session t obstacle (asks.DropTable x) = Changes rules session t obstacle (asks.DropTable x)
CarriesOut rules session t obstacle (asks.CreateIndex x) = Changes rules session t obstacle (asks.CreateIndex x)
CarriesOut rules session t obstacle (asks.DropIndex x) = Changes rules session t obstacle (asks.DropIndex x)
CarriesOut rules session t obstacle (asks.Insert x) = Changes rules session t obstacle (asks.Insert x)
CarriesOut rules session t obstacle (asks.Update x) = Changes rules session t obstacle (asks.Update x)
CarriesOut rules session t obstacle (asks.Delete x) = Changes rules session t obstacle (asks.Delete x)
CarriesOut rules session t obstacle (asks.Commit work) = Ends session.transaction
CarriesOut rules session t obstacle (asks.Rollback work) = Undoes session.transaction
CarriesOut rules session t obstacle (asks.SetTransaction mode) = SetsMode session session.transaction mode
CarriesOut rules session t obstacle (asks.DeclareCursor x) = Declares session x
CarriesOut rules session t obstacle (asks.OpenCursor name) = Opens rules session t name
CarriesOut rules session t obstacle (asks.Fetch name) = Fetches session session.transaction name
CarriesOut rules session t obstacle (asks.CloseCursor name) = Closes session session.transaction name
