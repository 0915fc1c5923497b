-- One call of a session: what is asked, its reply, and the world after it (ISO/IEC 9075:1992, 20.1).
-- The refusals of a text come in this order, which is our own choice: the statement's length, its
-- tokens, words that are not supported, nesting, grammar; the state of transaction and cursors;
-- names and types; evaluation and constraints.
use Rattle.std.specs.Prelude.{◌≡◌, ℕ, Bool, true, false, Option, Some}
use Rattle.std.specs.FinMap.{get}
use Rattle.refusals.specs.declared.refusal.Refusal.{Refusal}
use Rattle.refusals.specs.declared.refusal.Refusal.TheVariants.{Memory}
use Rattle.lexer.specs.Token.{Bytes}
use Rattle.ast.specs.declared.statement.Statement.{Statement}
use Rattle.ast.specs.declared.statement.Statement.TheVariants as asks
use Rattle.denote.specs.Database.{Name}
use Rattle.statement_definitions.specs.Reading.{IsRead, IsUnread}
use Rattle.statement_definitions.specs.Rollback.{IsRollback}
use Rattle.replies.specs.declared.reply.Reply.{Reply}
use Rattle.replies.specs.declared.reply.Reply.TheVariants as says
use Rattle.session_definitions.specs.Asked.{Asked}
use Rattle.session_definitions.specs.Calls.{OpensQuery, TakesRows, ClosesQuery, InsertsRows}
use Rattle.session_definitions.specs.Effect.{Effect, after}
use Rattle.session_definitions.specs.Refusals.{IsOfStore, IsReserved, Refuses}
use Rattle.session_definitions.specs.Rules.{Rules}
use Rattle.session_definitions.specs.Statements.{CarriesOut}
use Rattle.session_definitions.specs.Transactions.{begun, active, is_open, is_open_in, obstacle, without_cursor}
use Rattle.session_definitions.specs.World.{Transaction, Session, World}

-- whether the statement is a FETCH of a cursor that is open
abbrev pub fetches_open : Session → Statement → Bool
fetches_open session (asks.Fetch name) = is_open_in session.transaction name
fetches_open session _ = false

-- Want of memory, a device that refused or a limit of the store may stand in place of any reply but
-- that of ROLLBACK. The world then stays as it was; but a FETCH has closed its cursor, and only
-- after want of memory it may stand as it was.
pub data Withholds (session : Session) (text : Bytes) (reply : Reply) (effect : Effect) : Type 0 where
  of_memory : (IsRollback text → ⊥) → Refuses Memory reply effect → Withholds session text reply effect
  of_store : (refusal : Refusal) (x : Statement) → IsOfStore refusal → (IsRollback text → ⊥) → IsRead text x
      → fetches_open session x ≡ false
      → Refuses refusal reply effect → Withholds session text reply effect
  closes : (refusal : Refusal) (t : Transaction) (name : Name) → IsReserved refusal → IsRead text (asks.Fetch name)
      → session.transaction ≡ Some t → is_open t name ≡ true
      → reply ≡ says.Refused refusal → effect ≡ Effect.Becomes (active session (without_cursor t name))
      → Withholds session text reply effect

-- the reply to a text, and its effect
pub data Replies (rules : Rules) (session : Session) (t : Transaction) (obstacle : Option Refusal) (text : Bytes) (reply : Reply) (effect : Effect) : Type 0 where
  unread : (refusal : Refusal) → IsUnread text refusal → Refuses refusal reply effect
      → Replies rules session t obstacle text reply effect
  carried_out : (x : Statement) → IsRead text x → CarriesOut rules session t obstacle x reply effect
      → Replies rules session t obstacle text reply effect
  withheld : Withholds session text reply effect → Replies rules session t obstacle text reply effect

-- the reply to any call, and its effect
abbrev pub Responds : Rules → Session → Transaction → Option Refusal → Asked → Reply → Effect → Type 0
Responds rules session t obstacle (Asked.Text text) = Replies rules session t obstacle text
Responds rules session t obstacle (Asked.Query text) = OpensQuery rules session t text
Responds rules session t obstacle (Asked.Rows count) = TakesRows session session.transaction count
Responds rules session t obstacle Asked.Close = ClosesQuery session session.transaction
Responds rules session t obstacle (Asked.Insert table rows) = InsertsRows rules session t obstacle table rows

-- A call of the session of this number, with its effect.
pub record Call (rules : Rules) (old : World) (s : ℕ) (asked : Asked) (reply : Reply) (effect : Effect) (new : World) : Type 0 where
  pub session : Session
  pub stands : get old.sessions s ≡ Some session
  pub replies : Responds rules session (begun old session) (obstacle old s session) asked reply effect
  pub leaves : new ≡ after old s session effect

-- A call of the session of this number.
abbrev pub StepOf : Rules → World → ℕ → Asked → Reply → World → Type 0
StepOf rules old s asked reply new = (effect : Effect) × Call rules old s asked reply effect new

-- A statement of the session of this number.
abbrev pub Step : Rules → World → ℕ → Bytes → Reply → World → Type 0
Step rules old s text reply new = StepOf rules old s (Asked.Text text) reply new
