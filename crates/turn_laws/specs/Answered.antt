-- What the turns of a query come to, said by one call of its whole text.
use Rattle.std.specs.Prelude.{◌≡◌, ℕ, true, false, List, [], ◌∷◌, is_some, Some, None, Contains}
use Rattle.std.specs.FinMap.{get}
use Rattle.refusals.specs.declared.reason.Reason.TheVariants as reason
use Rattle.refusals.specs.declared.refusal.Refusal.{Refusal}
use Rattle.refusals.specs.declared.refusal.Refusal.TheVariants.{CursorState, Invalid}
use Rattle.lexer.specs.Token.{Bytes}
use Rattle.ast.specs.declared.statement.Statement.{Statement}
use Rattle.statement_definitions.specs.Reading.{IsRead}
use Rattle.replies.specs.declared.reply.Reply.{Reply}
use Rattle.replies.specs.declared.reply.Reply.TheVariants as says
use Rattle.session_definitions.specs.Asked.{Asked}
use Rattle.session_definitions.specs.Calls.{is_query}
use Rattle.session_definitions.specs.Effect.{Effect}
use Rattle.session_definitions.specs.Refusals.{IsReserved}
use Rattle.session_definitions.specs.Rules.{Rules}
use Rattle.session_definitions.specs.Run.{Event, Moment}
use Rattle.session_definitions.specs.Step.{Step}
use Rattle.session_definitions.specs.Transactions.{begun}
use Rattle.session_definitions.specs.Turns.{exchange, exchanges_in}
use Rattle.session_definitions.specs.World.{Session, Transaction, World}

-- One of these moments is the first turn, at which the session was asked to open the query.
pub record HasFirst (s : ℕ) (text : Bytes) (moments : List Moment) : Type 0 where
  pub first : Moment
  pub among : Contains moments first
  pub opening : Reply
  pub effect : Effect
  pub opens : first.event ≡ Event.Calls s (Asked.Query text) opening effect

-- In the world of the first turn the session, asked the whole text, could have been told this
-- reply.
pub record CouldBeTold (rules : Rules) (s : ℕ) (text : Bytes) (moments : List Moment) (reply : Reply) : Type 0 where
  pub turn : HasFirst s text moments
  pub left : World
  pub told : Step rules turn.first.before s text reply left

-- And in the world behind the turns the session is as that call would have left it.
pub record IsAnswered (rules : Rules) (s : ℕ) (text : Bytes) (moments : List Moment) (reply : Reply) (end : World) : Type 0 where
  pub whole : CouldBeTold rules s text moments reply
  pub same : get end.sessions s ≡ get whole.left.sessions s

-- the first turn was refused, and nothing else was asked
abbrev pub IsAtOnce : ℕ → Bytes → List Moment → Refusal → Type 0
IsAtOnce s text moments refusal = exchanges_in s moments ≡ exchange (Asked.Query text) (says.Refused refusal) ∷ []

-- Why the turns were refused: as the whole text could have been at the first turn; or by one that
-- may stand in place of nearly any reply; or at once, since the text is another statement, or a
-- query without a name was open before.
pub data IsRefused (rules : Rules) (s : ℕ) (text : Bytes) (moments : List Moment) (refusal : Refusal) : Type 0 where
  as_whole : CouldBeTold rules s text moments (says.Refused refusal) → IsRefused rules s text moments refusal
  withheld : IsReserved refusal → IsRefused rules s text moments refusal
  other : (x : Statement) → IsRead text x → is_query x ≡ false → refusal ≡ Invalid reason.Syntax
      → IsAtOnce s text moments refusal
      → IsRefused rules s text moments refusal
  open_already : (turn : HasFirst s text moments) (session : Session) → get turn.first.before.sessions s ≡ Some session
      → is_some (begun turn.first.before session).unnamed ≡ true → refusal ≡ CursorState
      → IsAtOnce s text moments refusal
      → IsRefused rules s text moments refusal

-- the session has a transaction, in which no query without a name is open
pub record HasClosed (w : World) (s : ℕ) : Type 0 where
  pub session : Session
  pub stands : get w.sessions s ≡ Some session
  pub transaction : Transaction
  pub has : session.transaction ≡ Some transaction
  pub closed : transaction.unnamed ≡ None

-- the session is as it was before the first of its turns
pub record IsAsBefore (s : ℕ) (text : Bytes) (moments : List Moment) (end : World) : Type 0 where
  pub turn : HasFirst s text moments
  pub same : get end.sessions s ≡ get turn.first.before.sessions s
