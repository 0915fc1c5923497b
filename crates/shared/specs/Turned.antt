-- What a caller is told of a query in turns.
use Rattle.std.specs.Prelude.{Option, Some, ◌≡◌, ℕ, List, [], ◌∷◌}
use Rattle.sqlval.specs.Value.{Row}
use Rattle.lexer.specs.Token.{Bytes}
use Rattle.replies.specs.declared.reply.Reply.{Reply}
use Rattle.replies.specs.declared.reply.Reply.TheVariants as says
use Rattle.session_definitions.specs.Asked.{Asked}
use Rattle.session_definitions.specs.Turns.{AreTaken, Exchange, InTurns, exchange}
use Rattle.session_definitions.specs.World.{World}
use Rattle.sessions.specs.Kinds.{IsQueryText}
use Rattle.shared.specs.declared.event.Act.TheVariants.{Says}
use Rattle.shared.specs.declared.event.Question.{Question}
use Rattle.shared.specs.History.{asked_of}
use Rattle.shared.specs.Views.{Extends, Past}

-- Its session was asked this, and this is the reply.
pub record Turn (premise : Type 0) (start : World) (before : ℕ) (v : Past) (asked : Question) (reply : Reply) (w : Past) : Type 0 where
  pub id : ℕ
  pub at : v.at ≡ Some id
  pub call : Extends premise start before v (Says id asked reply) w

-- These are the questions to its session, and the replies, one after another and with no other call
-- of the caller between: the latest stands first.
pub data AreTurns (premise : Type 0) (start : World) (before : ℕ) (v : Past) : List Exchange → Past → Type 0 where
  none : AreTurns premise start before v [] v
  more : (earlier : List Exchange) (mid w : Past) (asked : Question) (reply : Reply)
      → AreTurns premise start before v earlier mid → Turn premise start before mid asked reply w
      → AreTurns premise start before v (exchange (asked_of asked) reply ∷ earlier) w

-- so far: the query of the text was opened, and these rows came, n at a time
pub record HasTaken (premise : Type 0) (start : World) (before : ℕ) (v : Past) (text : Bytes) (n : ℕ) (rows : List Row) (w : Past) : Type 0 where
  pub exchanges : List Exchange
  pub turns : AreTurns premise start before v exchanges w
  pub taken : AreTaken text n exchanges rows

-- and by one turn more these rows, which are not kept yet
pub record HasCome (premise : Type 0) (start : World) (before : ℕ) (v : Past) (text : Bytes) (n : ℕ) (found rows : List Row) (w : Past) : Type 0 where
  pub earlier : List Exchange
  pub turns : AreTurns premise start before v (exchange (Asked.Rows n) (says.Rows rows) ∷ earlier) w
  pub taken : AreTaken text n earlier found

-- The query of the text was asked in turns of n, and this is the reply that was put together.
pub record InAllTurns (premise : Type 0) (start : World) (before : ℕ) (v : Past) (text : Bytes) (n : ℕ) (reply : Reply) (w : Past) : Type 0 where
  pub exchanges : List Exchange
  pub turns : AreTurns premise start before v exchanges w
  pub told : InTurns text n exchanges reply

-- And the text is a query.
abbrev pub SaidInTurns : Type 0 → World → ℕ → Past → Bytes → ℕ → Reply → Past → Type 0
SaidInTurns premise start before v text n reply w = IsQueryText text × InAllTurns premise start before v text n reply w
