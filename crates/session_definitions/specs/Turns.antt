-- A query in turns: one call opens its cursor, which has no name, further ones take its rows, n at
-- a time, and the last closes it; between them there may be calls of other sessions, flushes and
-- settings (all our own choice). n is at least 1: with 0 no turn would give fewer.
use Rattle.std.specs.Prelude.{ℕ, ◌≡◌, ◌<◌, ◌==◌, Bool, true, false, not, List, [], ◌∷◌, ◌++◌, length, if◌then◌else◌}
use Rattle.std.specs.List.{list_all}
use Rattle.sqlval.specs.Value.{Row}
use Rattle.refusals.specs.declared.refusal.Refusal.{Refusal}
use Rattle.refusals.specs.declared.refusal.Refusal.TheVariants.{Memory}
use Rattle.lexer.specs.Token.{Bytes}
use Rattle.replies.specs.declared.reply.Reply.{Reply}
use Rattle.replies.specs.declared.reply.Reply.TheVariants as says
use Rattle.session_definitions.specs.Asked.{Asked}
use Rattle.session_definitions.specs.Run.{Event, Moment}

-- ---- what one session is asked and answered

-- what was asked, and its reply
pub record Exchange : Type 0 where
  pub asked : Asked
  pub reply : Reply

abbrev pub exchange : Asked → Reply → Exchange
exchange asked reply = record { asked = asked; reply = reply }

-- The query of the text was opened, and then these rows came, n at a time, none of which was the
-- last. The latest exchange stands first.
pub data AreTaken (text : Bytes) (n : ℕ) : List Exchange → List Row → Type 0 where
  opened : AreTaken text n (exchange (Asked.Query text) says.Done ∷ []) []
  more : (earlier : List Exchange) (before rows : List Row) → AreTaken text n earlier before → length rows ≡ n
      → AreTaken text n (exchange (Asked.Rows n) (says.Rows rows) ∷ earlier) (before ++ rows)

-- The exchanges of a query in turns, the latest of which stands first, and the reply that the
-- caller puts together from them: all rows, where a turn gave fewer than n, behind which the query
-- was closed; the first refusal, behind which nothing was asked; or want of memory to keep the rows
-- of all turns, behind which it was closed too.
pub data InTurns (text : Bytes) (n : ℕ) : List Exchange → Reply → Type 0 where
  not_opened : (refusal : Refusal)
      → InTurns text n (exchange (Asked.Query text) (says.Refused refusal) ∷ []) (says.Refused refusal)
  refused : (earlier : List Exchange) (before : List Row) (refusal : Refusal) → AreTaken text n earlier before
      → InTurns text n (exchange (Asked.Rows n) (says.Refused refusal) ∷ earlier) (says.Refused refusal)
  fewer : (earlier : List Exchange) (before rows : List Row) (closing : Reply) → AreTaken text n earlier before
      → length rows < n
      → InTurns text n (exchange Asked.Close closing ∷ exchange (Asked.Rows n) (says.Rows rows) ∷ earlier)
      (says.Rows (before ++ rows))
  unkept : (earlier : List Exchange) (before rows : List Row) (closing : Reply) → AreTaken text n earlier before
      → InTurns text n (exchange Asked.Close closing ∷ exchange (Asked.Rows n) (says.Rows rows) ∷ earlier)
      (says.Refused Memory)

-- ---- among the moments of a run

-- what an event asks the session of this number, if it is a call of it
abbrev pub exchange_in : ℕ → Event → List Exchange
exchange_in s (Event.Calls t asked reply effect) = if t == s then exchange asked reply ∷ [] else []
exchange_in s (Event.Makes made) = []
exchange_in s (Event.Drops t) = []
exchange_in s (Event.Flushes left) = []
exchange_in s (Event.SetsPieces pieces) = []
exchange_in s (Event.FailsToClose refusal) = []
exchange_in s Event.Reopens = []

-- what the session was asked at these moments, and its replies, the latest first
abbrev pub exchanges_in : ℕ → List Moment → List Exchange
exchanges_in s [] = []
exchanges_in s (moment ∷ earlier) = exchange_in s moment.event ++ exchanges_in s earlier

-- whether the session of this number ends with the event: by itself, or with all others
abbrev pub is_end_of : ℕ → Event → Bool
is_end_of s (Event.Drops t) = t == s
is_end_of s (Event.FailsToClose refusal) = true
is_end_of s Event.Reopens = true
is_end_of s (Event.Makes made) = false
is_end_of s (Event.Calls t asked reply effect) = false
is_end_of s (Event.Flushes left) = false
is_end_of s (Event.SetsPieces pieces) = false

-- At these moments the session was asked the query in turns of n, and nothing else, and it did not
-- end. Whatever else happened was of others.
pub record TakesTurns (s : ℕ) (text : Bytes) (n : ℕ) (moments : List Moment) (reply : Reply) : Type 0 where
  pub turns : InTurns text n (exchanges_in s moments) reply
  pub stands : list_all (λ moment. not (is_end_of s moment.event)) moments ≡ true
