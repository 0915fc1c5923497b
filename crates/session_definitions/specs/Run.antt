-- What happens to an engine over time: calls of sessions, the making and ending of sessions,
-- flushes, the setting of how many pieces a query may be evaluated in, and close with a later open
-- (sessions begin and end by 4.30 and 15 of ISO/IEC 9075:1992; all else is our own choice).
use Rattle.std.specs.Prelude.{◌≡◌, ◌⊎◌, ℕ, ◌<◌, Bool, true, false, ◌||◌, List, [], ◌∷◌, ◌++◌, map, filter, Result, Ok, Err, Some, None, if◌then◌else◌}
use Rattle.std.specs.List.{list_all}
use Rattle.std.specs.FinMap.{get, remove, empty}
use Rattle.refusals.specs.declared.refusal.Refusal.{Refusal}
use Rattle.refusals.specs.declared.refusal.Refusal.TheVariants.{Memory, Disk, Exceeded}
use Rattle.refusals.specs.declared.limit.Limit.TheVariants as limit
use Rattle.denote.specs.Database.{Database}
use Rattle.replies.specs.declared.reply.Reply.{Reply}
use Rattle.session_definitions.specs.Asked.{Asked, is_shared}
use Rattle.session_definitions.specs.Effect.{Effect, writer_without}
use Rattle.session_definitions.specs.Refusals.{StopsFlush}
use Rattle.session_definitions.specs.Rules.{Rules}
use Rattle.session_definitions.specs.Step.{Call}
use Rattle.session_definitions.specs.World.{Session, World, is_live, is_writer, new_session, opened, with_session}

-- An event, with its reply. Of a call its effect is told too: what was asked, reply and world do not
-- always determine it (a FETCH that is refused for want of memory may have closed its cursor or
-- not).
pub data Event : Type 0 where
  Makes : (made : Result ℕ Refusal) → Event
  Calls : (session : ℕ) → (asked : Asked) → (reply : Reply) → (effect : Effect) → Event
  Drops : (session : ℕ) → Event
  Flushes : (left : Result ℕ Refusal) → Event
  SetsPieces : (pieces : ℕ) → Event
  FailsToClose : (refusal : Refusal) → Event
  Reopens : Event

-- the greatest number of sessions at a time (our own choice)
abbrev pub most_sessions : ℕ
most_sessions = 64

-- the least number, from 0, that no session has
pub record IsLeastFree (w : World) (s : ℕ) : Type 0 where
  pub free : is_live w s ≡ false
  pub least : (k : ℕ) → k < s → is_live w k ≡ true

-- as many sessions stand as may: each number is one's
abbrev pub IsFull : World → Type 0
IsFull w = (k : ℕ) → k < most_sessions → is_live w k ≡ true

-- a new session gets the least number that no other has; none is made where as many stand as may,
-- or for want of memory
abbrev pub MakesSession : World → Result ℕ Refusal → World → Type 0
MakesSession old (Ok s) new = IsLeastFree old s × (s < most_sessions) × (new ≡ with_session old s new_session)
MakesSession old (Err refusal) new = ((IsFull old × (refusal ≡ Exceeded limit.Sessions))
    ⊎ ((IsFull old → ⊥) × (refusal ≡ Memory)))
    × (new ≡ old)

-- the world without a session, whose transaction is rolled back
abbrev pub without_session : World → ℕ → World
without_session w s = record w { writer = writer_without w s; sessions = remove w.sessions s }

pub record DropsSession (old : World) (s : ℕ) (new : World) : Type 0 where
  pub session : Session
  pub stands : get old.sessions s ≡ Some session
  pub leaves : new ≡ without_session old s

-- the world in which all sessions have ended
abbrev pub without_sessions : World → World
without_sessions w = record w { writer = None; sessions = empty }

-- a flush writes pages and changes no world; it is refused for want of memory or by the device
-- alone
abbrev pub FlushesPages : World → Result ℕ Refusal → World → Type 0
FlushesPages old (Ok left) new = new ≡ old
FlushesPages old (Err refusal) new = StopsFlush refusal × (new ≡ old)

-- an event happens, and leaves this world
abbrev pub Happens : Rules → World → Event → World → Type 0
Happens rules old (Event.Makes made) new = MakesSession old made new
Happens rules old (Event.Calls s asked reply effect) new = Call rules old s asked reply effect new
Happens rules old (Event.Drops s) new = DropsSession old s new
Happens rules old (Event.Flushes left) new = FlushesPages old left new
Happens rules old (Event.SetsPieces pieces) new = new ≡ old
Happens rules old (Event.FailsToClose refusal) new = (refusal ≡ Disk) × (new ≡ without_sessions old)
Happens rules old Event.Reopens new = new ≡ opened old.last

-- ---- runs

-- an event, and the world in which it happened
pub record Moment : Type 0 where
  pub before : World
  pub event : Event

-- Events happened one after another, from one world to another. The latest stands first.
abbrev pub Run : Rules → World → List Moment → World → Type 0
Run rules start [] end = end ≡ start
Run rules start (moment ∷ earlier) end = Run rules start earlier moment.before
    × Happens rules moment.before moment.event end

-- What sessions do: they are made, also where that is refused, asked statements and queries in
-- turns, and ended. Callers that share an engine ask nothing else of it.
abbrev pub is_call : Event → Bool
is_call (Event.Makes made) = true
is_call (Event.Calls s asked reply effect) = is_shared asked
is_call (Event.Drops s) = true
is_call (Event.Flushes left) = false
is_call (Event.SetsPieces pieces) = false
is_call (Event.FailsToClose refusal) = false
is_call Event.Reopens = false

abbrev pub is_flush : Event → Bool
is_flush (Event.Flushes left) = true
is_flush (Event.Makes made) = false
is_flush (Event.Calls s asked reply effect) = false
is_flush (Event.Drops s) = false
is_flush (Event.SetsPieces pieces) = false
is_flush (Event.FailsToClose refusal) = false
is_flush Event.Reopens = false

-- the calls among events
abbrev pub calls_of : List Event → List Event
calls_of = filter is_call

-- Calls and flushes, the latest first, can have happened in this order from the one world to the
-- other: a legal history.
pub record IsLegal (rules : Rules) (start : World) (events : List Event) (end : World) : Type 0 where
  pub shared : list_all (λ event. is_call event || is_flush event) events ≡ true
  pub moments : List Moment
  pub told : map (λ moment. moment.event) moments ≡ events
  pub run : Run rules start moments end

-- ---- the databases that were committed

-- with what a COMMIT adds, if it is the writer's
abbrev pub lengthened : World → Event → List Database → List Database
lengthened w (Event.Calls s asked reply (Effect.Commits t)) dbs = if is_writer w s then dbs ++ t.working ∷ [] else dbs
lengthened w (Event.Calls s asked reply Effect.Nothing) dbs = dbs
lengthened w (Event.Calls s asked reply (Effect.Becomes session)) dbs = dbs
lengthened w (Event.Calls s asked reply (Effect.Writes session)) dbs = dbs
lengthened w (Event.Calls s asked reply Effect.RollsBack) dbs = dbs
lengthened w (Event.Makes made) dbs = dbs
lengthened w (Event.Drops s) dbs = dbs
lengthened w (Event.Flushes left) dbs = dbs
lengthened w (Event.SetsPieces pieces) dbs = dbs
lengthened w (Event.FailsToClose refusal) dbs = dbs
lengthened w Event.Reopens dbs = w.last ∷ []

-- The committed databases since the last open, in the order of their commits; the first is the one
-- that was opened.
abbrev pub history : World → List Moment → List Database
history start [] = start.last ∷ []
history start (moment ∷ earlier) = lengthened moment.before moment.event (history start earlier)
