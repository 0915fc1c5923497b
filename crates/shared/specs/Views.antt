-- What passes know, the rule of the cell, and what a call tells its caller.
use Rattle.std.specs.Prelude.{Option, Some, None, ◌≡◌, ◌≢◌, ℕ, ◌+◌, ◌%◌, ◌^◌, ◌<◌, true, false, List, [], ◌∷◌, ◌++◌, length, slice_get, slice_index, is_some}
use mathlib.Core.Option.{some}
use mathlib.Core.List.{IsPrefix}
use lib.ListN.{get_elem?}
use Rattle.atomic_table.specs.Seated.{TableId}
use Rattle.lexer.specs.Token.{Bytes}
use Rattle.replies.specs.declared.reply.Reply.{Reply}
use Rattle.replies.specs.declared.reply.Reply.TheVariants.{Done}
use Rattle.transactions.specs.Refused.{IfRefused, TellsReached}
use Rattle.refusals.specs.declared.refusal.Refusal.{Refusal}
use Rattle.session_definitions.specs.World.{World, is_live}
use Rattle.statement_definitions.specs.Rollback.{IsRollback}
use Rattle.shared.specs.declared.event.Event.{Event}
use Rattle.shared.specs.declared.event.Act.{Act}
use Rattle.shared.specs.declared.event.Act.TheVariants.{Connects, Refused, Says, Ends}
use Rattle.shared.specs.declared.event.Question.TheVariants.{Text}
use Rattle.shared.specs.declared.rule.View.{View}
use Rattle.shared.specs.History.{IsCounted, IsLegal, Stays, event, calls_by, holder_of, AllOf, AreOwn, TextMayReach, at_after}

-- the name of no cell
abbrev pub no_table : TableId
no_table = record { words = 0; slots = 0; views_name = 0; atom = 0; block = 0; offset = 0; slot_names = [] }

-- ---- views

-- the pass under the lock knows the history
abbrev pub keeper : ℕ → List Event → View
keeper names log = record { keeps = true; names = names; log = log; calls = false; who = 0; at = None; seen = []; mine = [] }

-- a caller knows what it has seen, and its own calls
abbrev pub caller : ℕ → Option ℕ → List Event → List Event → View
caller who at seen mine = record { keeps = false; names = 0; log = []; calls = true; who = who; at = at; seen = seen; mine = mine }

abbrev pub nobody : View
nobody = record { keeps = false; names = 0; log = []; calls = false; who = 0; at = None; seen = []; mine = [] }

-- the pass under the lock with a caller's taken in, and each of the two again
abbrev pub host : View → View → View
host v w = record { keeps = v.keeps; names = v.names; log = v.log; calls = w.calls; who = w.who; at = w.at; seen = w.seen; mine = w.mine }

abbrev pub keeper_in : View → View
keeper_in v = keeper v.names v.log

abbrev pub caller_in : View → View
caller_in v = caller v.who v.at v.seen v.mine

-- one caller more, which made no call
abbrev pub one_more : View → View
one_more v = keeper (v.names + 1) v.log

abbrev pub newcomer : View → View
newcomer v = caller v.names None [] []

-- after one call more of the caller that was taken in, which then has seen all
abbrev pub extended : Event → View → View
extended e v = record { keeps = v.keeps; names = v.names; log = v.log ++ e ∷ []; calls = v.calls; who = v.who; at = at_after e.act v.at; seen = v.log ++ e ∷ []; mine = v.mine ++ e ∷ [] }

-- ---- the rule

-- the session of this number is the caller's
abbrev pub IsAt : List Event → ℕ → Option ℕ → Type 0
IsAt log who None = Unit {0}
IsAt log who (Some id) = holder_of id log ≡ Some who

-- A caller has seen a beginning of the history, and the calls that it made are all that the history
-- has of it. Its session is the one that the history leaves to it, and no other is.
pub record Calls (names : ℕ) (log : List Event) (v : View) : Type 0 where
  pub named : v.who < names
  pub saw : IsPrefix v.seen log
  pub made : calls_by v.who log ≡ v.mine
  pub stands : IsAt log v.who v.at
  pub alone : (id : ℕ) → holder_of id log ≡ Some v.who → v.at ≡ Some id

-- what the rule says of a pass in its seat: one knows the history, and each caller has one
abbrev pub Fits : ℕ → (ℕ → ℕ) → ℕ → List Event → ℕ → View → Type 0
Fits seat seats names log by v =
    (v.keeps ≡ true → (by ≡ seat) × (v.names ≡ names) × (v.log ≡ log))
    × (v.calls ≡ true → (by ≡ seats v.who) × Calls names log v)

-- There is one history of the calls of so many callers, and the word is its length modulo 2^64.
pub record Kept (words : List ℕ) (views : List View) : Type 0 where
  pub seat : ℕ
  pub seats : ℕ → ℕ
  pub names : ℕ
  pub log : List Event
  pub counted : slice_index words 0 ≡ length log % 2 ^ 64
  pub all_of : AllOf names log
  pub fits : (by : ℕ) (v : View) → get_elem? views by ≡ some v → Fits seat seats names log by v

-- the call may come next: a new session's number is nobody's, and its caller has none; and a call
-- of a session is its caller's
abbrev pub May : View → Act → Type 0
May v (Connects id) = (v.at ≡ None) × (holder_of id v.log ≡ None)
May v (Refused refusal) = Unit {0}
May v (Says id asked reply) = v.at ≡ Some id
May v (Ends id) = v.at ≡ Some id

-- what the rule tells of the caller that was taken in
abbrev pub Told : View → Type 0
Told v = Calls v.names v.log v

-- what a step that records a call tells
abbrev pub Adds : Event → View → List ℕ → List ℕ → View → Type 0
Adds e v before after w = w ≡ extended e v

-- what a step that looks tells
abbrev pub Peeks : View → List ℕ → List ℕ → View → Type 0
Peeks v before after w = (w ≡ v) × Told v × AllOf v.names v.log

-- ---- the locked value

-- The locked core's world is the one after the history that its pass knows, and the count is the
-- history's length modulo 2^64. Which sessions stand is known also where the premise does not hold,
-- under which the core is sound and the history legal.
pub record IsDesk (premise : Type 0) (start : World) (callers : Option ℕ) (is_sound : Type 0) (world : World) (count : ℕ) (v : View) : Type 0 where
  pub keeps : v.keeps ≡ true
  pub counted : count ≡ length v.log % 2 ^ 64
  pub live : (id : ℕ) → is_live world id ≡ is_some (holder_of id v.log)
  pub limit : (n : ℕ) → callers ≡ Some n → v.names ≡ n
  pub all_of : AllOf v.names v.log
  pub own : AreOwn v.log
  pub tells : premise → Stays start v.log is_sound world

-- What is locked, as clauses see it: the history, how many calls the core's device has refused, and
-- how many pages are committed and not on it. The core's world is always one after the history.
pub record Locked : Type 0 where
  pub log : List Event
  pub refused : ℕ
  pub unwritten : ℕ

abbrev pub locked : List Event → ℕ → ℕ → Locked
locked log refused unwritten = record { log = log; refused = refused; unwritten = unwritten }

-- ---- what a call tells

-- a caller: its number, its session's number, what it has seen, and the calls that it made
pub record Past : Type 0 where
  pub who : ℕ
  pub at : Option ℕ
  pub seen : List Event
  pub mine : List Event

abbrev pub past : View → Past
past v = record { who = v.who; at = v.at; seen = v.seen; mine = v.mine }

-- the caller of this number, which has made no call and has no session
abbrev pub IsNew : ℕ → Past → Type 0
IsNew who caller = (caller.who ≡ who) × (caller.seen ≡ []) × (caller.mine ≡ []) × (caller.at ≡ None)

-- so many of them, by their numbers
abbrev pub AreNew : ℕ → List Past → Type 0
AreNew count callers = (length callers ≡ count)
    × ((k : ℕ) (caller : Past) → slice_get callers k ≡ Some caller → IsNew k caller)

-- a caller has seen a beginning of the history, in which its calls are those that it made; and the
-- history leaves it no session
pub record IsHeard (log : List Event) (caller : Past) : Type 0 where
  pub saw : IsPrefix caller.seen log
  pub made : calls_by caller.who log ≡ caller.mine
  pub idle : (id : ℕ) → holder_of id log ≢ Some caller.who

abbrev pub AllHeard : List Event → List Past → Type 0
AllHeard log [] = Unit {0}
AllHeard log (caller ∷ callers) = IsHeard log caller × AllHeard log callers

-- There is one history, in which each of these callers is heard; where it was settled how many
-- callers there are, no other made a call in it. The device had refused `before` calls when it
-- began, and has refused `after` in the core that is handed back. Each call is of its caller's own
-- session, and the sessions that stand are those that the history leaves to somebody. Under the
-- premise it is legal, and the world is the one after it.
pub record HasHistory (premise : Type 0) (start : World) (before : ℕ) (settled : Option ℕ) (callers : List Past) (is_sound : Type 0) (world : World) (after : ℕ) : Type 0 where
  pub log : List Event
  pub heard : AllHeard log callers
  pub all_of : (n : ℕ) → settled ≡ Some n → AllOf n log
  pub own : AreOwn log
  pub counted : IsCounted before after log
  pub live : (id : ℕ) → is_live world id ≡ is_some (holder_of id log)
  pub tells : premise → Stays start log is_sound world

-- One call. The history after it begins with all that the caller had seen, and ends with the call.
-- The calls of the caller in it are those that it made: those from before, and this one. The device
-- had refused `before` calls when the history began, and `refused` after this call. Each call of
-- the history is of its caller's own session. Under the premise it is legal.
pub record Extends (premise : Type 0) (start : World) (before : ℕ) (v : Past) (act : Act) (w : Past) : Type 0 where
  pub who : w.who ≡ v.who
  pub at : w.at ≡ at_after act v.at
  pub refused : ℕ
  pub between : List Event
  pub seen : w.seen ≡ (v.seen ++ between) ++ event v.who act refused ∷ []
  pub mine : w.mine ≡ v.mine ++ event v.who act refused ∷ []
  pub made : calls_by w.who w.seen ≡ w.mine
  pub own : AreOwn w.seen
  pub counted : IsCounted before refused w.seen
  pub legal : premise → IsLegal start w.seen

-- Its session was asked this, and this is the reply, which tells a limit of what the store counts
-- only of a text that may reach it. ROLLBACK is always carried out.
pub record Said (premise : Type 0) (start : World) (before : ℕ) (v : Past) (text : Bytes) (reply : Reply) (w : Past) : Type 0 where
  pub id : ℕ
  pub at : v.at ≡ Some id
  pub call : Extends premise start before v (Says id (Text text) reply) w
  pub limits : IfRefused reply (TellsReached (TextMayReach text))
  pub rolled_back : IsRollback text → reply ≡ Done

-- it was made a session
pub record Joined (premise : Type 0) (start : World) (before : ℕ) (v w : Past) : Type 0 where
  pub id : ℕ
  pub at : w.at ≡ Some id
  pub call : Extends premise start before v (Connects id) w

-- it was made none, for this reason
abbrev pub TurnedAway : Type 0 → World → ℕ → Past → Refusal → Past → Type 0
TurnedAway premise start before v refusal w = Extends premise start before v (Refused refusal) w

-- its session was ended
pub record Left (premise : Type 0) (start : World) (before : ℕ) (v w : Past) : Type 0 where
  pub id : ℕ
  pub at : v.at ≡ Some id
  pub call : Extends premise start before v (Ends id) w
