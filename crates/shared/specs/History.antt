-- Histories of many callers of one core: what each was told, in one order; and which of them are
-- legal (sessions are those of ISO/IEC 9075:1992, 4.30; that their calls have one order is our own
-- choice).
use Rattle.std.specs.Prelude.{Option, Some, None, Ok, Err, ◌≡◌, ℕ, ◌+◌, ◌-◌, ◌^◌, ◌<◌, ◌≤◌, ◌==◌, min, Bool, true, false, not, ◌||◌, ◌&&◌, List, [], ◌∷◌, ◌++◌, map}
use Rattle.refusals.specs.declared.refusal.Refusal.{Refusal}
use Rattle.refusals.specs.declared.refusal.Refusal.TheVariants.{Disk, Exceeded}
use Rattle.refusals.specs.declared.limit.Limit.TheVariants as limit
use Rattle.session_definitions.specs.Asked.{Asked}
use Rattle.session_definitions.specs.Rules.{Rules, AreRules}
use Rattle.session_definitions.specs.Run as runs
use Rattle.session_definitions.specs.World.{World}
use Rattle.session_laws.specs.Sound.{IsGoodWorld}
use Rattle.store.specs.Errors.{HasRisen, Never}
use Rattle.lexer.specs.Token.{Bytes}
use Rattle.replies.specs.declared.reply.Reply.{Reply}
use Rattle.replies.specs.declared.reply.Reply.TheVariants as says
use Rattle.sessions.specs.Limits.{CallReaches}
use Rattle.store.specs.declared.error.StoreLimit.{StoreLimit}
use Rattle.transactions.specs.Refused.{Counts, IfRefused, TellsReached}
use Rattle.shared.specs.declared.event.Event.{Event}
use Rattle.shared.specs.declared.event.Act.{Act}
use Rattle.shared.specs.declared.event.Act.TheVariants.{Connects, Refused, Says, Ends}
use Rattle.shared.specs.declared.event.Question.{Question}
use Rattle.shared.specs.declared.event.Question.TheVariants.{Text, Query, Rows, Close}

abbrev pub event : ℕ → Act → ℕ → Event
event who act refused = record { who = who; act = act; refused = refused }

-- what a session was asked, in the words of sessions
abbrev pub asked_of : Question → Asked
asked_of (Text text) = Asked.Text text
asked_of (Query text) = Asked.Query text
asked_of (Rows count) = Asked.Rows count
asked_of Close = Asked.Close

-- ---- legal histories

-- What is told of an event of an engine. Of a call it is the reply, and not its effect; of a flush
-- nobody is told, and a legal history has no other events.
abbrev pub told_of : runs.Event → List Act
told_of (runs.Event.Makes (Ok s)) = Connects s ∷ []
told_of (runs.Event.Makes (Err refusal)) = Refused refusal ∷ []
told_of (runs.Event.Calls s (Asked.Text text) reply effect) = Says s (Text text) reply ∷ []
told_of (runs.Event.Calls s (Asked.Query text) reply effect) = Says s (Query text) reply ∷ []
told_of (runs.Event.Calls s (Asked.Rows count) reply effect) = Says s (Rows count) reply ∷ []
told_of (runs.Event.Calls s Asked.Close reply effect) = Says s Close reply ∷ []
told_of (runs.Event.Calls s (Asked.Insert table rows) reply effect) = []
told_of (runs.Event.Drops s) = Ends s ∷ []
told_of (runs.Event.Flushes left) = []
told_of (runs.Event.SetsPieces pieces) = []
told_of (runs.Event.FailsToClose refusal) = []
told_of runs.Event.Reopens = []

-- what is told of these events, the latest of which stands first, in the order in which they
-- happened
abbrev pub told_by : List runs.Event → List Act
told_by [] = []
told_by (e ∷ earlier) = told_by earlier ++ told_of e

-- what the callers were told, whoever they are
abbrev pub acts_of : List Event → List Act
acts_of log = map (λ e. e.act) log

-- Some legal history of the engine, calls and flushes, leads from the one world to the other, and
-- just this is told of it.
pub record IsTold (rules : Rules) (start : World) (log : List Event) (end : World) : Type 0 where
  pub events : List runs.Event
  pub legal : runs.IsLegal rules start events end
  pub told : told_by events ≡ acts_of log

-- what was told is told of some legal history that begins in this world
abbrev pub IsLegal : World → List Event → Type 0
IsLegal start log = (rules : Rules) → AreRules rules → IsGoodWorld rules.check start
    → (end : World) × IsTold rules start log end

-- a core whose world was this one is sound still, and some legal history of which this is told
-- leads to its world
abbrev pub Stays : World → List Event → Type 0 → World → Type 0
Stays start log sound world = (rules : Rules) → AreRules rules → IsGoodWorld rules.check start
    → sound × IsTold rules start log world

-- one call of a core from a good world: it stays sound, and some event happens of which just this
-- is told
pub record Happens (rules : Rules) (w : World) (act : Act) (w' : World) : Type 0 where
  pub event : runs.Event
  pub shared : (runs.is_call event || runs.is_flush event) ≡ true
  pub told : told_of event ≡ act ∷ []
  pub happens : runs.Happens rules w event w'

-- ---- the callers of a history

-- whether a session stands after a call, by whether it stood before
abbrev pub lives_after : Act → ℕ → Bool → Bool
lives_after (Connects i) id stood = (id == i) || stood
lives_after (Refused refusal) id stood = stood
lives_after (Says i asked reply) id stood = stood
lives_after (Ends i) id stood = not (id == i) && stood

abbrev pub kept : Bool → Event → List Event → List Event
kept true e es = e ∷ es
kept false e es = es

-- the calls of one caller
abbrev pub calls_by : ℕ → List Event → List Event
calls_by who [] = []
calls_by who (e ∷ es) = kept (e.who == who) e (calls_by who es)

abbrev pub given : Bool → Option ℕ → Option ℕ → Option ℕ
given true new old = new
given false new old = old

-- whose session of this number it is after a call, by whose it was before
abbrev pub moved : ℕ → ℕ → Act → Option ℕ → Option ℕ
moved id who (Connects i) holder = given (i == id) (Some who) holder
moved id who (Refused refusal) holder = holder
moved id who (Says i asked reply) holder = holder
moved id who (Ends i) holder = given (i == id) None holder

abbrev pub holder_from : ℕ → Option ℕ → List Event → Option ℕ
holder_from id holder [] = holder
holder_from id holder (e ∷ es) = holder_from id (moved id e.who e.act holder) es

-- whose the session of this number is; numbers of sessions come again
abbrev pub holder_of : ℕ → List Event → Option ℕ
holder_of id log = holder_from id None log

-- The call is of the session that its caller has then, by the calls before it; where it is made
-- one, nobody had a session of that number.
abbrev pub IsOwn : List Event → ℕ → Act → Type 0
IsOwn before who (Connects id) = holder_of id before ≡ None
IsOwn before who (Refused refusal) = Unit {0}
IsOwn before who (Says id asked reply) = holder_of id before ≡ Some who
IsOwn before who (Ends id) = holder_of id before ≡ Some who

-- and so is each of these calls, which come behind those
abbrev pub AreOwnBehind : List Event → List Event → Type 0
AreOwnBehind before [] = Unit {0}
AreOwnBehind before (e ∷ es) = IsOwn before e.who e.act × AreOwnBehind (before ++ e ∷ []) es

-- each call of a history is of its caller's own session
abbrev pub AreOwn : List Event → Type 0
AreOwn log = AreOwnBehind [] log

-- every call is one of the first n callers
abbrev pub AllOf : ℕ → List Event → Type 0
AllOf n [] = Unit {0}
AllOf n (e ∷ es) = (e.who < n) × AllOf n es

-- the number of the caller's session after its call
abbrev pub at_after : Act → Option ℕ → Option ℕ
at_after (Connects id) at = Some id
at_after (Refused refusal) at = at
at_after (Says id asked reply) at = at
at_after (Ends id) at = None

-- each call is such a one
abbrev pub EachAct : (Act → Type 0) → List Event → Type 0
EachAct P [] = Unit {0}
EachAct P (e ∷ es) = P e.act × EachAct P es

-- ---- refusals of the device, and by limits of the store

-- X0002 is told of a call only where the count of refused calls rose from the one to the other
abbrev pub TellsDevice : Act → ℕ → ℕ → Type 0
TellsDevice (Connects id) before after = Unit {0}
TellsDevice (Refused refusal) before after = refusal ≡ Disk → HasRisen before after
TellsDevice (Says id asked reply) before after = Counts reply before after
TellsDevice (Ends id) before after = Unit {0}

-- The counts after the calls do not fall, from the one before the history to the one that is
-- reached now, and where a call is told X0002 the count rose since the call before it.
abbrev pub AllTellDevice : List Event → ℕ → ℕ → Type 0
AllTellDevice [] before after = before ≤ after
AllTellDevice (e ∷ es) before after = (before ≤ e.refused) × TellsDevice e.act before e.refused
    × AllTellDevice es e.refused after

abbrev pub is_disk : Refusal → Bool
is_disk Disk = true
is_disk _ = false

abbrev pub says_disk : Reply → Bool
says_disk (says.Refused refusal) = is_disk refusal
says_disk _ = false

-- whether a call is told X0002
abbrev pub tells_disk : Act → Bool
tells_disk (Connects id) = false
tells_disk (Refused refusal) = is_disk refusal
tells_disk (Says id asked reply) = says_disk reply
tells_disk (Ends id) = false

abbrev pub one_if : Bool → ℕ
one_if true = 1
one_if false = 0

-- how many calls of a history are told X0002
abbrev pub disks_told : List Event → ℕ
disks_told [] = 0
disks_told (e ∷ es) = one_if (tells_disk e.act) + disks_told es

-- a count of 64 bits rose by so much at least, or stays at its greatest
abbrev pub HasRisenBy : ℕ → ℕ → ℕ → Type 0
HasRisenBy n before after = min (before + n) (2 ^ 64 - 1) ≤ after

-- The text may reach a limit of what the store counts, its pages, private pages or kept page
-- images: a change each of them, and a COMMIT, which takes no private page, the others.
abbrev pub TextMayReach : Bytes → StoreLimit → Type 0
TextMayReach text which = (commits : ℕ) × CallReaches (λ _. Unit {0}) commits text which

-- the question may reach it: a text as said, and no other question
abbrev pub MayReach : Question → StoreLimit → Type 0
MayReach (Text text) = TextMayReach text
MayReach (Query text) = Never
MayReach (Rows count) = Never
MayReach Close = Never

-- a call tells such a limit only where what was asked may reach it; no session is made only where
-- as many stand as may
abbrev pub ActTellsLimits : Act → Type 0
ActTellsLimits (Connects id) = Unit {0}
ActTellsLimits (Refused refusal) = refusal ≡ Exceeded limit.Sessions
ActTellsLimits (Says id asked reply) = IfRefused reply (TellsReached (MayReach asked))
ActTellsLimits (Ends id) = Unit {0}

-- The count of refused calls has not fallen since it was the one. X0002 was told of a call only
-- where it rose with this call, and so of no more calls than the device refused; limits of the
-- store were told only of what may reach them.
pub record IsCounted (before after : ℕ) (log : List Event) : Type 0 where
  pub least : before ≤ after
  pub told : AllTellDevice log before after
  pub as_many : HasRisenBy (disks_told log) before after
  pub limits : EachAct ActTellsLimits log
