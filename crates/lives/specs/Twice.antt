-- Two runs over one device, one after the other. All of this is our own choice.
use Rattle.std.specs.Prelude.{◌≡◌, ◌⊎◌, ℕ, Bool, true, List, [], ◌∷◌, ◌++◌, Option, Some, None}
use Rattle.refusals.specs.declared.refusal.Refusal.{Refusal}
use Rattle.refusals.specs.declared.refusal.Refusal.TheVariants.{Disk}
use Rattle.denote.specs.Database.{Database}
use Rattle.session_definitions.specs.Rules.{Rules}
use Rattle.session_definitions.specs.Run.{Event, Moment, Run}
use Rattle.session_definitions.specs.Serial.{IsSerializable}
use Rattle.session_definitions.specs.World.{World, new_world, opened}
use Rattle.session_laws.specs.Reopening.{reopening}
use Rattle.scripts.specs.declared.script.ScriptFault.TheVariants.{Memory, Reader, Writer}
use Rattle.scripts.specs.Played.{Streams, between}
use Rattle.endings.specs.Ended.{IsNotOpened}
use Rattle.shell.specs.Runs.{CarriesOut, Ends, Left, Runs}
use Rattle.lives.specs.Committed.{AreMade, committed_from, writers}
use Rattle.lives.specs.Told.{IsScript}

-- what calls the device had refused where the last run began: the second, or else the first
abbrev pub calls_from : {D : Type 0} → (D → ℕ) → D → Option D → ℕ
calls_from calls first None = calls first
calls_from calls first (Some again) = calls again

-- the device over which the last run began
abbrev pub last_device : {D : Type 0} → D → Option D → D
last_device first None = first
last_device first (Some again) = again

-- the second run begins with this database
abbrev pub Again : Rules → Streams → Option ℕ → Bool → (Left → Type 0) → Database → Type 0
Again rules second two two_told left db = (status : ℕ) × (two ≡ Some status)
    × Runs rules (opened db) second status two_told left

-- The second run begins with the database that is left; where the store was not closed, there is no
-- second one, nothing more is read or written, and nothing was to be told of it.
abbrev pub GoesOn : Rules → Streams → Option ℕ → Bool → (Left → Type 0) → Left → Type 0
GoesOn rules second two two_told left (Left.unopened refusal db) = Again rules second two two_told left db
GoesOn rules second two two_told left (Left.committed db told) = Again rules second two two_told left db
GoesOn rules second two two_told left Left.unclosed =
    (two ≡ None) × (second.left ≡ second.given) × (second.holds ≡ second.held) × left Left.unclosed × (two_told ≡ true)

-- the first run leaves what `middle` tells, and the second goes on with it
abbrev pub Leads : Rules → Streams → Option ℕ → Bool → (Left → Type 0) → (Left → Type 0) → Left → Type 0
Leads rules second two two_told middle left what = GoesOn rules second two two_told left what × middle what

-- ---- what was done, as moments of a run

-- the pieces of a script that were carried out, with the replies that it tells of; nothing, where
-- there was no memory for it
abbrev pub Does : (rules : Rules) (streams : Streams) (old : World) (status : ℕ) (is_told : Bool) (new : World)
    → CarriesOut rules streams old status is_told new → List Moment → Type 0
Does rules streams old status is_told new (CarriesOut.whole refused all undamaged is told) moments = IsScript all.printed.pieces all.printed.played.replies moments
Does rules streams old status is_told new (CarriesOut.early Memory mid some undamaged told is) moments = moments ≡ []
Does rules streams old status is_told new (CarriesOut.early (Reader error) mid some undamaged told is) moments = IsScript some.pieces some.played.replies moments
Does rules streams old status is_told new (CarriesOut.early (Writer error) mid some undamaged told is) moments = IsScript some.stopped.done some.stopped.replies moments

-- a close that is refused in this world
abbrev pub closing : World → Moment
closing w = record { before = w; event = Event.FailsToClose Disk }

-- the script that a run carried out, and then a close, if it was refused
abbrev pub RunDoes : (rules : Rules) (old : World) (streams : Streams) (status : ℕ) (is_told : Bool) (left : Left → Type 0)
    → Runs rules old streams status is_told left → List Moment
    → Type 0
RunDoes rules old streams status is_told left (Runs.not_opened refusal stops unread told is kept) moments = moments ≡ []
RunDoes rules old streams status is_told left (Runs.closed end carried kept) moments = Does rules streams old status is_told end carried moments
RunDoes rules old streams status is_told left (Runs.not_closed before was_told mid end carried told is none) moments =
    (script : List Moment)
    × Does rules (between streams.given streams.left streams.held mid) old before was_told end carried script
    × (moments ≡ closing end ∷ script)

-- what the first run did, then close and a later open, and then what the second did
abbrev pub BothDo : (rules : Rules) (db : Database) (first second : Streams) (one : ℕ) (one_told : Bool) (two : Option ℕ) (two_told : Bool) (middle left : Left → Type 0)
    → Runs rules (opened db) first one one_told (Leads rules second two two_told middle left) → List Moment → Type 0
BothDo rules db first second one one_told two two_told middle left (Runs.not_opened refusal stops unread told is kept) moments =
    (later : List Moment) × RunDoes rules (opened db) second kept.0.0 two_told left kept.0.2 later
    × (moments ≡ later ++ reopening (opened db) ∷ [])
BothDo rules db first second one one_told two two_told middle left (Runs.closed end carried kept) moments =
    (script : List Moment) × (later : List Moment) × Does rules first (opened db) one one_told end carried script
    × RunDoes rules (opened end.last) second kept.0.0 two_told left kept.0.2 later
    × (moments ≡ later ++ reopening end ∷ script)
BothDo rules db first second one one_told two two_told middle left (Runs.not_closed before was_told mid end carried told is none) moments =
    (script : List Moment)
    × Does rules (between first.given first.left first.held mid) (opened db) before was_told end carried script
    × (moments ≡ closing end ∷ script)

-- this database is left, by a store that was not opened or was closed; or the store was not closed
abbrev pub IsLeft : (Left → Type 0) → Database → Type 0
IsLeft left db = ((refusal : Refusal) × left (Left.unopened refusal db)) ⊎ ((told : ℕ) × left (Left.committed db told))
    ⊎ left Left.unclosed

-- All that is done from this database on is one run of the definitions: of calls, of close with a
-- later open, or of a close that is refused. The databases that it committed are one list, each
-- made from the one before by one transaction; the last of them is left, or nothing is. At each
-- time in the run, what was done since the last open is serializable.
pub record IsOneRun (rules : Rules) (db : Database) (left : Left → Type 0) (done : List Moment → Type 0) : Type 0 where
  pub moments : List Moment
  pub end : World
  pub run : Run rules (opened db) moments end
  pub does : done moments
  pub made : AreMade rules db (writers moments) (committed_from db moments) end.last
  pub serial : (later earlier : List Moment) → moments ≡ later ++ earlier → IsSerializable rules (opened db) earlier
  pub kept : IsLeft left end.last

-- The first run begins with this database, and the second with the one that the first committed
-- last: `middle` tells what the first leaves, and `left` what is left in the end. Both together are
-- one run, whose calls are those of their scripts, each with the reply that was printed.
pub record RunsTwice (rules : Rules) (db : Database) (first second : Streams) (one : ℕ) (one_told : Bool) (two : Option ℕ) (two_told : Bool) (middle left : Left → Type 0) : Type 0 where
  pub both : Runs rules (opened db) first one one_told (Leads rules second two two_told middle left)
  pub together : IsOneRun rules db left (BothDo rules db first second one one_told two two_told middle left both)

-- The device was empty, and no store was opened on it by the first run, which left on it what is
-- opened as empty or is refused as damaged: the second run begins with no tables, or opens no store
-- either.
pub record BeginsAgain (rules : Rules) (db : Database) (was_new : Type 0) (first second : Streams) (one : ℕ) (one_told : Bool) (two : Option ℕ) (two_told : Bool) (has_refused has_same_bytes : Type 0) (left : Left → Type 0)
    : Type 0 where
  pub new : was_new
  pub unopened : Runs rules (opened db) first one one_told (λ what. (refusal : Refusal)
      × (what ≡ Left.unopened refusal db))
  pub status : ℕ
  pub is : two ≡ Some status
  pub again : IsNotOpened second status two_told has_refused has_same_bytes
      ⊎ Runs rules new_world second status two_told left

-- ---- any device

-- Behind a first run that handed back this device, or this core: a second run over the device,
-- which ends as a run does; or none, and nothing more is read or written.
abbrev pub GoesOnAnyhow : {D C : Type 0} → (D → Option D → Type 0) → (D → Type 0) → (D → ℕ) → (C → ℕ) → Option D
    → Option C → Streams → Option ℕ → Bool → Option D → Option C → Type 0
GoesOnAnyhow same_bytes settled calls refused (Some again) one_core second two two_told device core =
    (status : ℕ) × (two ≡ Some status)
    × Ends (same_bytes again) settled calls refused (calls again) second status two_told device core
GoesOnAnyhow same_bytes settled calls refused None one_core second two two_told device core =
    (two ≡ None) × (device ≡ None) × (core ≡ one_core) × (second.left ≡ second.given) × (second.holds ≡ second.held)
    × (two_told ≡ true)

-- However two runs over any device end: the first ends as a run does, with this device or this
-- core, and the second goes on with these.
pub record EndTwice {D C : Type 0} (same_bytes : D → Option D → Type 0) (settled : D → Type 0) (calls : D → ℕ) (refused : C → ℕ) (start : D) (first second : Streams) (one : ℕ) (one_told : Bool) (two : Option ℕ)
    (two_told : Bool) (device : Option D) (core : Option C) : Type 0 where
  pub again : Option D
  pub one_core : Option C
  pub ends : Ends (same_bytes start) settled calls refused (calls start) first one one_told again one_core
  pub goes_on : GoesOnAnyhow same_bytes settled calls refused again one_core second two two_told device core
