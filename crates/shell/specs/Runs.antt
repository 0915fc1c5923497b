-- What `sqlsh run` does over a store, from the bytes that it reads to those that it writes. All of
-- this is our own choice.
use Rattle.std.specs.Prelude.{◌≡◌, ◌≤◌, ◌+◌, ◌-◌, ◌^◌, min, ℕ, Bool, true, false, List, Option, Some, None, IfSome, Result, Ok, Err}
use Rattle.refusals.specs.declared.refusal.Refusal.{Refusal}
use Rattle.refusals.specs.declared.refusal.Refusal.TheVariants.{Disk}
use Rattle.denote.specs.Database.{Database, CheckReading, IsGood}
use Rattle.replies.specs.declared.reply.Reply.{Reply}
use Rattle.session_definitions.specs.Refusals.{StopsFlush}
use Rattle.session_definitions.specs.Rules.{Rules}
use Rattle.session_definitions.specs.World.{World}
use Rattle.session_laws.specs.Damage.{has_damage}
use Rattle.scripts.specs.declared.script.ScriptFault.{ScriptFault}
use Rattle.scripts.specs.Device.{TellDevice, disk_count}
use Rattle.scripts.specs.Played.{Streams, between, IsWhole, EndsEarly, replies_before}
use Rattle.scripts.specs.Shown.{ShowsWhole, ShowsEarly}
use Rattle.shell.specs.Status.{status_of, refusal_of}
use Rattle.endings.specs.Ended.{HasRefused, HasSameBytes, IsNotOpened, IsSavedOn, TellsBehind}
use Rattle.endings.specs.Tells.{Tells}

-- what is written where a script has ended: nothing more, or what ended it
abbrev pub Says : Result Bool ScriptFault → Bool → Option (List ℕ) → Option (List ℕ) → Type 0
Says (Ok refused) is_told held holds = (holds ≡ held) × (is_told ≡ true)
Says (Err fault) is_told held holds = Tells (refusal_of fault) is_told held holds

-- The script was carried out to its end, or ended early, which is then said. The status tells it,
-- and no reply is X0004. `is_told` tells whether what was to be said was written whole: so it was
-- where there was nothing to say.
pub data CarriesOut (rules : Rules) (streams : Streams) (old : World) (status : ℕ) (is_told : Bool) (new : World) : Type 0 where
  whole : (refused : Bool) (all : IsWhole rules streams old refused new) → has_damage all.printed.played.replies ≡ false
      → status ≡ status_of (Ok refused) → is_told ≡ true → CarriesOut rules streams old status is_told new
  early : (fault : ScriptFault) (mid : Option (List ℕ)) (some : EndsEarly rules (between streams.given streams.left streams.held mid) old fault new)
      → has_damage (replies_before rules (between streams.given streams.left streams.held mid) old fault new some) ≡ false
      → Tells (refusal_of fault) is_told mid streams.holds → status ≡ status_of (Err fault)
      → CarriesOut rules streams old status is_told new

abbrev pub replies_of : (rules : Rules) (streams : Streams) (old : World) (status : ℕ) (is_told : Bool) (new : World)
    → CarriesOut rules streams old status is_told new → List (Option Reply)
replies_of rules streams old status is_told new (CarriesOut.whole refused all undamaged is told) = all.printed.played.replies
replies_of rules streams old status is_told new (CarriesOut.early fault mid some undamaged told is) = replies_before rules (between streams.given streams.left streams.held mid) old fault new some

-- It was carried out over a store whose device had refused `before` calls, and has refused `after`
-- then: each X0002 among its replies has a refused call of its own.
pub record CarriesOutOver (rules : Rules) (streams : Streams) (old : World) (before status : ℕ) (is_told : Bool) (new : World) (after : ℕ) : Type 0 where
  pub carried : CarriesOut rules streams old status is_told new
  pub device : TellDevice (replies_of rules streams old status is_told new carried) before after

-- What a run leaves of its device: it was not opened, for this refusal, and this database stays on
-- it, unless it was empty; it was closed, and this one is saved on it, where so many of the
-- script's replies were X0002; or it was not closed, and is not handed back.
pub data Left : Type 0 where
  unopened : Refusal → Database → Left
  committed : Database → ℕ → Left
  unclosed : Left

-- The store was not opened, for want of memory or by the device: nothing was read, and what was
-- saved stays, unless the device was empty. Or the script was carried out in the world of its
-- database and the store was closed: what was committed last is left. Or the device refused that it
-- was closed. What is left, `left` tells.
pub data Runs (rules : Rules) (old : World) (streams : Streams) (status : ℕ) (is_told : Bool) (left : Left → Type 0) : Type 0 where
  not_opened : (refusal : Refusal) → StopsFlush refusal → streams.left ≡ streams.given
      → Tells refusal is_told streams.held streams.holds → status ≡ 3
      → left (Left.unopened refusal old.last) → Runs rules old streams status is_told left
  closed : (end : World) (carried : CarriesOut rules streams old status is_told end)
      → left (Left.committed end.last (disk_count (replies_of rules streams old status is_told end carried)))
      → Runs rules old streams status is_told left
  not_closed : (before : ℕ) (was_told : Bool) (mid : Option (List ℕ)) (end : World)
      → CarriesOut rules (between streams.given streams.left streams.held mid) old before was_told end
      → TellsBehind was_told is_told Disk mid streams.holds → status ≡ 3 → left Left.unclosed
      → Runs rules old streams status is_told left

-- ---- what is handed back

-- each X0002 that was told of a call has a refused call of its own
abbrev pub HasRefusedEach : {X : Type 0} → (X → ℕ) → ℕ → ℕ → X → Type 0
HasRefusedEach refused before told back = min (told + before) (2 ^ 64 - 1) ≤ refused back

-- Where the store was not opened, the device is handed back as `stays` tells; where it was closed,
-- with the database saved on it, and synced behind the last write. That a store was not opened or
-- closed, or a call of the script not carried out, is told by X0002 only where the device refused a
-- call: the device that is handed back, or the core that was not closed, counts more of them than
-- before. A device whose store was closed counts one more for each call of the script of which that
-- was told.
abbrev pub HandsBack : {D C : Type 0} → (D → Database → Type 0) → (D → Database → Type 0) → (D → Type 0) → (D → ℕ)
    → (C → ℕ) → ℕ → Option D → Option C → Left → Type 0
HandsBack saved stays settled calls refused before device core (Left.unopened refusal db) = IsSavedOn stays device db
    × (refusal ≡ Disk → HasRefused calls before device)
HandsBack saved stays settled calls refused before device core (Left.committed db told) =
    IsSavedOn saved device db × IfSome device settled × IfSome device (HasRefusedEach calls before told)
HandsBack saved stays settled calls refused before device core Left.unclosed = (device ≡ None)
    × HasRefused refused before core

-- the database that is left, if the device was not empty
abbrev pub database_in : Left → Option Database
database_in (Left.unopened refusal db) = Some db
database_in (Left.committed db told) = Some db
database_in Left.unclosed = None

-- what is handed back, with a good database
abbrev pub Leaves : {D C : Type 0} → (D → Database → Type 0) → (D → Database → Type 0) → (D → Type 0) → (D → ℕ)
    → (C → ℕ) → CheckReading → ℕ → Option D → Option C → Left → Type 0
Leaves saved stays settled calls refused reading before device core left =
    HandsBack saved stays settled calls refused before device core left × IfSome (database_in left) (IsGood reading)

-- ---- any device

-- How a script ends over any store, sound or not, whose device had refused `before` calls, and has
-- refused `after` then. It was read to its end, and each piece has its reply; or a fault ended it
-- early, which is told behind the replies. The status tells it.
pub data ScriptEnds (streams : Streams) (before status : ℕ) (is_told : Bool) (after : ℕ) : Type 0 where
  whole : (refused : Bool) → ShowsWhole streams before refused after → status ≡ status_of (Ok refused) → is_told ≡ true
      → ScriptEnds streams before status is_told after
  early : (fault : ScriptFault) (mid : Option (List ℕ))
      → ShowsEarly (between streams.given streams.left streams.held mid) before fault after
      → Tells (refusal_of fault) is_told mid streams.holds → status ≡ status_of (Err fault)
      → ScriptEnds streams before status is_told after

-- How a run over any device ends, also one that lies. The store was not opened; or it was closed
-- behind the script, and the device is handed back, which was synced behind the last write and
-- counts the refused calls from before; or the device refused that it was closed, which is told
-- behind the script, and the core is handed back, which counts that call beside those of the
-- script.
pub data Ends {D C : Type 0} (same_bytes : Option D → Type 0) (settled : D → Type 0) (calls : D → ℕ) (refused : C → ℕ) (before : ℕ) (streams : Streams) (status : ℕ) (is_told : Bool) (device : Option D) (core : Option C)
    : Type 0 where
  not_opened : IsNotOpened streams status is_told (HasRefused calls before device) (same_bytes device)
      → Ends same_bytes settled calls refused before streams status is_told device core
  closed : (back : D) → device ≡ Some back → settled back → before ≤ calls back
      → ScriptEnds streams before status is_told (calls back)
      → Ends same_bytes settled calls refused before streams status is_told device core
  not_closed : (was after : ℕ) (was_told : Bool) (mid : Option (List ℕ))
      → ScriptEnds (between streams.given streams.left streams.held mid) before was was_told after
      → TellsBehind was_told is_told Disk mid streams.holds → status ≡ 3 → device ≡ None
      → HasRefused refused before core → HasRefused refused after core
      → Ends same_bytes settled calls refused before streams status is_told device core

-- How a run over the tables in a file ends. It was not opened: nothing was read, no more than X0002
-- is said, and nothing is handed back. Or a device that had refused no call was opened, and it ends
-- as a run over that one does, which hands it back.
pub data EndsOverFile {D C : Type 0} (is_honest : D → Type 0) (same : D → D → Type 0) (settled : D → Type 0) (calls : D → ℕ) (refused : C → ℕ) (streams : Streams) (status : ℕ) (is_told : Bool) (device : Option D) (core : Option C)
    : Type 0 where
  not_opened : streams.left ≡ streams.given → Tells Disk is_told streams.held streams.holds → status ≡ 3
      → device ≡ None → core ≡ None
      → EndsOverFile is_honest same settled calls refused streams status is_told device core
  over : (opened : D) → calls opened ≡ 0
      → Ends (HasSameBytes is_honest same opened) settled calls refused (calls opened) streams status is_told device core
      → EndsOverFile is_honest same settled calls refused streams status is_told device core
