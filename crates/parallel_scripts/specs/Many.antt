-- What carrying out scripts side by side comes to: the text that is printed, the exit status, and
-- what is handed back. All of this is our own choice.
use Rattle.std.specs.Prelude.{◌≡◌, ℕ, ◌<◌, ◌≤◌, Bool, true, false, List, ◌++◌, length, slice_get, Some}
use Rattle.refusals.specs.declared.refusal.Refusal.{Refusal}
use Rattle.refusals.specs.declared.refusal.Refusal.TheVariants.{Disk, Exceeded, Memory}
use Rattle.refusals.specs.declared.limit.Limit.TheVariants as limit
use Rattle.session_definitions.specs.Refusals.{StopsFlush}
use Rattle.session_definitions.specs.World.{World}
use Rattle.shared.specs.Scripts.{AllTellDeviceIf, AnswersTellLimits, OneHistory, Script, Text, texts_at}
use Rattle.parallel_scripts.specs.Cut.{AreCut, Parts}
use Rattle.parallel_scripts.specs.Ends.{Tells, refusal_line}
use Rattle.parallel_scripts.specs.Handed.{Left}
use Rattle.parallel_scripts.specs.Shown.{Answers, printed_scripts, some_refused}

-- The scripts ran between these worlds, each on a thread of its own: there is one history of all
-- their calls, a legal one, in which their texts have these answers. X0002 is among them only where
-- the device refused a call, and a limit of what the store counts only where the text may reach it.
pub record Ran (start : World) (scripts : List Script) (answers : List Answers) (end : World) (has_refused : Type 0) : Type 0 where
  pub history : OneHistory (Unit {0}) start scripts answers (Unit {0}) end
  pub device : (k : ℕ) (one : Answers) → slice_get answers k ≡ Some one → AllTellDeviceIf has_refused one.items
  pub limits : (k : ℕ) (one : Answers) → slice_get answers k ≡ Some one
      → AnswersTellLimits (texts_at scripts k) one.items

-- the status where all was printed, by whether a reply is a refusal
abbrev pub status_for : Bool → ℕ
status_for true = 1
status_for false = 0

-- In what follows `hands` is what is handed back, by what became of the store.

-- The lines of the scripts and their replies, where the store was closed in this world. Where it
-- could not be closed, the line of the device's refusal is behind them.
pub data Shows (hands : Left → Type 0) (end : World) (parts : List Parts) (answers : List Answers) (text : List ℕ) (status : ℕ) : Type 0 where
  closed : text ≡ printed_scripts 1 parts answers → status ≡ status_for (some_refused parts answers)
      → hands (Left.closed end) → Shows hands end parts answers text status
  not_closed : text ≡ printed_scripts 1 parts answers ++ refusal_line Disk → status ≡ 3 → hands Left.unclosed
      → Shows hands end parts answers text status

-- There was no memory for the scripts' answers, and the store was dropped; or they ran, and are
-- shown.
pub data Runs (start : World) (hands : Left → Type 0) (has_refused : Type 0) (scripts : List Script) (parts : List Parts) (text : List ℕ) (status : ℕ) : Type 0 where
  no_memory : Tells Memory 1 text status → hands Left.dropped → Runs start hands has_refused scripts parts text status
  ran : (answers : List Answers) (end : World) → Ran start scripts answers end has_refused
      → Shows hands end parts answers text status
      → Runs start hands has_refused scripts parts text status

-- The store on the device was not opened, for want of memory or by the device; or the scripts ran
-- in the world of its database.
pub data Opens (start : World) (hands : Left → Type 0) (has_refused : Type 0) (scripts : List Script) (parts : List Parts) (text : List ℕ) (status : ℕ) : Type 0 where
  not_opened : (refusal : Refusal) → StopsFlush refusal → Tells refusal 3 text status → hands (Left.unopened refusal)
      → Opens start hands has_refused scripts parts text status
  opened : Runs start hands has_refused scripts parts text status
      → Opens start hands has_refused scripts parts text status

-- There was no memory for the texts of the scripts' calls; or they were cut into these.
pub data Cuts (start : World) (hands : Left → Type 0) (has_refused : Type 0) (scripts : List Text) (text : List ℕ) (status : ℕ) : Type 0 where
  no_room : Tells Memory 3 text status → hands (Left.unopened Memory) → Cuts start hands has_refused scripts text status
  cut : (texts : List Script) (parts : List Parts) → AreCut scripts texts parts
      → Opens start hands has_refused texts parts text status
      → Cuts start hands has_refused scripts text status

-- More than 64 scripts are refused, and no store is opened; as many or fewer are cut into pieces
-- and carried out.
pub data ComesTo (start : World) (hands : Left → Type 0) (has_refused : Type 0) (scripts : List Text) (text : List ℕ) (status : ℕ) : Type 0 where
  too_many : 64 < length scripts → Tells (Exceeded limit.Sessions) 1 text status
      → hands (Left.unopened (Exceeded limit.Sessions)) → ComesTo start hands has_refused scripts text status
  within : length scripts ≤ 64 → Cuts start hands has_refused scripts text status
      → ComesTo start hands has_refused scripts text status
