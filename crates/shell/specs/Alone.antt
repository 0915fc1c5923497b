-- A run whose device is not handed back. All of this is our own choice.
use Rattle.std.specs.Prelude.{◌≡◌, ℕ, Bool, List, Option, IfSome}
use Rattle.refusals.specs.declared.refusal.Refusal.{Refusal}
use Rattle.refusals.specs.declared.refusal.Refusal.TheVariants.{Disk}
use Rattle.denote.specs.Database.{IsGood}
use Rattle.session_definitions.specs.Rules.{Rules}
use Rattle.session_definitions.specs.World.{World}
use Rattle.scripts.specs.Played.{Streams, between}
use Rattle.endings.specs.Ended.{TellsBehind}
use Rattle.endings.specs.Tells.{Tells}
use Rattle.shell.specs.Runs.{Runs, ScriptEnds, database_in}

-- How a run ends over any device that had refused no call. It was not opened: nothing was read, and
-- the refusal is told. The store was closed behind the script. Or the device refused that it was
-- closed, which is told behind the script.
pub data EndsAlone (streams : Streams) (status : ℕ) : Type 0 where
  not_opened : (is_told : Bool) (refusal : Refusal) → streams.left ≡ streams.given
      → Tells refusal is_told streams.held streams.holds → status ≡ 3 → EndsAlone streams status
  closed : (is_told : Bool) (after : ℕ) → ScriptEnds streams 0 status is_told after → EndsAlone streams status
  not_closed : (is_told was_told : Bool) (was after : ℕ) (mid : Option (List ℕ))
      → ScriptEnds (between streams.given streams.left streams.held mid) 0 was was_told after
      → TellsBehind was_told is_told Disk mid streams.holds → status ≡ 3 → EndsAlone streams status

-- It runs in this world, and leaves a good database, if any.
pub record RunsInMemory (rules : Rules) (old : World) (streams : Streams) (status : ℕ) : Type 0 where
  pub is_told : Bool
  pub runs : Runs rules old streams status is_told (λ left. IfSome (database_in left) (IsGood rules.check))

-- Nothing was read or opened, X0002 is said, and the status is 3.
pub record IsRefused (streams : Streams) (status : ℕ) : Type 0 where
  pub is_told : Bool
  pub unread : streams.left ≡ streams.given
  pub told : Tells Disk is_told streams.held streams.holds
  pub failed : status ≡ 3
