-- Scripts side by side whose device is not handed back. All of this is our own choice.
use Rattle.std.specs.Prelude.{◌≡◌, ℕ, Bool, List, Option, length}
use Rattle.refusals.specs.declared.refusal.Refusal.{Refusal}
use Rattle.session_definitions.specs.World.{new_world}
use Rattle.shared.specs.Scripts.{Text}
use Rattle.parallel_scripts.specs.Ends.{Ends, Tells}
use Rattle.parallel_scripts.specs.Many.{ComesTo}

-- No script was read, for this refusal, which is told.
pub record IsNotRead (refusal : Refusal) (held holds : Option (List ℕ)) (exit : ℕ) : Type 0 where
  pub is_told : Bool
  pub ends : Ends (Tells refusal 3) held holds exit is_told

-- How a command line ends that names so many scripts. One of them was not read, which is told; or
-- so many texts were read, and carried out over a new database, and this is what they come to.
pub data EndsAlone (count : ℕ) (held holds : Option (List ℕ)) (exit : ℕ) : Type 0 where
  not_read : (is_told : Bool) (refusal : Refusal) → Ends (Tells refusal 3) held holds exit is_told
      → EndsAlone count held holds exit
  carried_out : (is_told : Bool) (scripts : List Text) → length scripts ≡ count
      → Ends (ComesTo new_world (λ left. Unit {0}) (Unit {0}) scripts) held holds exit is_told
      → EndsAlone count held holds exit
