-- What a command over a store says and hands back where it ends. All of this is our own choice.
use Rattle.std.specs.Prelude.{◌≡◌, ◌&&◌, ℕ, Bool, List, Option, Some, None}
use Rattle.refusals.specs.declared.refusal.Refusal.{Refusal}
use Rattle.refusals.specs.declared.refusal.Refusal.TheVariants.{Damaged, Disk}
use Rattle.denote.specs.Database.{Database}
use Rattle.store.specs.Errors.{HasRisen}
use Rattle.scripts.specs.Played.{Streams}
use Rattle.endings.specs.Tells.{Tells}

-- behind what the script had to say, the refusal that its store was closed is told: `is_told` tells
-- whether all of that was written whole
pub record TellsBehind (was_told is_told : Bool) (refusal : Refusal) (held holds : Option (List ℕ)) : Type 0 where
  pub line : Bool
  pub tells : Tells refusal line held holds
  pub both : is_told ≡ (was_told && line)

-- ---- what is handed back

-- there is a device, and it has the bytes of this one, if this gives back what was written
abbrev pub HasSameBytes : {D : Type 0} → (D → Type 0) → (D → D → Type 0) → D → Option D → Type 0
HasSameBytes is_honest same device (Some back) = is_honest device → same device back
HasSameBytes is_honest same device None = ⊥

-- there is a device, and this database is saved on it
abbrev pub IsSavedOn : {D : Type 0} → (D → Database → Type 0) → Option D → Database → Type 0
IsSavedOn saved (Some device) db = saved device db
IsSavedOn saved None db = ⊥

-- it is there, and has refused a call: it counts more of them than before
abbrev pub HasRefused : {X : Type 0} → (X → ℕ) → ℕ → Option X → Type 0
HasRefused refused before (Some back) = HasRisen before (refused back)
HasRefused refused before None = ⊥

-- The store was not opened: nothing was read, and the refusal is told. It is that of the device
-- only where this one refused a call; where it is X0004, the bytes are as they were.
pub record IsNotOpened (streams : Streams) (status : ℕ) (is_told : Bool) (has_refused has_same_bytes : Type 0) : Type 0 where
  pub refusal : Refusal
  pub unread : streams.left ≡ streams.given
  pub told : Tells refusal is_told streams.held streams.holds
  pub failed : status ≡ 3
  pub device : refusal ≡ Disk → has_refused
  pub damage : refusal ≡ Damaged → has_same_bytes
