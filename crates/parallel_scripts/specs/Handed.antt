-- What is handed back of the device over which scripts were carried out. All of this is our own
-- choice.
use Rattle.std.specs.Prelude.{◌≡◌, ℕ, ◌≤◌, Bool, true, false}
use Rattle.refusals.specs.declared.refusal.Refusal.{Refusal}
use Rattle.refusals.specs.declared.refusal.Refusal.TheVariants.{Damaged, Disk}
use Rattle.denote.specs.Database.{Database}
use Rattle.session_definitions.specs.Rules.{Rules, AreRules}
use Rattle.session_definitions.specs.World.{World}
use Rattle.session_laws.specs.Sound.{IsGoodWorld}
use Rattle.sessions.specs.declared.core_of.Core.{Core}
use Rattle.store.specs.Errors.{HasRisen}
use Rattle.parallel_scripts.specs.declared.handed.HandedBack.{HandedBack}
use Rattle.parallel_scripts.specs.declared.handed.HandedBack.TheVariants.{Unopened, Closed, Unclosed, Nothing}

abbrev pub store_of : {S L D : Type 0} → Core S L D → S
store_of core = core.store

-- no store was opened
abbrev pub IsUnopened : {S D : Type 0} → HandedBack S D → Type 0
IsUnopened (Unopened device) = Unit {0}
IsUnopened _ = ⊥

-- where no store was opened, this holds of the device
abbrev pub IfUnopened : {S D : Type 0} → HandedBack S D → (D → Type 0) → Type 0
IfUnopened (Unopened device) P = P device
IfUnopened _ P = Unit {0}

-- whether a store was closed
abbrev pub is_closed : {S D : Type 0} → HandedBack S D → Bool
is_closed (Unopened device) = false
is_closed (Closed device) = true
is_closed (Unclosed core) = false
is_closed Nothing = false

-- The device refused a call: what is handed back counts more of them than before.
abbrev pub HasRefused : {S D : Type 0} → (D → ℕ) → (S → ℕ) → ℕ → HandedBack S D → Type 0
HasRefused calls refused before (Unopened device) = HasRisen before (calls device)
HasRefused calls refused before (Closed device) = HasRisen before (calls device)
HasRefused calls refused before (Unclosed core) = HasRisen before (refused (store_of core))
HasRefused calls refused before Nothing = ⊥

-- the databases of this world are good, by the rules of names and types
abbrev pub BeginsGood : World → Type 0
BeginsGood start = (rules : Rules) × AreRules rules × IsGoodWorld rules.check start

-- The device of a store that was closed in the world `end`: it was synced behind the last write,
-- and what was committed last is saved on it, where the first world was good. It counts no fewer
-- refused calls than before.
pub record IsClosed {D : Type 0} (saved : D → Database → Type 0) (settled : D → Type 0) (calls : D → ℕ) (before : ℕ) (start end : World) (device : D) : Type 0 where
  pub saves : BeginsGood start → saved device end.last
  pub synced : settled device
  pub counted : before ≤ calls device

-- What became of the store on a device: it was not opened, for this refusal; it was closed in this
-- world; it could not be closed; or it was dropped, for want of memory.
pub data Left : Type 0 where
  unopened : Refusal → Left
  closed : World → Left
  unclosed : Left
  dropped : Left

-- What is handed back tells it. Where the store was not opened it is the device, on which what the
-- first world committed last stays, as `stays` tells; where it was closed, the device; where it
-- could not be closed, the core. The device is said to have refused that the store was opened or
-- closed only where what is handed back counts more refused calls than before. Nothing is known of
-- the device of a store that was dropped.
abbrev pub HandsBack : {S D : Type 0} → (D → Database → Type 0) → (D → Database → Type 0) → (D → Type 0) → (D → ℕ)
    → (S → ℕ) → ℕ → World → HandedBack S D → Left → Type 0
HandsBack saved stays settled calls refused before start (Unopened device) (Left.unopened refusal) = stays device start.last
    × (refusal ≡ Disk → HasRisen before (calls device))
HandsBack saved stays settled calls refused before start (Closed device) (Left.closed end) = IsClosed saved settled calls before start end device
HandsBack saved stays settled calls refused before start (Unclosed core) Left.unclosed = HasRisen before (refused (store_of core))
HandsBack saved stays settled calls refused before start Nothing Left.dropped = Unit {0}
HandsBack saved stays settled calls refused before start back left = ⊥

-- What is known whatever lay on the device. A store was opened only where it can be read as a
-- store's. The device of a closed one was synced behind the last write, and counts no fewer refused
-- calls than before; a core that could not be closed counts more of them.
abbrev pub HandsAny : {S D : Type 0} → Type 0 → (D → Type 0) → (D → ℕ) → (S → ℕ) → ℕ → HandedBack S D → Type 0
HandsAny readable settled calls refused before (Unopened device) = Unit {0}
HandsAny readable settled calls refused before (Closed device) = readable × settled device × (before ≤ calls device)
HandsAny readable settled calls refused before (Unclosed core) = readable × HasRisen before (refused (store_of core))
HandsAny readable settled calls refused before Nothing = readable

-- Why no store was opened, as it is told; where that is X0004, the bytes of the device are as they
-- were, if it gives back what was written.
pub record IsToldUnopened {D : Type 0} (is_honest : D → Type 0) (same : D → D → Type 0) (tells : Refusal → ℕ → Type 0) (device back : D) : Type 0 where
  pub refusal : Refusal
  pub status : ℕ
  pub told : tells refusal status
  pub damage : is_honest device → refusal ≡ Damaged → same device back
