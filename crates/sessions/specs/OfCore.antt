-- The world of a core, and what holds of it.
use Rattle.std.specs.Prelude.{◌≡◌, ◌≢◌, ℕ, None, Some}
use Rattle.std.specs.FinMap.{get}
use Rattle.session_definitions.specs.World.{World, is_live}
use Rattle.store.specs.Stored.{Stored}
use Rattle.transactions.specs.Orderly.{IsOrderly}
use Rattle.transactions.specs.Shown.{Slots, shown}
use Rattle.sessions.specs.declared.core_of.Core.{Core}
use Rattle.sessions.specs.declared.core_of.SessionId.{SessionId}
use Rattle.sessions.specs.declared.slots.Slot.{Slot}
use Rattle.sessions.specs.Held.{Holds}
use Rattle.sessions.specs.Numbers.{held_at, kept_in}

abbrev pub number_of : SessionId → ℕ
number_of session = session.number

-- what is kept of its sessions
abbrev pub slots_of : {S L D : Type 0} → Core S L D → Slots
slots_of core = kept_in core.slots.all

-- what its store, its writer and its sessions show
abbrev pub world_of : {S L D : Type 0} → (S → Stored) → Core S L D → World
world_of shows core = shown (shows core.store) core.writer (slots_of core)

-- Its store can be read, the versions and the writer are in order, no reader is left of a session
-- that does not stand, and the cursors of each fit what it reads.
pub record IsSound {S L D : Type 0} (is_sound : S → Type 0) (shows : S → Stored) (core : Core S L D) : Type 0 where
  pub store : is_sound core.store
  pub order : IsOrderly (shows core.store) core.writer
  pub readers : (q : ℕ) → held_at core.slots.all q ≡ None → get (shows core.store).readers q ≡ None
  pub held : (q : ℕ) (slot : Slot) → held_at core.slots.all q ≡ Some slot
      → Holds (shows core.store) core.writer q slot.cursors

-- the same sessions stand
abbrev pub StandAlike : World → World → Type 0
StandAlike old new = (s : ℕ) → is_live new s ≡ is_live old s

-- the same others stand
abbrev pub StandBeside : ℕ → World → World → Type 0
StandBeside s old new = (q : ℕ) → q ≢ s → is_live new q ≡ is_live old q

-- the writer and all other sessions are as they were
abbrev pub OthersStay : ℕ → World → World → Type 0
OthersStay s old new = (new.writer ≡ old.writer) × ((q : ℕ) → q ≢ s → get new.sessions q ≡ get old.sessions q)
