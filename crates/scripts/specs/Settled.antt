-- What a script leaves of a core, and what holds of it while one runs.
use Rattle.std.specs.Prelude.{◌≡◌, ℕ, true, false, List, slice_get, Option, Some}
use Rattle.std.specs.Option.{ForSome}
use Rattle.denote.specs.Database.{CheckReading}
use Rattle.session_definitions.specs.Rules.{Rules, AreRules}
use Rattle.session_definitions.specs.World.{World, is_live}
use Rattle.session_laws.specs.Sound.{IsGoodWorld}
use Rattle.store.specs.Stored.{Stored}
use Rattle.sessions.specs.declared.core_of.Core.{Core}
use Rattle.sessions.specs.declared.core_of.SessionId.{SessionId}
use Rattle.sessions.specs.OfCore.{IsSound, number_of, world_of}

abbrev pub store_of : {S L D : Type 0} → Core S L D → S
store_of core = core.store

-- no session stands
abbrev pub HasNoSession : World → Type 0
HasNoSession w = (k : ℕ) → is_live w k ≡ false

-- The core is sound, its databases are good, and no session stands in it.
pub record IsSettled {S L D : Type 0} (is_sound : S → Type 0) (shows : S → Stored) (reading : CheckReading) (core : Core S L D) : Type 0 where
  pub sound : IsSound is_sound shows core
  pub good : IsGoodWorld reading (world_of shows core)
  pub ended : HasNoSession (world_of shows core)

-- nothing is there but what is committed
abbrev pub IsCommitted : {S L D : Type 0} → (S → Stored) → Core S L D → Type 0
IsCommitted shows core = (shows (store_of core)).working ≡ (shows (store_of core)).last

-- ---- while a script runs

-- The sessions that a script has made, in the places of their numbers in the script.
abbrev pub Places : Type 0
Places = List (Option SessionId)

-- the session of this number stands in a place
pub data IsIn (places : Places) (k : ℕ) : Type 0 where
  at_place : (place : ℕ) (session : SessionId) → slice_get places place ≡ Some (Some session) → number_of session ≡ k
      → IsIn places k

-- each session that stands is in a place
abbrev pub HoldAll : Places → World → Type 0
HoldAll places w = (k : ℕ) → is_live w k ≡ true → IsIn places k

-- The core is sound, and its databases are good.
pub record IsKept {S L D : Type 0} (is_sound : S → Type 0) (shows : S → Stored) (reading : CheckReading) (core : Core S L D) : Type 0 where
  pub sound : IsSound is_sound shows core
  pub good : IsGoodWorld reading (world_of shows core)

-- where rules are known: they are those of names and types, and the core is sound and good by them
abbrev pub IsKeptBy : {S L D : Type 0} → (S → Type 0) → (S → Stored) → Option Rules → Core S L D → Type 0
IsKeptBy is_sound shows known core = ForSome known (λ rules. AreRules rules × IsKept is_sound shows rules.check core)
