-- What opening a device gives. Our own choice.
use Rattle.std.specs.Prelude.{◌≡◌, ◌⊎◌, ℕ, Bool, IsTrue, IsSome, List, [], length}
use Rattle.std.specs.FinMap.{empty}
use Rattle.denote.specs.Database.{Database}
use Rattle.store.specs.Contents.{database_of}
use Rattle.store.specs.declared.error.StoreError.{StoreError}
use Rattle.store.specs.declared.error.StoreError.TheVariants.{Damaged}
use Rattle.journal.specs.declared.found.Found.{Found}
use Rattle.journal.specs.Headers.{IsFile}
use Rattle.pool.specs.Versions.{Versions}
use Rattle.database_versions.specs.Databases.{nothing, contents_in, IsDatabase, IsOwned}
use Rattle.database_versions.specs.Saved.{IsSaved, IsSavedOwned, IsClosed}

-- no commit yet and no pin; page 0 is there; and the version is the database that was saved
pub record Begins (honest : Bool) (bytes : List ℕ) (v : Versions) : Type 0 where
  pub last : v.last ≡ 0
  pub pins : v.pins ≡ (λ c. 0)
  pub first : IsTrue honest → IsSome (v.pages 0 0)
  pub is : (db : Database) → IsSaved honest bytes db → IsDatabase (v.pages 0) nothing
  pub shows : (db : Database) → IsSaved honest bytes db → database_of (contents_in (v.pages 0) nothing) ≡ db

-- where the device is honest, it is empty or a file of either format, as its journal makes it
abbrev pub IsReadable : Bool → List ℕ → Type 0
IsReadable honest bytes = IsTrue honest → (bytes ≡ []) ⊎ ((found : Found) × IsFile bytes found)

-- of what was saved without a page lost, the first version has none lost
abbrev pub BeginsOwned : Bool → List ℕ → Versions → Type 0
BeginsOwned honest bytes v = IsTrue honest → IsSavedOwned bytes → IsOwned (v.pages 0) nothing

-- the first version is the database without tables
pub record BeginsEmpty (v : Versions) : Type 0 where
  pub owned : IsOwned (v.pages 0) nothing
  pub shows : database_of (contents_in (v.pages 0) nothing) ≡ empty

-- What a refused opening leaves of the bytes: as damaged all of them; of a file that a store closed
-- all of them; and of an empty device nothing, or 4,096 bytes.
pub record IsHandedBack (honest : Bool) (old new : List ℕ) (error : StoreError) : Type 0 where
  pub damaged : error ≡ Damaged → IsTrue honest → new ≡ old
  pub closed : IsTrue honest → IsClosed old → new ≡ old
  pub made : IsTrue honest → old ≡ [] → (new ≡ []) ⊎ (length new ≡ 4096)
