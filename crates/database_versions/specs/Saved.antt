-- What is saved on a device. Our own choice.
use Rattle.std.specs.Prelude.{◌≡◌, ◌⊎◌, Bool, IsTrue, List, ℕ, [], ◌∷◌, take}
use Rattle.std.specs.FinMap.{empty}
use Rattle.denote.specs.Database.{Database}
use Rattle.store.specs.Contents.{database_of}
use Rattle.pagefile.specs.Parts.{gate_part}
use Rattle.journal.specs.Headers.{IsGood, magic_2}
use Rattle.journal.specs.Parts.{place}
use Rattle.journal.specs.Versions.{Version, StandsFor}
use Rattle.journaled_file.specs.Renewed.{renewed_pages}
use Rattle.last_version.specs.Standing.{pages_below}
use Rattle.pool.specs.Pages.{PageMap}
use Rattle.database_versions.specs.Databases.{nothing, contents_in, IsDatabase, IsOwned}

-- the first pages of a version, as they are shown once its file is opened
abbrev pub opened_pages : Version → ℕ → PageMap
opened_pages v count = pages_below count (renewed_pages v.pages)

-- A file of either format, its gate open or shut, that stands for a version whose pages are a
-- database.
pub record HoldsDatabase (file : List ℕ) (db : Database) : Type 0 where
  pub version : Version
  pub stands : StandsFor version file
  pub good : IsGood version
  pub is : IsDatabase (opened_pages version good.header.page_count) nothing
  pub shows : database_of (contents_in (opened_pages version good.header.page_count) nothing) ≡ db

-- A file that stands for a version whose pages are a database of which no page is lost.
pub record HoldsOwned (file : List ℕ) : Type 0 where
  pub version : Version
  pub stands : StandsFor version file
  pub good : IsGood version
  pub owned : IsOwned (opened_pages version good.header.page_count) nothing

-- the device gives back what was written, and it is empty, or a file that is this database; the
-- empty one is the database without tables
abbrev pub IsSaved : Bool → List ℕ → Database → Type 0
IsSaved honest bytes db = IsTrue honest × (((bytes ≡ []) × (db ≡ empty)) ⊎ HoldsDatabase bytes db)

-- the device is empty, or its file is a database of which no page is lost
abbrev pub IsSavedOwned : List ℕ → Type 0
IsSavedOwned bytes = (bytes ≡ []) ⊎ HoldsOwned bytes

-- A file of the second format whose gate is shut, as a store leaves one that it closes: to open it
-- writes nothing.
pub record IsClosed (file : List ℕ) : Type 0 where
  pub gate : gate_part file ≡ 0 ∷ []
  pub begins : take 8 (place file 0) ≡ magic_2
