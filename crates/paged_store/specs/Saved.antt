-- What a paged store saves on a device. Our own choice.
use Rattle.std.specs.Prelude.{◌≡◌, ◌⊎◌, Bool, IsTrue, List, ℕ, [], length}
use Rattle.std.specs.FinMap.{empty}
use Rattle.denote.specs.Database.{Database}
use Rattle.database_versions.specs.Saved.{HoldsDatabase, HoldsOwned, IsClosed}

-- A file that is this database, each page in use is one of its trees, of the catalogue's, of a
-- table's or of an index's, and each free page stands in the list of free pages: none is lost. It
-- is of the second format and its gate is shut, as a store leaves it that was closed.
pub record HoldsAlone (file : List ℕ) (db : Database) : Type 0 where
  pub holds : HoldsDatabase file db
  pub owned : HoldsOwned file
  pub closed : IsClosed file

-- The device gives back what was written, and it is empty, which is the database without tables, or
-- a file that is this database and of which no page is lost.
abbrev pub IsSavedAlone : Bool → List ℕ → Database → Type 0
IsSavedAlone honest bytes db = IsTrue honest × (((bytes ≡ []) × (db ≡ empty)) ⊎ HoldsAlone bytes db)

-- the device gives back what was written, and it was empty when a file of one page was to be made
-- there: it is empty, or has 4,096 bytes
abbrev pub IsBegun : Bool → List ℕ → Type 0
IsBegun honest bytes = IsTrue honest × ((bytes ≡ []) ⊎ (length bytes ≡ 4096))
