-- An index as a tree over pages: one entry for each row of its table. Indexes are our own choice.
use Rattle.std.specs.Prelude.{◌≡◌, ℕ, ◌<◌, ◌+◌, ◌^◌, ◌⊎◌, List, [], ◌∷◌, None, IsSome, ⊤}
use Rattle.sqlval.specs.CodedLength.{key_length}
use Rattle.sqlval.specs.Matching.{key_of}
use Rattle.sqlval.specs.Value.{Row}
use Rattle.store.specs.Contents as stored
use Rattle.sqlrecord.specs.Key.{index_key_code}
use Rattle.page_space.specs.Space.{PageMap, ChangeRefused}
use Rattle.page_space.specs.declared.error.SpaceError.{SpaceError}
use Rattle.btree_read.specs.declared.entry.Entry.{Entry}
use Rattle.btree_read.specs.Lists.{Has}
use Rattle.btree_read.specs.Sorted.{get_of}
use Rattle.btree_read.specs.Tree.{IsTree}
use Rattle.index_trees.specs.declared.error.IndexError.{IndexError}
use Rattle.index_trees.specs.declared.error.IndexError.TheVariants.{Space, Key}

-- a row's entry: the code of its values at the index's columns and of its number, without a value
abbrev pub index_entry : List ℕ → stored.Entry → Entry
index_entry columns row = record { key = index_key_code (key_of columns row.1) row.0; value = [] }

-- one of these entries
abbrev pub Stands : Entry → List Entry → Type 0
Stands x [] = ⊥
Stands x (e ∷ es) = (x ≡ e) ⊎ Stands x es

-- one of these rows
abbrev pub IsRow : stored.Entry → List stored.Entry → Type 0
IsRow row [] = ⊥
IsRow row (e ∷ rows) = (row ≡ e) ⊎ IsRow row rows

-- the entry of one of these rows
pub record IsOfRow (columns : List ℕ) (rows : List stored.Entry) (x : Entry) : Type 0 where
  pub row : stored.Entry
  pub among : IsRow row rows
  pub is : x ≡ index_entry columns row

-- The tree at the root has an entry for each of these rows, and no others. Its keys rise, so none
-- stands twice.
pub record HoldsIndex (pages : PageMap) (root : ℕ) (owned columns : List ℕ) (rows : List stored.Entry) : Type 0 where
  pub entries : List Entry
  pub tree : IsTree pages root owned entries
  pub each : (row : stored.Entry) → IsRow row rows → Stands (index_entry columns row) entries
  pub only : (x : Entry) → Stands x entries → IsOfRow columns rows x

-- rows with one more, whose number none of the others has
pub record AreWith (one : stored.Entry) (others rows : List stored.Entry) : Type 0 where
  pub there : IsRow one rows
  pub kept : (row : stored.Entry) → IsRow row others → IsRow row rows
  pub all : (row : stored.Entry) → IsRow row rows → IsRow row others ⊎ (row ≡ one)
  pub apart : (row : stored.Entry) → IsRow row others → row.0 ≡ one.0 → ⊥
  pub numbers : (row : stored.Entry) → IsRow row rows → row.0 < 2 ^ 63

-- The tree at the root is now an index of these rows, in pages that it owned before or that were
-- not in use; no other page in use has changed.
pub record IndexWritten (old new : PageMap) (owned columns : List ℕ) (rows : List stored.Entry) (root : ℕ) : Type 0 where
  pub now_owned : List ℕ
  pub holds : HoldsIndex new root now_owned columns rows
  pub own : (n : ℕ) → Has n now_owned → Has n owned ⊎ (old n ≡ None)
  pub others : (n : ℕ) → (Has n owned → ⊥) → IsSome (old n) → new n ≡ old n

-- no index lies there in a space whose list of free pages is one
abbrev pub HoldsNoIndexIn : PageMap → ℕ → List ℕ → Type 0 → Type 0
HoldsNoIndexIn pages root columns Whole = (owned : List ℕ) (rows : List stored.Entry)
    → HoldsIndex pages root owned columns rows → Whole → ⊥

-- no index of rows with this one lies there in a space whose list of free pages is one
abbrev pub HoldsNoRowIn : PageMap → ℕ → List ℕ → stored.Entry → Type 0 → Type 0
HoldsNoRowIn pages root columns one Whole = (owned : List ℕ) (others rows : List stored.Entry)
    → HoldsIndex pages root owned columns rows → AreWith one others rows → Whole → ⊥

-- whatever tree lies at the root has the row's entry
abbrev pub HasEntry : PageMap → ℕ → List ℕ → stored.Entry → Type 0
HasEntry pages root columns one = (owned : List ℕ) (entries : List Entry) → IsTree pages root owned entries
    → IsSome (get_of (index_entry columns one).key entries)

-- Why a change of an index may be refused, with what is known where it was for damage and with the
-- counts of refused device calls before and after: as a change of pages is, and where a row's key
-- is too long.
abbrev pub MayRefuse : (SpaceError → Type 0) → Type 0 → ℕ → ℕ → List ℕ → Row → IndexError → Type 0
MayRefuse AtLimit Harm before after columns row (Space fault) = ChangeRefused AtLimit Harm before after fault
MayRefuse AtLimit Harm before after columns row Key = 600 < key_length (key_of columns row) + 8
