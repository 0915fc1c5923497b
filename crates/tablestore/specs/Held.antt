-- Rows by their numbers, as the entries of a tree. Our own choice.
use Rattle.std.specs.Prelude.{◌≡◌, ℕ, ◌++◌, ◌<◌, ◌≤◌, ◌^◌, true, List, length, map, None, Result, Ok, Err}
use Rattle.std.specs.List.{AllByRecursion}
use Rattle.sqlval.specs.declared.schema.Column.{Column}
use Rattle.sqlval.specs.Value.{Row}
use Rattle.denote.specs.Database.{fits_columns}
use Rattle.store.specs.Contents as stored
use Rattle.store.specs.declared.rows.Numbered.{Numbered}
use Rattle.store.specs.View.{AreEntries}
use Rattle.sqlrecord.specs.declared.error.DecodeError.{DecodeError}
use Rattle.sqlrecord.specs.declared.error.DecodeError.TheVariants.{OutOfMemory}
use Rattle.sqlrecord.specs.Storable.{AllStorable}
use Rattle.sqlrecord.specs.Key.{number_code}
use Rattle.sqlrecord.specs.Row.{row_code}
use Rattle.page_space.specs.Space.{PageMap}
use Rattle.btree_read.specs.declared.entry.Entry.{Entry}
use Rattle.btree_read.specs.declared.entry.Start.TheVariants.{At}
use Rattle.btree_read.specs.Sorted.{first_from}
use Rattle.btree_read.specs.Tree.{IsTree}

-- a row's number in 8 bytes, and its code
abbrev pub row_entry : stored.Entry → Entry
row_entry e = record { key = number_code e.0; value = row_code e.1 }

abbrev pub entries_of : List stored.Entry → List Entry
entries_of rows = map row_entry rows

-- a row with a number that it may have, and with a code of at most 1,000 bytes
pub record IsKept (e : stored.Entry) : Type 0 where
  pub number : e.0 < 2 ^ 63
  pub storable : AllStorable e.1
  pub short : length (row_code e.1) ≤ 1000

abbrev pub AreKept : List stored.Entry → Type 0
AreKept rows = AllByRecursion IsKept rows

-- a row has as many values as there are columns, each one that its column may hold
abbrev pub RowFits : List Column → Row → Type 0
RowFits columns row = fits_columns columns row ≡ true

abbrev pub Fits : List Column → stored.Entry → Type 0
Fits columns e = RowFits columns e.1

abbrev pub AreFitting : List Column → List stored.Entry → Type 0
AreFitting columns rows = AllByRecursion (Fits columns) rows

-- the entry's key is the code of this number, which a row may have
pub record IsNumbered (entry : Entry) (number : ℕ) : Type 0 where
  pub below : number < 2 ^ 63
  pub code : entry.key ≡ number_code number

-- no key of these is the code of the number, or comes behind it
abbrev pub ArePast : List Entry → ℕ → Type 0
ArePast entries number = first_from At (number_code number) entries ≡ None

-- the tree at the root has just these rows
pub record HoldsRows (pages : PageMap) (root : ℕ) (owned : List ℕ) (rows : List stored.Entry) : Type 0 where
  pub tree : IsTree pages root owned (entries_of rows)
  pub kept : AreKept rows

-- no rows are held there
abbrev pub HoldsNoRows : PageMap → ℕ → Type 0
HoldsNoRows pages root = (owned : List ℕ) (rows : List stored.Entry) → HoldsRows pages root owned rows → ⊥

-- the tree at the root has just these rows, and they fit these columns
pub record HoldsFitting (pages : PageMap) (root : ℕ) (owned : List ℕ) (columns : List Column) (rows : List stored.Entry) : Type 0 where
  pub holds : HoldsRows pages root owned rows
  pub fits : AreFitting columns rows

-- no rows that fit these columns are held there
abbrev pub HoldsNoFitting : PageMap → ℕ → List Column → Type 0
HoldsNoFitting pages root columns = (owned : List ℕ) (rows : List stored.Entry)
    → HoldsFitting pages root owned columns rows → ⊥

-- of the rows `all`, which have codes and fit these columns, the first ones were found, and the
-- entries that are left are those of the others
pub record AreLeft (columns : List Column) (found : Numbered) (ahead : List Entry) (all : List stored.Entry) : Type 0 where
  pub before : List stored.Entry
  pub rest : List stored.Entry
  pub are : before ++ rest ≡ all
  pub read : AreEntries found before
  pub left : ahead ≡ entries_of rest
  pub kept : AreKept rest
  pub fits : AreFitting columns rest

-- what is decoded is so, or else memory was refused
abbrev pub Gives : {A : Type 0} → Result A DecodeError → (A → Type 0) → Type 0
Gives (Ok given) P = P given
Gives (Err error) P = error ≡ OutOfMemory
