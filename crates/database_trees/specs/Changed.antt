-- What a change of a database leaves of the pages, and why it may be refused. Our own choice.
use Rattle.std.specs.Prelude.{◌≡◌, ℕ, ◌+◌, ◌^◌, ◌<◌, List, length, ⊤, Bool, true, false}
use Rattle.sqlval.specs.Value.{Row}
use Rattle.std.specs.FinMap.{get}
use Rattle.denote.specs.Database.{Name}
use Rattle.store.specs.Contents.{Contents, next_number}
use Rattle.store.specs.Indexes.{entries_of}
use Rattle.store.specs.Errors.{HasLongRow, HasLongKey, indexes_of}
use Rattle.page_space.specs.Space.{PageMap, ChangeRefused}
use Rattle.page_space.specs.declared.error.SpaceError.{SpaceError}
use Rattle.page_space.specs.declared.error.SpaceError.TheVariants.{Memory}
use Rattle.database_trees.specs.declared.error.DatabaseError.{DatabaseError}
use Rattle.database_trees.specs.declared.error.DatabaseError.TheVariants.{Space, Record, Key, Number, Schema}
use Rattle.database_trees.specs.Held.{TableAt, HoldsFor, HoldsDatabase, contents_of}

-- the pages now hold these contents, alone or not
pub record WrittenFor (alone : Bool) (new : PageMap) (contents : Contents) (root : ℕ) : Type 0 where
  pub tables : List TableAt
  pub holds : HoldsFor alone new root tables
  pub shows : contents_of tables ≡ contents

abbrev pub DatabaseWritten : PageMap → Contents → ℕ → Type 0
DatabaseWritten = WrittenFor false

-- and each page in use belongs to one of their trees
abbrev pub DatabaseOwned : PageMap → Contents → ℕ → Type 0
DatabaseOwned = WrittenFor true

-- no database is held there in a space whose list of free pages is one
abbrev pub HoldsNoDatabaseIn : PageMap → ℕ → Type 0 → Type 0
HoldsNoDatabaseIn pages root Whole = (tables : List TableAt) → HoldsDatabase pages root tables → Whole → ⊥

-- Why the space of pages may refuse a change, with what is known where it was for damage and with
-- the counts of refused device calls before and after; of the other refusals nothing is said here.
abbrev pub SpaceRefused : (SpaceError → Type 0) → Type 0 → ℕ → ℕ → DatabaseError → Type 0
SpaceRefused AtLimit Harm before after (Space fault) = ChangeRefused AtLimit Harm before after fault
SpaceRefused AtLimit Harm before after Record = ⊤
SpaceRefused AtLimit Harm before after Key = ⊤
SpaceRefused AtLimit Harm before after Number = ⊤
SpaceRefused AtLimit Harm before after Schema = ⊤

-- of these, want of memory alone
abbrev pub IsOfMemory : DatabaseError → Type 0
IsOfMemory (Space fault) = fault ≡ Memory
IsOfMemory Record = ⊤
IsOfMemory Key = ⊤
IsOfMemory Number = ⊤
IsOfMemory Schema = ⊤

-- there was no memory, and it is nothing else
abbrev pub IsMemoryAlone : DatabaseError → Type 0
IsMemoryAlone (Space fault) = fault ≡ Memory
IsMemoryAlone Record = ⊥
IsMemoryAlone Key = ⊥
IsMemoryAlone Number = ⊥
IsMemoryAlone Schema = ⊥

-- ---- the other refusals

-- a row's code, its key in an index, or its number is too great only where it is so; that a record
-- of the schema is too long may be at any time
abbrev pub Reaches : (Long LongKey NoNumber : Type 0) → DatabaseError → Type 0
Reaches Long LongKey NoNumber (Space fault) = ⊤
Reaches Long LongKey NoNumber Record = Long
Reaches Long LongKey NoNumber Key = LongKey
Reaches Long LongKey NoNumber Number = NoNumber
Reaches Long LongKey NoNumber Schema = ⊤

-- none of these
abbrev pub ReachesNone : DatabaseError → Type 0
ReachesNone = Reaches ⊥ ⊥ ⊥

-- Storing rows in the table of a name: the code of one of them, or its key in an index of the
-- table, is too long; of the indexes this is said where a database is held.
abbrev pub StoringReaches : PageMap → ℕ → Name → List Row → DatabaseError → Type 0
StoringReaches pages root name rows = Reaches (HasLongRow rows) ((tables : List TableAt)
    → HoldsDatabase pages root tables → HasLongKey (indexes_of (get (contents_of tables) name)) rows) ⊥

-- the same, or the numbers end before all of the rows have one
abbrev pub NumberingReaches : PageMap → ℕ → Name → List Row → DatabaseError → Type 0
NumberingReaches pages root name rows = Reaches (HasLongRow rows) ((tables : List TableAt)
    → HoldsDatabase pages root tables → HasLongKey (indexes_of (get (contents_of tables) name)) rows)
    ((tables : List TableAt) → HoldsDatabase pages root tables → 2 ^ 63 < next_number (entries_of (get (contents_of tables) name)) + length rows)
