-- What is planned for the rows of a table, and what the definitions make of the database by it.
use Rattle.std.specs.Prelude.{◌≡◌, ℕ, true, false, List, [], ◌++◌, map, count_by, Option, Some, None}
use Rattle.std.specs.FinMap.{get}
use Rattle.sqlval.specs.Value.{Row}
use Rattle.typing.specs.declared.statement.Change.{Change}
use Rattle.denote.specs.Bag.{Permutes}
use Rattle.denote.specs.Change.{changed, with_rows}
use Rattle.denote.specs.Change.Changed.{Makes}
use Rattle.denote.specs.Database.{Name, Table, CheckReading, violated_by}
use Rattle.operator_laws.specs.Same.{Every}
use Rattle.store.specs.Contents.{Contents, Entry, database_of}
use Rattle.store.specs.Indexes.{entries_of}
use Rattle.constraints.specs.Settled.{Holds}
use Rattle.update_delete.specs.declared.change.RowChange.{RowChange}
use Rattle.update_delete.specs.Made.{all_made}
use Rattle.update_delete.specs.RowChanges.{is_change, rows_new, IsShort, AreChanges}
use Rattle.update_delete.specs.declared.planned.Planned.{Planned}

-- The table is there. The planned changes make of a store what changes of all rows of the table
-- make, of which some may stay; and these leave the rows that it has by the definitions. These are,
-- in some order, the others and the new ones; those that it had are the others and the ones gone.
pub record IsMeant (reading : CheckReading) (c : Contents) (change : Change) (name : Name) (planned : Planned) : Type 0 where
  pub table : Table
  pub there : get (database_of c) name ≡ Some table
  pub all : List RowChange
  pub made_so : (k : Contents)
      → all_made name planned.numbers planned.changes k ≡ all_made name (map (λ (e : Entry). e.0) (entries_of (get c name))) all k
  pub short : Every (IsShort table.indexes) planned.changes
  pub left : List Row
  pub count : ℕ
  pub touched : count_by is_change planned.changes ≡ count
  pub are : AreChanges table all left count
  pub others : List Row
  pub before : Permutes (others ++ planned.gone) table.rows
  pub among : Permutes (others ++ rows_new planned.changes) left
  pub means : changed reading (database_of c) change ≡ with_rows reading (database_of c) name table left count

-- the table that would be violates no constraint
abbrev pub LeavesGood : (reading : CheckReading) (c : Contents) (change : Change) (name : Name) (planned : Planned)
    → IsMeant reading c change name planned → Type 0
LeavesGood reading c change name planned meant = violated_by reading name (record meant.table { rows = meant.left }) ≡ []

-- the others violate none
abbrev pub OthersGood : (reading : CheckReading) (c : Contents) (change : Change) (name : Name) (planned : Planned)
    → IsMeant reading c change name planned → Type 0
OthersGood reading c change name planned meant = violated_by reading name (record meant.table { rows = meant.others }) ≡ []

-- Where the table violates none as it is, the others violate none, and where it is said to be sure,
-- neither does the table that would be.
pub record IsHarmless (reading : CheckReading) (c : Contents) (change : Change) (name : Name) (planned : Planned) : Type 0 where
  pub meant : IsMeant reading c change name planned
  pub others_good : planned.harmless ≡ false → Holds reading (database_of c) name
      → OthersGood reading c change name planned meant
  pub leaves_good : planned.harmless ≡ true → Holds reading (database_of c) name
      → LeavesGood reading c change name planned meant

-- where no table has the name, nothing is planned and nothing changes
abbrev pub IsPlanned : CheckReading → Contents → Change → Name → Option Planned → Type 0
IsPlanned reading c change name None = changed reading (database_of c) change ≡ Makes (database_of c) (Some 0)
IsPlanned reading c change name (Some planned) = IsHarmless reading c change name planned
