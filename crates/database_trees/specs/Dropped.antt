-- A table that goes, with the trees of its rows and indexes. Our own choice.
use Rattle.std.specs.Prelude.{◌≡◌, ℕ, List, ◌∷◌, ◌++◌, None, Bool}
use Rattle.std.specs.List.{AllByRecursion}
use Rattle.sqlval.specs.declared.schema.Table.{Table}
use Rattle.sqlval.specs.declared.schema.Index.{Index}
use Rattle.denote.specs.Database.{Name}
use Rattle.store.specs.Contents.{Entry}
use Rattle.page_space.specs.Space.{PageMap}
use Rattle.btree_read.specs.Lists.{Has}
use Rattle.database_trees.specs.Trees.{TreeAt, pages_of, HoldsTrees}
use Rattle.database_trees.specs.Held.{IndexAt, TableAt, indexes_declared, trees_of_indexes, declared_at, table_trees, HoldsFor}

-- indexes between other trees
pub record AreIndexes (alone : Bool) (pages : PageMap) (indexes : List Index) : Type 0 where
  pub before : List TreeAt
  pub its : List IndexAt
  pub behind : List TreeAt
  pub rows : List Entry
  pub declared : indexes ≡ indexes_declared its
  pub trees : HoldsTrees alone pages (before ++ (trees_of_indexes rows its ++ behind))

-- the trees of a table between other trees
pub record AreTreesOf (alone : Bool) (pages : PageMap) (table : Table) : Type 0 where
  pub before : List TreeAt
  pub at : TableAt
  pub behind : List TreeAt
  pub declared : declared_at at ≡ table
  pub trees : HoldsTrees alone pages (before ++ (table_trees at ++ behind))

-- the table is gone, its pages are free, and the other tables are as they were
pub record TableGone (alone : Bool) (new : PageMap) (before : List TableAt) (was : TableAt) (behind : List TableAt) (root : ℕ) : Type 0 where
  pub holds : HoldsFor alone new root (before ++ behind)
  pub gone : (n : ℕ) → Has n (pages_of (table_trees was)) → new n ≡ None

-- the pages of a table of this name are free
abbrev pub AreFreed : PageMap → Name → List TableAt → Type 0
AreFreed new name tables = AllByRecursion (λ (t : TableAt). t.name ≡ name → (n : ℕ) → Has n (pages_of (table_trees t))
    → new n ≡ None) tables
