-- The trees of a database in one space of pages. Our own choice.
use Rattle.std.specs.Prelude.{◌≡◌, ℕ, ◌⊎◌, List, None, IsSome, Bool, true}
use Rattle.std.specs.List.{flat_map, AllByRecursion}
use Rattle.sqlval.specs.declared.schema.Table.{Table}
use Rattle.store.specs.Contents.{Entry}
use Rattle.page_space.specs.Space.{PageMap}
use Rattle.btree_read.specs.Lists.{Has, Apart}
use Rattle.catalog.specs.Held.{HoldsSchema}
use Rattle.tablestore.specs.Held.{HoldsRows}
use Rattle.index_trees.specs.Indexed.{HoldsIndex}

-- what a tree has: the schema of these tables, these rows, or an entry for each of these rows in an
-- index over these columns
pub data Content : Type 0 where
  SchemaOf : (tables : List Table) → Content
  RowsOf : (rows : List Entry) → Content
  IndexOf : (columns : List ℕ) (rows : List Entry) → Content

-- a tree: its root, its pages, and what it has
pub record TreeAt : Type 0 where
  pub root : ℕ
  pub owned : List ℕ
  pub content : Content

abbrev pub HasContent : PageMap → ℕ → List ℕ → Content → Type 0
HasContent pages root owned (SchemaOf tables) = HoldsSchema pages root owned tables
HasContent pages root owned (RowsOf rows) = HoldsRows pages root owned rows
HasContent pages root owned (IndexOf columns rows) = HoldsIndex pages root owned columns rows

abbrev pub Lies : PageMap → TreeAt → Type 0
Lies pages tree = HasContent pages tree.root tree.owned tree.content

-- the pages of trees
abbrev pub pages_of : List TreeAt → List ℕ
pages_of trees = flat_map (λ (tree : TreeAt). tree.owned) trees

-- each page in use belongs to one of the trees: none is lost
abbrev pub OwnAll : PageMap → List TreeAt → Type 0
OwnAll pages trees = (n : ℕ) → IsSome (pages n) → Has n (pages_of trees)

-- each of the trees lies in the pages, and no page belongs to two of them; if they are alone there,
-- no other page is in use
pub record HoldsTrees (alone : Bool) (pages : PageMap) (trees : List TreeAt) : Type 0 where
  pub each : AllByRecursion (Lies pages) trees
  pub apart : Apart (pages_of trees)
  pub all : alone ≡ true → OwnAll pages trees

-- a tree has its own pages or such as were not in use, and no other page in use has changed
pub record IsMoved (old new : PageMap) (owned now_owned : List ℕ) : Type 0 where
  pub own : (n : ℕ) → Has n now_owned → Has n owned ⊎ (old n ≡ None)
  pub others : (n : ℕ) → (Has n owned → ⊥) → IsSome (old n) → new n ≡ old n
