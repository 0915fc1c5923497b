-- Tables without the indexes of a name. Our own choice.
use Rattle.std.specs.Prelude.{◌≡◌, ℕ, List, ◌∷◌, ◌++◌, map, filter, not, None, Bool}
use Rattle.sqlval.specs.declared.schema.Table.{Table}
use Rattle.sqlval.specs.declared.schema.Index.{Index}
use Rattle.sqlval.specs.Schema.{is_named}
use Rattle.denote.specs.Database.{Name}
use Rattle.store.specs.Contents.{Entry}
use Rattle.page_space.specs.Space.{PageMap}
use Rattle.btree_read.specs.Lists.{Has}
use Rattle.database_trees.specs.Trees.{TreeAt, pages_of, HoldsTrees}
use Rattle.database_trees.specs.Held.{IndexAt, TableAt, trees_of_indexes, HoldsFor}

abbrev pub without_named : Name → List Index → List Index
without_named name indexes = filter (λ (index : Index). not (is_named name index.name)) indexes

abbrev pub table_without : Name → Table → Table
table_without name table = record table { indexes = without_named name table.indexes }

-- those that stay, and those that go
abbrev pub kept_at : Name → List IndexAt → List IndexAt
kept_at name its = filter (λ (i : IndexAt). not (is_named name i.declared.name)) its

abbrev pub named_at : Name → List IndexAt → List IndexAt
named_at name its = filter (λ (i : IndexAt). is_named name i.declared.name) its

abbrev pub without_at : Name → TableAt → TableAt
without_at name t = record t { indexes = kept_at name t.indexes }

-- no page of the trees of the indexes of a name is in use
abbrev pub AreGiven : PageMap → Name → List IndexAt → List Entry → Type 0
AreGiven new name its rows = (n : ℕ) → Has n (pages_of (trees_of_indexes rows (named_at name its))) → new n ≡ None

-- the trees of the indexes of a name are gone, and the others are as they were
pub record IndexesLeft (alone : Bool) (new : PageMap) (name : Name) (before : List TreeAt) (its : List IndexAt) (behind : List TreeAt) (rows : List Entry) : Type 0 where
  pub trees : HoldsTrees alone new (before ++ (trees_of_indexes rows (kept_at name its) ++ behind))
  pub given : AreGiven new name its rows

-- so they are in a table, and the other tables are as they were
pub record IndexesGone (alone : Bool) (new : PageMap) (name : Name) (before : List TableAt) (was : TableAt) (behind : List TableAt) (root : ℕ) : Type 0 where
  pub holds : HoldsFor alone new root (before ++ without_at name was ∷ behind)
  pub given : AreGiven new name was.indexes was.rows

-- and in all tables
abbrev pub TablesUnindexed : Bool → PageMap → Name → List TableAt → ℕ → Type 0
TablesUnindexed alone new name tables root = HoldsFor alone new root (map (without_at name) tables)
