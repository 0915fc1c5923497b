-- A table with one more index. Our own choice.
use Rattle.std.specs.Prelude.{◌≡◌, ℕ, List, [], ◌∷◌, ◌++◌, Bool}
use Rattle.sqlval.specs.declared.schema.Table.{Table}
use Rattle.sqlval.specs.declared.schema.Index.{Index}
use Rattle.store.specs.Contents as contents
use Rattle.page_space.specs.Space.{PageMap}
use Rattle.stored_tables.specs.Held.{stored_of}
use Rattle.database_trees.specs.Held.{TableAt, rows_at, HoldsFor}
use Rattle.database_trees.specs.Exchanged.{with_root}

-- with one more index at its end, whose tree begins at a root
abbrev pub table_indexed : Table → Index → ℕ → Table
table_indexed table index root = record table { indexes = table.indexes ++ with_root root index ∷ [] }

-- the table has one more index, and the other tables are as they were
pub record IndexMade (alone : Bool) (new : PageMap) (before : List TableAt) (was : TableAt) (behind : List TableAt) (index : Index) (root : ℕ) : Type 0 where
  pub now : TableAt
  pub name : now.name ≡ was.name
  pub stored : stored_of (rows_at now) ≡ contents.with_index index (stored_of (rows_at was))
  pub holds : HoldsFor alone new root (before ++ now ∷ behind)
