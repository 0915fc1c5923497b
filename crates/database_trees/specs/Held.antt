-- The database that pages hold: a schema, of each table its rows, and each index of it over just
-- these rows. Our own choice.
use Rattle.std.specs.Prelude.{◌≡◌, ℕ, List, ◌∷◌, map, Bool, true, false}
use Rattle.std.specs.List.{flat_map, AllByRecursion}
use Rattle.sqlval.specs.declared.schema.Table.{Table}
use Rattle.sqlval.specs.declared.schema.Column.{Column}
use Rattle.sqlval.specs.declared.schema.Constraint.{Constraint}
use Rattle.sqlval.specs.declared.schema.Index.{Index}
use Rattle.denote.specs.Database.{Name}
use Rattle.store.specs.Contents.{Entry, Contents}
use Rattle.page_space.specs.Space.{PageMap}
use Rattle.tablestore.specs.Held.{AreFitting}
use Rattle.stored_tables.specs.Held as plain
use Rattle.database_trees.specs.Trees.{TreeAt, SchemaOf, RowsOf, IndexOf, HoldsTrees}

-- an index: what the catalogue declares, the root of its tree among it, and the pages of this tree
pub record IndexAt : Type 0 where
  pub declared : Index
  pub owned : List ℕ

-- a table: what the catalogue declares, its rows and the pages of their tree, and its indexes in
-- the order of the declaration, those that constraints own among them
pub record TableAt : Type 0 where
  pub name : Name
  pub columns : List Column
  pub constraints : List Constraint
  pub root : ℕ
  pub owned : List ℕ
  pub rows : List Entry
  pub indexes : List IndexAt

abbrev pub indexes_declared : List IndexAt → List Index
indexes_declared indexes = map (λ (i : IndexAt). i.declared) indexes

abbrev pub declared_at : TableAt → Table
declared_at t = record { name = t.name; columns = t.columns; constraints = t.constraints; indexes = indexes_declared t.indexes; root = t.root }

abbrev pub declared_of : List TableAt → List Table
declared_of tables = map declared_at tables

-- the tree of an index of these rows
abbrev pub index_tree : List Entry → IndexAt → TreeAt
index_tree rows i = record { root = i.declared.root; owned = i.owned; content = IndexOf i.declared.columns rows }

abbrev pub trees_of_indexes : List Entry → List IndexAt → List TreeAt
trees_of_indexes rows indexes = map (index_tree rows) indexes

abbrev pub rows_tree : ℕ → List ℕ → List Entry → TreeAt
rows_tree root owned rows = record { root = root; owned = owned; content = RowsOf rows }

-- the tree of a table's rows, and that of each of its indexes, which has all rows of the table and
-- no others
abbrev pub table_trees : TableAt → List TreeAt
table_trees t = rows_tree t.root t.owned t.rows ∷ trees_of_indexes t.rows t.indexes

abbrev pub trees_of : List TableAt → List TreeAt
trees_of tables = flat_map table_trees tables

abbrev pub schema_tree : ℕ → List ℕ → List Table → TreeAt
schema_tree root owned tables = record { root = root; owned = owned; content = SchemaOf tables }

-- the rows of a table fit its columns
abbrev pub ItFits : TableAt → Type 0
ItFits t = AreFitting t.columns t.rows

-- the tree at the root has the schema, and no page belongs to two of the trees of the database; the
-- rows of each table fit its columns; if the database is alone there, each page in use belongs to
-- one of its trees
pub record HoldsFor (alone : Bool) (pages : PageMap) (root : ℕ) (tables : List TableAt) : Type 0 where
  pub owned : List ℕ
  pub trees : HoldsTrees alone pages (schema_tree root owned (declared_of tables) ∷ trees_of tables)
  pub fits : AllByRecursion ItFits tables

-- whatever else lies in the pages
abbrev pub HoldsDatabase : PageMap → ℕ → List TableAt → Type 0
HoldsDatabase = HoldsFor false

-- each page in use is one of the tree of the schema, of a table's or of an index's
abbrev pub IsAllOwned : PageMap → ℕ → List TableAt → Type 0
IsAllOwned = HoldsFor true

-- no database is held there
abbrev pub HoldsNoDatabase : PageMap → ℕ → Type 0
HoldsNoDatabase pages root = (tables : List TableAt) → HoldsDatabase pages root tables → ⊥

-- ---- what a store shows of it

-- a table without the trees of its indexes
abbrev pub rows_at : TableAt → plain.TableAt
rows_at t = record { declared = declared_at t; owned = t.owned; rows = t.rows }

abbrev pub rows_of_tables : List TableAt → List plain.TableAt
rows_of_tables tables = map rows_at tables

abbrev pub contents_of : List TableAt → Contents
contents_of tables = plain.contents_of (rows_of_tables tables)
