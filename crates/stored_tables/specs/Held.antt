-- The tables of a database in pages: the schema in one tree, and of each table its rows in another.
-- Our own choice.
use Rattle.std.specs.Prelude.{ℕ, ◌++◌, List, map}
use Rattle.std.specs.List.{flat_map, AllByRecursion}
use Rattle.std.specs.FinMap.{from_entries}
use Rattle.sqlval.specs.declared.schema.Table.{Table}
use Rattle.denote.specs.Database.{Name}
use Rattle.denote.specs.SchemaOf.{index_of}
use Rattle.store.specs.Contents.{Entry, StoredTable, Contents}
use Rattle.page_space.specs.Space.{PageMap}
use Rattle.btree_read.specs.Lists.{Apart}
use Rattle.catalog.specs.Held.{HoldsSchema}
use Rattle.tablestore.specs.Held.{HoldsRows, AreFitting}

-- a table: what the catalogue declares, the root of its rows among it; the pages of the tree of its
-- rows; and these
pub record TableAt : Type 0 where
  pub declared : Table
  pub owned : List ℕ
  pub rows : List Entry

abbrev pub declared_of : List TableAt → List Table
declared_of tables = map (λ (t : TableAt). t.declared) tables

-- the pages of the trees of rows
abbrev pub owned_by : List TableAt → List ℕ
owned_by tables = flat_map (λ (t : TableAt). t.owned) tables

abbrev pub HoldsIts : PageMap → TableAt → Type 0
HoldsIts pages t = HoldsRows pages t.declared.root t.owned t.rows

-- its rows fit its columns
abbrev pub ItFits : TableAt → Type 0
ItFits t = AreFitting t.declared.columns t.rows

-- the tree at the root has the schema, that of each table its rows, which fit its columns, and no
-- page belongs to two of these trees
pub record HoldsTables (pages : PageMap) (root : ℕ) (tables : List TableAt) : Type 0 where
  pub owned : List ℕ
  pub schema : HoldsSchema pages root owned (declared_of tables)
  pub rows : AllByRecursion (HoldsIts pages) tables
  pub fits : AllByRecursion ItFits tables
  pub apart : Apart (owned ++ owned_by tables)

-- no tables are held there
abbrev pub HoldsNoTables : PageMap → ℕ → Type 0
HoldsNoTables pages root = (tables : List TableAt) → HoldsTables pages root tables → ⊥

-- ---- what a store shows of them

abbrev pub stored_of : TableAt → StoredTable
stored_of t = record { columns = t.declared.columns; constraints = t.declared.constraints; indexes = map index_of t.declared.indexes; entries = t.rows }

abbrev pub entry_at : TableAt → Name × StoredTable
entry_at t = (t.declared.name, stored_of t)

abbrev pub contents_of : List TableAt → Contents
contents_of tables = from_entries (map entry_at tables)
