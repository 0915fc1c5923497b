-- What tables lie in pages, whatever lies there. Our own choice.
use Rattle.std.specs.Prelude.{ℕ, List, map}
use Rattle.std.specs.FinMap.{from_entries}
use Rattle.sqlval.specs.declared.schema.Table as schema
use Rattle.denote.specs.Database.{Name}
use Rattle.denote.specs.SchemaOf as declared
use Rattle.store.specs.Contents as stored
use Rattle.page_space.specs.Space.{PageMap}
use Rattle.btree_read.specs.declared.entry.Entry.{Entry}
use Rattle.stored_tables.specs.Values.{number_in, row_in}
use Rattle.stored_tables.specs.Trees.{entries_at}
use Rattle.stored_tables.specs.Schemas.{tables_in}

-- a row with its number
abbrev pub row_of : Entry → stored.Entry
row_of e = (number_in e.key, row_in e.value)

-- the rows of the tree at a root
abbrev pub rows_at : PageMap → ℕ → List stored.Entry
rows_at pages root = map row_of (entries_at pages root)

-- a table with its rows
abbrev pub table_in : PageMap → schema.Table → Name × stored.StoredTable
table_in pages t = (t.name, record { columns = t.columns; constraints = t.constraints; indexes = map declared.index_of t.indexes; entries = rows_at pages t.root })

-- the tables of the schema at a root, each with its rows
unfoldable pub contents_at : PageMap → ℕ → stored.Contents
contents_at pages root = from_entries (map (table_in pages) (tables_in (entries_at pages root)))
