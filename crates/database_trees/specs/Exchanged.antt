-- Indexes that lose a row and get others, and the roots of their trees in the schema. Our own
-- choice.
use Rattle.std.specs.Prelude.{◌≡◌, ℕ, zero, suc, ◌+◌, ◌<◌, List, [], ◌∷◌, ◌++◌, map, Contains, Option, None, Some, ⊤, Bool}
use Rattle.sqlval.specs.declared.schema.Table.{Table}
use Rattle.sqlval.specs.declared.schema.Index.{Index}
use Rattle.sqlval.specs.CodedLength.{key_length}
use Rattle.sqlval.specs.Matching.{key_of}
use Rattle.sqlval.specs.Value.{Row}
use Rattle.std.specs.List.{enumerate_from}
use Rattle.store.specs.Contents.{Entry, next_number}
use Rattle.store.specs.View.{entry_of, AreEntries}
use Rattle.store.specs.declared.rows.NumberedRow.{NumberedRow}
use Rattle.store.specs.declared.rows.Numbered.{Numbered}
use Rattle.page_space.specs.Space.{PageMap}
use Rattle.catalog_records.specs.Keepable.{IsTable}
use Rattle.index_trees.specs.Indexed.{HoldsIndex, AreWith, IsRow}
use Rattle.stored_tables.specs.Held.{stored_of}
use Rattle.database_trees.specs.declared.exchange.Exchange.{Exchange}
use Rattle.database_trees.specs.Trees.{TreeAt, HoldsTrees}
use Rattle.database_trees.specs.Named.{row_numbered}
use Rattle.database_trees.specs.Held.{IndexAt, TableAt, declared_at, indexes_declared, trees_of_indexes, rows_tree, table_trees, schema_tree, rows_at, HoldsFor}

-- what is left of rows, where one is taken or none
abbrev pub IsLeft : Option NumberedRow → List Entry → List Entry → Type 0
IsLeft None held left = held ≡ left
IsLeft (Some one) held left = AreWith (entry_of one) left held

-- more rows behind some, each with a number that none before it has
abbrev pub AreMore : List Entry → List Entry → Type 0
AreMore [] rows = ⊤
AreMore (e ∷ more) rows = AreWith e rows (rows ++ e ∷ []) × AreMore more (rows ++ e ∷ [])

-- what an exchange leaves of the rows that are held, and what it puts to them
pub record Exchanges (exchange : Exchange) (held left more : List Entry) : Type 0 where
  pub taken : IsLeft exchange.taken held left
  pub put : AreEntries exchange.put more
  pub apart : AreMore more left

-- one of the rows has a key over these columns that takes more than 600 bytes with its number
pub record HasLongKeyIn (columns : List ℕ) (rows : List Row) : Type 0 where
  pub row : Row
  pub one : Contains rows row
  pub long : 600 < key_length (key_of columns row) + 8

-- ---- one index

-- an index to which these rows can be put
pub record IsOpen (pages : PageMap) (root : ℕ) (columns : List ℕ) (put : Numbered) : Type 0 where
  pub owned : List ℕ
  pub held : List Entry
  pub more : List Entry
  pub index : HoldsIndex pages root owned columns held
  pub entries : AreEntries put more
  pub apart : AreMore more held

-- an index of which this row can be taken, if one is to be
pub record HasTaken (pages : PageMap) (root : ℕ) (columns : List ℕ) (taken : Option NumberedRow) : Type 0 where
  pub owned : List ℕ
  pub held : List Entry
  pub left : List Entry
  pub index : HoldsIndex pages root owned columns held
  pub leaves : IsLeft taken held left

-- an index in which these rows can be exchanged
pub record IsExchangeable (pages : PageMap) (root : ℕ) (columns : List ℕ) (exchange : Exchange) : Type 0 where
  pub owned : List ℕ
  pub held : List Entry
  pub left : List Entry
  pub more : List Entry
  pub index : HoldsIndex pages root owned columns held
  pub exchanges : Exchanges exchange held left more

-- ---- the indexes of a table

abbrev pub with_root : ℕ → Index → Index
with_root root index = record index { root = root }

-- with another root of the one at a place
abbrev pub root_put : ℕ → ℕ → List Index → List Index
root_put at root [] = []
root_put zero root (i ∷ indexes) = with_root root i ∷ indexes
root_put (suc at) root (i ∷ indexes) = i ∷ root_put at root indexes

-- indexes whose trees begin at these roots
abbrev pub with_roots : List ℕ → List Index → List Index
with_roots [] indexes = indexes
with_roots (root ∷ roots) [] = []
with_roots (root ∷ roots) (i ∷ indexes) = with_root root i ∷ with_roots roots indexes

-- a table whose trees begin at these roots
abbrev pub table_with : ℕ → List ℕ → Table → Table
table_with rows roots table = record table { root = rows; indexes = with_roots roots table.indexes }

-- indexes, between other trees, in which these rows can be exchanged
pub record AreExchangeable (alone : Bool) (pages : PageMap) (indexes : List Index) (exchange : Exchange) : Type 0 where
  pub before : List TreeAt
  pub its : List IndexAt
  pub behind : List TreeAt
  pub held : List Entry
  pub left : List Entry
  pub more : List Entry
  pub declared : indexes ≡ indexes_declared its
  pub trees : HoldsTrees alone pages (before ++ (trees_of_indexes held its ++ behind))
  pub exchanges : Exchanges exchange held left more

-- the indexes are now of these rows, at these roots; the other trees are as they were
pub record AreExchanged (alone : Bool) (new : PageMap) (before : List TreeAt) (indexes : List Index) (behind : List TreeAt) (rows : List Entry) (roots : List ℕ) : Type 0 where
  pub its : List IndexAt
  pub declared : indexes_declared its ≡ with_roots roots indexes
  pub trees : HoldsTrees alone new (before ++ (trees_of_indexes rows its ++ behind))

-- ---- a table in the schema

-- the schema has this table, beside other trees
pub record HasTable (alone : Bool) (pages : PageMap) (root : ℕ) (table : Table) : Type 0 where
  pub owned : List ℕ
  pub front : List Table
  pub back : List Table
  pub others : List TreeAt
  pub trees : HoldsTrees alone pages (schema_tree root owned (front ++ table ∷ back) ∷ others)

-- the schema has this table there, and the other trees are as they were
pub record TablePut (alone : Bool) (new : PageMap) (front : List Table) (table : Table) (back : List Table) (others : List TreeAt) (root : ℕ) : Type 0 where
  pub owned : List ℕ
  pub trees : HoldsTrees alone new (schema_tree root owned (front ++ table ∷ back) ∷ others)

-- ---- a table whose rows are exchanged

-- the same rows, in whatever order
pub record AreSameRows (one other : List Entry) : Type 0 where
  pub to : (row : Entry) → IsRow row one → IsRow row other
  pub back : (row : Entry) → IsRow row other → IsRow row one

-- the tree of its rows has other rows already, those of its indexes and the schema are as they were
pub record IsUnsettled (alone : Bool) (pages : PageMap) (root : ℕ) (table : Table) (rows_root : ℕ) (exchange : Exchange) : Type 0 where
  pub owned : List ℕ
  pub front : List Table
  pub back : List Table
  pub before : List TreeAt
  pub behind : List TreeAt
  pub at : TableAt
  pub now_owned : List ℕ
  pub rows : List Entry
  pub left : List Entry
  pub more : List Entry
  pub declared : declared_at at ≡ table
  pub trees : HoldsTrees alone pages (schema_tree root owned (front ++ table ∷ back) ∷ (before ++ (rows_tree rows_root now_owned rows ∷ (trees_of_indexes at.rows at.indexes ++ behind))))
  pub exchanges : Exchanges exchange at.rows left more
  pub same : AreSameRows (left ++ more) rows

-- a table that differs from another in its rows and in where its trees lie
pub record IsWithRows (was : TableAt) (rows : List Entry) (now : TableAt) : Type 0 where
  pub name : now.name ≡ was.name
  pub stored : stored_of (rows_at now) ≡ record (stored_of (rows_at was)) { entries = rows }

-- all trees of the table have the new rows, and the schema names their roots
pub record IsSettled (alone : Bool) (new : PageMap) (front back : List Table) (before behind : List TreeAt) (was : TableAt) (rows : List Entry) (root : ℕ) : Type 0 where
  pub now : TableAt
  pub owned : List ℕ
  pub kept : IsWithRows was rows now
  pub trees : HoldsTrees alone new (schema_tree root owned (front ++ declared_at now ∷ back) ∷ (before ++ (table_trees now ++ behind)))

-- ---- a table of a database

pub record IsTableOf (alone : Bool) (pages : PageMap) (root : ℕ) (table : Table) : Type 0 where
  pub before : List TableAt
  pub at : TableAt
  pub behind : List TableAt
  pub declared : declared_at at ≡ table
  pub holds : HoldsFor alone pages root (before ++ at ∷ behind)

-- it now has these rows, and the other tables are as they were
pub record RowsExchanged (alone : Bool) (new : PageMap) (before : List TableAt) (was : TableAt) (behind : List TableAt) (rows : List Entry) (root : ℕ) : Type 0 where
  pub now : TableAt
  pub kept : IsWithRows was rows now
  pub holds : HoldsFor alone new root (before ++ now ∷ behind)

-- rows that are to be put behind those of a table, with the numbers that they get
pub record IsAppendable (alone : Bool) (pages : PageMap) (root : ℕ) (table : Table) (exchange : Exchange) : Type 0 where
  pub its : IsTableOf alone pages root table
  pub none : exchange.taken ≡ None
  pub numbers : exchange.put.numbers ≡ map (λ (e : Entry). e.0) (enumerate_from (next_number its.at.rows) exchange.put.rows)

-- a table's row of this number, that is to be taken, and what is to be put in its place
pub record IsExchangeableAt (alone : Bool) (pages : PageMap) (root : ℕ) (table : Table) (number : ℕ) (exchange : Exchange) (more : List Entry) : Type 0 where
  pub its : IsTableOf alone pages root table
  pub one : NumberedRow
  pub taken : exchange.taken ≡ Some one
  pub found : row_numbered number its.at.rows ≡ Some (entry_of one)
  pub put : AreEntries exchange.put more

-- a table's row of this number
pub record HasRow (alone : Bool) (pages : PageMap) (root : ℕ) (table : Table) (one : NumberedRow) : Type 0 where
  pub its : IsTableOf alone pages root table
  pub found : row_numbered one.number its.at.rows ≡ Some (entry_of one)
