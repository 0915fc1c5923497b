-- That the indexes which a plan reads by are those of the stored tables.
use Rattle.std.specs.Prelude.{◌≡◌, ℕ, nat_eq, Bool, List, [], ◌∷◌, ◌++◌, map, Contains, Option}
use Rattle.std.specs.Cmp.Lexicographic.{pointwise}
use Rattle.std.specs.FinMap.{get}
use Rattle.std.specs.List.{position_from}
use Rattle.algebra.specs.declared.tree.StoredTable.{StoredTable}
use Rattle.algebra.specs.declared.tree.Condition.{Condition-F}
use Rattle.algebra.specs.declared.tree.Expression.{Expression-F}
use Rattle.algebra.specs.declared.tree.SetFunction.{SetFunction-F}
use Rattle.algebra.specs.declared.tree.Tree.{Tree, Tree-F, fold-Tree}
use Rattle.store.specs.Contents as stored
use Rattle.store.specs.Errors.{indexes_of}

-- a node with the tables of its parts in their places
abbrev pub Sought : ((A B C D : Type 0) → Type 0) → Type 0
Sought T = T (List StoredTable) (List StoredTable) (List StoredTable) (List StoredTable)

-- what stands inside conditions, expressions and set functions is read by no index
abbrev pub sought_by_condition : Sought Condition-F → List StoredTable
sought_by_condition condition = []

abbrev pub sought_by_expression : Sought Expression-F → List StoredTable
sought_by_expression expression = []

abbrev pub sought_by_function : Sought SetFunction-F → List StoredTable
sought_by_function function = []

abbrev pub sought_by_node : Sought Tree-F → List StoredTable
sought_by_node (Tree-F.Scan table) = []
sought_by_node (Tree-F.Filter condition tree) = tree
sought_by_node (Tree-F.Product left right) = left ++ right
sought_by_node (Tree-F.Inner on left right) = left ++ right
sought_by_node (Tree-F.Left on left right width) = left ++ right
sought_by_node (Tree-F.Half on left right) = left ++ right
sought_by_node (Tree-F.OppositeHalf on left right) = left ++ right
sought_by_node (Tree-F.Group columns functions rows) = rows
sought_by_node (Tree-F.Project items tree) = tree
sought_by_node (Tree-F.Distinct tree) = tree
sought_by_node (Tree-F.Set op left right) = left ++ right
sought_by_node (Tree-F.Sort keys tree) = tree
sought_by_node (Tree-F.Seek table columns key) = table ∷ []
sought_by_node (Tree-F.Range table columns low high) = table ∷ []
sought_by_node (Tree-F.IndexLoop on left places table columns) = left ++ table ∷ []
sought_by_node (Tree-F.HashJoin on left right left_places right_places) = left ++ right
sought_by_node (Tree-F.Member operand is_negated members rows) = members ++ rows

-- the tables that a plan reads by an index: those of the nodes on the way to its root
unfoldable pub sought_in : Tree → List StoredTable
sought_in = fold-Tree _ _ _ _ sought_by_condition sought_by_expression sought_by_function sought_by_node

-- the columns of the indexes of a stored table, none where there is no table
abbrev pub index_columns : Option stored.StoredTable → List (List ℕ)
index_columns table = map (λ index. index.columns) (indexes_of table)

-- the indexes that are known of these tables are those that the stored tables have
abbrev pub AreIndexed : stored.Contents → List StoredTable → Type 0
AreIndexed contents tables = (table : StoredTable) → Contains tables table
    → index_columns (get contents table.name) ≡ table.indexes

abbrev pub HasIndexes : stored.Contents → Tree → Type 0
HasIndexes contents tree = AreIndexed contents (sought_in tree)

-- ---- which index it is

abbrev pub same_columns : List ℕ → List ℕ → Bool
same_columns = pointwise nat_eq

-- the place of the first index over just these columns that is known of a table
abbrev pub index_place : StoredTable → List ℕ → Option ℕ
index_place table columns = position_from (λ index. same_columns index columns) 0 table.indexes
