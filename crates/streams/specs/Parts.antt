-- When a plan can be run: which tables have to be lent to it, and by which indexes it reads.
use Rattle.std.specs.Prelude.{[], ◌++◌, map}
use Rattle.algebra.specs.declared.tree.Condition.{Condition-F}
use Rattle.algebra.specs.declared.tree.Expression.{Expression-F}
use Rattle.algebra.specs.declared.tree.SetFunction.{SetFunction-F}
use Rattle.algebra.specs.declared.tree.Tree.{Tree, Tree-F, fold-Tree, out-Tree}
use Rattle.denote.specs.Meaning.{Tables}
use Rattle.store.specs.View.{Shown}
use Rattle.places.specs.Indexes.{HasIndexes}
use Rattle.places.specs.Joins.{Node}
use Rattle.places.specs.Left.{entries_in, rows_by}
use Rattle.tree_tables.specs.TablesRead.{Agree, Names, all_names, tables_in_condition, tables_in_expression, tables_in_function}

-- a node, with the names of a tree below it as a function of that tree
abbrev pub Parts : ((A B C D : Type 0) → Type 0) → Type 0
Parts T = T Names Names Names (Tree → Names)

abbrev pub parts_of_condition : Parts Condition-F → Names
parts_of_condition condition = []

abbrev pub parts_of_expression : Parts Expression-F → Names
parts_of_expression expression = []

abbrev pub parts_of_function : Parts SetFunction-F → Names
parts_of_function function = []

-- the names in the conditions and the other parts of a node, and of the trees below it
abbrev pub names_at : Parts Tree-F → Node → Names
names_at (Tree-F.Filter _ below) (Tree-F.Filter condition tree) = tables_in_condition condition ++ below tree
names_at (Tree-F.Product l r) (Tree-F.Product left right) = l left ++ r right
names_at (Tree-F.Inner _ l r) (Tree-F.Inner on left right) = tables_in_condition on ++ (l left ++ r right)
names_at (Tree-F.Left _ l r _) (Tree-F.Left on left right width) = tables_in_condition on ++ (l left ++ r right)
names_at (Tree-F.Half _ l r) (Tree-F.Half on left right) = tables_in_condition on ++ (l left ++ r right)
names_at (Tree-F.OppositeHalf _ l r) (Tree-F.OppositeHalf on left right) = tables_in_condition on ++ (l left ++ r right)
names_at (Tree-F.Group _ _ below) (Tree-F.Group columns functions rows) =
    all_names (map tables_in_function functions) ++ below rows
names_at (Tree-F.Project _ below) (Tree-F.Project items tree) = all_names (map tables_in_expression items) ++ below tree
names_at (Tree-F.Distinct below) (Tree-F.Distinct tree) = below tree
names_at (Tree-F.Set _ l r) (Tree-F.Set op left right) = l left ++ r right
names_at (Tree-F.Sort _ below) (Tree-F.Sort keys tree) = below tree
names_at (Tree-F.IndexLoop _ l _ _ _) (Tree-F.IndexLoop on left places table columns) =
    tables_in_condition on ++ l left
names_at (Tree-F.HashJoin _ l r _ _) (Tree-F.HashJoin on left right left_places right_places) =
    tables_in_condition on ++ (l left ++ r right)
names_at (Tree-F.Member _ _ m below) (Tree-F.Member operand is_negated members rows) =
    tables_in_expression operand ++ (m members ++ below rows)
names_at _ _ = []

abbrev pub parts_of_tree : Parts Tree-F → Tree → Names
parts_of_tree parts tree = names_at parts (out-Tree tree)

unfoldable pub named_in_parts : Tree → Tree → Names
named_in_parts = fold-Tree _ _ _ _ parts_of_condition parts_of_expression parts_of_function parts_of_tree

-- The tables that are named within the conditions, items, set functions and operands of a plan.
-- Those that its nodes read themselves are not among them.
abbrev pub names_in_parts : Tree → Names
names_in_parts tree = named_in_parts tree tree

-- the lent tables are those of the reading where parts name them, and the plan's indexes those of
-- the store
pub record CanRun (tables : Tables) (shown : Shown) (tree : Tree) : Type 0 where
  pub lent : Agree tables (rows_by (entries_in shown)) (names_in_parts tree)
  pub indexed : HasIndexes shown.contents tree
