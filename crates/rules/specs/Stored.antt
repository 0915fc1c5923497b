-- What a tree knows of the stored tables that it reads, those of its subqueries too: a fold with a
-- list in each place.
use Rattle.std.specs.Prelude.{List, [], ◌∷◌, ◌++◌, flat_map}
use Rattle.algebra.specs.declared.tree.Expression.{Expression, Expression-F, fold-Expression}
use Rattle.algebra.specs.declared.tree.Condition.{Condition, Condition-F, fold-Condition}
use Rattle.algebra.specs.declared.tree.SetFunction.{SetFunction, SetFunction-F, fold-SetFunction}
use Rattle.algebra.specs.declared.tree.Tree.{Tree, Tree-F, fold-Tree}
use Rattle.algebra.specs.declared.tree.StoredTable.{StoredTable}

abbrev pub StoredTables : Type 0
StoredTables = List StoredTable

-- those of one after another
abbrev pub all_stored : List StoredTables → StoredTables
all_stored = flat_map (λ tables. tables)

abbrev pub StoredLayer : ((A B C D : Type 0) → Type 0) → Type 0
StoredLayer T = T StoredTables StoredTables StoredTables StoredTables

abbrev pub stored_of_expression : StoredLayer Expression-F → StoredTables
stored_of_expression (Expression-F.Constant x) = []
stored_of_expression (Expression-F.Column depth place) = []
stored_of_expression (Expression-F.Calculation first others) = first ++ flat_map (λ other. other.1) others
stored_of_expression (Expression-F.Concatenation first others) = first ++ all_stored others
stored_of_expression (Expression-F.Negation operand) = operand
stored_of_expression (Expression-F.Scalar tree) = tree

abbrev pub stored_of_condition : StoredLayer Condition-F → StoredTables
stored_of_condition (Condition-F.Or operands) = all_stored operands
stored_of_condition (Condition-F.And operands) = all_stored operands
stored_of_condition (Condition-F.Not operand) = operand
stored_of_condition (Condition-F.IsTruth operand truth) = operand
stored_of_condition (Condition-F.Compare op a b) = a ++ b
stored_of_condition (Condition-F.Between operand low high) = operand ++ (low ++ high)
stored_of_condition (Condition-F.InList operand values) = operand
stored_of_condition (Condition-F.InQuery operand tree) = operand ++ tree
stored_of_condition (Condition-F.Like operand pattern) = operand ++ pattern
stored_of_condition (Condition-F.IsNull operand) = operand
stored_of_condition (Condition-F.Exists tree) = tree

abbrev pub stored_of_function : StoredLayer SetFunction-F → StoredTables
stored_of_function SetFunction-F.CountRows = []
stored_of_function (SetFunction-F.Over function is_distinct argument) = argument

abbrev pub stored_of_tree : StoredLayer Tree-F → StoredTables
stored_of_tree (Tree-F.Scan table) = table ∷ []
stored_of_tree (Tree-F.Filter condition tree) = condition ++ tree
stored_of_tree (Tree-F.Product left right) = left ++ right
stored_of_tree (Tree-F.Inner on left right) = on ++ (left ++ right)
stored_of_tree (Tree-F.Left on left right width) = on ++ (left ++ right)
stored_of_tree (Tree-F.Half on left right) = on ++ (left ++ right)
stored_of_tree (Tree-F.OppositeHalf on left right) = on ++ (left ++ right)
stored_of_tree (Tree-F.Group columns functions rows) = all_stored functions ++ rows
stored_of_tree (Tree-F.Project items tree) = all_stored items ++ tree
stored_of_tree (Tree-F.Distinct tree) = tree
stored_of_tree (Tree-F.Set op left right) = left ++ right
stored_of_tree (Tree-F.Sort keys tree) = tree
stored_of_tree (Tree-F.Seek table columns key) = table ∷ []
stored_of_tree (Tree-F.Range table columns low high) = table ∷ []
stored_of_tree (Tree-F.IndexLoop on left places table columns) = on ++ (left ++ table ∷ [])
stored_of_tree (Tree-F.HashJoin on left right left_places right_places) = on ++ (left ++ right)
stored_of_tree (Tree-F.Member operand is_negated members rows) = operand ++ (members ++ rows)

unfoldable pub stored_in_expression : Expression → StoredTables
stored_in_expression = fold-Expression _ _ _ _ stored_of_condition stored_of_expression stored_of_function
    stored_of_tree

unfoldable pub stored_in_condition : Condition → StoredTables
stored_in_condition = fold-Condition _ _ _ _ stored_of_condition stored_of_expression stored_of_function stored_of_tree

unfoldable pub stored_in_function : SetFunction → StoredTables
stored_in_function = fold-SetFunction _ _ _ _ stored_of_condition stored_of_expression stored_of_function stored_of_tree

unfoldable pub stored_in_tree : Tree → StoredTables
stored_in_tree = fold-Tree _ _ _ _ stored_of_condition stored_of_expression stored_of_function stored_of_tree
