-- The names of the stored tables that a tree reads, those of its subqueries too: a fold with a list
-- of names in each place. A table that is read twice is named twice.
use Rattle.std.specs.Prelude.{◌≡◌, ℕ, List, [], ◌∷◌, ◌++◌, flat_map, Contains}
use Rattle.algebra.specs.declared.tree.Expression.{Expression, Expression-F, fold-Expression}
use Rattle.algebra.specs.declared.tree.Condition.{Condition, Condition-F, fold-Condition}
use Rattle.algebra.specs.declared.tree.SetFunction.{SetFunction, SetFunction-F, fold-SetFunction}
use Rattle.algebra.specs.declared.tree.Tree.{Tree, Tree-F, fold-Tree}
use Rattle.denote.specs.Meaning.{Tables}

abbrev pub Names : Type 0
Names = List (List ℕ)

-- those of one after another
abbrev pub all_names : List Names → Names
all_names = flat_map (λ names. names)

abbrev pub Named : ((A B C D : Type 0) → Type 0) → Type 0
Named T = T Names Names Names Names

abbrev pub names_of_expression : Named Expression-F → Names
names_of_expression (Expression-F.Constant x) = []
names_of_expression (Expression-F.Column depth place) = []
names_of_expression (Expression-F.Calculation first others) = first ++ flat_map (λ other. other.1) others
names_of_expression (Expression-F.Concatenation first others) = first ++ all_names others
names_of_expression (Expression-F.Negation operand) = operand
names_of_expression (Expression-F.Scalar tree) = tree

abbrev pub names_of_condition : Named Condition-F → Names
names_of_condition (Condition-F.Or operands) = all_names operands
names_of_condition (Condition-F.And operands) = all_names operands
names_of_condition (Condition-F.Not operand) = operand
names_of_condition (Condition-F.IsTruth operand truth) = operand
names_of_condition (Condition-F.Compare op a b) = a ++ b
names_of_condition (Condition-F.Between operand low high) = operand ++ (low ++ high)
names_of_condition (Condition-F.InList operand values) = operand
names_of_condition (Condition-F.InQuery operand tree) = operand ++ tree
names_of_condition (Condition-F.Like operand pattern) = operand ++ pattern
names_of_condition (Condition-F.IsNull operand) = operand
names_of_condition (Condition-F.Exists tree) = tree

abbrev pub names_of_function : Named SetFunction-F → Names
names_of_function SetFunction-F.CountRows = []
names_of_function (SetFunction-F.Over function is_distinct argument) = argument

abbrev pub names_of_tree : Named Tree-F → Names
names_of_tree (Tree-F.Scan table) = table.name ∷ []
names_of_tree (Tree-F.Filter condition tree) = condition ++ tree
names_of_tree (Tree-F.Product left right) = left ++ right
names_of_tree (Tree-F.Inner on left right) = on ++ (left ++ right)
names_of_tree (Tree-F.Left on left right width) = on ++ (left ++ right)
names_of_tree (Tree-F.Half on left right) = on ++ (left ++ right)
names_of_tree (Tree-F.OppositeHalf on left right) = on ++ (left ++ right)
names_of_tree (Tree-F.Group columns functions rows) = all_names functions ++ rows
names_of_tree (Tree-F.Project items tree) = all_names items ++ tree
names_of_tree (Tree-F.Distinct tree) = tree
names_of_tree (Tree-F.Set op left right) = left ++ right
names_of_tree (Tree-F.Sort keys tree) = tree
names_of_tree (Tree-F.Seek table columns key) = table.name ∷ []
names_of_tree (Tree-F.Range table columns low high) = table.name ∷ []
names_of_tree (Tree-F.IndexLoop on left places table columns) = on ++ (left ++ table.name ∷ [])
names_of_tree (Tree-F.HashJoin on left right left_places right_places) = on ++ (left ++ right)
names_of_tree (Tree-F.Member operand is_negated members rows) = operand ++ (members ++ rows)

unfoldable pub tables_in_expression : Expression → Names
tables_in_expression = fold-Expression _ _ _ _ names_of_condition names_of_expression names_of_function names_of_tree

unfoldable pub tables_in_condition : Condition → Names
tables_in_condition = fold-Condition _ _ _ _ names_of_condition names_of_expression names_of_function names_of_tree

unfoldable pub tables_in_function : SetFunction → Names
tables_in_function = fold-SetFunction _ _ _ _ names_of_condition names_of_expression names_of_function names_of_tree

unfoldable pub tables_in_tree : Tree → Names
tables_in_tree = fold-Tree _ _ _ _ names_of_condition names_of_expression names_of_function names_of_tree

-- the same rows under each of these names
abbrev pub Agree : Tables → Tables → Names → Type 0
Agree tables others names = (name : List ℕ) → Contains names name → tables name ≡ others name
