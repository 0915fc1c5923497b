-- Which rows outside itself a tree looks at: for each column that it names there, how far outwards
-- its row stands, 0 for the innermost. A fold with a list of depths in each place (ISO/IEC
-- 9075:1992, 6.4: an outer reference names a column of a FROM outside the subquery).
use Rattle.std.specs.Prelude.{◌≡◌, ℕ, zero, suc, List, [], ◌∷◌, ◌++◌, flat_map, slice_index_or}
use Rattle.algebra.specs.declared.tree.Expression.{Expression, Expression-F, fold-Expression}
use Rattle.algebra.specs.declared.tree.Condition.{Condition, Condition-F, fold-Condition}
use Rattle.algebra.specs.declared.tree.SetFunction.{SetFunction, SetFunction-F, fold-SetFunction}
use Rattle.algebra.specs.declared.tree.Tree.{Tree, Tree-F, fold-Tree}
use Rattle.denote.specs.Evaluation.{Env}

abbrev pub Depths : Type 0
Depths = List ℕ

-- what a part that sees one row more looks at beyond that row
abbrev pub outwards : Depths → Depths
outwards [] = []
outwards (zero ∷ depths) = outwards depths
outwards (suc depth ∷ depths) = depth ∷ outwards depths

-- those of one after another
abbrev pub all_depths : List Depths → Depths
all_depths = flat_map (λ depths. depths)

abbrev pub Deep : ((A B C D : Type 0) → Type 0) → Type 0
Deep T = T Depths Depths Depths Depths

abbrev pub depths_of_expression : Deep Expression-F → Depths
depths_of_expression (Expression-F.Constant x) = []
depths_of_expression (Expression-F.Column depth place) = depth ∷ []
depths_of_expression (Expression-F.Calculation first others) = first ++ flat_map (λ other. other.1) others
depths_of_expression (Expression-F.Concatenation first others) = first ++ all_depths others
depths_of_expression (Expression-F.Negation operand) = operand
depths_of_expression (Expression-F.Scalar tree) = tree

abbrev pub depths_of_condition : Deep Condition-F → Depths
depths_of_condition (Condition-F.Or operands) = all_depths operands
depths_of_condition (Condition-F.And operands) = all_depths operands
depths_of_condition (Condition-F.Not operand) = operand
depths_of_condition (Condition-F.IsTruth operand truth) = operand
depths_of_condition (Condition-F.Compare op a b) = a ++ b
depths_of_condition (Condition-F.Between operand low high) = operand ++ (low ++ high)
depths_of_condition (Condition-F.InList operand values) = operand
depths_of_condition (Condition-F.InQuery operand tree) = operand ++ tree
depths_of_condition (Condition-F.Like operand pattern) = operand ++ pattern
depths_of_condition (Condition-F.IsNull operand) = operand
depths_of_condition (Condition-F.Exists tree) = tree

abbrev pub depths_of_function : Deep SetFunction-F → Depths
depths_of_function SetFunction-F.CountRows = []
depths_of_function (SetFunction-F.Over function is_distinct argument) = argument

abbrev pub depths_of_tree : Deep Tree-F → Depths
depths_of_tree (Tree-F.Scan table) = []
depths_of_tree (Tree-F.Filter condition tree) = outwards condition ++ tree
depths_of_tree (Tree-F.Product left right) = left ++ right
depths_of_tree (Tree-F.Inner on left right) = outwards on ++ (left ++ right)
depths_of_tree (Tree-F.Left on left right width) = outwards on ++ (left ++ right)
depths_of_tree (Tree-F.Half on left right) = outwards on ++ (left ++ right)
depths_of_tree (Tree-F.OppositeHalf on left right) = outwards on ++ (left ++ right)
depths_of_tree (Tree-F.Group columns functions rows) = outwards (all_depths functions) ++ rows
depths_of_tree (Tree-F.Project items tree) = outwards (all_depths items) ++ tree
depths_of_tree (Tree-F.Distinct tree) = tree
depths_of_tree (Tree-F.Set op left right) = left ++ right
depths_of_tree (Tree-F.Sort keys tree) = tree
depths_of_tree (Tree-F.Seek table columns key) = []
depths_of_tree (Tree-F.Range table columns low high) = []
depths_of_tree (Tree-F.IndexLoop on left places table columns) = outwards on ++ left
depths_of_tree (Tree-F.HashJoin on left right left_places right_places) = outwards on ++ (left ++ right)
depths_of_tree (Tree-F.Member operand is_negated members rows) = outwards operand ++ (members ++ rows)

unfoldable pub depths_in_expression : Expression → Depths
depths_in_expression = fold-Expression _ _ _ _ depths_of_condition depths_of_expression depths_of_function depths_of_tree

unfoldable pub depths_in_condition : Condition → Depths
depths_in_condition = fold-Condition _ _ _ _ depths_of_condition depths_of_expression depths_of_function depths_of_tree

unfoldable pub depths_in_function : SetFunction → Depths
depths_in_function = fold-SetFunction _ _ _ _ depths_of_condition depths_of_expression depths_of_function depths_of_tree

unfoldable pub depths_in_tree : Tree → Depths
depths_in_tree = fold-Tree _ _ _ _ depths_of_condition depths_of_expression depths_of_function depths_of_tree

-- the same row at each of these depths
abbrev pub SeeAlike : Env → Env → Depths → Type 0
SeeAlike env others [] = Unit {0}
SeeAlike env others (depth ∷ depths) = (slice_index_or env depth [] ≡ slice_index_or others depth [])
    × SeeAlike env others depths
