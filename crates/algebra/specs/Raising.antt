-- Which parts of trees may raise a fault, told by what stands in them: a fold with a truth value in
-- each place. A no is certain; a yes is not. And plain conditions, which have no subquery, no `||`,
-- and no arithmetic but a sign directly before a number, which is a part of that number.
use Rattle.std.specs.Prelude.{◌≡◌, Bool, true, false, ◌||◌, ◌&&◌, List, Ok}
use Rattle.std.specs.List.{list_any, list_all}
use Rattle.algebra.specs.declared.tree.Expression.{Expression, Expression-F, fold-Expression}
use Rattle.algebra.specs.declared.tree.Condition.{Condition, Condition-F, fold-Condition}
use Rattle.algebra.specs.declared.tree.SetFunction.{SetFunction, SetFunction-F, fold-SetFunction}
use Rattle.algebra.specs.declared.tree.Tree.{Tree, Tree-F, fold-Tree}
use Rattle.denote.specs.Evaluation.{Env, Evaluation}

abbrev pub itself : Bool → Bool
itself b = b

-- whether some of these may
abbrev pub some_may : List Bool → Bool
some_may = list_any itself

abbrev pub Test : ((A B C D : Type 0) → Type 0) → Type 0
Test T = T Bool Bool Bool Bool

-- an operator on values may raise, and a scalar subquery, which may have many rows
abbrev pub expression_may : Test Expression-F → Bool
expression_may (Expression-F.Constant x) = false
expression_may (Expression-F.Column depth place) = false
expression_may (Expression-F.Calculation first others) = true
expression_may (Expression-F.Concatenation first others) = true
expression_may (Expression-F.Negation operand) = true
expression_may (Expression-F.Scalar tree) = true

-- a condition may raise where one of its parts may
abbrev pub condition_may : Test Condition-F → Bool
condition_may (Condition-F.Or operands) = some_may operands
condition_may (Condition-F.And operands) = some_may operands
condition_may (Condition-F.Not operand) = operand
condition_may (Condition-F.IsTruth operand truth) = operand
condition_may (Condition-F.Compare op a b) = a || b
condition_may (Condition-F.Between operand low high) = operand || (low || high)
condition_may (Condition-F.InList operand values) = operand
condition_may (Condition-F.InQuery operand tree) = operand || tree
condition_may (Condition-F.Like operand pattern) = operand || pattern
condition_may (Condition-F.IsNull operand) = operand
condition_may (Condition-F.Exists tree) = tree

-- each set function may: its group may have more rows than the greatest integer
abbrev pub function_may : Test SetFunction-F → Bool
function_may function = true

abbrev pub tree_may : Test Tree-F → Bool
tree_may (Tree-F.Scan table) = false
tree_may (Tree-F.Filter condition tree) = condition || tree
tree_may (Tree-F.Product left right) = left || right
tree_may (Tree-F.Inner on left right) = on || (left || right)
tree_may (Tree-F.Left on left right width) = on || (left || right)
tree_may (Tree-F.Half on left right) = on || (left || right)
tree_may (Tree-F.OppositeHalf on left right) = on || (left || right)
tree_may (Tree-F.Group columns functions rows) = some_may functions || rows
tree_may (Tree-F.Project items tree) = some_may items || tree
tree_may (Tree-F.Distinct tree) = tree
tree_may (Tree-F.Set op left right) = left || right
tree_may (Tree-F.Sort keys tree) = tree
tree_may (Tree-F.Seek table columns key) = false
tree_may (Tree-F.Range table columns low high) = false
tree_may (Tree-F.IndexLoop on left places table columns) = on || left
tree_may (Tree-F.HashJoin on left right left_places right_places) = on || (left || right)
tree_may (Tree-F.Member operand is_negated members rows) = operand || (members || rows)

unfoldable pub expression_may_raise : Expression → Bool
expression_may_raise = fold-Expression _ _ _ _ condition_may expression_may function_may tree_may

unfoldable pub condition_may_raise : Condition → Bool
condition_may_raise = fold-Condition _ _ _ _ condition_may expression_may function_may tree_may

unfoldable pub function_may_raise : SetFunction → Bool
function_may_raise = fold-SetFunction _ _ _ _ condition_may expression_may function_may tree_may

unfoldable pub tree_may_raise : Tree → Bool
tree_may_raise = fold-Tree _ _ _ _ condition_may expression_may function_may tree_may

-- ---- what certainty is

-- a value in all rows
abbrev pub NeverRaises : {A : Type 0} → (Env → Evaluation A) → Type 0
NeverRaises {A} f = (env : Env) → (x : A) × (f env ≡ Ok x)

-- ---- plain conditions

abbrev pub expression_plain : Test Expression-F → Bool
expression_plain (Expression-F.Constant x) = true
expression_plain (Expression-F.Column depth place) = true
expression_plain (Expression-F.Calculation first others) = false
expression_plain (Expression-F.Concatenation first others) = false
expression_plain (Expression-F.Negation operand) = false
expression_plain (Expression-F.Scalar tree) = false

abbrev pub condition_plain : Test Condition-F → Bool
condition_plain (Condition-F.Or operands) = list_all itself operands
condition_plain (Condition-F.And operands) = list_all itself operands
condition_plain (Condition-F.Not operand) = operand
condition_plain (Condition-F.IsTruth operand truth) = operand
condition_plain (Condition-F.Compare op a b) = a && b
condition_plain (Condition-F.Between operand low high) = operand && (low && high)
condition_plain (Condition-F.InList operand values) = operand
condition_plain (Condition-F.InQuery operand tree) = false
condition_plain (Condition-F.Like operand pattern) = operand && pattern
condition_plain (Condition-F.IsNull operand) = operand
condition_plain (Condition-F.Exists tree) = false

-- set functions and trees stand in no plain condition
abbrev pub function_plain : Test SetFunction-F → Bool
function_plain function = false

abbrev pub tree_plain : Test Tree-F → Bool
tree_plain tree = false

unfoldable pub is_plain_expression : Expression → Bool
is_plain_expression = fold-Expression _ _ _ _ condition_plain expression_plain function_plain tree_plain

unfoldable pub is_plain : Condition → Bool
is_plain = fold-Condition _ _ _ _ condition_plain expression_plain function_plain tree_plain

unfoldable pub is_plain_function : SetFunction → Bool
is_plain_function = fold-SetFunction _ _ _ _ condition_plain expression_plain function_plain tree_plain

unfoldable pub is_plain_tree : Tree → Bool
is_plain_tree = fold-Tree _ _ _ _ condition_plain expression_plain function_plain tree_plain
