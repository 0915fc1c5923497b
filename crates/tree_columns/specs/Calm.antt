-- Of items and set functions: whether they may raise, and whether the conditions in them are all
-- quiet.
use Rattle.std.specs.Prelude.{Bool}
use Rattle.algebra.specs.declared.tree.Expression.{Expression, fold-Expression}
use Rattle.algebra.specs.declared.tree.SetFunction.{SetFunction, fold-SetFunction}
use Rattle.rules.specs.Quiet.{Calm, calm_condition, calm_expression, calm_function, calm_tree}

unfoldable pub item_calm : Expression → Calm
item_calm = fold-Expression _ _ _ _ calm_condition calm_expression calm_function calm_tree

unfoldable pub set_function_calm : SetFunction → Calm
set_function_calm = fold-SetFunction _ _ _ _ calm_condition calm_expression calm_function calm_tree

-- no condition of a subquery in the item may raise
abbrev pub item_quiet : Expression → Bool
item_quiet item = (item_calm item).calm

abbrev pub set_function_quiet : SetFunction → Bool
set_function_quiet function = (set_function_calm function).calm
