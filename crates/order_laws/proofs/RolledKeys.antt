-- The order keys of a node of operator trees, from those of its parts; and which column an
-- expression is.
use Rattle.std.proofs.Common.{◌≡◌}
use Rattle.algebra.specs.declared.tree.Condition.{Condition, fold-Condition}
use Rattle.algebra.specs.declared.tree.Expression.{Expression-F, roll-Expression, map-Expression, fold-roll-Expression}
use Rattle.algebra.specs.declared.tree.SetFunction.{SetFunction, fold-SetFunction}
use Rattle.algebra.specs.declared.tree.Tree.{Tree-F, roll-Tree, map-Tree, fold-roll-Tree}
use Rattle.algebra.specs.OrderKeys.{KeyLayer, condition_key_step, column_step, function_key_step, order_step, column_of, order_keys}
use Rattle.algebra_laws.proofs.RolledTrees.{Node}

unfoldable pub condition_keys : Condition → Unit {0}
condition_keys = fold-Condition _ _ _ _ condition_key_step column_step function_key_step order_step

unfoldable pub function_keys : SetFunction → Unit {0}
function_keys = fold-SetFunction _ _ _ _ condition_key_step column_step function_key_step order_step

-- a node with its parts' columns and keys in their places
abbrev pub columns_in : Node Expression-F → KeyLayer Expression-F
columns_in d = map-Expression _ _ _ _ _ _ _ _ condition_keys column_of function_keys order_keys d

pub column_rolled : (d : Node Expression-F) → column_of (roll-Expression d) ≡ column_step (columns_in d)
unfolding column_of order_keys condition_keys function_keys
column_rolled d = fold-roll-Expression _ _ _ _ condition_key_step column_step function_key_step order_step d

abbrev pub keys_in : Node Tree-F → KeyLayer Tree-F
keys_in d = map-Tree _ _ _ _ _ _ _ _ condition_keys column_of function_keys order_keys d

pub keys_rolled : (d : Node Tree-F) → order_keys (roll-Tree d) ≡ order_step (keys_in d)
unfolding column_of order_keys condition_keys function_keys
keys_rolled d = fold-roll-Tree _ _ _ _ condition_key_step column_step function_key_step order_step d
