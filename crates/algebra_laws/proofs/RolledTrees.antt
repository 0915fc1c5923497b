-- What a node of operator trees means, from what its parts mean.
use Rattle.std.proofs.Common.{◌≡◌}
use Rattle.algebra.specs.declared.tree.Condition.{Condition, Condition-F, roll-Condition, map-Condition, fold-roll-Condition}
use Rattle.algebra.specs.declared.tree.Expression.{Expression, Expression-F, roll-Expression, map-Expression, fold-roll-Expression}
use Rattle.algebra.specs.declared.tree.SetFunction.{SetFunction, SetFunction-F, roll-SetFunction, map-SetFunction, fold-roll-SetFunction}
use Rattle.algebra.specs.declared.tree.Tree.{Tree, Tree-F, roll-Tree, map-Tree, fold-roll-Tree}
use Rattle.algebra.specs.Meaning.{Layer, TreeMeaning, condition_step, expression_step, function_step, value_by, truth_by, function_by, tree_by}

abbrev pub Node : ((A B C D : Type 0) → Type 0) → Type 0
Node T = T Condition Expression SetFunction Tree

-- a node with its parts' meanings in their places
module _ (step : Layer Tree-F → TreeMeaning) where
  abbrev pub condition_meant : Node Condition-F → Layer Condition-F
  condition_meant d = map-Condition _ _ _ _ _ _ _ _ (truth_by step) (value_by step) (function_by step) (tree_by step) d

  pub condition_rolled : (d : Node Condition-F) → truth_by step (roll-Condition d) ≡ condition_step (condition_meant d)
  unfolding truth_by value_by function_by tree_by
  condition_rolled d = fold-roll-Condition _ _ _ _ condition_step expression_step function_step step d

  abbrev pub expression_meant : Node Expression-F → Layer Expression-F
  expression_meant d = map-Expression _ _ _ _ _ _ _ _ (truth_by step) (value_by step) (function_by step) (tree_by step) d

  pub expression_rolled : (d : Node Expression-F) → value_by step (roll-Expression d) ≡ expression_step (expression_meant d)
  unfolding truth_by value_by function_by tree_by
  expression_rolled d = fold-roll-Expression _ _ _ _ condition_step expression_step function_step step d

  abbrev pub function_meant : Node SetFunction-F → Layer SetFunction-F
  function_meant d = map-SetFunction _ _ _ _ _ _ _ _ (truth_by step) (value_by step) (function_by step) (tree_by step) d

  pub function_rolled : (d : Node SetFunction-F) → function_by step (roll-SetFunction d) ≡ function_step (function_meant d)
  unfolding truth_by value_by function_by tree_by
  function_rolled d = fold-roll-SetFunction _ _ _ _ condition_step expression_step function_step step d

  abbrev pub tree_meant : Node Tree-F → Layer Tree-F
  tree_meant d = map-Tree _ _ _ _ _ _ _ _ (truth_by step) (value_by step) (function_by step) (tree_by step) d

  pub tree_rolled : (d : Node Tree-F) → tree_by step (roll-Tree d) ≡ step (tree_meant d)
  unfolding truth_by value_by function_by tree_by
  tree_rolled d = fold-roll-Tree _ _ _ _ condition_step expression_step function_step step d
