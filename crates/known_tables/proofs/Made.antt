-- The tree of a node of typed trees, from the trees of its parts.
use Rattle.std.proofs.Common.{◌≡◌, ℕ, List}
use Rattle.typing.specs.declared.typed.Condition as typed_condition
use Rattle.typing.specs.declared.typed.Expression as typed_expression
use Rattle.typing.specs.declared.typed.Query as typed_query
use Rattle.typing.specs.declared.typed.SetFunction as typed_function
use Rattle.typing.specs.declared.typed.Source as typed_source
use Rattle.typing.specs.declared.typed.Grouping as typed_grouping
use Rattle.typing.specs.declared.typed.Item as typed_item
use Rattle.typing.specs.declared.typed.Select as typed_select
use Rattle.algebra.specs.declared.tree.StoredTable.{StoredTable}
use Rattle.operator_laws.proofs.Rolled.{Node}
use Rattle.algebra.specs.Translated.{TreeLayer, expression_tree, condition_tree, function_tree, source_tree, grouping_tree, item_tree, select_tree, query_tree, tree_of_query, tree_of_condition, tree_of_expression, tree_of_function, tree_of_source, tree_of_grouping, tree_of_item, tree_of_select}

module _ (described : List ℕ → StoredTable) where
  abbrev pub condition_made : Node typed_condition.Condition-F → TreeLayer typed_condition.Condition-F
  condition_made d = typed_condition.map-Condition _ _ _ _ _ _ _ _ _ _ _ _ _ _ _ _ (tree_of_condition described) (tree_of_expression described) (tree_of_query described) (tree_of_function described) (tree_of_source described) (tree_of_grouping described) (tree_of_item described) (tree_of_select described) d

  pub condition_is : (d : Node typed_condition.Condition-F) → tree_of_condition described (typed_condition.roll-Condition d) ≡ condition_tree (condition_made d)
  unfolding tree_of_condition tree_of_expression tree_of_query tree_of_function tree_of_source tree_of_grouping tree_of_item tree_of_select
  condition_is d = typed_condition.fold-roll-Condition _ _ _ _ _ _ _ _ condition_tree expression_tree query_tree function_tree (source_tree described) grouping_tree item_tree select_tree d

  abbrev pub expression_made : Node typed_expression.Expression-F → TreeLayer typed_expression.Expression-F
  expression_made d = typed_expression.map-Expression _ _ _ _ _ _ _ _ _ _ _ _ _ _ _ _ (tree_of_condition described) (tree_of_expression described) (tree_of_query described) (tree_of_function described) (tree_of_source described) (tree_of_grouping described) (tree_of_item described) (tree_of_select described) d

  pub expression_is : (d : Node typed_expression.Expression-F) → tree_of_expression described (typed_expression.roll-Expression d) ≡ expression_tree (expression_made d)
  unfolding tree_of_condition tree_of_expression tree_of_query tree_of_function tree_of_source tree_of_grouping tree_of_item tree_of_select
  expression_is d = typed_expression.fold-roll-Expression _ _ _ _ _ _ _ _ condition_tree expression_tree query_tree function_tree (source_tree described) grouping_tree item_tree select_tree d

  abbrev pub query_made : Node typed_query.Query-F → TreeLayer typed_query.Query-F
  query_made d = typed_query.map-Query _ _ _ _ _ _ _ _ _ _ _ _ _ _ _ _ (tree_of_condition described) (tree_of_expression described) (tree_of_query described) (tree_of_function described) (tree_of_source described) (tree_of_grouping described) (tree_of_item described) (tree_of_select described) d

  pub query_is : (d : Node typed_query.Query-F) → tree_of_query described (typed_query.roll-Query d) ≡ query_tree (query_made d)
  unfolding tree_of_condition tree_of_expression tree_of_query tree_of_function tree_of_source tree_of_grouping tree_of_item tree_of_select
  query_is d = typed_query.fold-roll-Query _ _ _ _ _ _ _ _ condition_tree expression_tree query_tree function_tree (source_tree described) grouping_tree item_tree select_tree d

  abbrev pub function_made : Node typed_function.SetFunction-F → TreeLayer typed_function.SetFunction-F
  function_made d = typed_function.map-SetFunction _ _ _ _ _ _ _ _ _ _ _ _ _ _ _ _ (tree_of_condition described) (tree_of_expression described) (tree_of_query described) (tree_of_function described) (tree_of_source described) (tree_of_grouping described) (tree_of_item described) (tree_of_select described) d

  pub function_is : (d : Node typed_function.SetFunction-F) → tree_of_function described (typed_function.roll-SetFunction d) ≡ function_tree (function_made d)
  unfolding tree_of_condition tree_of_expression tree_of_query tree_of_function tree_of_source tree_of_grouping tree_of_item tree_of_select
  function_is d = typed_function.fold-roll-SetFunction _ _ _ _ _ _ _ _ condition_tree expression_tree query_tree function_tree (source_tree described) grouping_tree item_tree select_tree d

  abbrev pub source_made : Node typed_source.Source-F → TreeLayer typed_source.Source-F
  source_made d = typed_source.map-Source _ _ _ _ _ _ _ _ _ _ _ _ _ _ _ _ (tree_of_condition described) (tree_of_expression described) (tree_of_query described) (tree_of_function described) (tree_of_source described) (tree_of_grouping described) (tree_of_item described) (tree_of_select described) d

  pub source_is : (d : Node typed_source.Source-F) → tree_of_source described (typed_source.roll-Source d) ≡ (source_tree described) (source_made d)
  unfolding tree_of_condition tree_of_expression tree_of_query tree_of_function tree_of_source tree_of_grouping tree_of_item tree_of_select
  source_is d = typed_source.fold-roll-Source _ _ _ _ _ _ _ _ condition_tree expression_tree query_tree function_tree (source_tree described) grouping_tree item_tree select_tree d

  abbrev pub grouping_made : Node typed_grouping.Grouping-F → TreeLayer typed_grouping.Grouping-F
  grouping_made d = typed_grouping.map-Grouping _ _ _ _ _ _ _ _ _ _ _ _ _ _ _ _ (tree_of_condition described) (tree_of_expression described) (tree_of_query described) (tree_of_function described) (tree_of_source described) (tree_of_grouping described) (tree_of_item described) (tree_of_select described) d

  pub grouping_is : (d : Node typed_grouping.Grouping-F) → tree_of_grouping described (typed_grouping.roll-Grouping d) ≡ grouping_tree (grouping_made d)
  unfolding tree_of_condition tree_of_expression tree_of_query tree_of_function tree_of_source tree_of_grouping tree_of_item tree_of_select
  grouping_is d = typed_grouping.fold-roll-Grouping _ _ _ _ _ _ _ _ condition_tree expression_tree query_tree function_tree (source_tree described) grouping_tree item_tree select_tree d

  abbrev pub item_made : Node typed_item.Item-F → TreeLayer typed_item.Item-F
  item_made d = typed_item.map-Item _ _ _ _ _ _ _ _ _ _ _ _ _ _ _ _ (tree_of_condition described) (tree_of_expression described) (tree_of_query described) (tree_of_function described) (tree_of_source described) (tree_of_grouping described) (tree_of_item described) (tree_of_select described) d

  pub item_is : (d : Node typed_item.Item-F) → tree_of_item described (typed_item.roll-Item d) ≡ item_tree (item_made d)
  unfolding tree_of_condition tree_of_expression tree_of_query tree_of_function tree_of_source tree_of_grouping tree_of_item tree_of_select
  item_is d = typed_item.fold-roll-Item _ _ _ _ _ _ _ _ condition_tree expression_tree query_tree function_tree (source_tree described) grouping_tree item_tree select_tree d

  abbrev pub select_made : Node typed_select.Select-F → TreeLayer typed_select.Select-F
  select_made d = typed_select.map-Select _ _ _ _ _ _ _ _ _ _ _ _ _ _ _ _ (tree_of_condition described) (tree_of_expression described) (tree_of_query described) (tree_of_function described) (tree_of_source described) (tree_of_grouping described) (tree_of_item described) (tree_of_select described) d

  pub select_is : (d : Node typed_select.Select-F) → tree_of_select described (typed_select.roll-Select d) ≡ select_tree (select_made d)
  unfolding tree_of_condition tree_of_expression tree_of_query tree_of_function tree_of_source tree_of_grouping tree_of_item tree_of_select
  select_is d = typed_select.fold-roll-Select _ _ _ _ _ _ _ _ condition_tree expression_tree query_tree function_tree (source_tree described) grouping_tree item_tree select_tree d
