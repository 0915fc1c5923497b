-- The tree of each node of typed trees.
use Rattle.std.proofs.Common.{◌≡◌, ℕ, Bool, List, map, rules, Option}
use Rattle.std.specs.Option.{option_map}
use Rattle.sqlval.specs.declared.value.Value.{Value}
use Rattle.sqlval.specs.declared.comparison.CompOp.{CompOp}
use Rattle.sqlval.specs.declared.truth.Truth.{Truth}
use Rattle.typing.specs.declared.typed.Arithmetic.{Arithmetic}
use Rattle.typing.specs.declared.typed.SetFunctionType.{SetFunctionType}
use Rattle.typing.specs.declared.typed.SetOperation.{SetOperation}
use Rattle.typing.specs.declared.typed.Expression.{Expression, the_lemmas}
use Rattle.typing.specs.declared.typed.Expression.TheVariants as e
use Rattle.typing.specs.declared.typed.Condition.{Condition}
use Rattle.typing.specs.declared.typed.Condition.TheVariants as c
use Rattle.typing.specs.declared.typed.Query.{Query}
use Rattle.typing.specs.declared.typed.Query.TheVariants as q
use Rattle.typing.specs.declared.typed.SetFunction.{SetFunction}
use Rattle.typing.specs.declared.typed.SetFunction.TheVariants as a
use Rattle.typing.specs.declared.typed.Source.{Source}
use Rattle.typing.specs.declared.typed.Source.TheVariants as f
use Rattle.typing.specs.declared.typed.Grouping.{Grouping, out-Grouping}
use Rattle.typing.specs.declared.typed.Item.{Item, out-Item}
use Rattle.typing.specs.declared.typed.Select.{Select, out-Select}
use Rattle.algebra.specs.declared.tree.StoredTable.{StoredTable}
use Rattle.algebra.specs.declared.tree.Expression.TheVariants as x
use Rattle.algebra.specs.declared.tree.Condition.TheVariants as k
use Rattle.algebra.specs.declared.tree.SetFunction.TheVariants as g
use Rattle.algebra.specs.declared.tree.Tree.{Tree}
use Rattle.algebra.specs.declared.tree.Tree.TheVariants as t
use Rattle.algebra.specs.Translated.{filter_tree, grouped_tree, distinct_tree, set_tree, tree_of_expression, tree_of_condition, tree_of_query, tree_of_function, tree_of_source, tree_of_grouping, tree_of_item, tree_of_select}

module _ (described : List ℕ → StoredTable) where
  pub expression_constant : (v : Value) → tree_of_expression described (e.Constant v) ≡ x.Constant v
  unfolding tree_of_expression
  expression_constant v = search (rules, the_lemmas)

  pub expression_column : (depth place : ℕ) → tree_of_expression described (e.Column depth place) ≡ x.Column depth place
  unfolding tree_of_expression
  expression_column depth place = search (rules, the_lemmas)

  pub expression_calculation : (first : Expression) (others : List (Arithmetic × Expression)) → tree_of_expression described (e.Calculation first others) ≡ x.Calculation (tree_of_expression described first) (map (λ o. (o.0, tree_of_expression described o.1)) others)
  unfolding tree_of_expression
  expression_calculation first others = search (rules, the_lemmas)

  pub expression_concatenation : (first : Expression) (others : List Expression) → tree_of_expression described (e.Concatenation first others) ≡ x.Concatenation (tree_of_expression described first) (map (tree_of_expression described) others)
  unfolding tree_of_expression
  expression_concatenation first others = search (rules, the_lemmas)

  pub expression_negation : (operand : Expression) → tree_of_expression described (e.Negation operand) ≡ x.Negation (tree_of_expression described operand)
  unfolding tree_of_expression
  expression_negation operand = search (rules, the_lemmas)

  pub expression_scalar : (query : Query) → tree_of_expression described (e.Scalar query) ≡ x.Scalar (tree_of_query described query)
  unfolding tree_of_expression tree_of_query
  expression_scalar query = search (rules, the_lemmas)

  pub condition_or : (operands : List Condition) → tree_of_condition described (c.Or operands) ≡ k.Or (map (tree_of_condition described) operands)
  unfolding tree_of_condition
  condition_or operands = search (rules, the_lemmas)

  pub condition_and : (operands : List Condition) → tree_of_condition described (c.And operands) ≡ k.And (map (tree_of_condition described) operands)
  unfolding tree_of_condition
  condition_and operands = search (rules, the_lemmas)

  pub condition_negation : (operand : Condition) → tree_of_condition described (c.Not operand) ≡ k.Not (tree_of_condition described operand)
  unfolding tree_of_condition
  condition_negation operand = search (rules, the_lemmas)

  pub condition_test : (operand : Condition) (truth : Truth) → tree_of_condition described (c.IsTruth operand truth) ≡ k.IsTruth (tree_of_condition described operand) truth
  unfolding tree_of_condition
  condition_test operand truth = search (rules, the_lemmas)

  pub condition_compare : (op : CompOp) (left right : Expression) → tree_of_condition described (c.Compare op left right) ≡ k.Compare op (tree_of_expression described left) (tree_of_expression described right)
  unfolding tree_of_condition tree_of_expression
  condition_compare op left right = search (rules, the_lemmas)

  pub condition_between : (operand low high : Expression) → tree_of_condition described (c.Between operand low high) ≡ k.Between (tree_of_expression described operand) (tree_of_expression described low) (tree_of_expression described high)
  unfolding tree_of_condition tree_of_expression
  condition_between operand low high = search (rules, the_lemmas)

  pub condition_in_list : (operand : Expression) (values : List Value) → tree_of_condition described (c.InList operand values) ≡ k.InList (tree_of_expression described operand) values
  unfolding tree_of_condition tree_of_expression
  condition_in_list operand values = search (rules, the_lemmas)

  pub condition_in_query : (operand : Expression) (query : Query) → tree_of_condition described (c.InQuery operand query) ≡ k.InQuery (tree_of_expression described operand) (tree_of_query described query)
  unfolding tree_of_condition tree_of_expression tree_of_query
  condition_in_query operand query = search (rules, the_lemmas)

  pub condition_like : (operand pattern : Expression) → tree_of_condition described (c.Like operand pattern) ≡ k.Like (tree_of_expression described operand) (tree_of_expression described pattern)
  unfolding tree_of_condition tree_of_expression
  condition_like operand pattern = search (rules, the_lemmas)

  pub condition_null : (operand : Expression) → tree_of_condition described (c.IsNull operand) ≡ k.IsNull (tree_of_expression described operand)
  unfolding tree_of_condition tree_of_expression
  condition_null operand = search (rules, the_lemmas)

  pub condition_exists : (query : Query) → tree_of_condition described (c.Exists query) ≡ k.Exists (tree_of_query described query)
  unfolding tree_of_condition tree_of_query
  condition_exists query = search (rules, the_lemmas)

  pub function_rows : tree_of_function described a.CountRows ≡ g.CountRows
  unfolding tree_of_function
  function_rows = search (rules, the_lemmas)

  pub function_over : (function : SetFunctionType) (is_distinct : Bool) (argument : Expression) → tree_of_function described (a.Over function is_distinct argument) ≡ g.Over function is_distinct (tree_of_expression described argument)
  unfolding tree_of_function tree_of_expression
  function_over function is_distinct argument = search (rules, the_lemmas)

  pub source_table : (name : List ℕ) → tree_of_source described (f.Table name) ≡ t.Scan (described name)
  unfolding tree_of_source
  source_table name = search (rules, the_lemmas)

  pub source_derived : (query : Query) → tree_of_source described (f.Derived query) ≡ tree_of_query described query
  unfolding tree_of_source tree_of_query
  source_derived query = search (rules, the_lemmas)

  pub source_product : (left right : Source) → tree_of_source described (f.Product left right) ≡ t.Product (tree_of_source described left) (tree_of_source described right)
  unfolding tree_of_source
  source_product left right = search (rules, the_lemmas)

  pub source_inner : (on : Condition) (left right : Source) → tree_of_source described (f.Inner on left right) ≡ t.Inner (tree_of_condition described on) (tree_of_source described left) (tree_of_source described right)
  unfolding tree_of_source tree_of_condition
  source_inner on left right = search (rules, the_lemmas)

  pub source_left : (on : Condition) (left right : Source) (width : ℕ) → tree_of_source described (f.Left on left right width) ≡ t.Left (tree_of_condition described on) (tree_of_source described left) (tree_of_source described right) width
  unfolding tree_of_source tree_of_condition
  source_left on left right width = search (rules, the_lemmas)

  pub item_is : (item : Item) → tree_of_item described item ≡ tree_of_expression described (out-Item item).expression
  unfolding tree_of_item tree_of_expression
  item_is item = search (rules, the_lemmas)

  pub grouping_is : (grouping : Grouping) (tree : Tree) → tree_of_grouping described grouping tree ≡ (let y = out-Grouping grouping in filter_tree (option_map (tree_of_condition described) y.having) (t.Group y.columns (map (tree_of_function described) y.functions) tree))
  unfolding tree_of_grouping tree_of_condition tree_of_function
  grouping_is grouping tree = search (rules, the_lemmas)

  pub select_is : (select : Select) → tree_of_select described select ≡ (let y = out-Select select in distinct_tree y.distinct (t.Project (map (tree_of_item described) y.items) (grouped_tree (option_map (tree_of_grouping described) y.grouping) (filter_tree (option_map (tree_of_condition described) y.filter) (tree_of_source described y.from)))))
  unfolding tree_of_select tree_of_item tree_of_grouping tree_of_condition tree_of_source
  select_is select = search (rules, the_lemmas)

  pub query_select : (select : Select) → tree_of_query described (q.Select select) ≡ tree_of_select described select
  unfolding tree_of_query tree_of_select
  query_select select = search (rules, the_lemmas)

  pub query_combined : (first : Query) (others : List (SetOperation × Query)) → tree_of_query described (q.Combined first others) ≡ set_tree (tree_of_query described first) (map (λ o. (o.0, tree_of_query described o.1)) others)
  unfolding tree_of_query
  query_combined first others = search (rules, the_lemmas)

pub ruleset tree_nodes = (expression_constant, expression_column, expression_calculation, expression_concatenation, expression_negation, expression_scalar, condition_or, condition_and, condition_negation, condition_test, condition_compare, condition_between, condition_in_list, condition_in_query, condition_like, condition_null, condition_exists, function_rows, function_over, source_table, source_derived, source_product, source_inner, source_left, item_is, grouping_is, select_is, query_select, query_combined)
