-- Of each node, what it is when subqueries stand as what they give.
use Rattle.std.proofs.Common.{◌≡◌, ℕ, Bool, List, map, rules, Option}
use Rattle.sqlval.specs.declared.value.Value.{Value}
use Rattle.sqlval.specs.declared.comparison.CompOp.{CompOp}
use Rattle.sqlval.specs.declared.truth.Truth.{Truth}
use Rattle.typing.specs.declared.typed.Arithmetic.{Arithmetic}
use Rattle.typing.specs.declared.typed.OrderKey.{OrderKey}
use Rattle.typing.specs.declared.typed.SetFunctionType.{SetFunctionType}
use Rattle.typing.specs.declared.typed.SetOperation.{SetOperation}
use Rattle.algebra.specs.declared.tree.Bound.{Bound}
use Rattle.algebra.specs.declared.tree.StoredTable.{StoredTable}
use Rattle.algebra.specs.declared.tree.Expression.{Expression, the_lemmas}
use Rattle.algebra.specs.declared.tree.Expression.TheVariants as e
use Rattle.algebra.specs.declared.tree.Condition.{Condition}
use Rattle.algebra.specs.declared.tree.Condition.TheVariants as c
use Rattle.algebra.specs.declared.tree.SetFunction.{SetFunction}
use Rattle.algebra.specs.declared.tree.SetFunction.TheVariants as f
use Rattle.algebra.specs.declared.tree.Tree.{Tree}
use Rattle.algebra.specs.declared.tree.Tree.TheVariants as t
use Rattle.denote.specs.Meaning.{Tables}
use Rattle.uncorrelated_subqueries.specs.Kept.{lasting_rows, kept_scalar, kept_in, kept_exists, kept_expression, kept_condition, kept_function, kept_tree}

module _ (tables : Tables) where
  pub expression_constant : (x : Value) → kept_expression tables (e.Constant x) ≡ e.Constant x
  unfolding kept_expression kept_condition kept_function kept_tree
  expression_constant x = search (rules, the_lemmas)

  pub expression_column : (depth place : ℕ) → kept_expression tables (e.Column depth place) ≡ e.Column depth place
  unfolding kept_expression kept_condition kept_function kept_tree
  expression_column depth place = search (rules, the_lemmas)

  pub expression_calculation : (first : Expression) (others : List (Arithmetic × Expression)) → kept_expression tables (e.Calculation first others) ≡ e.Calculation (kept_expression tables first) (map (λ other. (other.0, kept_expression tables other.1)) others)
  unfolding kept_expression kept_condition kept_function kept_tree
  expression_calculation first others = search (rules, the_lemmas)

  pub expression_concatenation : (first : Expression) (others : List Expression) → kept_expression tables (e.Concatenation first others) ≡ e.Concatenation (kept_expression tables first) (map (kept_expression tables) others)
  unfolding kept_expression kept_condition kept_function kept_tree
  expression_concatenation first others = search (rules, the_lemmas)

  pub expression_negation : (operand : Expression) → kept_expression tables (e.Negation operand) ≡ e.Negation (kept_expression tables operand)
  unfolding kept_expression kept_condition kept_function kept_tree
  expression_negation operand = search (rules, the_lemmas)

  pub expression_scalar : (tree : Tree) → kept_expression tables (e.Scalar tree) ≡ kept_scalar (lasting_rows tables (kept_tree tables tree)) (kept_tree tables tree)
  unfolding kept_expression kept_condition kept_function kept_tree
  expression_scalar tree = search (rules, the_lemmas)

  pub condition_or : (operands : List Condition) → kept_condition tables (c.Or operands) ≡ c.Or (map (kept_condition tables) operands)
  unfolding kept_expression kept_condition kept_function kept_tree
  condition_or operands = search (rules, the_lemmas)

  pub condition_and : (operands : List Condition) → kept_condition tables (c.And operands) ≡ c.And (map (kept_condition tables) operands)
  unfolding kept_expression kept_condition kept_function kept_tree
  condition_and operands = search (rules, the_lemmas)

  pub condition_not : (operand : Condition) → kept_condition tables (c.Not operand) ≡ c.Not (kept_condition tables operand)
  unfolding kept_expression kept_condition kept_function kept_tree
  condition_not operand = search (rules, the_lemmas)

  pub condition_test : (operand : Condition) (truth : Truth) → kept_condition tables (c.IsTruth operand truth) ≡ c.IsTruth (kept_condition tables operand) truth
  unfolding kept_expression kept_condition kept_function kept_tree
  condition_test operand truth = search (rules, the_lemmas)

  pub condition_compare : (op : CompOp) (left right : Expression) → kept_condition tables (c.Compare op left right) ≡ c.Compare op (kept_expression tables left) (kept_expression tables right)
  unfolding kept_expression kept_condition kept_function kept_tree
  condition_compare op left right = search (rules, the_lemmas)

  pub condition_between : (operand low high : Expression) → kept_condition tables (c.Between operand low high) ≡ c.Between (kept_expression tables operand) (kept_expression tables low) (kept_expression tables high)
  unfolding kept_expression kept_condition kept_function kept_tree
  condition_between operand low high = search (rules, the_lemmas)

  pub condition_in_list : (operand : Expression) (values : List Value) → kept_condition tables (c.InList operand values) ≡ c.InList (kept_expression tables operand) values
  unfolding kept_expression kept_condition kept_function kept_tree
  condition_in_list operand values = search (rules, the_lemmas)

  pub condition_in_query : (operand : Expression) (tree : Tree) → kept_condition tables (c.InQuery operand tree) ≡ kept_in (lasting_rows tables (kept_tree tables tree)) (kept_expression tables operand) (kept_tree tables tree)
  unfolding kept_expression kept_condition kept_function kept_tree
  condition_in_query operand tree = search (rules, the_lemmas)

  pub condition_like : (operand pattern : Expression) → kept_condition tables (c.Like operand pattern) ≡ c.Like (kept_expression tables operand) (kept_expression tables pattern)
  unfolding kept_expression kept_condition kept_function kept_tree
  condition_like operand pattern = search (rules, the_lemmas)

  pub condition_null : (operand : Expression) → kept_condition tables (c.IsNull operand) ≡ c.IsNull (kept_expression tables operand)
  unfolding kept_expression kept_condition kept_function kept_tree
  condition_null operand = search (rules, the_lemmas)

  pub condition_exists : (tree : Tree) → kept_condition tables (c.Exists tree) ≡ kept_exists (lasting_rows tables (kept_tree tables tree)) (kept_tree tables tree)
  unfolding kept_expression kept_condition kept_function kept_tree
  condition_exists tree = search (rules, the_lemmas)

  pub function_rows : kept_function tables f.CountRows ≡ f.CountRows
  unfolding kept_expression kept_condition kept_function kept_tree
  function_rows = search (rules, the_lemmas)

  pub function_over : (function : SetFunctionType) (is_distinct : Bool) (argument : Expression) → kept_function tables (f.Over function is_distinct argument) ≡ f.Over function is_distinct (kept_expression tables argument)
  unfolding kept_expression kept_condition kept_function kept_tree
  function_over function is_distinct argument = search (rules, the_lemmas)

  pub tree_scan : (table : StoredTable) → kept_tree tables (t.Scan table) ≡ t.Scan table
  unfolding kept_expression kept_condition kept_function kept_tree
  tree_scan table = search (rules, the_lemmas)

  pub tree_filter : (condition : Condition) (tree : Tree) → kept_tree tables (t.Filter condition tree) ≡ t.Filter (kept_condition tables condition) (kept_tree tables tree)
  unfolding kept_expression kept_condition kept_function kept_tree
  tree_filter condition tree = search (rules, the_lemmas)

  pub tree_product : (left right : Tree) → kept_tree tables (t.Product left right) ≡ t.Product (kept_tree tables left) (kept_tree tables right)
  unfolding kept_expression kept_condition kept_function kept_tree
  tree_product left right = search (rules, the_lemmas)

  pub tree_inner : (on : Condition) (left right : Tree) → kept_tree tables (t.Inner on left right) ≡ t.Inner (kept_condition tables on) (kept_tree tables left) (kept_tree tables right)
  unfolding kept_expression kept_condition kept_function kept_tree
  tree_inner on left right = search (rules, the_lemmas)

  pub tree_left : (on : Condition) (left right : Tree) (width : ℕ) → kept_tree tables (t.Left on left right width) ≡ t.Left (kept_condition tables on) (kept_tree tables left) (kept_tree tables right) width
  unfolding kept_expression kept_condition kept_function kept_tree
  tree_left on left right width = search (rules, the_lemmas)

  pub tree_half : (on : Condition) (left right : Tree) → kept_tree tables (t.Half on left right) ≡ t.Half (kept_condition tables on) (kept_tree tables left) (kept_tree tables right)
  unfolding kept_expression kept_condition kept_function kept_tree
  tree_half on left right = search (rules, the_lemmas)

  pub tree_opposite : (on : Condition) (left right : Tree) → kept_tree tables (t.OppositeHalf on left right) ≡ t.OppositeHalf (kept_condition tables on) (kept_tree tables left) (kept_tree tables right)
  unfolding kept_expression kept_condition kept_function kept_tree
  tree_opposite on left right = search (rules, the_lemmas)

  pub tree_group : (columns : Option (List ℕ)) (functions : List SetFunction) (rows : Tree) → kept_tree tables (t.Group columns functions rows) ≡ t.Group columns (map (kept_function tables) functions) (kept_tree tables rows)
  unfolding kept_expression kept_condition kept_function kept_tree
  tree_group columns functions rows = search (rules, the_lemmas)

  pub tree_project : (items : List Expression) (tree : Tree) → kept_tree tables (t.Project items tree) ≡ t.Project (map (kept_expression tables) items) (kept_tree tables tree)
  unfolding kept_expression kept_condition kept_function kept_tree
  tree_project items tree = search (rules, the_lemmas)

  pub tree_distinct : (tree : Tree) → kept_tree tables (t.Distinct tree) ≡ t.Distinct (kept_tree tables tree)
  unfolding kept_expression kept_condition kept_function kept_tree
  tree_distinct tree = search (rules, the_lemmas)

  pub tree_set : (op : SetOperation) (left right : Tree) → kept_tree tables (t.Set op left right) ≡ t.Set op (kept_tree tables left) (kept_tree tables right)
  unfolding kept_expression kept_condition kept_function kept_tree
  tree_set op left right = search (rules, the_lemmas)

  pub tree_sort : (keys : List OrderKey) (tree : Tree) → kept_tree tables (t.Sort keys tree) ≡ t.Sort keys (kept_tree tables tree)
  unfolding kept_expression kept_condition kept_function kept_tree
  tree_sort keys tree = search (rules, the_lemmas)

  pub tree_seek : (table : StoredTable) (columns : List ℕ) (key : List Value) → kept_tree tables (t.Seek table columns key) ≡ t.Seek table columns key
  unfolding kept_expression kept_condition kept_function kept_tree
  tree_seek table columns key = search (rules, the_lemmas)

  pub tree_range : (table : StoredTable) (columns : List ℕ) (low high : Option Bound) → kept_tree tables (t.Range table columns low high) ≡ t.Range table columns low high
  unfolding kept_expression kept_condition kept_function kept_tree
  tree_range table columns low high = search (rules, the_lemmas)

  pub tree_index_loop : (on : Condition) (left : Tree) (places : List ℕ) (table : StoredTable) (columns : List ℕ) → kept_tree tables (t.IndexLoop on left places table columns) ≡ t.IndexLoop (kept_condition tables on) (kept_tree tables left) places table columns
  unfolding kept_expression kept_condition kept_function kept_tree
  tree_index_loop on left places table columns = search (rules, the_lemmas)

  pub tree_hash_join : (on : Condition) (left right : Tree) (left_places right_places : List ℕ) → kept_tree tables (t.HashJoin on left right left_places right_places) ≡ t.HashJoin (kept_condition tables on) (kept_tree tables left) (kept_tree tables right) left_places right_places
  unfolding kept_expression kept_condition kept_function kept_tree
  tree_hash_join on left right left_places right_places = search (rules, the_lemmas)

  pub tree_member : (operand : Expression) (is_negated : Bool) (members rows : Tree) → kept_tree tables (t.Member operand is_negated members rows) ≡ t.Member (kept_expression tables operand) is_negated (kept_tree tables members) (kept_tree tables rows)
  unfolding kept_expression kept_condition kept_function kept_tree
  tree_member operand is_negated members rows = search (rules, the_lemmas)

pub ruleset kept_nodes = (expression_constant, expression_column, expression_calculation, expression_concatenation, expression_negation, expression_scalar, condition_or, condition_and, condition_not, condition_test, condition_compare, condition_between, condition_in_list, condition_in_query, condition_like, condition_null, condition_exists, function_rows, function_over, tree_scan, tree_filter, tree_product, tree_inner, tree_left, tree_half, tree_opposite, tree_group, tree_project, tree_distinct, tree_set, tree_sort, tree_seek, tree_range, tree_index_loop, tree_hash_join, tree_member)
