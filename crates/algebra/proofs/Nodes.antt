-- What the meaning is at each node, whatever the steps of trees are.
use Rattle.std.proofs.Common.{◌≡◌, ℕ, Bool, List, map, rules, Ok, Option}
use Rattle.sqlval.specs.declared.value.Value.{Value}
use Rattle.sqlval.specs.declared.comparison.CompOp.{CompOp}
use Rattle.sqlval.specs.declared.truth.Truth.{Truth}
use Rattle.sqlval.specs.Truth.{truth_not, truth_of, truth_is}
use Rattle.sqlval.specs.Value.{is_null}
use Rattle.sqlval.specs.Like.{like_of}
use Rattle.typing.specs.declared.typed.Arithmetic.{Arithmetic}
use Rattle.typing.specs.declared.typed.OrderKey.{OrderKey}
use Rattle.typing.specs.declared.typed.SetFunctionType.{SetFunctionType}
use Rattle.typing.specs.declared.typed.SetOperation.{SetOperation}
use Rattle.algebra.specs.declared.tree.StoredTable.{StoredTable}
use Rattle.algebra.specs.declared.tree.Bound.{Bound}
use Rattle.algebra.specs.declared.tree.Expression.{Expression, the_lemmas}
use Rattle.algebra.specs.declared.tree.Expression.TheVariants as e
use Rattle.algebra.specs.declared.tree.Condition.{Condition}
use Rattle.algebra.specs.declared.tree.Condition.TheVariants as c
use Rattle.algebra.specs.declared.tree.SetFunction.{SetFunction}
use Rattle.algebra.specs.declared.tree.SetFunction.TheVariants as f
use Rattle.algebra.specs.declared.tree.Tree.{Tree, Tree-F}
use Rattle.algebra.specs.declared.tree.Tree.TheVariants as t
use Rattle.denote.specs.Evaluation.{Env, ◌>>=◌}
use Rattle.denote.specs.Outcome.{whole}
use Rattle.denote.specs.Expression.{column, chained, concatenation, negated, scalar}
use Rattle.denote.specs.Condition.{conjunction, disjunction, compared, between, among, first_column, exists}
use Rattle.algebra.specs.Meaning.{Layer, TreeMeaning, MeantFunction, Rows, Argument, value_by, truth_by, function_by, tree_by}

module _ (step : Layer Tree-F → TreeMeaning) where
  pub value_constant : (x : Value) (env : Env) → value_by step (e.Constant x) env ≡ Ok x
  unfolding value_by
  value_constant x env = search (rules, the_lemmas)

  pub value_column : (depth place : ℕ) (env : Env) → value_by step (e.Column depth place) env ≡ Ok (column env depth place)
  unfolding value_by
  value_column depth place env = search (rules, the_lemmas)

  pub value_calculation : (first : Expression) (others : List (Arithmetic × Expression)) (env : Env) → value_by step (e.Calculation first others) env ≡ chained (value_by step first env) (map (λ other. (other.0, value_by step other.1)) others) env
  unfolding value_by
  value_calculation first others env = search (rules, the_lemmas)

  pub value_concatenation : (first : Expression) (others : List Expression) (env : Env) → value_by step (e.Concatenation first others) env ≡ concatenation (value_by step first env) (map (value_by step) others) env
  unfolding value_by
  value_concatenation first others env = search (rules, the_lemmas)

  pub value_negation : (operand : Expression) (env : Env) → value_by step (e.Negation operand) env ≡ (value_by step operand env >>= negated)
  unfolding value_by
  value_negation operand env = search (rules, the_lemmas)

  pub value_scalar : (tree : Tree) (env : Env) → value_by step (e.Scalar tree) env ≡ scalar (tree_by step tree env)
  unfolding value_by tree_by
  value_scalar tree env = search (rules, the_lemmas)

  pub truth_or : (operands : List Condition) (env : Env) → truth_by step (c.Or operands) env ≡ disjunction (map (truth_by step) operands) env
  unfolding truth_by
  truth_or operands env = search (rules, the_lemmas)

  pub truth_and : (operands : List Condition) (env : Env) → truth_by step (c.And operands) env ≡ conjunction (map (truth_by step) operands) env
  unfolding truth_by
  truth_and operands env = search (rules, the_lemmas)

  pub truth_negation : (operand : Condition) (env : Env) → truth_by step (c.Not operand) env ≡ (truth_by step operand env >>= (λ t. Ok (truth_not t)))
  unfolding truth_by
  truth_negation operand env = search (rules, the_lemmas)

  pub truth_test : (operand : Condition) (asked : Truth) (env : Env) → truth_by step (c.IsTruth operand asked) env ≡ (truth_by step operand env >>= (λ t. Ok (truth_is t asked)))
  unfolding truth_by
  truth_test operand asked env = search (rules, the_lemmas)

  pub truth_compare : (op : CompOp) (a b : Expression) (env : Env) → truth_by step (c.Compare op a b) env ≡ compared op (value_by step a) (value_by step b) env
  unfolding truth_by value_by
  truth_compare op a b env = search (rules, the_lemmas)

  pub truth_between : (operand low high : Expression) (env : Env) → truth_by step (c.Between operand low high) env ≡ between (value_by step operand) (value_by step low) (value_by step high) env
  unfolding truth_by value_by
  truth_between operand low high env = search (rules, the_lemmas)

  pub truth_in_list : (operand : Expression) (values : List Value) (env : Env) → truth_by step (c.InList operand values) env ≡ (value_by step operand env >>= (λ x. Ok (among x values)))
  unfolding truth_by value_by
  truth_in_list operand values env = search (rules, the_lemmas)

  pub truth_in_query : (operand : Expression) (tree : Tree) (env : Env) → truth_by step (c.InQuery operand tree) env ≡ (value_by step operand env >>= (λ x. whole (tree_by step tree env) >>= (λ rows. Ok (among x (first_column rows)))))
  unfolding truth_by value_by tree_by
  truth_in_query operand tree env = search (rules, the_lemmas)

  pub truth_like : (operand pattern : Expression) (env : Env) → truth_by step (c.Like operand pattern) env ≡ (value_by step operand env >>= (λ x. value_by step pattern env >>= (λ y. Ok (like_of x y))))
  unfolding truth_by value_by
  truth_like operand pattern env = search (rules, the_lemmas)

  pub truth_null : (operand : Expression) (env : Env) → truth_by step (c.IsNull operand) env ≡ (value_by step operand env >>= (λ x. Ok (truth_of (is_null x))))
  unfolding truth_by value_by
  truth_null operand env = search (rules, the_lemmas)

  pub truth_exists : (tree : Tree) (env : Env) → truth_by step (c.Exists tree) env ≡ exists (tree_by step tree env)
  unfolding truth_by tree_by
  truth_exists tree env = search (rules, the_lemmas)

  pub tree_scan : (table : StoredTable) → tree_by step (t.Scan table) ≡ step (Tree-F.Scan table)
  unfolding tree_by
  tree_scan table = search (rules, the_lemmas)

  pub tree_filter : (condition : Condition) (tree : Tree) → tree_by step (t.Filter condition tree) ≡ step (Tree-F.Filter (truth_by step condition) (tree_by step tree))
  unfolding tree_by truth_by
  tree_filter condition tree = search (rules, the_lemmas)

  pub tree_product : (left right : Tree) → tree_by step (t.Product left right) ≡ step (Tree-F.Product (tree_by step left) (tree_by step right))
  unfolding tree_by
  tree_product left right = search (rules, the_lemmas)

  pub tree_inner : (on : Condition) (left right : Tree) → tree_by step (t.Inner on left right) ≡ step (Tree-F.Inner (truth_by step on) (tree_by step left) (tree_by step right))
  unfolding tree_by truth_by
  tree_inner on left right = search (rules, the_lemmas)

  pub tree_left : (on : Condition) (left right : Tree) (width : ℕ) → tree_by step (t.Left on left right width) ≡ step (Tree-F.Left (truth_by step on) (tree_by step left) (tree_by step right) width)
  unfolding tree_by truth_by
  tree_left on left right width = search (rules, the_lemmas)

  pub tree_group : (columns : Option (List ℕ)) (functions : List SetFunction) (rows : Tree) → tree_by step (t.Group columns functions rows) ≡ step (Tree-F.Group columns (map (function_by step) functions) (tree_by step rows))
  unfolding tree_by function_by
  tree_group columns functions rows = search (rules, the_lemmas)

  pub tree_project : (items : List Expression) (tree : Tree) → tree_by step (t.Project items tree) ≡ step (Tree-F.Project (map (value_by step) items) (tree_by step tree))
  unfolding tree_by value_by
  tree_project items tree = search (rules, the_lemmas)

  pub tree_distinct : (tree : Tree) → tree_by step (t.Distinct tree) ≡ step (Tree-F.Distinct (tree_by step tree))
  unfolding tree_by
  tree_distinct tree = search (rules, the_lemmas)

  pub tree_set : (op : SetOperation) (left right : Tree) → tree_by step (t.Set op left right) ≡ step (Tree-F.Set op (tree_by step left) (tree_by step right))
  unfolding tree_by
  tree_set op left right = search (rules, the_lemmas)

  pub tree_sort : (keys : List OrderKey) (tree : Tree) → tree_by step (t.Sort keys tree) ≡ step (Tree-F.Sort keys (tree_by step tree))
  unfolding tree_by
  tree_sort keys tree = search (rules, the_lemmas)

  pub tree_half : (on : Condition) (left right : Tree) → tree_by step (t.Half on left right) ≡ step (Tree-F.Half (truth_by step on) (tree_by step left) (tree_by step right))
  unfolding tree_by truth_by
  tree_half on left right = search (rules, the_lemmas)

  pub tree_opposite : (on : Condition) (left right : Tree) → tree_by step (t.OppositeHalf on left right) ≡ step (Tree-F.OppositeHalf (truth_by step on) (tree_by step left) (tree_by step right))
  unfolding tree_by truth_by
  tree_opposite on left right = search (rules, the_lemmas)

  pub tree_seek : (table : StoredTable) (columns : List ℕ) (key : List Value) → tree_by step (t.Seek table columns key) ≡ step (Tree-F.Seek table columns key)
  unfolding tree_by
  tree_seek table columns key = search (rules, the_lemmas)

  pub tree_range : (table : StoredTable) (columns : List ℕ) (low high : Option Bound) → tree_by step (t.Range table columns low high) ≡ step (Tree-F.Range table columns low high)
  unfolding tree_by
  tree_range table columns low high = search (rules, the_lemmas)

  pub tree_index_loop : (on : Condition) (left : Tree) (places : List ℕ) (table : StoredTable) (columns : List ℕ)
      → tree_by step (t.IndexLoop on left places table columns) ≡ step (Tree-F.IndexLoop (truth_by step on) (tree_by step left) places table columns)
  unfolding tree_by truth_by
  tree_index_loop on left places table columns = search (rules, the_lemmas)

  pub tree_hash_join : (on : Condition) (left right : Tree) (left_places right_places : List ℕ)
      → tree_by step (t.HashJoin on left right left_places right_places) ≡ step (Tree-F.HashJoin (truth_by step on) (tree_by step left) (tree_by step right) left_places right_places)
  unfolding tree_by truth_by
  tree_hash_join on left right left_places right_places = search (rules, the_lemmas)

  pub tree_member : (operand : Expression) (is_negated : Bool) (members rows : Tree)
      → tree_by step (t.Member operand is_negated members rows) ≡ step (Tree-F.Member (value_by step operand) is_negated (tree_by step members) (tree_by step rows))
  unfolding tree_by value_by
  tree_member operand is_negated members rows = search (rules, the_lemmas)

  pub function_rows : function_by step f.CountRows ≡ Rows
  unfolding function_by
  function_rows = search (rules, the_lemmas)

  pub function_over : (function : SetFunctionType) (is_distinct : Bool) (argument : Expression) → function_by step (f.Over function is_distinct argument) ≡ Argument function is_distinct (value_by step argument)
  unfolding function_by value_by
  function_over function is_distinct argument = search (rules, the_lemmas)

pub ruleset value_nodes = (value_constant, value_column, value_calculation, value_concatenation, value_negation, value_scalar)

pub ruleset truth_nodes = (truth_or, truth_and, truth_negation, truth_test, truth_compare, truth_between, truth_in_list, truth_in_query, truth_like, truth_null, truth_exists)

pub ruleset tree_nodes = (tree_scan, tree_filter, tree_product, tree_inner, tree_left, tree_group, tree_project, tree_distinct, tree_set, tree_sort, tree_half, tree_opposite, tree_seek, tree_range, tree_index_loop, tree_hash_join, tree_member, function_rows, function_over)
