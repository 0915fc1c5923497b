-- Of each node, the tables that it reads: those of its parts.
use Rattle.std.proofs.Common.{◌≡◌, ap, ◌∙◌, ℕ, Bool, List, [], ◌∷◌, ◌++◌, map, flat_map, rules, Option}
use Rattle.std.proofs.lemmas.List.Folds.{flat_map-map}
use Rattle.sqlval.specs.declared.value.Value.{Value}
use Rattle.sqlval.specs.declared.comparison.CompOp.{CompOp}
use Rattle.sqlval.specs.declared.truth.Truth.{Truth}
use Rattle.typing.specs.declared.typed.Arithmetic.{Arithmetic}
use Rattle.typing.specs.declared.typed.OrderKey.{OrderKey}
use Rattle.typing.specs.declared.typed.SetOperation.{SetOperation}
use Rattle.algebra.specs.declared.tree.Bound.{Bound}
use Rattle.algebra.specs.declared.tree.StoredTable.{StoredTable}
use Rattle.algebra.specs.declared.tree.Expression.{Expression, the_lemmas}
use Rattle.algebra.specs.declared.tree.Expression.TheVariants as e
use Rattle.algebra.specs.declared.tree.Condition.{Condition}
use Rattle.algebra.specs.declared.tree.Condition.TheVariants as c
use Rattle.algebra.specs.declared.tree.SetFunction.{SetFunction}
use Rattle.algebra.specs.declared.tree.Tree.{Tree}
use Rattle.algebra.specs.declared.tree.Tree.TheVariants as t
use Rattle.typing.specs.declared.typed.SetFunctionType.{SetFunctionType}
use Rattle.algebra.specs.declared.tree.SetFunction.TheVariants as f
use Rattle.rules.specs.Stored.{StoredTables, all_stored, stored_in_condition, stored_in_expression, stored_in_function, stored_in_tree}

pub condition_or : (operands : List Condition)
    → stored_in_condition (c.Or operands) ≡ all_stored (map stored_in_condition operands)
unfolding stored_in_expression stored_in_condition stored_in_function stored_in_tree
condition_or operands = search (rules, the_lemmas)

pub condition_and : (operands : List Condition)
    → stored_in_condition (c.And operands) ≡ all_stored (map stored_in_condition operands)
unfolding stored_in_expression stored_in_condition stored_in_function stored_in_tree
condition_and operands = search (rules, the_lemmas)

pub condition_not : (operand : Condition) → stored_in_condition (c.Not operand) ≡ stored_in_condition operand
unfolding stored_in_expression stored_in_condition stored_in_function stored_in_tree
condition_not operand = search (rules, the_lemmas)

pub condition_test : (operand : Condition) (truth : Truth) → stored_in_condition (c.IsTruth operand truth)
    ≡ stored_in_condition operand
unfolding stored_in_expression stored_in_condition stored_in_function stored_in_tree
condition_test operand truth = search (rules, the_lemmas)

pub condition_compare : (op : CompOp) (left right : Expression) → stored_in_condition (c.Compare op left right)
    ≡ stored_in_expression left ++ stored_in_expression right
unfolding stored_in_expression stored_in_condition stored_in_function stored_in_tree
condition_compare op left right = search (rules, the_lemmas)

pub condition_between : (operand low high : Expression) → stored_in_condition (c.Between operand low high)
    ≡ stored_in_expression operand ++ (stored_in_expression low ++ stored_in_expression high)
unfolding stored_in_expression stored_in_condition stored_in_function stored_in_tree
condition_between operand low high = search (rules, the_lemmas)

pub condition_in_list : (operand : Expression) (values : List Value) → stored_in_condition (c.InList operand values)
    ≡ stored_in_expression operand
unfolding stored_in_expression stored_in_condition stored_in_function stored_in_tree
condition_in_list operand values = search (rules, the_lemmas)

pub condition_in_query : (operand : Expression) (tree : Tree) → stored_in_condition (c.InQuery operand tree)
    ≡ stored_in_expression operand ++ stored_in_tree tree
unfolding stored_in_expression stored_in_condition stored_in_function stored_in_tree
condition_in_query operand tree = search (rules, the_lemmas)

pub condition_like : (operand pattern : Expression) → stored_in_condition (c.Like operand pattern)
    ≡ stored_in_expression operand ++ stored_in_expression pattern
unfolding stored_in_expression stored_in_condition stored_in_function stored_in_tree
condition_like operand pattern = search (rules, the_lemmas)

pub condition_null : (operand : Expression) → stored_in_condition (c.IsNull operand) ≡ stored_in_expression operand
unfolding stored_in_expression stored_in_condition stored_in_function stored_in_tree
condition_null operand = search (rules, the_lemmas)

pub condition_exists : (tree : Tree) → stored_in_condition (c.Exists tree) ≡ stored_in_tree tree
unfolding stored_in_expression stored_in_condition stored_in_function stored_in_tree
condition_exists tree = search (rules, the_lemmas)

pub expression_constant : (x : Value) → stored_in_expression (e.Constant x) ≡ []
unfolding stored_in_expression stored_in_condition stored_in_function stored_in_tree
expression_constant x = search (rules, the_lemmas)

pub expression_column : (depth place : ℕ) → stored_in_expression (e.Column depth place) ≡ []
unfolding stored_in_expression stored_in_condition stored_in_function stored_in_tree
expression_column depth place = search (rules, the_lemmas)

calculation : (first : Expression) (others : List (Arithmetic × Expression))
    → stored_in_expression (e.Calculation first others) ≡ stored_in_expression first ++ flat_map
    (λ (other : Arithmetic × StoredTables). other.1)
    (map (λ (other : Arithmetic × Expression). (other.0, stored_in_expression other.1)) others)
unfolding stored_in_expression stored_in_condition stored_in_function stored_in_tree
calculation first others = search (rules, the_lemmas)

pub expression_calculation : (first : Expression) (others : List (Arithmetic × Expression))
    → stored_in_expression (e.Calculation first others) ≡ stored_in_expression first ++ flat_map
    (λ (other : Arithmetic × Expression). stored_in_expression other.1) others
expression_calculation first others = calculation first others
    ∙ ap (λ names. stored_in_expression first ++ names)
    (flat_map-map (λ (other : Arithmetic × StoredTables). other.1)
    (λ (other : Arithmetic × Expression). (other.0, stored_in_expression other.1)) others)

pub expression_concatenation : (first : Expression) (others : List Expression)
    → stored_in_expression (e.Concatenation first others) ≡ stored_in_expression first ++ all_stored
    (map stored_in_expression others)
unfolding stored_in_expression stored_in_condition stored_in_function stored_in_tree
expression_concatenation first others = search (rules, the_lemmas)

pub expression_negation : (operand : Expression)
    → stored_in_expression (e.Negation operand) ≡ stored_in_expression operand
unfolding stored_in_expression stored_in_condition stored_in_function stored_in_tree
expression_negation operand = search (rules, the_lemmas)

pub expression_scalar : (tree : Tree) → stored_in_expression (e.Scalar tree) ≡ stored_in_tree tree
unfolding stored_in_expression stored_in_condition stored_in_function stored_in_tree
expression_scalar tree = search (rules, the_lemmas)

pub function_rows : stored_in_function (f.CountRows) ≡ []
unfolding stored_in_expression stored_in_condition stored_in_function stored_in_tree
function_rows = search (rules, the_lemmas)

pub function_over : (function : SetFunctionType) (is_distinct : Bool) (argument : Expression)
    → stored_in_function (f.Over function is_distinct argument) ≡ stored_in_expression argument
unfolding stored_in_expression stored_in_condition stored_in_function stored_in_tree
function_over function is_distinct argument = search (rules, the_lemmas)

pub tree_scan : (table : StoredTable) → stored_in_tree (t.Scan table) ≡ table ∷ []
unfolding stored_in_expression stored_in_condition stored_in_function stored_in_tree
tree_scan table = search (rules, the_lemmas)

pub tree_filter : (condition : Condition) (tree : Tree)
    → stored_in_tree (t.Filter condition tree) ≡ stored_in_condition condition ++ stored_in_tree tree
unfolding stored_in_expression stored_in_condition stored_in_function stored_in_tree
tree_filter condition tree = search (rules, the_lemmas)

pub tree_product : (left right : Tree)
    → stored_in_tree (t.Product left right) ≡ stored_in_tree left ++ stored_in_tree right
unfolding stored_in_expression stored_in_condition stored_in_function stored_in_tree
tree_product left right = search (rules, the_lemmas)

pub tree_inner : (on : Condition) (left right : Tree)
    → stored_in_tree (t.Inner on left right) ≡ stored_in_condition on ++ (stored_in_tree left ++ stored_in_tree right)
unfolding stored_in_expression stored_in_condition stored_in_function stored_in_tree
tree_inner on left right = search (rules, the_lemmas)

pub tree_left : (on : Condition) (left right : Tree) (width : ℕ) → stored_in_tree (t.Left on left right width)
    ≡ stored_in_condition on ++ (stored_in_tree left ++ stored_in_tree right)
unfolding stored_in_expression stored_in_condition stored_in_function stored_in_tree
tree_left on left right width = search (rules, the_lemmas)

pub tree_half : (on : Condition) (left right : Tree)
    → stored_in_tree (t.Half on left right) ≡ stored_in_condition on ++ (stored_in_tree left ++ stored_in_tree right)
unfolding stored_in_expression stored_in_condition stored_in_function stored_in_tree
tree_half on left right = search (rules, the_lemmas)

pub tree_opposite : (on : Condition) (left right : Tree) → stored_in_tree (t.OppositeHalf on left right)
    ≡ stored_in_condition on ++ (stored_in_tree left ++ stored_in_tree right)
unfolding stored_in_expression stored_in_condition stored_in_function stored_in_tree
tree_opposite on left right = search (rules, the_lemmas)

pub tree_group : (columns : Option (List ℕ)) (functions : List SetFunction) (rows : Tree)
    → stored_in_tree (t.Group columns functions rows) ≡ all_stored (map stored_in_function functions) ++ stored_in_tree
    rows
unfolding stored_in_expression stored_in_condition stored_in_function stored_in_tree
tree_group columns functions rows = search (rules, the_lemmas)

pub tree_project : (items : List Expression) (tree : Tree)
    → stored_in_tree (t.Project items tree) ≡ all_stored (map stored_in_expression items) ++ stored_in_tree tree
unfolding stored_in_expression stored_in_condition stored_in_function stored_in_tree
tree_project items tree = search (rules, the_lemmas)

pub tree_distinct : (tree : Tree) → stored_in_tree (t.Distinct tree) ≡ stored_in_tree tree
unfolding stored_in_expression stored_in_condition stored_in_function stored_in_tree
tree_distinct tree = search (rules, the_lemmas)

pub tree_set : (op : SetOperation) (left right : Tree)
    → stored_in_tree (t.Set op left right) ≡ stored_in_tree left ++ stored_in_tree right
unfolding stored_in_expression stored_in_condition stored_in_function stored_in_tree
tree_set op left right = search (rules, the_lemmas)

pub tree_sort : (keys : List OrderKey) (tree : Tree) → stored_in_tree (t.Sort keys tree) ≡ stored_in_tree tree
unfolding stored_in_expression stored_in_condition stored_in_function stored_in_tree
tree_sort keys tree = search (rules, the_lemmas)

pub tree_seek : (table : StoredTable) (columns : List ℕ) (key : List Value)
    → stored_in_tree (t.Seek table columns key) ≡ table ∷ []
unfolding stored_in_expression stored_in_condition stored_in_function stored_in_tree
tree_seek table columns key = search (rules, the_lemmas)

pub tree_range : (table : StoredTable) (columns : List ℕ) (low high : Option Bound)
    → stored_in_tree (t.Range table columns low high) ≡ table ∷ []
unfolding stored_in_expression stored_in_condition stored_in_function stored_in_tree
tree_range table columns low high = search (rules, the_lemmas)

pub tree_index_loop : (on : Condition) (left : Tree) (places : List ℕ) (table : StoredTable) (columns : List ℕ)
    → stored_in_tree (t.IndexLoop on left places table columns) ≡ stored_in_condition on ++
    (stored_in_tree left ++ table ∷ [])
unfolding stored_in_expression stored_in_condition stored_in_function stored_in_tree
tree_index_loop on left places table columns = search (rules, the_lemmas)

pub tree_hash_join : (on : Condition) (left right : Tree) (left_places right_places : List ℕ)
    → stored_in_tree (t.HashJoin on left right left_places right_places) ≡ stored_in_condition on ++
    (stored_in_tree left ++ stored_in_tree right)
unfolding stored_in_expression stored_in_condition stored_in_function stored_in_tree
tree_hash_join on left right left_places right_places = search (rules, the_lemmas)

pub tree_member : (operand : Expression) (is_negated : Bool) (members rows : Tree)
    → stored_in_tree (t.Member operand is_negated members rows) ≡ stored_in_expression operand ++
    (stored_in_tree members ++ stored_in_tree rows)
unfolding stored_in_expression stored_in_condition stored_in_function stored_in_tree
tree_member operand is_negated members rows = search (rules, the_lemmas)

pub ruleset naming_nodes = (
  condition_or,
  condition_and,
  condition_not,
  condition_test,
  condition_compare,
  condition_between,
  condition_in_list,
  condition_in_query,
  condition_like,
  condition_null,
  condition_exists,
  expression_constant,
  expression_column,
  expression_calculation,
  expression_concatenation,
  expression_negation,
  expression_scalar,
  function_rows,
  function_over,
  tree_scan,
  tree_filter,
  tree_product,
  tree_inner,
  tree_left,
  tree_half,
  tree_opposite,
  tree_group,
  tree_project,
  tree_distinct,
  tree_set,
  tree_sort,
  tree_seek,
  tree_range,
  tree_index_loop,
  tree_hash_join,
  tree_member,
)
