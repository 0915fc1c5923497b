-- Of each node, the rows outside that it looks at: those of its parts.
use Rattle.std.proofs.Common.{◌≡◌, refl, ap, ◌∙◌, ℕ, Bool, List, [], ◌∷◌, ◌++◌, map, flat_map, rules, Option}
use Rattle.std.proofs.lemmas.List.Folds.{flat_map-map}
use Rattle.sqlval.specs.declared.value.Value.{Value}
use Rattle.sqlval.specs.declared.comparison.CompOp.{CompOp}
use Rattle.sqlval.specs.declared.truth.Truth.{Truth}
use Rattle.typing.specs.declared.typed.Arithmetic.{Arithmetic}
use Rattle.typing.specs.declared.typed.OrderKey.{OrderKey}
use Rattle.typing.specs.declared.typed.SetOperation.{SetOperation}
use Rattle.algebra.specs.declared.tree.Bound.{Bound}
use Rattle.algebra.specs.declared.tree.StoredTable.{StoredTable}
use Rattle.algebra.specs.declared.tree.Expression.{Expression, Expression-F, roll-Expression, fold-roll-Expression, the_lemmas}
use Rattle.algebra.specs.declared.tree.Expression.TheVariants as e
use Rattle.algebra.specs.declared.tree.Condition.{Condition}
use Rattle.algebra.specs.declared.tree.Condition.TheVariants as c
use Rattle.algebra.specs.declared.tree.SetFunction.{SetFunction}
use Rattle.algebra.specs.declared.tree.Tree.{Tree}
use Rattle.algebra.specs.declared.tree.Tree.TheVariants as t
use Rattle.typing.specs.declared.typed.SetFunctionType.{SetFunctionType}
use Rattle.algebra.specs.declared.tree.SetFunction.TheVariants as f
use Rattle.closed_trees.specs.Outside.{Depths, all_depths, outwards, depths_in_condition, depths_in_expression, depths_in_function, depths_in_tree}

pub condition_or : (operands : List Condition) → depths_in_condition (c.Or operands) ≡ all_depths (map depths_in_condition operands)
unfolding depths_in_expression depths_in_condition depths_in_function depths_in_tree
condition_or operands = search (rules, the_lemmas)

pub condition_and : (operands : List Condition) → depths_in_condition (c.And operands) ≡ all_depths (map depths_in_condition operands)
unfolding depths_in_expression depths_in_condition depths_in_function depths_in_tree
condition_and operands = search (rules, the_lemmas)

pub condition_not : (operand : Condition) → depths_in_condition (c.Not operand) ≡ depths_in_condition operand
unfolding depths_in_expression depths_in_condition depths_in_function depths_in_tree
condition_not operand = search (rules, the_lemmas)

pub condition_test : (operand : Condition) (truth : Truth) → depths_in_condition (c.IsTruth operand truth) ≡ depths_in_condition operand
unfolding depths_in_expression depths_in_condition depths_in_function depths_in_tree
condition_test operand truth = search (rules, the_lemmas)

pub condition_compare : (op : CompOp) (left right : Expression) → depths_in_condition (c.Compare op left right) ≡ depths_in_expression left ++ depths_in_expression right
unfolding depths_in_expression depths_in_condition depths_in_function depths_in_tree
condition_compare op left right = search (rules, the_lemmas)

pub condition_between : (operand low high : Expression) → depths_in_condition (c.Between operand low high) ≡ depths_in_expression operand ++ (depths_in_expression low ++ depths_in_expression high)
unfolding depths_in_expression depths_in_condition depths_in_function depths_in_tree
condition_between operand low high = search (rules, the_lemmas)

pub condition_in_list : (operand : Expression) (values : List Value) → depths_in_condition (c.InList operand values) ≡ depths_in_expression operand
unfolding depths_in_expression depths_in_condition depths_in_function depths_in_tree
condition_in_list operand values = search (rules, the_lemmas)

pub condition_in_query : (operand : Expression) (tree : Tree) → depths_in_condition (c.InQuery operand tree) ≡ depths_in_expression operand ++ depths_in_tree tree
unfolding depths_in_expression depths_in_condition depths_in_function depths_in_tree
condition_in_query operand tree = search (rules, the_lemmas)

pub condition_like : (operand pattern : Expression) → depths_in_condition (c.Like operand pattern) ≡ depths_in_expression operand ++ depths_in_expression pattern
unfolding depths_in_expression depths_in_condition depths_in_function depths_in_tree
condition_like operand pattern = search (rules, the_lemmas)

pub condition_null : (operand : Expression) → depths_in_condition (c.IsNull operand) ≡ depths_in_expression operand
unfolding depths_in_expression depths_in_condition depths_in_function depths_in_tree
condition_null operand = search (rules, the_lemmas)

pub condition_exists : (tree : Tree) → depths_in_condition (c.Exists tree) ≡ depths_in_tree tree
unfolding depths_in_expression depths_in_condition depths_in_function depths_in_tree
condition_exists tree = search (rules, the_lemmas)

pub expression_constant : (x : Value) → depths_in_expression (e.Constant x) ≡ []
unfolding depths_in_expression depths_in_condition depths_in_function depths_in_tree
expression_constant x = search (rules, the_lemmas)

pub expression_column : (depth place : ℕ) → depths_in_expression (e.Column depth place) ≡ depth ∷ []
unfolding depths_in_expression depths_in_condition depths_in_function depths_in_tree
expression_column depth place = search (rules, the_lemmas)

calculation : (first : Expression) (others : List (Arithmetic × Expression)) → depths_in_expression (e.Calculation first others) ≡ depths_in_expression first ++ flat_map (λ (other : Arithmetic × Depths). other.1) (map (λ (other : Arithmetic × Expression). (other.0, depths_in_expression other.1)) others)
unfolding depths_in_expression depths_in_condition depths_in_function depths_in_tree
calculation first others = search (rules, the_lemmas)

pub expression_calculation : (first : Expression) (others : List (Arithmetic × Expression)) → depths_in_expression (e.Calculation first others) ≡ depths_in_expression first ++ flat_map (λ (other : Arithmetic × Expression). depths_in_expression other.1) others
expression_calculation first others = calculation first others ∙ ap (λ depths. depths_in_expression first ++ depths) (flat_map-map (λ (other : Arithmetic × Depths). other.1) (λ (other : Arithmetic × Expression). (other.0, depths_in_expression other.1)) others)

pub expression_concatenation : (first : Expression) (others : List Expression) → depths_in_expression (e.Concatenation first others) ≡ depths_in_expression first ++ all_depths (map depths_in_expression others)
unfolding depths_in_expression depths_in_condition depths_in_function depths_in_tree
expression_concatenation first others = search (rules, the_lemmas)

pub expression_negation : (operand : Expression) → depths_in_expression (e.Negation operand) ≡ depths_in_expression operand
unfolding depths_in_expression depths_in_condition depths_in_function depths_in_tree
expression_negation operand = search (rules, the_lemmas)

pub expression_scalar : (tree : Tree) → depths_in_expression (e.Scalar tree) ≡ depths_in_tree tree
unfolding depths_in_expression depths_in_condition depths_in_function depths_in_tree
expression_scalar tree = search (rules, the_lemmas)

pub function_rows : depths_in_function (f.CountRows) ≡ []
unfolding depths_in_expression depths_in_condition depths_in_function depths_in_tree
function_rows = search (rules, the_lemmas)

pub function_over : (function : SetFunctionType) (is_distinct : Bool) (argument : Expression) → depths_in_function (f.Over function is_distinct argument) ≡ depths_in_expression argument
unfolding depths_in_expression depths_in_condition depths_in_function depths_in_tree
function_over function is_distinct argument = search (rules, the_lemmas)

pub tree_scan : (table : StoredTable) → depths_in_tree (t.Scan table) ≡ []
unfolding depths_in_expression depths_in_condition depths_in_function depths_in_tree
tree_scan table = search (rules, the_lemmas)

pub tree_filter : (condition : Condition) (tree : Tree) → depths_in_tree (t.Filter condition tree) ≡ outwards (depths_in_condition condition) ++ depths_in_tree tree
unfolding depths_in_expression depths_in_condition depths_in_function depths_in_tree
tree_filter condition tree = search (rules, the_lemmas)

pub tree_product : (left right : Tree) → depths_in_tree (t.Product left right) ≡ depths_in_tree left ++ depths_in_tree right
unfolding depths_in_expression depths_in_condition depths_in_function depths_in_tree
tree_product left right = search (rules, the_lemmas)

pub tree_inner : (on : Condition) (left right : Tree) → depths_in_tree (t.Inner on left right) ≡ outwards (depths_in_condition on) ++ (depths_in_tree left ++ depths_in_tree right)
unfolding depths_in_expression depths_in_condition depths_in_function depths_in_tree
tree_inner on left right = search (rules, the_lemmas)

pub tree_left : (on : Condition) (left right : Tree) (width : ℕ) → depths_in_tree (t.Left on left right width) ≡ outwards (depths_in_condition on) ++ (depths_in_tree left ++ depths_in_tree right)
unfolding depths_in_expression depths_in_condition depths_in_function depths_in_tree
tree_left on left right width = search (rules, the_lemmas)

pub tree_half : (on : Condition) (left right : Tree) → depths_in_tree (t.Half on left right) ≡ outwards (depths_in_condition on) ++ (depths_in_tree left ++ depths_in_tree right)
unfolding depths_in_expression depths_in_condition depths_in_function depths_in_tree
tree_half on left right = search (rules, the_lemmas)

pub tree_opposite : (on : Condition) (left right : Tree) → depths_in_tree (t.OppositeHalf on left right) ≡ outwards (depths_in_condition on) ++ (depths_in_tree left ++ depths_in_tree right)
unfolding depths_in_expression depths_in_condition depths_in_function depths_in_tree
tree_opposite on left right = search (rules, the_lemmas)

pub tree_group : (columns : Option (List ℕ)) (functions : List SetFunction) (rows : Tree) → depths_in_tree (t.Group columns functions rows) ≡ outwards (all_depths (map depths_in_function functions)) ++ depths_in_tree rows
unfolding depths_in_expression depths_in_condition depths_in_function depths_in_tree
tree_group columns functions rows = search (rules, the_lemmas)

pub tree_project : (items : List Expression) (tree : Tree) → depths_in_tree (t.Project items tree) ≡ outwards (all_depths (map depths_in_expression items)) ++ depths_in_tree tree
unfolding depths_in_expression depths_in_condition depths_in_function depths_in_tree
tree_project items tree = search (rules, the_lemmas)

pub tree_distinct : (tree : Tree) → depths_in_tree (t.Distinct tree) ≡ depths_in_tree tree
unfolding depths_in_expression depths_in_condition depths_in_function depths_in_tree
tree_distinct tree = search (rules, the_lemmas)

pub tree_set : (op : SetOperation) (left right : Tree) → depths_in_tree (t.Set op left right) ≡ depths_in_tree left ++ depths_in_tree right
unfolding depths_in_expression depths_in_condition depths_in_function depths_in_tree
tree_set op left right = search (rules, the_lemmas)

pub tree_sort : (keys : List OrderKey) (tree : Tree) → depths_in_tree (t.Sort keys tree) ≡ depths_in_tree tree
unfolding depths_in_expression depths_in_condition depths_in_function depths_in_tree
tree_sort keys tree = search (rules, the_lemmas)

pub tree_seek : (table : StoredTable) (columns : List ℕ) (key : List Value) → depths_in_tree (t.Seek table columns key) ≡ []
unfolding depths_in_expression depths_in_condition depths_in_function depths_in_tree
tree_seek table columns key = search (rules, the_lemmas)

pub tree_range : (table : StoredTable) (columns : List ℕ) (low high : Option Bound) → depths_in_tree (t.Range table columns low high) ≡ []
unfolding depths_in_expression depths_in_condition depths_in_function depths_in_tree
tree_range table columns low high = search (rules, the_lemmas)

pub tree_index_loop : (on : Condition) (left : Tree) (places : List ℕ) (table : StoredTable) (columns : List ℕ) → depths_in_tree (t.IndexLoop on left places table columns) ≡ outwards (depths_in_condition on) ++ depths_in_tree left
unfolding depths_in_expression depths_in_condition depths_in_function depths_in_tree
tree_index_loop on left places table columns = search (rules, the_lemmas)

pub tree_hash_join : (on : Condition) (left right : Tree) (left_places right_places : List ℕ) → depths_in_tree (t.HashJoin on left right left_places right_places) ≡ outwards (depths_in_condition on) ++ (depths_in_tree left ++ depths_in_tree right)
unfolding depths_in_expression depths_in_condition depths_in_function depths_in_tree
tree_hash_join on left right left_places right_places = search (rules, the_lemmas)

pub tree_member : (operand : Expression) (is_negated : Bool) (members rows : Tree) → depths_in_tree (t.Member operand is_negated members rows) ≡ outwards (depths_in_expression operand) ++ (depths_in_tree members ++ depths_in_tree rows)
unfolding depths_in_expression depths_in_condition depths_in_function depths_in_tree
tree_member operand is_negated members rows = search (rules, the_lemmas)

pub ruleset depth_nodes = (condition_or, condition_and, condition_not, condition_test, condition_compare, condition_between, condition_in_list, condition_in_query, condition_like, condition_null, condition_exists, expression_constant, expression_column, expression_calculation, expression_concatenation, expression_negation, expression_scalar, function_rows, function_over, tree_scan, tree_filter, tree_product, tree_inner, tree_left, tree_half, tree_opposite, tree_group, tree_project, tree_distinct, tree_set, tree_sort, tree_seek, tree_range, tree_index_loop, tree_hash_join, tree_member)
