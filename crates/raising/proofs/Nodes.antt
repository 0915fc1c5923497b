-- Of each node, which of its parts decide whether it may raise.
use Rattle.std.proofs.Common.{◌≡◌, refl, ℕ, Bool, true, false, ◌||◌, List, [], ◌∷◌, map, length, rules, Option}
use Rattle.sqlval.specs.declared.value.Value.{Value}
use Rattle.sqlval.specs.declared.comparison.CompOp.{CompOp}
use Rattle.sqlval.specs.declared.truth.Truth.{Truth}
use Rattle.typing.specs.declared.typed.Arithmetic.{Arithmetic}
use Rattle.typing.specs.declared.typed.OrderKey.{OrderKey}
use Rattle.typing.specs.declared.typed.SetOperation.{SetOperation}
use Rattle.algebra.specs.declared.tree.Bound.{Bound}
use Rattle.algebra.specs.declared.tree.StoredTable.{StoredTable}
use Rattle.algebra.specs.declared.tree.Expression.{Expression, the_lemmas}
use Rattle.algebra.specs.declared.tree.Expression.TheVariants as e
use Rattle.algebra.specs.declared.tree.Condition.{Condition}
use Rattle.algebra.specs.declared.tree.Condition.TheVariants as c
use Rattle.algebra.specs.declared.tree.SetFunction.{SetFunction, SetFunction-F, roll-SetFunction, out-SetFunction, fold-roll-SetFunction}
use Rattle.algebra.specs.declared.tree.Tree.{Tree}
use Rattle.algebra.specs.declared.tree.Tree.TheVariants as t
use Rattle.algebra.specs.Raising.{some_may, condition_may_raise, expression_may_raise, function_may_raise, tree_may_raise}

pub condition_or : (operands : List Condition) → condition_may_raise (c.Or operands) ≡ some_may (map condition_may_raise operands)
unfolding condition_may_raise expression_may_raise function_may_raise tree_may_raise
condition_or operands = search (rules, the_lemmas)

pub condition_and : (operands : List Condition) → condition_may_raise (c.And operands) ≡ some_may (map condition_may_raise operands)
unfolding condition_may_raise expression_may_raise function_may_raise tree_may_raise
condition_and operands = search (rules, the_lemmas)

pub condition_not : (operand : Condition) → condition_may_raise (c.Not operand) ≡ condition_may_raise operand
unfolding condition_may_raise expression_may_raise function_may_raise tree_may_raise
condition_not operand = search (rules, the_lemmas)

pub condition_test : (operand : Condition) (truth : Truth) → condition_may_raise (c.IsTruth operand truth) ≡ condition_may_raise operand
unfolding condition_may_raise expression_may_raise function_may_raise tree_may_raise
condition_test operand truth = search (rules, the_lemmas)

pub condition_compare : (op : CompOp) (left right : Expression) → condition_may_raise (c.Compare op left right) ≡ (expression_may_raise left || expression_may_raise right)
unfolding condition_may_raise expression_may_raise function_may_raise tree_may_raise
condition_compare op left right = search (rules, the_lemmas)

pub condition_between : (operand low high : Expression) → condition_may_raise (c.Between operand low high) ≡ (expression_may_raise operand || (expression_may_raise low || expression_may_raise high))
unfolding condition_may_raise expression_may_raise function_may_raise tree_may_raise
condition_between operand low high = search (rules, the_lemmas)

pub condition_in_list : (operand : Expression) (values : List Value) → condition_may_raise (c.InList operand values) ≡ expression_may_raise operand
unfolding condition_may_raise expression_may_raise function_may_raise tree_may_raise
condition_in_list operand values = search (rules, the_lemmas)

pub condition_in_query : (operand : Expression) (tree : Tree) → condition_may_raise (c.InQuery operand tree) ≡ (expression_may_raise operand || tree_may_raise tree)
unfolding condition_may_raise expression_may_raise function_may_raise tree_may_raise
condition_in_query operand tree = search (rules, the_lemmas)

pub condition_like : (operand pattern : Expression) → condition_may_raise (c.Like operand pattern) ≡ (expression_may_raise operand || expression_may_raise pattern)
unfolding condition_may_raise expression_may_raise function_may_raise tree_may_raise
condition_like operand pattern = search (rules, the_lemmas)

pub condition_null : (operand : Expression) → condition_may_raise (c.IsNull operand) ≡ expression_may_raise operand
unfolding condition_may_raise expression_may_raise function_may_raise tree_may_raise
condition_null operand = search (rules, the_lemmas)

pub condition_exists : (tree : Tree) → condition_may_raise (c.Exists tree) ≡ tree_may_raise tree
unfolding condition_may_raise expression_may_raise function_may_raise tree_may_raise
condition_exists tree = search (rules, the_lemmas)

pub expression_constant : (x : Value) → expression_may_raise (e.Constant x) ≡ false
unfolding condition_may_raise expression_may_raise function_may_raise tree_may_raise
expression_constant x = search (rules, the_lemmas)

pub expression_column : (depth place : ℕ) → expression_may_raise (e.Column depth place) ≡ false
unfolding condition_may_raise expression_may_raise function_may_raise tree_may_raise
expression_column depth place = search (rules, the_lemmas)

pub expression_calculation : (first : Expression) (others : List (Arithmetic × Expression)) → expression_may_raise (e.Calculation first others) ≡ true
unfolding condition_may_raise expression_may_raise function_may_raise tree_may_raise
expression_calculation first others = search (rules, the_lemmas)

pub expression_concatenation : (first : Expression) (others : List Expression) → expression_may_raise (e.Concatenation first others) ≡ true
unfolding condition_may_raise expression_may_raise function_may_raise tree_may_raise
expression_concatenation first others = search (rules, the_lemmas)

pub expression_negation : (operand : Expression) → expression_may_raise (e.Negation operand) ≡ true
unfolding condition_may_raise expression_may_raise function_may_raise tree_may_raise
expression_negation operand = search (rules, the_lemmas)

pub expression_scalar : (tree : Tree) → expression_may_raise (e.Scalar tree) ≡ true
unfolding condition_may_raise expression_may_raise function_may_raise tree_may_raise
expression_scalar tree = search (rules, the_lemmas)

pub function_may : (function : SetFunction) → function_may_raise function ≡ true
unfolding condition_may_raise expression_may_raise function_may_raise tree_may_raise
function_may function = search (rules, the_lemmas)

pub tree_scan : (table : StoredTable) → tree_may_raise (t.Scan table) ≡ false
unfolding condition_may_raise expression_may_raise function_may_raise tree_may_raise
tree_scan table = search (rules, the_lemmas)

pub tree_filter : (condition : Condition) (tree : Tree) → tree_may_raise (t.Filter condition tree) ≡ (condition_may_raise condition || tree_may_raise tree)
unfolding condition_may_raise expression_may_raise function_may_raise tree_may_raise
tree_filter condition tree = search (rules, the_lemmas)

pub tree_product : (left right : Tree) → tree_may_raise (t.Product left right) ≡ (tree_may_raise left || tree_may_raise right)
unfolding condition_may_raise expression_may_raise function_may_raise tree_may_raise
tree_product left right = search (rules, the_lemmas)

pub tree_inner : (on : Condition) (left right : Tree) → tree_may_raise (t.Inner on left right) ≡ (condition_may_raise on || (tree_may_raise left || tree_may_raise right))
unfolding condition_may_raise expression_may_raise function_may_raise tree_may_raise
tree_inner on left right = search (rules, the_lemmas)

pub tree_left : (on : Condition) (left right : Tree) (width : ℕ) → tree_may_raise (t.Left on left right width) ≡ (condition_may_raise on || (tree_may_raise left || tree_may_raise right))
unfolding condition_may_raise expression_may_raise function_may_raise tree_may_raise
tree_left on left right width = search (rules, the_lemmas)

pub tree_half : (on : Condition) (left right : Tree) → tree_may_raise (t.Half on left right) ≡ (condition_may_raise on || (tree_may_raise left || tree_may_raise right))
unfolding condition_may_raise expression_may_raise function_may_raise tree_may_raise
tree_half on left right = search (rules, the_lemmas)

pub tree_opposite : (on : Condition) (left right : Tree) → tree_may_raise (t.OppositeHalf on left right) ≡ (condition_may_raise on || (tree_may_raise left || tree_may_raise right))
unfolding condition_may_raise expression_may_raise function_may_raise tree_may_raise
tree_opposite on left right = search (rules, the_lemmas)

pub tree_group : (columns : Option (List ℕ)) (functions : List SetFunction) (rows : Tree) → tree_may_raise (t.Group columns functions rows) ≡ (some_may (map function_may_raise functions) || tree_may_raise rows)
unfolding condition_may_raise expression_may_raise function_may_raise tree_may_raise
tree_group columns functions rows = search (rules, the_lemmas)

pub tree_project : (items : List Expression) (tree : Tree) → tree_may_raise (t.Project items tree) ≡ (some_may (map expression_may_raise items) || tree_may_raise tree)
unfolding condition_may_raise expression_may_raise function_may_raise tree_may_raise
tree_project items tree = search (rules, the_lemmas)

pub tree_distinct : (tree : Tree) → tree_may_raise (t.Distinct tree) ≡ tree_may_raise tree
unfolding condition_may_raise expression_may_raise function_may_raise tree_may_raise
tree_distinct tree = search (rules, the_lemmas)

pub tree_set : (op : SetOperation) (left right : Tree) → tree_may_raise (t.Set op left right) ≡ (tree_may_raise left || tree_may_raise right)
unfolding condition_may_raise expression_may_raise function_may_raise tree_may_raise
tree_set op left right = search (rules, the_lemmas)

pub tree_sort : (keys : List OrderKey) (tree : Tree) → tree_may_raise (t.Sort keys tree) ≡ tree_may_raise tree
unfolding condition_may_raise expression_may_raise function_may_raise tree_may_raise
tree_sort keys tree = search (rules, the_lemmas)

pub tree_seek : (table : StoredTable) (columns : List ℕ) (key : List Value) → tree_may_raise (t.Seek table columns key) ≡ false
unfolding condition_may_raise expression_may_raise function_may_raise tree_may_raise
tree_seek table columns key = search (rules, the_lemmas)

pub tree_range : (table : StoredTable) (columns : List ℕ) (low high : Option Bound) → tree_may_raise (t.Range table columns low high) ≡ false
unfolding condition_may_raise expression_may_raise function_may_raise tree_may_raise
tree_range table columns low high = search (rules, the_lemmas)

pub tree_index_loop : (on : Condition) (left : Tree) (places : List ℕ) (table : StoredTable) (columns : List ℕ) → tree_may_raise (t.IndexLoop on left places table columns) ≡ (condition_may_raise on || tree_may_raise left)
unfolding condition_may_raise expression_may_raise function_may_raise tree_may_raise
tree_index_loop on left places table columns = search (rules, the_lemmas)

pub tree_hash_join : (on : Condition) (left right : Tree) (left_places right_places : List ℕ) → tree_may_raise (t.HashJoin on left right left_places right_places) ≡ (condition_may_raise on || (tree_may_raise left || tree_may_raise right))
unfolding condition_may_raise expression_may_raise function_may_raise tree_may_raise
tree_hash_join on left right left_places right_places = search (rules, the_lemmas)

pub tree_member : (operand : Expression) (is_negated : Bool) (members rows : Tree) → tree_may_raise (t.Member operand is_negated members rows) ≡ (expression_may_raise operand || (tree_may_raise members || tree_may_raise rows))
unfolding condition_may_raise expression_may_raise function_may_raise tree_may_raise
tree_member operand is_negated members rows = search (rules, the_lemmas)

pub ruleset raising_nodes = (condition_or, condition_and, condition_not, condition_test, condition_compare, condition_between, condition_in_list, condition_in_query, condition_like, condition_null, condition_exists, expression_constant, expression_column, expression_calculation, expression_concatenation, expression_negation, expression_scalar, function_may, tree_scan, tree_filter, tree_product, tree_inner, tree_left, tree_half, tree_opposite, tree_group, tree_project, tree_distinct, tree_set, tree_sort, tree_seek, tree_range, tree_index_loop, tree_hash_join, tree_member)
