use Rattle.std.proofs.Common.{List, map, refl}
use Rattle.std.specs.List.{list_all}
use Rattle.typing.specs.declared.typed.Arithmetic.{Arithmetic}
use Rattle.algebra.specs.declared.tree.Expression.{Expression}
use Rattle.algebra.specs.declared.tree.SetFunction.{SetFunction}
use Rattle.rules.specs.Quiet.{all_calm}
use Rattle.tree_columns.specs.Calm.{item_calm, item_quiet, set_function_calm, set_function_quiet}
use Rattle.tree_columns.proofs.Asked.{goes_on, says_no, none_left}
use Rattle.tree_columns.proofs.QuietNodes.{expression_calculation, expression_column, expression_concatenation, expression_constant, expression_negation, expression_scalar, function_over, function_rows, tree_distinct, tree_filter, tree_group, tree_half, tree_hash_join, tree_index_loop, tree_inner, tree_left, tree_member, tree_opposite, tree_product, tree_project, tree_range, tree_scan, tree_seek, tree_set, tree_sort}
use Rattle.tree_columns.proofs.quiet.+quiet.Goals as goal

pub conditions_quiet-returns-in-Scan : goal.conditions_quiet-returns-in-Scan
conditions_quiet-returns-in-Scan t c = rw (c.in-Scan.is, tree_scan)

pub conditions_quiet-returns-then-is_quiet : goal.conditions_quiet-returns-then-is_quiet
conditions_quiet-returns-then-is_quiet t c = rw (c.in-Filter.is, tree_filter, ← c.get.ensures, ← c.is_quiet.ensures, c.if-is_quiet.true, ← c.get-then-is_quiet.ensures) c.conditions_quiet.ensures

pub conditions_quiet-returns-else-is_quiet : goal.conditions_quiet-returns-else-is_quiet
conditions_quiet-returns-else-is_quiet t c = rw (c.in-Filter.is, tree_filter, ← c.get.ensures, ← c.is_quiet.ensures, c.if-is_quiet.false)

pub conditions_quiet-returns-then-conditions_quiet : goal.conditions_quiet-returns-then-conditions_quiet
conditions_quiet-returns-then-conditions_quiet t c = rw (c.in-Product.is, tree_product, ← c.get-in-Product.ensures, ← c.conditions_quiet-in-Product.ensures, c.if-conditions_quiet.true, ← c.get-then-conditions_quiet.ensures) c.conditions_quiet-then-conditions_quiet.ensures

pub conditions_quiet-returns-else-conditions_quiet : goal.conditions_quiet-returns-else-conditions_quiet
conditions_quiet-returns-else-conditions_quiet t c = rw (c.in-Product.is, tree_product, ← c.get-in-Product.ensures, ← c.conditions_quiet-in-Product.ensures, c.if-conditions_quiet.false)

pub conditions_quiet-returns-then-conditions_quiet-2 : goal.conditions_quiet-returns-then-conditions_quiet-2
conditions_quiet-returns-then-conditions_quiet-2 t c = rw (c.in-Inner.is, tree_inner, ← c.get-in-Inner.ensures, ← c.is_quiet-in-Inner.ensures, c.if-is_quiet-2.true, ← c.get-then-is_quiet-2.ensures, ← c.conditions_quiet-then-is_quiet-2.ensures, c.if-conditions_quiet-2.true, ← c.get-then-conditions_quiet-2.ensures) c.conditions_quiet-then-conditions_quiet-2.ensures

pub conditions_quiet-returns-else-conditions_quiet-2 : goal.conditions_quiet-returns-else-conditions_quiet-2
conditions_quiet-returns-else-conditions_quiet-2 t c = rw (c.in-Inner.is, tree_inner, ← c.get-in-Inner.ensures, ← c.is_quiet-in-Inner.ensures, c.if-is_quiet-2.true, ← c.get-then-is_quiet-2.ensures, ← c.conditions_quiet-then-is_quiet-2.ensures, c.if-conditions_quiet-2.false)

pub conditions_quiet-returns-else-is_quiet-2 : goal.conditions_quiet-returns-else-is_quiet-2
conditions_quiet-returns-else-is_quiet-2 t c = rw (c.in-Inner.is, tree_inner, ← c.get-in-Inner.ensures, ← c.is_quiet-in-Inner.ensures, c.if-is_quiet-2.false)

pub conditions_quiet-returns-then-conditions_quiet-3 : goal.conditions_quiet-returns-then-conditions_quiet-3
conditions_quiet-returns-then-conditions_quiet-3 t c = rw (c.in-Left.is, tree_left, ← c.get-in-Left.ensures, ← c.is_quiet-in-Left.ensures, c.if-is_quiet-3.true, ← c.get-then-is_quiet-3.ensures, ← c.conditions_quiet-then-is_quiet-3.ensures, c.if-conditions_quiet-3.true, ← c.get-then-conditions_quiet-3.ensures) c.conditions_quiet-then-conditions_quiet-3.ensures

pub conditions_quiet-returns-else-conditions_quiet-3 : goal.conditions_quiet-returns-else-conditions_quiet-3
conditions_quiet-returns-else-conditions_quiet-3 t c = rw (c.in-Left.is, tree_left, ← c.get-in-Left.ensures, ← c.is_quiet-in-Left.ensures, c.if-is_quiet-3.true, ← c.get-then-is_quiet-3.ensures, ← c.conditions_quiet-then-is_quiet-3.ensures, c.if-conditions_quiet-3.false)

pub conditions_quiet-returns-else-is_quiet-3 : goal.conditions_quiet-returns-else-is_quiet-3
conditions_quiet-returns-else-is_quiet-3 t c = rw (c.in-Left.is, tree_left, ← c.get-in-Left.ensures, ← c.is_quiet-in-Left.ensures, c.if-is_quiet-3.false)

pub conditions_quiet-returns-then-conditions_quiet-4 : goal.conditions_quiet-returns-then-conditions_quiet-4
conditions_quiet-returns-then-conditions_quiet-4 t c = rw (c.in-Half.is, tree_half, ← c.get-in-Half.ensures, ← c.is_quiet-in-Half.ensures, c.if-is_quiet-4.true, ← c.get-then-is_quiet-4.ensures, ← c.conditions_quiet-then-is_quiet-4.ensures, c.if-conditions_quiet-4.true, ← c.get-then-conditions_quiet-4.ensures) c.conditions_quiet-then-conditions_quiet-4.ensures

pub conditions_quiet-returns-else-conditions_quiet-4 : goal.conditions_quiet-returns-else-conditions_quiet-4
conditions_quiet-returns-else-conditions_quiet-4 t c = rw (c.in-Half.is, tree_half, ← c.get-in-Half.ensures, ← c.is_quiet-in-Half.ensures, c.if-is_quiet-4.true, ← c.get-then-is_quiet-4.ensures, ← c.conditions_quiet-then-is_quiet-4.ensures, c.if-conditions_quiet-4.false)

pub conditions_quiet-returns-else-is_quiet-4 : goal.conditions_quiet-returns-else-is_quiet-4
conditions_quiet-returns-else-is_quiet-4 t c = rw (c.in-Half.is, tree_half, ← c.get-in-Half.ensures, ← c.is_quiet-in-Half.ensures, c.if-is_quiet-4.false)

pub conditions_quiet-returns-then-conditions_quiet-5 : goal.conditions_quiet-returns-then-conditions_quiet-5
conditions_quiet-returns-then-conditions_quiet-5 t c = rw (c.in-OppositeHalf.is, tree_opposite, ← c.get-in-OppositeHalf.ensures, ← c.is_quiet-in-OppositeHalf.ensures, c.if-is_quiet-5.true, ← c.get-then-is_quiet-5.ensures, ← c.conditions_quiet-then-is_quiet-5.ensures, c.if-conditions_quiet-5.true, ← c.get-then-conditions_quiet-5.ensures) c.conditions_quiet-then-conditions_quiet-5.ensures

pub conditions_quiet-returns-else-conditions_quiet-5 : goal.conditions_quiet-returns-else-conditions_quiet-5
conditions_quiet-returns-else-conditions_quiet-5 t c = rw (c.in-OppositeHalf.is, tree_opposite, ← c.get-in-OppositeHalf.ensures, ← c.is_quiet-in-OppositeHalf.ensures, c.if-is_quiet-5.true, ← c.get-then-is_quiet-5.ensures, ← c.conditions_quiet-then-is_quiet-5.ensures, c.if-conditions_quiet-5.false)

pub conditions_quiet-returns-else-is_quiet-5 : goal.conditions_quiet-returns-else-is_quiet-5
conditions_quiet-returns-else-is_quiet-5 t c = rw (c.in-OppositeHalf.is, tree_opposite, ← c.get-in-OppositeHalf.ensures, ← c.is_quiet-in-OppositeHalf.ensures, c.if-is_quiet-5.false)

pub conditions_quiet-returns-then-set_functions_quiet : goal.conditions_quiet-returns-then-set_functions_quiet
conditions_quiet-returns-then-set_functions_quiet t c = rw (c.in-Group.is, tree_group, ← c.as_slice.ensures, ← c.set_functions_quiet.ensures, c.if-set_functions_quiet.true, ← c.get-then-set_functions_quiet.ensures) c.conditions_quiet-then-set_functions_quiet.ensures

pub conditions_quiet-returns-else-set_functions_quiet : goal.conditions_quiet-returns-else-set_functions_quiet
conditions_quiet-returns-else-set_functions_quiet t c = rw (c.in-Group.is, tree_group, ← c.as_slice.ensures, ← c.set_functions_quiet.ensures, c.if-set_functions_quiet.false)

pub conditions_quiet-returns-then-items_quiet : goal.conditions_quiet-returns-then-items_quiet
conditions_quiet-returns-then-items_quiet t c = rw (c.in-Project.is, tree_project, ← c.as_slice-in-Project.ensures, ← c.items_quiet.ensures, c.if-items_quiet.true, ← c.get-then-items_quiet.ensures) c.conditions_quiet-then-items_quiet.ensures

pub conditions_quiet-returns-else-items_quiet : goal.conditions_quiet-returns-else-items_quiet
conditions_quiet-returns-else-items_quiet t c = rw (c.in-Project.is, tree_project, ← c.as_slice-in-Project.ensures, ← c.items_quiet.ensures, c.if-items_quiet.false)

pub conditions_quiet-returns-in-Distinct : goal.conditions_quiet-returns-in-Distinct
conditions_quiet-returns-in-Distinct t c = rw (c.in-Distinct.is, tree_distinct, ← c.get-in-Distinct.ensures) c.conditions_quiet-in-Distinct.ensures

pub conditions_quiet-returns-then-conditions_quiet-6 : goal.conditions_quiet-returns-then-conditions_quiet-6
conditions_quiet-returns-then-conditions_quiet-6 t c = rw (c.in-Set.is, tree_set, ← c.get-in-Set.ensures, ← c.conditions_quiet-in-Set.ensures, c.if-conditions_quiet-6.true, ← c.get-then-conditions_quiet-6.ensures) c.conditions_quiet-then-conditions_quiet-6.ensures

pub conditions_quiet-returns-else-conditions_quiet-6 : goal.conditions_quiet-returns-else-conditions_quiet-6
conditions_quiet-returns-else-conditions_quiet-6 t c = rw (c.in-Set.is, tree_set, ← c.get-in-Set.ensures, ← c.conditions_quiet-in-Set.ensures, c.if-conditions_quiet-6.false)

pub conditions_quiet-returns-in-Sort : goal.conditions_quiet-returns-in-Sort
conditions_quiet-returns-in-Sort t c = rw (c.in-Sort.is, tree_sort, ← c.get-in-Sort.ensures) c.conditions_quiet-in-Sort.ensures

pub conditions_quiet-returns-in-Seek : goal.conditions_quiet-returns-in-Seek
conditions_quiet-returns-in-Seek t c = rw (c.in-Seek.is, tree_seek)

pub conditions_quiet-returns-in-Range : goal.conditions_quiet-returns-in-Range
conditions_quiet-returns-in-Range t c = rw (c.in-Range.is, tree_range)

pub conditions_quiet-returns-then-is_quiet-6 : goal.conditions_quiet-returns-then-is_quiet-6
conditions_quiet-returns-then-is_quiet-6 t c = rw (c.in-IndexLoop.is, tree_index_loop, ← c.get-in-IndexLoop.ensures, ← c.is_quiet-in-IndexLoop.ensures, c.if-is_quiet-6.true, ← c.get-then-is_quiet-6.ensures) c.conditions_quiet-then-is_quiet-6.ensures

pub conditions_quiet-returns-else-is_quiet-6 : goal.conditions_quiet-returns-else-is_quiet-6
conditions_quiet-returns-else-is_quiet-6 t c = rw (c.in-IndexLoop.is, tree_index_loop, ← c.get-in-IndexLoop.ensures, ← c.is_quiet-in-IndexLoop.ensures, c.if-is_quiet-6.false)

pub conditions_quiet-returns-then-conditions_quiet-7 : goal.conditions_quiet-returns-then-conditions_quiet-7
conditions_quiet-returns-then-conditions_quiet-7 t c = rw (c.in-HashJoin.is, tree_hash_join, ← c.get-in-HashJoin.ensures, ← c.is_quiet-in-HashJoin.ensures, c.if-is_quiet-7.true, ← c.get-then-is_quiet-7.ensures, ← c.conditions_quiet-then-is_quiet-7.ensures, c.if-conditions_quiet-7.true, ← c.get-then-conditions_quiet-7.ensures) c.conditions_quiet-then-conditions_quiet-7.ensures

pub conditions_quiet-returns-else-conditions_quiet-7 : goal.conditions_quiet-returns-else-conditions_quiet-7
conditions_quiet-returns-else-conditions_quiet-7 t c = rw (c.in-HashJoin.is, tree_hash_join, ← c.get-in-HashJoin.ensures, ← c.is_quiet-in-HashJoin.ensures, c.if-is_quiet-7.true, ← c.get-then-is_quiet-7.ensures, ← c.conditions_quiet-then-is_quiet-7.ensures, c.if-conditions_quiet-7.false)

pub conditions_quiet-returns-else-is_quiet-7 : goal.conditions_quiet-returns-else-is_quiet-7
conditions_quiet-returns-else-is_quiet-7 t c = rw (c.in-HashJoin.is, tree_hash_join, ← c.get-in-HashJoin.ensures, ← c.is_quiet-in-HashJoin.ensures, c.if-is_quiet-7.false)

pub conditions_quiet-returns-then-conditions_quiet-8 : goal.conditions_quiet-returns-then-conditions_quiet-8
conditions_quiet-returns-then-conditions_quiet-8 t c = rw (c.in-Member.is, tree_member, ← c.get-in-Member.ensures, ← c.item_quiet.ensures, c.if-item_quiet.true, ← c.get-then-item_quiet.ensures, ← c.conditions_quiet-then-item_quiet.ensures, c.if-conditions_quiet-8.true, ← c.get-then-conditions_quiet-8.ensures) c.conditions_quiet-then-conditions_quiet-8.ensures

pub conditions_quiet-returns-else-conditions_quiet-8 : goal.conditions_quiet-returns-else-conditions_quiet-8
conditions_quiet-returns-else-conditions_quiet-8 t c = rw (c.in-Member.is, tree_member, ← c.get-in-Member.ensures, ← c.item_quiet.ensures, c.if-item_quiet.true, ← c.get-then-item_quiet.ensures, ← c.conditions_quiet-then-item_quiet.ensures, c.if-conditions_quiet-8.false)

pub conditions_quiet-returns-else-item_quiet : goal.conditions_quiet-returns-else-item_quiet
conditions_quiet-returns-else-item_quiet t c = rw (c.in-Member.is, tree_member, ← c.get-in-Member.ensures, ← c.item_quiet.ensures, c.if-item_quiet.false)

pub item_quiet-returns-in-Constant : goal.item_quiet-returns-in-Constant
item_quiet-returns-in-Constant t c = rw (c.in-Constant.is, expression_constant)

pub item_quiet-returns-in-Column : goal.item_quiet-returns-in-Column
item_quiet-returns-in-Column t c = rw (c.in-Column.is, expression_column)

pub item_quiet-returns-then-item_quiet : goal.item_quiet-returns-then-item_quiet
item_quiet-returns-then-item_quiet t c = rw (c.in-Calculation.is, expression_calculation, ← c.get.ensures, ← c.item_quiet.ensures, c.if-item_quiet.true, ← c.as_slice.ensures) c.operands_quiet.ensures

pub item_quiet-returns-else-item_quiet : goal.item_quiet-returns-else-item_quiet
item_quiet-returns-else-item_quiet t c = rw (c.in-Calculation.is, expression_calculation, ← c.get.ensures, ← c.item_quiet.ensures, c.if-item_quiet.false)

pub item_quiet-returns-then-item_quiet-2 : goal.item_quiet-returns-then-item_quiet-2
item_quiet-returns-then-item_quiet-2 t c = rw (c.in-Concatenation.is, expression_concatenation, ← c.get-in-Concatenation.ensures, ← c.item_quiet-in-Concatenation.ensures, c.if-item_quiet-2.true, ← c.as_slice-then-item_quiet-2.ensures) c.items_quiet.ensures

pub item_quiet-returns-else-item_quiet-2 : goal.item_quiet-returns-else-item_quiet-2
item_quiet-returns-else-item_quiet-2 t c = rw (c.in-Concatenation.is, expression_concatenation, ← c.get-in-Concatenation.ensures, ← c.item_quiet-in-Concatenation.ensures, c.if-item_quiet-2.false)

pub item_quiet-returns-in-Negation : goal.item_quiet-returns-in-Negation
item_quiet-returns-in-Negation t c = rw (c.in-Negation.is, expression_negation, ← c.get-in-Negation.ensures) c.item_quiet-in-Negation.ensures

pub item_quiet-returns-in-Scalar : goal.item_quiet-returns-in-Scalar
item_quiet-returns-in-Scalar t c = rw (c.in-Scalar.is, expression_scalar, ← c.get-in-Scalar.ensures) c.conditions_quiet.ensures

pub set_function_quiet-returns-in-CountRows : goal.set_function_quiet-returns-in-CountRows
set_function_quiet-returns-in-CountRows t c = rw (c.in-CountRows.is, function_rows)

pub set_function_quiet-returns-in-Over : goal.set_function_quiet-returns-in-Over
set_function_quiet-returns-in-Over t c = rw (c.in-Over.is, function_over) c.item_quiet.ensures

pub items_quiet-loop-item-preserved : goal.items_quiet-loop-item-preserved
items_quiet-loop-item-preserved t c =
    goes_on (λ (xs : List Expression). all_calm (map item_calm xs)) item_quiet (λ _ _. refl) c.args.items.now _ _
    c.loop-item-test.true c.item-item.is c.if-not-item_quiet.ensures c.loop-item.invariant

pub items_quiet-returns-then-not-item_quiet : goal.items_quiet-returns-then-not-item_quiet
items_quiet-returns-then-not-item_quiet t c =
    says_no (λ (xs : List Expression). all_calm (map item_calm xs)) item_quiet (λ _ _. refl) c.args.items.now _ _
    c.loop-item-test.true c.item-item.is c.if-not-item_quiet.ensures c.loop-item.invariant

pub items_quiet-returns : goal.items_quiet-returns
items_quiet-returns t c =
    none_left (λ (xs : List Expression). all_calm (map item_calm xs)) refl c.args.items.now _ c.loop-item-test.false c.loop-item.invariant

pub operands_quiet-loop-operand-preserved : goal.operands_quiet-loop-operand-preserved
operands_quiet-loop-operand-preserved t c =
    goes_on (list_all (λ (other : Arithmetic × Expression). item_quiet other.1)) (λ (other : Arithmetic × Expression). item_quiet other.1) (λ _ _. refl) c.args.others.now _ _
    c.loop-operand-test.true c.loop-operand-item.is c.if-not-item_quiet.ensures c.loop-operand.invariant

pub operands_quiet-returns-then-not-item_quiet : goal.operands_quiet-returns-then-not-item_quiet
operands_quiet-returns-then-not-item_quiet t c =
    says_no (list_all (λ (other : Arithmetic × Expression). item_quiet other.1)) (λ (other : Arithmetic × Expression). item_quiet other.1) (λ _ _. refl) c.args.others.now _ _
    c.loop-operand-test.true c.loop-operand-item.is c.if-not-item_quiet.ensures c.loop-operand.invariant

pub operands_quiet-returns : goal.operands_quiet-returns
operands_quiet-returns t c =
    none_left (list_all (λ (other : Arithmetic × Expression). item_quiet other.1)) refl c.args.others.now _ c.loop-operand-test.false c.loop-operand.invariant

pub set_functions_quiet-loop-function-preserved : goal.set_functions_quiet-loop-function-preserved
set_functions_quiet-loop-function-preserved t c =
    goes_on (λ (xs : List SetFunction). all_calm (map set_function_calm xs)) set_function_quiet (λ _ _. refl) c.args.functions.now _ _
    c.loop-function-test.true c.function-item.is c.if-not-set_function_quiet.ensures c.loop-function.invariant

pub set_functions_quiet-returns-then-not-set_function_quiet : goal.set_functions_quiet-returns-then-not-set_function_quiet
set_functions_quiet-returns-then-not-set_function_quiet t c =
    says_no (λ (xs : List SetFunction). all_calm (map set_function_calm xs)) set_function_quiet (λ _ _. refl) c.args.functions.now _ _
    c.loop-function-test.true c.function-item.is c.if-not-set_function_quiet.ensures c.loop-function.invariant

pub set_functions_quiet-returns : goal.set_functions_quiet-returns
set_functions_quiet-returns t c =
    none_left (λ (xs : List SetFunction). all_calm (map set_function_calm xs)) refl c.args.functions.now _ c.loop-function-test.false c.loop-function.invariant
