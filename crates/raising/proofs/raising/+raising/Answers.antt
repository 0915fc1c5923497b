use Rattle.std.proofs.Common.{List, map, refl}
use Rattle.algebra.specs.declared.tree.Condition.{Condition}
use Rattle.algebra.specs.Raising.{some_may, condition_may_raise}
use Rattle.raising.proofs.Asked.{goes_on, says_yes, none_left}
use Rattle.raising.proofs.Nodes.{condition_and, condition_between, condition_compare, condition_exists, condition_in_list, condition_in_query, condition_like, condition_not, condition_null, condition_or, condition_test, tree_distinct, tree_filter, tree_group, tree_half, tree_hash_join, tree_index_loop, tree_inner, tree_left, tree_member, tree_opposite, tree_product, tree_project, tree_range, tree_scan, tree_seek, tree_set, tree_sort}
use Rattle.raising.proofs.raising.+raising.Goals as goal

pub can_raise-returns-in-Scan : goal.can_raise-returns-in-Scan
can_raise-returns-in-Scan t c = record { told = rw (c.in-Scan.is, tree_scan) }

pub can_raise-returns-then-condition_can_raise : goal.can_raise-returns-then-condition_can_raise
can_raise-returns-then-condition_can_raise t c = record { told = rw (c.in-Filter.is, tree_filter, ← c.get.ensures, ← c.condition_can_raise.ensures.told, c.if-condition_can_raise.true) }

pub can_raise-returns-else-condition_can_raise : goal.can_raise-returns-else-condition_can_raise
can_raise-returns-else-condition_can_raise t c = record { told = rw (c.in-Filter.is, tree_filter, ← c.get.ensures, ← c.condition_can_raise.ensures.told, c.if-condition_can_raise.false, ← c.get-else-condition_can_raise.ensures) c.can_raise.ensures.told }

pub can_raise-returns-then-can_raise : goal.can_raise-returns-then-can_raise
can_raise-returns-then-can_raise t c = record { told = rw (c.in-Product.is, tree_product, ← c.get-in-Product.ensures, ← c.can_raise-in-Product.ensures.told, c.if-can_raise.true) }

pub can_raise-returns-else-can_raise : goal.can_raise-returns-else-can_raise
can_raise-returns-else-can_raise t c = record { told = rw (c.in-Product.is, tree_product, ← c.get-in-Product.ensures, ← c.can_raise-in-Product.ensures.told, c.if-can_raise.false, ← c.get-else-can_raise.ensures) c.can_raise-else-can_raise.ensures.told }

pub can_raise-returns-then-condition_can_raise-2 : goal.can_raise-returns-then-condition_can_raise-2
can_raise-returns-then-condition_can_raise-2 t c = record { told = rw (c.in-Inner.is, tree_inner, ← c.get-in-Inner.ensures, ← c.condition_can_raise-in-Inner.ensures.told, c.if-condition_can_raise-2.true) }

pub can_raise-returns-then-can_raise-2 : goal.can_raise-returns-then-can_raise-2
can_raise-returns-then-can_raise-2 t c = record { told = rw (c.in-Inner.is, tree_inner, ← c.get-in-Inner.ensures, ← c.condition_can_raise-in-Inner.ensures.told, c.if-condition_can_raise-2.false, ← c.get-else-condition_can_raise-2.ensures, ← c.can_raise-else-condition_can_raise-2.ensures.told, c.if-can_raise-2.true) }

pub can_raise-returns-else-can_raise-2 : goal.can_raise-returns-else-can_raise-2
can_raise-returns-else-can_raise-2 t c = record { told = rw (c.in-Inner.is, tree_inner, ← c.get-in-Inner.ensures, ← c.condition_can_raise-in-Inner.ensures.told, c.if-condition_can_raise-2.false, ← c.get-else-condition_can_raise-2.ensures, ← c.can_raise-else-condition_can_raise-2.ensures.told, c.if-can_raise-2.false, ← c.get-else-can_raise-2.ensures) c.can_raise-else-can_raise-2.ensures.told }

pub can_raise-returns-then-condition_can_raise-3 : goal.can_raise-returns-then-condition_can_raise-3
can_raise-returns-then-condition_can_raise-3 t c = record { told = rw (c.in-Left.is, tree_left, ← c.get-in-Left.ensures, ← c.condition_can_raise-in-Left.ensures.told, c.if-condition_can_raise-3.true) }

pub can_raise-returns-then-can_raise-3 : goal.can_raise-returns-then-can_raise-3
can_raise-returns-then-can_raise-3 t c = record { told = rw (c.in-Left.is, tree_left, ← c.get-in-Left.ensures, ← c.condition_can_raise-in-Left.ensures.told, c.if-condition_can_raise-3.false, ← c.get-else-condition_can_raise-3.ensures, ← c.can_raise-else-condition_can_raise-3.ensures.told, c.if-can_raise-3.true) }

pub can_raise-returns-else-can_raise-3 : goal.can_raise-returns-else-can_raise-3
can_raise-returns-else-can_raise-3 t c = record { told = rw (c.in-Left.is, tree_left, ← c.get-in-Left.ensures, ← c.condition_can_raise-in-Left.ensures.told, c.if-condition_can_raise-3.false, ← c.get-else-condition_can_raise-3.ensures, ← c.can_raise-else-condition_can_raise-3.ensures.told, c.if-can_raise-3.false, ← c.get-else-can_raise-3.ensures) c.can_raise-else-can_raise-3.ensures.told }

pub can_raise-returns-then-condition_can_raise-4 : goal.can_raise-returns-then-condition_can_raise-4
can_raise-returns-then-condition_can_raise-4 t c = record { told = rw (c.in-Half.is, tree_half, ← c.get-in-Half.ensures, ← c.condition_can_raise-in-Half.ensures.told, c.if-condition_can_raise-4.true) }

pub can_raise-returns-then-can_raise-4 : goal.can_raise-returns-then-can_raise-4
can_raise-returns-then-can_raise-4 t c = record { told = rw (c.in-Half.is, tree_half, ← c.get-in-Half.ensures, ← c.condition_can_raise-in-Half.ensures.told, c.if-condition_can_raise-4.false, ← c.get-else-condition_can_raise-4.ensures, ← c.can_raise-else-condition_can_raise-4.ensures.told, c.if-can_raise-4.true) }

pub can_raise-returns-else-can_raise-4 : goal.can_raise-returns-else-can_raise-4
can_raise-returns-else-can_raise-4 t c = record { told = rw (c.in-Half.is, tree_half, ← c.get-in-Half.ensures, ← c.condition_can_raise-in-Half.ensures.told, c.if-condition_can_raise-4.false, ← c.get-else-condition_can_raise-4.ensures, ← c.can_raise-else-condition_can_raise-4.ensures.told, c.if-can_raise-4.false, ← c.get-else-can_raise-4.ensures) c.can_raise-else-can_raise-4.ensures.told }

pub can_raise-returns-then-condition_can_raise-5 : goal.can_raise-returns-then-condition_can_raise-5
can_raise-returns-then-condition_can_raise-5 t c = record { told = rw (c.in-OppositeHalf.is, tree_opposite, ← c.get-in-OppositeHalf.ensures, ← c.condition_can_raise-in-OppositeHalf.ensures.told, c.if-condition_can_raise-5.true) }

pub can_raise-returns-then-can_raise-5 : goal.can_raise-returns-then-can_raise-5
can_raise-returns-then-can_raise-5 t c = record { told = rw (c.in-OppositeHalf.is, tree_opposite, ← c.get-in-OppositeHalf.ensures, ← c.condition_can_raise-in-OppositeHalf.ensures.told, c.if-condition_can_raise-5.false, ← c.get-else-condition_can_raise-5.ensures, ← c.can_raise-else-condition_can_raise-5.ensures.told, c.if-can_raise-5.true) }

pub can_raise-returns-else-can_raise-5 : goal.can_raise-returns-else-can_raise-5
can_raise-returns-else-can_raise-5 t c = record { told = rw (c.in-OppositeHalf.is, tree_opposite, ← c.get-in-OppositeHalf.ensures, ← c.condition_can_raise-in-OppositeHalf.ensures.told, c.if-condition_can_raise-5.false, ← c.get-else-condition_can_raise-5.ensures, ← c.can_raise-else-condition_can_raise-5.ensures.told, c.if-can_raise-5.false, ← c.get-else-can_raise-5.ensures) c.can_raise-else-can_raise-5.ensures.told }

pub can_raise-returns-then-some_function : goal.can_raise-returns-then-some_function
can_raise-returns-then-some_function t c = record { told = rw (c.in-Group.is, tree_group, ← c.as_slice.ensures, ← c.some_function.ensures, c.if-some_function.true) }

pub can_raise-returns-else-some_function : goal.can_raise-returns-else-some_function
can_raise-returns-else-some_function t c = record { told = rw (c.in-Group.is, tree_group, ← c.as_slice.ensures, ← c.some_function.ensures, c.if-some_function.false, ← c.get-else-some_function.ensures) c.can_raise-else-some_function.ensures.told }

pub can_raise-returns-then-some_expression : goal.can_raise-returns-then-some_expression
can_raise-returns-then-some_expression t c = record { told = rw (c.in-Project.is, tree_project, ← c.as_slice-in-Project.ensures, ← c.some_expression.ensures, c.if-some_expression.true) }

pub can_raise-returns-else-some_expression : goal.can_raise-returns-else-some_expression
can_raise-returns-else-some_expression t c = record { told = rw (c.in-Project.is, tree_project, ← c.as_slice-in-Project.ensures, ← c.some_expression.ensures, c.if-some_expression.false, ← c.get-else-some_expression.ensures) c.can_raise-else-some_expression.ensures.told }

pub can_raise-returns-in-Distinct : goal.can_raise-returns-in-Distinct
can_raise-returns-in-Distinct t c = record { told = rw (c.in-Distinct.is, tree_distinct, ← c.get-in-Distinct.ensures) c.can_raise-in-Distinct.ensures.told }

pub can_raise-returns-then-can_raise-6 : goal.can_raise-returns-then-can_raise-6
can_raise-returns-then-can_raise-6 t c = record { told = rw (c.in-Set.is, tree_set, ← c.get-in-Set.ensures, ← c.can_raise-in-Set.ensures.told, c.if-can_raise-6.true) }

pub can_raise-returns-else-can_raise-6 : goal.can_raise-returns-else-can_raise-6
can_raise-returns-else-can_raise-6 t c = record { told = rw (c.in-Set.is, tree_set, ← c.get-in-Set.ensures, ← c.can_raise-in-Set.ensures.told, c.if-can_raise-6.false, ← c.get-else-can_raise-6.ensures) c.can_raise-else-can_raise-6.ensures.told }

pub can_raise-returns-in-Sort : goal.can_raise-returns-in-Sort
can_raise-returns-in-Sort t c = record { told = rw (c.in-Sort.is, tree_sort, ← c.get-in-Sort.ensures) c.can_raise-in-Sort.ensures.told }

pub can_raise-returns-in-Seek : goal.can_raise-returns-in-Seek
can_raise-returns-in-Seek t c = record { told = rw (c.in-Seek.is, tree_seek) }

pub can_raise-returns-in-Range : goal.can_raise-returns-in-Range
can_raise-returns-in-Range t c = record { told = rw (c.in-Range.is, tree_range) }

pub can_raise-returns-then-condition_can_raise-6 : goal.can_raise-returns-then-condition_can_raise-6
can_raise-returns-then-condition_can_raise-6 t c = record { told = rw (c.in-IndexLoop.is, tree_index_loop, ← c.get-in-IndexLoop.ensures, ← c.condition_can_raise-in-IndexLoop.ensures.told, c.if-condition_can_raise-6.true) }

pub can_raise-returns-else-condition_can_raise-6 : goal.can_raise-returns-else-condition_can_raise-6
can_raise-returns-else-condition_can_raise-6 t c = record { told = rw (c.in-IndexLoop.is, tree_index_loop, ← c.get-in-IndexLoop.ensures, ← c.condition_can_raise-in-IndexLoop.ensures.told, c.if-condition_can_raise-6.false, ← c.get-else-condition_can_raise-6.ensures) c.can_raise-else-condition_can_raise-6.ensures.told }

pub can_raise-returns-then-condition_can_raise-7 : goal.can_raise-returns-then-condition_can_raise-7
can_raise-returns-then-condition_can_raise-7 t c = record { told = rw (c.in-HashJoin.is, tree_hash_join, ← c.get-in-HashJoin.ensures, ← c.condition_can_raise-in-HashJoin.ensures.told, c.if-condition_can_raise-7.true) }

pub can_raise-returns-then-can_raise-7 : goal.can_raise-returns-then-can_raise-7
can_raise-returns-then-can_raise-7 t c = record { told = rw (c.in-HashJoin.is, tree_hash_join, ← c.get-in-HashJoin.ensures, ← c.condition_can_raise-in-HashJoin.ensures.told, c.if-condition_can_raise-7.false, ← c.get-else-condition_can_raise-7.ensures, ← c.can_raise-else-condition_can_raise-7.ensures.told, c.if-can_raise-7.true) }

pub can_raise-returns-else-can_raise-7 : goal.can_raise-returns-else-can_raise-7
can_raise-returns-else-can_raise-7 t c = record { told = rw (c.in-HashJoin.is, tree_hash_join, ← c.get-in-HashJoin.ensures, ← c.condition_can_raise-in-HashJoin.ensures.told, c.if-condition_can_raise-7.false, ← c.get-else-condition_can_raise-7.ensures, ← c.can_raise-else-condition_can_raise-7.ensures.told, c.if-can_raise-7.false, ← c.get-else-can_raise-7.ensures) c.can_raise-else-can_raise-7.ensures.told }

pub can_raise-returns-then-expression_can_raise : goal.can_raise-returns-then-expression_can_raise
can_raise-returns-then-expression_can_raise t c = record { told = rw (c.in-Member.is, tree_member, ← c.get-in-Member.ensures, ← c.expression_can_raise.ensures.told, c.if-expression_can_raise.true) }

pub can_raise-returns-then-can_raise-8 : goal.can_raise-returns-then-can_raise-8
can_raise-returns-then-can_raise-8 t c = record { told = rw (c.in-Member.is, tree_member, ← c.get-in-Member.ensures, ← c.expression_can_raise.ensures.told, c.if-expression_can_raise.false, ← c.get-else-expression_can_raise.ensures, ← c.can_raise-else-expression_can_raise.ensures.told, c.if-can_raise-8.true) }

pub can_raise-returns-else-can_raise-8 : goal.can_raise-returns-else-can_raise-8
can_raise-returns-else-can_raise-8 t c = record { told = rw (c.in-Member.is, tree_member, ← c.get-in-Member.ensures, ← c.expression_can_raise.ensures.told, c.if-expression_can_raise.false, ← c.get-else-expression_can_raise.ensures, ← c.can_raise-else-expression_can_raise.ensures.told, c.if-can_raise-8.false, ← c.get-else-can_raise-8.ensures) c.can_raise-else-can_raise-8.ensures.told }

pub condition_can_raise-returns-in-Or : goal.condition_can_raise-returns-in-Or
condition_can_raise-returns-in-Or t c = record { told = rw (c.in-Or.is, condition_or, ← c.as_slice.ensures) c.some_condition.ensures }

pub condition_can_raise-returns-in-And : goal.condition_can_raise-returns-in-And
condition_can_raise-returns-in-And t c = record { told = rw (c.in-And.is, condition_and, ← c.as_slice-in-And.ensures) c.some_condition-in-And.ensures }

pub condition_can_raise-returns-in-Not : goal.condition_can_raise-returns-in-Not
condition_can_raise-returns-in-Not t c = record { told = rw (c.in-Not.is, condition_not, ← c.get.ensures) c.condition_can_raise.ensures.told }

pub condition_can_raise-returns-in-IsTruth : goal.condition_can_raise-returns-in-IsTruth
condition_can_raise-returns-in-IsTruth t c = record { told = rw (c.in-IsTruth.is, condition_test, ← c.get-in-IsTruth.ensures) c.condition_can_raise-in-IsTruth.ensures.told }

pub condition_can_raise-returns-then-expression_can_raise : goal.condition_can_raise-returns-then-expression_can_raise
condition_can_raise-returns-then-expression_can_raise t c = record { told = rw (c.in-Compare.is, condition_compare, ← c.get-in-Compare.ensures, ← c.expression_can_raise.ensures.told, c.if-expression_can_raise.true) }

pub condition_can_raise-returns-else-expression_can_raise : goal.condition_can_raise-returns-else-expression_can_raise
condition_can_raise-returns-else-expression_can_raise t c = record { told = rw (c.in-Compare.is, condition_compare, ← c.get-in-Compare.ensures, ← c.expression_can_raise.ensures.told, c.if-expression_can_raise.false, ← c.get-else-expression_can_raise.ensures) c.expression_can_raise-else-expression_can_raise.ensures.told }

pub condition_can_raise-returns-then-expression_can_raise-2 : goal.condition_can_raise-returns-then-expression_can_raise-2
condition_can_raise-returns-then-expression_can_raise-2 t c = record { told = rw (c.in-Between.is, condition_between, ← c.get-in-Between.ensures, ← c.expression_can_raise-in-Between.ensures.told, c.if-expression_can_raise-2.true) }

pub condition_can_raise-returns-then-expression_can_raise-3 : goal.condition_can_raise-returns-then-expression_can_raise-3
condition_can_raise-returns-then-expression_can_raise-3 t c = record { told = rw (c.in-Between.is, condition_between, ← c.get-in-Between.ensures, ← c.expression_can_raise-in-Between.ensures.told, c.if-expression_can_raise-2.false, ← c.get-else-expression_can_raise-2.ensures, ← c.expression_can_raise-else-expression_can_raise-2.ensures.told, c.if-expression_can_raise-3.true) }

pub condition_can_raise-returns-else-expression_can_raise-3 : goal.condition_can_raise-returns-else-expression_can_raise-3
condition_can_raise-returns-else-expression_can_raise-3 t c = record { told = rw (c.in-Between.is, condition_between, ← c.get-in-Between.ensures, ← c.expression_can_raise-in-Between.ensures.told, c.if-expression_can_raise-2.false, ← c.get-else-expression_can_raise-2.ensures, ← c.expression_can_raise-else-expression_can_raise-2.ensures.told, c.if-expression_can_raise-3.false, ← c.get-else-expression_can_raise-3.ensures) c.expression_can_raise-else-expression_can_raise-3.ensures.told }

pub condition_can_raise-returns-in-InList : goal.condition_can_raise-returns-in-InList
condition_can_raise-returns-in-InList t c = record { told = rw (c.in-InList.is, condition_in_list, ← c.get-in-InList.ensures) c.expression_can_raise-in-InList.ensures.told }

pub condition_can_raise-returns-then-expression_can_raise-4 : goal.condition_can_raise-returns-then-expression_can_raise-4
condition_can_raise-returns-then-expression_can_raise-4 t c = record { told = rw (c.in-InQuery.is, condition_in_query, ← c.get-in-InQuery.ensures, ← c.expression_can_raise-in-InQuery.ensures.told, c.if-expression_can_raise-4.true) }

pub condition_can_raise-returns-else-expression_can_raise-4 : goal.condition_can_raise-returns-else-expression_can_raise-4
condition_can_raise-returns-else-expression_can_raise-4 t c = record { told = rw (c.in-InQuery.is, condition_in_query, ← c.get-in-InQuery.ensures, ← c.expression_can_raise-in-InQuery.ensures.told, c.if-expression_can_raise-4.false, ← c.get-else-expression_can_raise-4.ensures) c.can_raise.ensures.told }

pub condition_can_raise-returns-then-expression_can_raise-5 : goal.condition_can_raise-returns-then-expression_can_raise-5
condition_can_raise-returns-then-expression_can_raise-5 t c = record { told = rw (c.in-Like.is, condition_like, ← c.get-in-Like.ensures, ← c.expression_can_raise-in-Like.ensures.told, c.if-expression_can_raise-5.true) }

pub condition_can_raise-returns-else-expression_can_raise-5 : goal.condition_can_raise-returns-else-expression_can_raise-5
condition_can_raise-returns-else-expression_can_raise-5 t c = record { told = rw (c.in-Like.is, condition_like, ← c.get-in-Like.ensures, ← c.expression_can_raise-in-Like.ensures.told, c.if-expression_can_raise-5.false, ← c.get-else-expression_can_raise-5.ensures) c.expression_can_raise-else-expression_can_raise-5.ensures.told }

pub condition_can_raise-returns-in-IsNull : goal.condition_can_raise-returns-in-IsNull
condition_can_raise-returns-in-IsNull t c = record { told = rw (c.in-IsNull.is, condition_null, ← c.get-in-IsNull.ensures) c.expression_can_raise-in-IsNull.ensures.told }

pub condition_can_raise-returns-in-Exists : goal.condition_can_raise-returns-in-Exists
condition_can_raise-returns-in-Exists t c = record { told = rw (c.in-Exists.is, condition_exists, ← c.get-in-Exists.ensures) c.can_raise-in-Exists.ensures.told }

pub some_condition-loop-operand-preserved : goal.some_condition-loop-operand-preserved
some_condition-loop-operand-preserved t c =
    goes_on (λ (xs : List Condition). some_may (map condition_may_raise xs)) condition_may_raise (λ _ _. refl) c.args.operands.now _ _
    c.loop-operand-test.true c.operand-item.is c.if-condition_can_raise.ensures.told c.loop-operand.invariant

pub some_condition-returns-then-condition_can_raise : goal.some_condition-returns-then-condition_can_raise
some_condition-returns-then-condition_can_raise t c =
    says_yes (λ (xs : List Condition). some_may (map condition_may_raise xs)) condition_may_raise (λ _ _. refl) c.args.operands.now _ _
    c.loop-operand-test.true c.operand-item.is c.if-condition_can_raise.ensures.told c.loop-operand.invariant

pub some_condition-returns : goal.some_condition-returns
some_condition-returns t c =
    none_left (λ (xs : List Condition). some_may (map condition_may_raise xs)) refl c.args.operands.now _ c.loop-operand-test.false c.loop-operand.invariant
