use Rattle.std.proofs.Common.{◌≡◌, refl, subst, sym, map, IfOk}
use Rattle.typing.specs.declared.typed.Arithmetic.{Arithmetic}
use Rattle.typing.specs.declared.typed.Expression.{Expression}
use Rattle.typing.specs.declared.typed.Query.{Query}
use Rattle.typing.specs.declared.typed.SetOperation.{SetOperation}
use Rattle.algebra.specs.Described.{described_in}
use Rattle.algebra.specs.Translated.{tree_of_expression, tree_of_condition, tree_of_item, tree_of_query}
use Rattle.translation.proofs.Taken.{taken, chained}
use Rattle.translation.proofs.TreeNodes.{expression_calculation, expression_concatenation, condition_compare, condition_between, condition_in_list, condition_in_query, condition_like, item_is, source_inner, source_left, grouping_is, select_is}
use Rattle.translation.proofs.+translations.Goals as goal

-- ---- parts on the heap

pub expressions::boxed_expression-returns : goal.expressions::boxed_expression-returns
expressions::boxed_expression-returns t c =
    subst (λ x. IfOk c.boxed.result (λ made. made ≡ tree_of_expression (described_in c.args.schema.now) x)) c.get.ensures (c.boxed.ensures _ c.translate_expression.ensures.translated)

pub conditions::boxed_condition-returns : goal.conditions::boxed_condition-returns
conditions::boxed_condition-returns t c =
    subst (λ x. IfOk c.boxed.result (λ made. made ≡ tree_of_condition (described_in c.args.schema.now) x)) c.get.ensures (c.boxed.ensures _ c.translate_condition.ensures.translated)

pub queries::boxed_query-returns : goal.queries::boxed_query-returns
queries::boxed_query-returns t c =
    subst (λ x. IfOk c.boxed.result (λ made. made ≡ tree_of_query (described_in c.args.schema.now) x)) c.get.ensures (c.boxed.ensures _ c.translate_query.ensures.translated)

-- ---- conditions

pub conditions::translate_condition-returns-in_ok-left-in-Compare : goal.conditions::translate_condition-returns-in_ok-left-in-Compare
conditions::translate_condition-returns-in_ok-left-in-Compare t c =
    record { translated = rw (c.in-Compare.is, condition_compare, c.in_ok-left-in-Compare.ensures.first _ c.boxed_expression-left.ensures, c.in_ok-left-in-Compare.ensures.second _ c.boxed_expression.ensures) refl }

pub conditions::translate_condition-returns-in_ok-operand-in-Between : goal.conditions::translate_condition-returns-in_ok-operand-in-Between
conditions::translate_condition-returns-in_ok-operand-in-Between t c =
    record { translated = rw (c.in-Between.is, condition_between, c.in_ok-operand-in-Between.ensures.first _ c.boxed_expression-in-Between.ensures, c.in_ok-operand-in-Between.ensures.second _ c.boxed_expression-in-Between-2.ensures, c.in_ok-operand-in-Between.ensures.third _ c.boxed_expression-in-Between-3.ensures) refl }

pub conditions::translate_condition-returns-in_ok-operand-in-InList : goal.conditions::translate_condition-returns-in_ok-operand-in-InList
conditions::translate_condition-returns-in_ok-operand-in-InList t c =
    record { translated = rw (c.in-InList.is, condition_in_list, c.in_ok-operand-in-InList.ensures.first _ c.boxed_expression-operand.ensures, c.in_ok-operand-in-InList.ensures.second _ c.copied_values.ensures, c.as_slice.ensures) refl }

pub conditions::translate_condition-returns-in_ok-operand-in-InQuery : goal.conditions::translate_condition-returns-in_ok-operand-in-InQuery
conditions::translate_condition-returns-in_ok-operand-in-InQuery t c =
    record { translated = rw (c.in-InQuery.is, condition_in_query, c.in_ok-operand-in-InQuery.ensures.first _ c.boxed_expression-operand-in-InQuery.ensures, c.in_ok-operand-in-InQuery.ensures.second _ c.boxed_query.ensures) refl }

pub conditions::translate_condition-returns-in_ok-operand-in-Like : goal.conditions::translate_condition-returns-in_ok-operand-in-Like
conditions::translate_condition-returns-in_ok-operand-in-Like t c =
    record { translated = rw (c.in-Like.is, condition_like, c.in_ok-operand-in-Like.ensures.first _ c.boxed_expression-operand-in-Like.ensures, c.in_ok-operand-in-Like.ensures.second _ c.boxed_expression-in-Like.ensures) refl }

-- ---- expressions

pub expressions::translate_expression-returns-in_ok-first-in-Calculation : goal.expressions::translate_expression-returns-in_ok-first-in-Calculation
expressions::translate_expression-returns-in_ok-first-in-Calculation t c =
    record { translated = rw (c.in-Calculation.is, expression_calculation, c.in_ok-first-in-Calculation.ensures.first _ c.boxed_expression-first.ensures, c.in_ok-first-in-Calculation.ensures.second _ c.operands.ensures) refl }

pub expressions::translate_expression-returns-in_ok-first-in-Concatenation : goal.expressions::translate_expression-returns-in_ok-first-in-Concatenation
expressions::translate_expression-returns-in_ok-first-in-Concatenation t c =
    record { translated = rw (c.in-Concatenation.is, expression_concatenation, c.in_ok-first-in-Concatenation.ensures.first _ c.boxed_expression-first-in-Concatenation.ensures, c.in_ok-first-in-Concatenation.ensures.second _ c.expressions.ensures) refl }

pub expressions::operands-loop-operator-preserved : goal.expressions::operands-loop-operator-preserved
expressions::operands-loop-operator-preserved t c =
    taken (λ (other : Arithmetic × Expression). (other.0, tree_of_expression (described_in c.args.schema.now) other.1)) _ _ c.loop-operator-item.result c.loop-operator-test.true c.loop-operator-item.is c.loop-operator.invariant (c.in_ok-made.ensures _ (c.with.ensures _ c.translate_expression.ensures.translated))

pub expressions::select_list-loop-item-preserved : goal.expressions::select_list-loop-item-preserved
expressions::select_list-loop-item-preserved t c =
    taken (tree_of_item (described_in c.args.schema.now)) _ _ c.item-item.result c.loop-item-test.true c.item-item.is c.loop-item.invariant (c.in_ok-made.ensures _ (rw (item_is (described_in c.args.schema.now) c.item-item.result) c.translate_expression.ensures.translated))

-- ---- queries

pub queries::combined-loop-operation-preserved : goal.queries::combined-loop-operation-preserved
queries::combined-loop-operation-preserved t c =
    chained (λ (other : SetOperation × Query). (other.0, tree_of_query (described_in c.args.schema.now) other.1)) c.args.first _ _ c.loop-operation-item.result c.loop-operation-test.true c.loop-operation-item.is c.loop-operation.invariant (c.in_ok-tree.ensures _ c.translate_query.ensures.translated)

pub queries::grouped-returns-in-Some : goal.queries::grouped-returns-in-Some
queries::grouped-returns-in-Some t c =
    λ x h. rw (c.in-Some.is, grouping_is (described_in c.args.schema.now) c.in-Some.grouping x)
    (c.filtered.ensures _ (c.group-tree.ensures _ _ x c.copied_columns-columns.ensures c.set_functions-functions.ensures h))

pub queries::select-returns-then-select : goal.queries::select-returns-then-select
queries::select-returns-then-select t c =
    rw (select_is (described_in c.args.schema.now) c.args.select.now, c.if-select.true)
    (c.distinct.ensures _ (c.project-tree.ensures _ _ c.select_list.ensures (c.grouped-tree.ensures _ (c.filtered-tree.ensures _ c.source-tree.ensures))))

pub queries::select-returns-else-select : goal.queries::select-returns-else-select
queries::select-returns-else-select t c =
    rw (select_is (described_in c.args.schema.now) c.args.select.now, c.if-select.false)
    (c.project-tree.ensures _ _ c.select_list.ensures (c.grouped-tree.ensures _ (c.filtered-tree.ensures _ c.source-tree.ensures)))

pub queries::source-returns-in-Inner : goal.queries::source-returns-in-Inner
queries::source-returns-in-Inner t c =
    rw (c.in-Inner.is, source_inner)
    (c.inner.ensures _ _ _ (rw c.get-in-Inner.ensures at c.translate_condition-on.ensures.translated) (rw c.get-in-Inner-2.ensures at c.source-left-in-Inner.ensures) (rw c.get-in-Inner-3.ensures at c.source-in-Inner.ensures))

pub queries::source-returns-in-Left : goal.queries::source-returns-in-Left
queries::source-returns-in-Left t c =
    rw (c.in-Left.is, source_left)
    (c.left_join.ensures _ _ _ (rw c.get-in-Left.ensures at c.translate_condition-on-in-Left.ensures.translated) (rw c.get-in-Left-2.ensures at c.source-left-in-Left.ensures) (rw c.get-in-Left-3.ensures at c.source-in-Left.ensures))
