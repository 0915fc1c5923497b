use Rattle.std.proofs.Common.{◌∙◌, sym}
use Rattle.std.proofs.lemmas.Result.{err_from_is_err_and}
use Rattle.scopes.specs.Seen.{frames}
use Rattle.query_types.specs.Parts.{argument_view, continued, factor_after, multiplied, summed, term_after}
use Rattle.query_types.proofs.Nodes.{factor_at, primary_number, primary_text, primary_column, primary_parenthesized, expression_alone, expression_sum, expression_concatenation, term_alone, term_product}
use Rattle.query_types.proofs.Misplaced.{aggregate_misplaced, query_misplaced, rows_misplaced}
use Rattle.query_types.proofs.Turns.{order-done, order-next, order-refused}
use Rattle.query_types.proofs.arguments.+arguments.Goals as goal

-- ---- chains

pub argument_summands-returns : goal.argument_summands-returns
argument_summands-returns t c = λ k.
    order-done (term_after k) summed c.args.others.now c.loop-operator.operator-index c.loop-operator.operands (argument_view (frames c.args.scope.now)) _ c.loop-operator-test.false (c.loop-operator.invariant k)

pub argument_texts-returns : goal.argument_texts-returns
argument_texts-returns t c = λ k.
    order-done (term_after k) continued c.args.others.now c.loop-operator.operator-index c.loop-operator.operands (argument_view (frames c.args.scope.now)) _ c.loop-operator-test.false (c.loop-operator.invariant k)

pub argument_multipliers-returns : goal.argument_multipliers-returns
argument_multipliers-returns t c = λ k.
    order-done (factor_after k) multiplied c.args.others.now c.loop-operator.operator-index c.loop-operator.operands (argument_view (frames c.args.scope.now)) _ c.loop-operator-test.false (c.loop-operator.invariant k)

pub argument_summands-returns-in_err-summand : goal.argument_summands-returns-in_err-summand
argument_summands-returns-in_err-summand t c = λ k.
    let p = err_from_is_err_and c.from_residual.result c.from_residual.ensures.1 in
    rw (p.1, p.2) (order-refused (term_after k) summed c.args.others.now c.loop-operator.operator-index c.loop-operator-item.result _ c.loop-operator.operands (argument_view (frames c.args.scope.now)) _
    c.loop-operator-test.true c.loop-operator-item.is (c.loop-operator.invariant k) (c.in_err-summand.ensures _ (c.argument_term.ensures k)))

pub argument_texts-returns-in_err-joined_text : goal.argument_texts-returns-in_err-joined_text
argument_texts-returns-in_err-joined_text t c = λ k.
    let p = err_from_is_err_and c.from_residual.result c.from_residual.ensures.1 in
    rw (p.1, p.2) (order-refused (term_after k) continued c.args.others.now c.loop-operator.operator-index c.loop-operator-item.result _ c.loop-operator.operands (argument_view (frames c.args.scope.now)) _
    c.loop-operator-test.true c.loop-operator-item.is (c.loop-operator.invariant k) (c.in_err-joined_text.ensures _ (c.argument_term.ensures k)))

pub argument_multipliers-returns-in_err-multiplier : goal.argument_multipliers-returns-in_err-multiplier
argument_multipliers-returns-in_err-multiplier t c = λ k.
    let p = err_from_is_err_and c.from_residual.result c.from_residual.ensures.1 in
    rw (p.1, p.2) (order-refused (factor_after k) multiplied c.args.others.now c.loop-operator.operator-index c.loop-operator-item.result _ c.loop-operator.operands (argument_view (frames c.args.scope.now)) _
    c.loop-operator-test.true c.loop-operator-item.is (c.loop-operator.invariant k) (c.in_err-multiplier.ensures _ (c.argument_factor.ensures k)))

pub argument_summands-loop-operator-preserved : goal.argument_summands-loop-operator-preserved
argument_summands-loop-operator-preserved t c = λ k.
    rw c.in_ok-push.ensures.ok
    (order-next (term_after k) summed c.args.others.now c.loop-operator.operator-index c.loop-operator-item.result c.loop-operator.operands c.in_ok-summand.field-0 (argument_view (frames c.args.scope.now))
    c.loop-operator-test.true c.loop-operator-item.is (c.in_ok-summand.ensures _ (c.argument_term.ensures k)).ok ∙ c.loop-operator.invariant k)

pub argument_texts-loop-operator-preserved : goal.argument_texts-loop-operator-preserved
argument_texts-loop-operator-preserved t c = λ k.
    rw c.in_ok-push.ensures.ok
    (order-next (term_after k) continued c.args.others.now c.loop-operator.operator-index c.loop-operator-item.result c.loop-operator.operands c.in_ok-joined_text.field-0 (argument_view (frames c.args.scope.now))
    c.loop-operator-test.true c.loop-operator-item.is (c.in_ok-joined_text.ensures _ (c.argument_term.ensures k)).ok ∙ c.loop-operator.invariant k)

pub argument_multipliers-loop-operator-preserved : goal.argument_multipliers-loop-operator-preserved
argument_multipliers-loop-operator-preserved t c = λ k.
    rw c.in_ok-push.ensures.ok
    (order-next (factor_after k) multiplied c.args.others.now c.loop-operator.operator-index c.loop-operator-item.result c.loop-operator.operands c.in_ok-multiplier.field-0 (argument_view (frames c.args.scope.now))
    c.loop-operator-test.true c.loop-operator-item.is (c.in_ok-multiplier.ensures _ (c.argument_factor.ensures k)).ok ∙ c.loop-operator.invariant k)

pub argument_expression-returns-in_default : goal.argument_expression-returns-in_default
argument_expression-returns-in_default t c = λ k.
    rw (expression_alone k (argument_view (frames c.args.scope.now)) c.args.tree.now (sym (rw (c.as_slice-others.ensures, c.in_default.is) at c.first_operator.ensures))) (c.argument_term-first.ensures k)

pub argument_expression-returns-in-Concatenate : goal.argument_expression-returns-in-Concatenate
argument_expression-returns-in-Concatenate t c = λ k.
    let led = sym (rw (c.as_slice-others.ensures, c.in-Some.is, c.in-Concatenate.is) at c.first_operator.ensures) in
    rw (expression_concatenation k (argument_view (frames c.args.scope.now)) c.args.tree.now led)
    (c.concatenation.ensures _ _ (c.argument_term-first.ensures k) (rw c.as_slice-others.ensures at c.argument_texts.ensures k))

pub argument_expression-returns-in_default-operator : goal.argument_expression-returns-in_default-operator
argument_expression-returns-in_default-operator t c = λ k.
    let led = sym (rw (c.as_slice-others.ensures, c.in-Some.is) at c.first_operator.ensures) in
    rw (expression_sum k (argument_view (frames c.args.scope.now)) c.args.tree.now c.in-Some.operator led c.in_default-operator.not-Concatenate)
    (c.calculation.ensures _ _ (c.argument_term-first.ensures k) (rw c.as_slice-others.ensures at c.argument_summands.ensures k))

pub argument_term-returns-then-is_empty : goal.argument_term-returns-then-is_empty
argument_term-returns-then-is_empty t c = λ k.
    rw (term_alone k (argument_view (frames c.args.scope.now)) c.args.tree.now (c.is_empty.ensures.0 c.if-is_empty.true)) (c.argument_factor-first.ensures k)

pub argument_term-returns : goal.argument_term-returns
argument_term-returns t c = λ k.
    rw (term_product k (argument_view (frames c.args.scope.now)) c.args.tree.now (λ e. cc (c.is_empty.ensures.1 e, c.if-is_empty.false)))
    (c.calculation.ensures _ _ (c.argument_factor-first.ensures k) (rw c.as_slice.ensures at c.argument_multipliers-others.ensures k))

-- ---- primaries

pub argument_factor-returns : goal.argument_factor-returns
argument_factor-returns t c = λ k. rw (factor_at k (argument_view (frames c.args.scope.now)) c.args.tree.now) (c.argument_primary.ensures k)

pub argument_primary-returns-in-Number : goal.argument_primary-returns-in-Number
argument_primary-returns-in-Number t c = λ k.
    rw (c.in-Number.is, primary_number k (argument_view (frames c.args.scope.now))) (c.number_constant.ensures _ c.with_sign.ensures)

pub argument_primary-returns-in-Text : goal.argument_primary-returns-in-Text
argument_primary-returns-in-Text t c = λ k.
    rw (c.in-Text.is, primary_text k (argument_view (frames c.args.scope.now))) (c.after_sign.ensures _ c.text_constant.ensures)

pub argument_primary-returns-in-Column : goal.argument_primary-returns-in-Column
argument_primary-returns-in-Column t c = λ k.
    rw (c.in-Column.is, primary_column k (argument_view (frames c.args.scope.now))) (c.after_sign-in-Column.ensures _ c.argument_column.ensures)

pub argument_primary-returns-in-Parenthesized : goal.argument_primary-returns-in-Parenthesized
argument_primary-returns-in-Parenthesized t c = λ k.
    rw (c.in-Parenthesized.is, primary_parenthesized k (argument_view (frames c.args.scope.now)))
    (c.after_sign-in-Parenthesized.ensures _ (rw c.get.ensures at c.argument_expression.ensures k))

pub argument_primary-returns-in-CountRows : goal.argument_primary-returns-in-CountRows
argument_primary-returns-in-CountRows t c = λ k. rw c.in-CountRows.is (rows_misplaced k (frames c.args.scope.now) c.args.sign)

pub argument_primary-returns-in-Aggregate : goal.argument_primary-returns-in-Aggregate
argument_primary-returns-in-Aggregate t c = λ k. rw c.in-Aggregate.is (aggregate_misplaced k (frames c.args.scope.now) c.args.sign _ _ _)

pub argument_primary-returns-in-Subquery : goal.argument_primary-returns-in-Subquery
argument_primary-returns-in-Subquery t c = λ k. rw c.in-Subquery.is (query_misplaced k (frames c.args.scope.now) c.args.sign _)
