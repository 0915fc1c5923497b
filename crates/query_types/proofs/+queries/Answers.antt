use Rattle.std.proofs.Common.{◌≡◌, ◌∙◌, ◌∷◌, ap, map, subst, sym, take, Ok}
use Rattle.ast.specs.declared.tree.Condition.{out-Condition}
use Rattle.ast.specs.declared.tree.Conjunction.{out-Conjunction}
use Rattle.std.proofs.lemmas.Result.{err_from_is_err_and}
use Rattle.ast.specs.declared.tree.TableReference.{out-TableReference}
use Rattle.typing.specs.Condition.{and_of, conjuncts, disjuncts, or_of}
use Rattle.typing.specs.Finding.{each}
use Rattle.typing.specs.Finds.{Finds}
use Rattle.typing.specs.From.{all_crossed, inner_join, left_join}
use Rattle.typing.specs.Part.{Shown, past}
use Rattle.typing.specs.Known.{known}
use Rattle.typing.specs.Typing.{condition_part, conjunction_part, expression_part, item_part, join_part, negation_part, query_found, reference_part, source_part}
use Rattle.typing.proofs.Nodes as node
use Rattle.scopes.specs.Seen.{frames, scope_of, seen}
use Rattle.type_rules.proofs.FindsLemmas.{Finds-each_item, each-finds, each-next}
use Rattle.query_types.specs.Parts.{as_found, continued, factor_after, in_order, multiplied, summed, term_after}
use Rattle.query_types.specs.Selects.{addend_after, clauses_of, operand_after}
use Rattle.query_types.proofs.Conjuncts.{condition_at, conjunction_at, negation_at, predicate_nested, predicate_compare, predicate_between, predicate_in_list, predicate_in_query, predicate_like, predicate_is_null, predicate_exists, flattened-start, flattened-next, flattened-refused, flattened-done, first_refused}
use Rattle.query_types.proofs.Items.{item_at, item_past, list-found, list-refused, aggregate-seen}
use Rattle.query_types.proofs.Joined.{crossed-more, crossed-whole, joined-more, joined-whole, on-found, on-refused}
use Rattle.query_types.proofs.Nodes.{factor_at, primary_number, primary_text, primary_column, primary_parenthesized, primary_count_rows, primary_aggregate, primary_subquery, expression_alone, expression_sum, expression_concatenation, term_alone, term_product}
use Rattle.query_types.proofs.Selected.{query-alone, query-chain, query-refused, addend-alone, addend-chained, addend-refused, select-found, select-refused, key-refused, settled-parts}
use Rattle.query_types.proofs.Turns.{order-done, order-next, order-refused}
use Rattle.query_types.proofs.+queries.Goals as goal

pub expressions::summands-returns : goal.expressions::summands-returns
expressions::summands-returns t c =
    order-done (term_after (known c.args.schema.now)) summed c.args.others.now c.loop-operator.operator-index c.loop-operator.operands (seen c.loop-operator.here) _ c.loop-operator-test.false c.loop-operator.invariant

pub expressions::summands-returns-in_err-summand : goal.expressions::summands-returns-in_err-summand
expressions::summands-returns-in_err-summand t c =
    let p = err_from_is_err_and c.from_residual-in_err-summand.result c.from_residual-in_err-summand.ensures.1 in
    rw (p.1, p.2) (order-refused (term_after (known c.args.schema.now)) summed c.args.others.now c.loop-operator.operator-index c.loop-operator-item.result _ c.loop-operator.operands (seen c.loop-operator.here) _
    c.loop-operator-test.true c.loop-operator-item.is c.loop-operator.invariant (c.in_err-summand.ensures _ c.typed_term.ensures))

pub expressions::summands-loop-operator-preserved : goal.expressions::summands-loop-operator-preserved
expressions::summands-loop-operator-preserved t c =
    rw (c.in_ok-push.ensures.ok, c.in_ok-next.ensures.ok (known c.args.schema.now))
    (order-next (term_after (known c.args.schema.now)) summed c.args.others.now c.loop-operator.operator-index c.loop-operator-item.result c.loop-operator.operands c.in_ok-summand.field-0 (seen c.loop-operator.here)
    c.loop-operator-test.true c.loop-operator-item.is (c.in_ok-summand.ensures _ c.typed_term.ensures).ok ∙ c.loop-operator.invariant)

pub expressions::joined_texts-returns : goal.expressions::joined_texts-returns
expressions::joined_texts-returns t c =
    order-done (term_after (known c.args.schema.now)) continued c.args.others.now c.loop-operator.operator-index c.loop-operator.operands (seen c.loop-operator.here) _ c.loop-operator-test.false c.loop-operator.invariant

pub expressions::joined_texts-returns-in_err-joined_text : goal.expressions::joined_texts-returns-in_err-joined_text
expressions::joined_texts-returns-in_err-joined_text t c =
    let p = err_from_is_err_and c.from_residual-in_err-joined_text.result c.from_residual-in_err-joined_text.ensures.1 in
    rw (p.1, p.2) (order-refused (term_after (known c.args.schema.now)) continued c.args.others.now c.loop-operator.operator-index c.loop-operator-item.result _ c.loop-operator.operands (seen c.loop-operator.here) _
    c.loop-operator-test.true c.loop-operator-item.is c.loop-operator.invariant (c.in_err-joined_text.ensures _ c.typed_term.ensures))

pub expressions::joined_texts-loop-operator-preserved : goal.expressions::joined_texts-loop-operator-preserved
expressions::joined_texts-loop-operator-preserved t c =
    rw (c.in_ok-push.ensures.ok, c.in_ok-next.ensures.ok (known c.args.schema.now))
    (order-next (term_after (known c.args.schema.now)) continued c.args.others.now c.loop-operator.operator-index c.loop-operator-item.result c.loop-operator.operands c.in_ok-joined_text.field-0 (seen c.loop-operator.here)
    c.loop-operator-test.true c.loop-operator-item.is (c.in_ok-joined_text.ensures _ c.typed_term.ensures).ok ∙ c.loop-operator.invariant)

pub expressions::multipliers-returns : goal.expressions::multipliers-returns
expressions::multipliers-returns t c =
    order-done (factor_after (known c.args.schema.now)) multiplied c.args.others.now c.loop-operator.operator-index c.loop-operator.operands (seen c.loop-operator.here) _ c.loop-operator-test.false c.loop-operator.invariant

pub expressions::multipliers-returns-in_err-multiplier : goal.expressions::multipliers-returns-in_err-multiplier
expressions::multipliers-returns-in_err-multiplier t c =
    let p = err_from_is_err_and c.from_residual-in_err-multiplier.result c.from_residual-in_err-multiplier.ensures.1 in
    rw (p.1, p.2) (order-refused (factor_after (known c.args.schema.now)) multiplied c.args.others.now c.loop-operator.operator-index c.loop-operator-item.result _ c.loop-operator.operands (seen c.loop-operator.here) _
    c.loop-operator-test.true c.loop-operator-item.is c.loop-operator.invariant (c.in_err-multiplier.ensures _ c.typed_factor.ensures))

pub expressions::multipliers-loop-operator-preserved : goal.expressions::multipliers-loop-operator-preserved
expressions::multipliers-loop-operator-preserved t c =
    rw (c.in_ok-push.ensures.ok, c.in_ok-next.ensures.ok (known c.args.schema.now))
    (order-next (factor_after (known c.args.schema.now)) multiplied c.args.others.now c.loop-operator.operator-index c.loop-operator-item.result c.loop-operator.operands c.in_ok-multiplier.field-0 (seen c.loop-operator.here)
    c.loop-operator-test.true c.loop-operator-item.is (c.in_ok-multiplier.ensures _ c.typed_factor.ensures).ok ∙ c.loop-operator.invariant)

pub expressions::typed_expression-returns-in_default : goal.expressions::typed_expression-returns-in_default
expressions::typed_expression-returns-in_default t c = rw (expression_alone (known c.args.schema.now) (seen c.args.view.now) c.args.tree.now (sym (rw (c.as_slice-others.ensures, c.in_default.is) at c.first_operator.ensures))) c.typed_term.ensures

pub expressions::typed_expression-returns-in-Concatenate : goal.expressions::typed_expression-returns-in-Concatenate
expressions::typed_expression-returns-in-Concatenate t c =
    let led = sym (rw (c.as_slice-others.ensures, c.in-Some.is, c.in-Concatenate.is) at c.first_operator.ensures) in
    rw (expression_concatenation (known c.args.schema.now) (seen c.args.view.now) c.args.tree.now led)
    (c.concatenation.ensures _ _ c.typed_term-first.ensures (rw (c.as_slice-others.ensures, c.in_ok-next.ensures.ok (known c.args.schema.now)) at c.joined_texts.ensures))

pub expressions::typed_expression-returns-in_default-operator : goal.expressions::typed_expression-returns-in_default-operator
expressions::typed_expression-returns-in_default-operator t c =
    let led = sym (rw (c.as_slice-others.ensures, c.in-Some.is) at c.first_operator.ensures) in
    rw (expression_sum (known c.args.schema.now) (seen c.args.view.now) c.args.tree.now c.in-Some.operator led c.in_default-operator.not-Concatenate)
    (c.calculation.ensures _ _ c.typed_term-first.ensures (rw (c.as_slice-others.ensures, c.in_ok-next.ensures.ok (known c.args.schema.now)) at c.summands.ensures))

pub expressions::typed_term-returns-then-is_empty : goal.expressions::typed_term-returns-then-is_empty
expressions::typed_term-returns-then-is_empty t c = rw (term_alone (known c.args.schema.now) (seen c.args.view.now) c.args.tree.now (c.is_empty.ensures.0 c.if-is_empty.true)) c.typed_factor.ensures

pub expressions::typed_term-returns : goal.expressions::typed_term-returns
expressions::typed_term-returns t c =
    rw (term_product (known c.args.schema.now) (seen c.args.view.now) c.args.tree.now (λ e. cc (c.is_empty.ensures.1 e, c.if-is_empty.false)))
    (c.calculation.ensures _ _ c.typed_factor-first.ensures (rw (c.as_slice.ensures, c.in_ok-next.ensures.ok (known c.args.schema.now)) at c.multipliers-others.ensures))

pub expressions::typed_factor-returns : goal.expressions::typed_factor-returns
expressions::typed_factor-returns t c = rw (factor_at (known c.args.schema.now) (seen c.args.view.now) c.args.tree.now) c.typed_primary.ensures

pub expressions::typed_primary-returns-in-Number : goal.expressions::typed_primary-returns-in-Number
expressions::typed_primary-returns-in-Number t c = rw (c.in-Number.is, primary_number (known c.args.schema.now) (seen c.args.view.now)) (c.number_constant.ensures _ c.with_sign.ensures)

pub expressions::typed_primary-returns-in-Text : goal.expressions::typed_primary-returns-in-Text
expressions::typed_primary-returns-in-Text t c = rw (c.in-Text.is, primary_text (known c.args.schema.now) (seen c.args.view.now)) (c.after_sign.ensures _ c.text_constant.ensures)

pub expressions::typed_primary-returns-in-Column : goal.expressions::typed_primary-returns-in-Column
expressions::typed_primary-returns-in-Column t c = rw (c.in-Column.is, primary_column (known c.args.schema.now) (seen c.args.view.now)) (c.after_sign-in-Column.ensures _ c.column.ensures)

pub expressions::typed_primary-returns-in-CountRows : goal.expressions::typed_primary-returns-in-CountRows
expressions::typed_primary-returns-in-CountRows t c = rw (c.in-CountRows.is, primary_count_rows (known c.args.schema.now) (seen c.args.view.now)) (c.after_sign-in-CountRows.ensures _ (c.value_seen.ensures _ (c.row_count.ensures (scope_of c.args.view.now))))

pub expressions::typed_primary-returns-in-Aggregate : goal.expressions::typed_primary-returns-in-Aggregate
expressions::typed_primary-returns-in-Aggregate t c =
    rw (c.in-Aggregate.is, primary_aggregate (known c.args.schema.now) (seen c.args.view.now))
    (c.after_sign-in-Aggregate.ensures _ (c.value_seen-in-Aggregate.ensures _
    (aggregate-seen _ c.args.view.now.clause (frames c.args.view.now.scope.now) c.in-Aggregate.function c.in-Aggregate.quantifier (expression_part (known c.args.schema.now) c.in-Aggregate.argument) (rw c.get-argument.ensures at c.typed_aggregate-aggregate.ensures (known c.args.schema.now)))))

pub expressions::typed_primary-returns-in-Parenthesized : goal.expressions::typed_primary-returns-in-Parenthesized
expressions::typed_primary-returns-in-Parenthesized t c =
    rw (c.in-Parenthesized.is, primary_parenthesized (known c.args.schema.now) (seen c.args.view.now))
    (c.after_sign-in-Parenthesized.ensures _ (rw c.get.ensures at c.typed_expression-inner.ensures))

pub expressions::typed_primary-returns-in-Subquery : goal.expressions::typed_primary-returns-in-Subquery
expressions::typed_primary-returns-in-Subquery t c =
    rw (c.in-Subquery.is, primary_subquery (known c.args.schema.now) (seen c.args.view.now))
    (c.after_sign-in-Subquery.ensures _ (c.scalar.ensures _ (c.query_seen.ensures (query_found (known c.args.schema.now) c.in-Subquery.query) (frames c.args.view.now.scope.now) (rw c.get-in-Subquery.ensures at c.typed_query_expression-query.ensures))))

pub conditions::typed_condition-returns-in_err-first : goal.conditions::typed_condition-returns-in_err-first
conditions::typed_condition-returns-in_err-first t c =
    let p = err_from_is_err_and c.from_residual-in_err-first.result c.from_residual-in_err-first.ensures.1 in
    rw (p.1, p.2, condition_at (known c.args.schema.now) (seen c.args.view.now) c.args.tree.now)
    (first_refused disjuncts or_of _ _ (in_order (conjunction_part (known c.args.schema.now)) as_found (out-Condition c.args.tree.now).others (past (conjunction_part (known c.args.schema.now) (out-Condition c.args.tree.now).first) (seen c.args.view.now))) c.in_err-first.ensures)

pub conditions::typed_condition-returns : goal.conditions::typed_condition-returns
conditions::typed_condition-returns t c =
    rw (condition_at (known c.args.schema.now) (seen c.args.view.now) c.args.tree.now, c.in_ok-first.ensures.ok) (rw (c.as_slice.ensures, c.in_ok-next.ensures.ok (known c.args.schema.now)) at c.typed_disjunction.ensures)

pub conditions::typed_disjunction-returns-in_err-operand : goal.conditions::typed_disjunction-returns-in_err-operand
conditions::typed_disjunction-returns-in_err-operand t c =
    let p = err_from_is_err_and c.from_residual-in_err-operand.result c.from_residual-in_err-operand.ensures.1 in
    rw (p.1, p.2) (flattened-refused disjuncts (conjunction_part (known c.args.schema.now)) c.args.others.now c.loop-other.other-index or_of c.other-item.result _ c.loop-other.operands (seen c.loop-other.here) (each (Ok c.args.first ∷ in_order (conjunction_part (known c.args.schema.now)) as_found c.args.others.now (seen c.args.view.now)))
    c.loop-other-test.true c.other-item.is c.loop-other.invariant c.in_err-operand.ensures)

pub conditions::typed_disjunction-returns : goal.conditions::typed_disjunction-returns
conditions::typed_disjunction-returns t c =
    rw c.or_of.ensures
    (record { ok = flattened-done disjuncts (conjunction_part (known c.args.schema.now)) c.args.others.now c.loop-other.other-index or_of c.loop-other.operands (seen c.loop-other.here) (each (Ok c.args.first ∷ in_order (conjunction_part (known c.args.schema.now)) as_found c.args.others.now (seen c.args.view.now))) c.loop-other-test.false c.loop-other.invariant; err = tt })

pub conditions::typed_disjunction-loop-other-init : goal.conditions::typed_disjunction-loop-other-init
conditions::typed_disjunction-loop-other-init t c =
    rw (c.in_ok-add_disjunct.ensures, c.new-operands.ensures) (flattened-start disjuncts c.args.first (each (in_order (conjunction_part (known c.args.schema.now)) as_found c.args.others.now (seen c.args.view.now))))

pub conditions::typed_disjunction-loop-other-preserved : goal.conditions::typed_disjunction-loop-other-preserved
conditions::typed_disjunction-loop-other-preserved t c =
    rw (c.in_ok-add_disjunct-2.ensures, c.in_ok-next.ensures.ok (known c.args.schema.now))
    (flattened-next disjuncts (conjunction_part (known c.args.schema.now)) c.args.others.now c.loop-other.other-index c.other-item.result c.loop-other.operands c.in_ok-operand.operand (seen c.loop-other.here)
    c.loop-other-test.true c.other-item.is c.in_ok-operand.ensures.ok ∙ c.loop-other.invariant)

pub conditions::typed_conjunction-returns-in_err-first : goal.conditions::typed_conjunction-returns-in_err-first
conditions::typed_conjunction-returns-in_err-first t c =
    let p = err_from_is_err_and c.from_residual-in_err-first.result c.from_residual-in_err-first.ensures.1 in
    rw (p.1, p.2, conjunction_at (known c.args.schema.now) (seen c.args.view.now) c.args.tree.now)
    (first_refused conjuncts and_of _ _ (in_order (negation_part (known c.args.schema.now)) as_found (out-Conjunction c.args.tree.now).others (past (negation_part (known c.args.schema.now) (out-Conjunction c.args.tree.now).first) (seen c.args.view.now))) c.in_err-first.ensures)

pub conditions::typed_conjunction-returns : goal.conditions::typed_conjunction-returns
conditions::typed_conjunction-returns t c =
    rw (conjunction_at (known c.args.schema.now) (seen c.args.view.now) c.args.tree.now, c.in_ok-first.ensures.ok) (rw (c.as_slice.ensures, c.in_ok-next.ensures.ok (known c.args.schema.now)) at c.typed_negations.ensures)

pub conditions::typed_negations-returns-in_err-operand : goal.conditions::typed_negations-returns-in_err-operand
conditions::typed_negations-returns-in_err-operand t c =
    let p = err_from_is_err_and c.from_residual-in_err-operand.result c.from_residual-in_err-operand.ensures.1 in
    rw (p.1, p.2) (flattened-refused conjuncts (negation_part (known c.args.schema.now)) c.args.others.now c.loop-other.other-index and_of c.other-item.result _ c.loop-other.operands (seen c.loop-other.here) (each (Ok c.args.first ∷ in_order (negation_part (known c.args.schema.now)) as_found c.args.others.now (seen c.args.view.now)))
    c.loop-other-test.true c.other-item.is c.loop-other.invariant c.in_err-operand.ensures)

pub conditions::typed_negations-returns : goal.conditions::typed_negations-returns
conditions::typed_negations-returns t c =
    rw c.and_of.ensures
    (record { ok = flattened-done conjuncts (negation_part (known c.args.schema.now)) c.args.others.now c.loop-other.other-index and_of c.loop-other.operands (seen c.loop-other.here) (each (Ok c.args.first ∷ in_order (negation_part (known c.args.schema.now)) as_found c.args.others.now (seen c.args.view.now))) c.loop-other-test.false c.loop-other.invariant; err = tt })

pub conditions::typed_negations-loop-other-init : goal.conditions::typed_negations-loop-other-init
conditions::typed_negations-loop-other-init t c =
    rw (c.in_ok-add_conjunct.ensures, c.new-operands.ensures) (flattened-start conjuncts c.args.first (each (in_order (negation_part (known c.args.schema.now)) as_found c.args.others.now (seen c.args.view.now))))

pub conditions::typed_negations-loop-other-preserved : goal.conditions::typed_negations-loop-other-preserved
conditions::typed_negations-loop-other-preserved t c =
    rw (c.in_ok-add_conjunct-2.ensures, c.in_ok-next.ensures.ok (known c.args.schema.now))
    (flattened-next conjuncts (negation_part (known c.args.schema.now)) c.args.others.now c.loop-other.other-index c.other-item.result c.loop-other.operands c.in_ok-operand.operand (seen c.loop-other.here)
    c.loop-other-test.true c.other-item.is c.in_ok-operand.ensures.ok ∙ c.loop-other.invariant)

pub conditions::typed_negation-returns : goal.conditions::typed_negation-returns
conditions::typed_negation-returns t c = rw (negation_at (known c.args.schema.now) (seen c.args.view.now) c.args.tree.now) (c.tested_negation.ensures _ c.typed_predicate-predicate.ensures)

pub conditions::typed_predicate-returns-in-Nested : goal.conditions::typed_predicate-returns-in-Nested
conditions::typed_predicate-returns-in-Nested t c = rw (c.in-Nested.is, predicate_nested (known c.args.schema.now) (seen c.args.view.now)) (rw c.get.ensures at c.typed_condition.ensures)

pub conditions::typed_predicate-returns-in_ok-next-in-Compare : goal.conditions::typed_predicate-returns-in_ok-next-in-Compare
conditions::typed_predicate-returns-in_ok-next-in-Compare t c =
    rw (c.in-Compare.is, predicate_compare (known c.args.schema.now) (seen c.args.view.now))
    (c.compared.ensures _ _ c.typed_expression-x.ensures (rw (c.in_ok-next-in-Compare.ensures.ok (known c.args.schema.now)) at c.typed_expression-y.ensures))

pub conditions::typed_predicate-returns-in_ok-third-in-Between : goal.conditions::typed_predicate-returns-in_ok-third-in-Between
conditions::typed_predicate-returns-in_ok-third-in-Between t c =
    rw (c.in-Between.is, predicate_between (known c.args.schema.now) (seen c.args.view.now))
    (c.between.ensures _ _ _ c.typed_expression-x-in-Between.ensures (rw (c.in_ok-second-in-Between.ensures.ok (known c.args.schema.now)) at c.typed_expression-low.ensures)
    (subst (λ v. Finds c.typed_expression-high.result ((expression_part (known c.args.schema.now) c.in-Between.high).found v))
    (c.in_ok-third-in-Between.ensures.ok (known c.args.schema.now) ∙ ap (past (expression_part (known c.args.schema.now) c.in-Between.low)) (c.in_ok-second-in-Between.ensures.ok (known c.args.schema.now))) c.typed_expression-high.ensures))

pub conditions::typed_predicate-returns-in-InList : goal.conditions::typed_predicate-returns-in-InList
conditions::typed_predicate-returns-in-InList t c = rw (c.in-InList.is, predicate_in_list (known c.args.schema.now) (seen c.args.view.now)) (rw c.as_slice.ensures at c.in_list.ensures _ c.typed_expression-x-in-InList.ensures)

pub conditions::typed_predicate-returns-in-InQuery : goal.conditions::typed_predicate-returns-in-InQuery
conditions::typed_predicate-returns-in-InQuery t c =
    rw (c.in-InQuery.is, predicate_in_query (known c.args.schema.now) (seen c.args.view.now))
    (c.in_query.ensures _ _ c.typed_expression-x-in-InQuery.ensures
    (c.column_of_query-column.ensures _ (c.query_seen.ensures (query_found (known c.args.schema.now) c.in-InQuery.query) (frames c.args.view.now.scope.now) (rw c.get-in-InQuery.ensures at c.typed_query_expression-query.ensures))))

pub conditions::typed_predicate-returns-in_ok-next-in-Like : goal.conditions::typed_predicate-returns-in_ok-next-in-Like
conditions::typed_predicate-returns-in_ok-next-in-Like t c =
    rw (c.in-Like.is, predicate_like (known c.args.schema.now) (seen c.args.view.now))
    (c.like.ensures _ _ c.typed_expression-x-in-Like.ensures (rw (c.in_ok-next-in-Like.ensures.ok (known c.args.schema.now)) at c.typed_expression-pattern.ensures))

pub conditions::typed_predicate-returns-in-IsNull : goal.conditions::typed_predicate-returns-in-IsNull
conditions::typed_predicate-returns-in-IsNull t c = rw (c.in-IsNull.is, predicate_is_null (known c.args.schema.now) (seen c.args.view.now)) (c.null_test.ensures _ c.typed_expression-x-in-IsNull.ensures)

pub conditions::typed_predicate-returns-in-Exists : goal.conditions::typed_predicate-returns-in-Exists
conditions::typed_predicate-returns-in-Exists t c =
    rw (c.in-Exists.is, predicate_exists (known c.args.schema.now) (seen c.args.view.now))
    (c.exists.ensures _ (c.query_seen-in-Exists.ensures (query_found (known c.args.schema.now) c.in-Exists.query) (frames c.args.view.now.scope.now) (rw c.get-in-Exists.ensures at c.typed_query_expression-query-in-Exists.ensures)))

pub queries::typed_query_expression-returns-then-is_empty : goal.queries::typed_query_expression-returns-then-is_empty
queries::typed_query_expression-returns-then-is_empty t c = rw (query-alone (known c.args.schema.now) (frames c.args.scope.now) c.args.tree.now (c.is_empty.ensures.0 c.if-is_empty.true)) c.typed_addend-first.ensures

pub queries::typed_query_expression-returns-in_err-first : goal.queries::typed_query_expression-returns-in_err-first
queries::typed_query_expression-returns-in_err-first t c =
    let p = err_from_is_err_and c.from_residual.result c.from_residual.ensures.1 in
    rw (p.1, p.2) (query-refused (known c.args.schema.now) (frames c.args.scope.now) _ c.args.tree.now c.in_err-first.ensures)

pub queries::typed_query_expression-returns : goal.queries::typed_query_expression-returns
queries::typed_query_expression-returns t c =
    rw (query-chain (known c.args.schema.now) (frames c.args.scope.now) c.args.tree.now c.in_ok-first.first (λ e. cc (c.is_empty.ensures.1 e, c.if-is_empty.false)) c.in_ok-first.ensures.ok)
    (c.combined.ensures _ (rw c.as_slice.ensures at c.typed_addends-others.ensures))

pub queries::typed_addend-returns-then-is_empty : goal.queries::typed_addend-returns-then-is_empty
queries::typed_addend-returns-then-is_empty t c = rw (addend-alone (known c.args.schema.now) (frames c.args.scope.now) c.args.tree.now (c.is_empty.ensures.0 c.if-is_empty.true)) c.typed_operand-first.ensures

pub queries::typed_addend-returns-in_err-first : goal.queries::typed_addend-returns-in_err-first
queries::typed_addend-returns-in_err-first t c =
    let p = err_from_is_err_and c.from_residual.result c.from_residual.ensures.1 in
    rw (p.1, p.2) (addend-refused (known c.args.schema.now) (frames c.args.scope.now) _ c.args.tree.now c.in_err-first.ensures)

pub queries::typed_addend-returns : goal.queries::typed_addend-returns
queries::typed_addend-returns t c =
    rw (addend-chained (known c.args.schema.now) (frames c.args.scope.now) c.args.tree.now c.in_ok-first.first (λ e. cc (c.is_empty.ensures.1 e, c.if-is_empty.false)) c.in_ok-first.ensures.ok)
    (c.combined.ensures _ (rw c.as_slice.ensures at c.typed_operands-others.ensures))

pub queries::typed_addends-returns : goal.queries::typed_addends-returns
queries::typed_addends-returns t c = each-finds (addend_after (known c.args.schema.now) c.args.first.now (frames c.args.scope.now)) c.args.others.now c.loop-operator.operator-index c.loop-operator.operands c.loop-operator-test.false c.loop-operator.invariant

pub queries::typed_addends-returns-in_err-combinable : goal.queries::typed_addends-returns-in_err-combinable
queries::typed_addends-returns-in_err-combinable t c =
    let p = err_from_is_err_and c.from_residual.result c.from_residual.ensures.1 in
    rw (p.1, p.2) (Finds-each_item _ (addend_after (known c.args.schema.now) c.args.first.now (frames c.args.scope.now)) c.args.others.now c.loop-operator.operator-index c.loop-operator-item.result c.loop-operator-test.true c.loop-operator-item.is (rw c.operation.ensures at c.in_err-combinable.ensures _ c.typed_addend-addend.ensures))

pub queries::typed_addends-loop-operator-preserved : goal.queries::typed_addends-loop-operator-preserved
queries::typed_addends-loop-operator-preserved t c =
    rw c.in_ok-push.ensures.ok
    (each-next (addend_after (known c.args.schema.now) c.args.first.now (frames c.args.scope.now)) c.args.others.now c.loop-operator.operator-index c.loop-operator-item.result c.loop-operator.operands c.in_ok-combinable.field-0
    c.loop-operator-test.true c.loop-operator-item.is (rw c.operation.ensures at c.in_ok-combinable.ensures _ c.typed_addend-addend.ensures).ok ∙ c.loop-operator.invariant)

pub queries::typed_operands-returns : goal.queries::typed_operands-returns
queries::typed_operands-returns t c = each-finds (operand_after (known c.args.schema.now) c.args.first.now (frames c.args.scope.now)) c.args.others.now c.loop-all.all-index c.loop-all.operands c.loop-all-test.false c.loop-all.invariant

pub queries::typed_operands-returns-in_err-combinable : goal.queries::typed_operands-returns-in_err-combinable
queries::typed_operands-returns-in_err-combinable t c =
    let p = err_from_is_err_and c.from_residual.result c.from_residual.ensures.1 in
    rw (p.1, p.2) (Finds-each_item _ (operand_after (known c.args.schema.now) c.args.first.now (frames c.args.scope.now)) c.args.others.now c.loop-all.all-index c.loop-all-item.result c.loop-all-test.true c.loop-all-item.is (rw c.intersection.ensures at c.in_err-combinable.ensures _ c.typed_operand-operand.ensures))

pub queries::typed_operands-loop-all-preserved : goal.queries::typed_operands-loop-all-preserved
queries::typed_operands-loop-all-preserved t c =
    rw c.in_ok-push.ensures.ok
    (each-next (operand_after (known c.args.schema.now) c.args.first.now (frames c.args.scope.now)) c.args.others.now c.loop-all.all-index c.loop-all-item.result c.loop-all.operands c.in_ok-combinable.field-0
    c.loop-all-test.true c.loop-all-item.is (rw c.intersection.ensures at c.in_ok-combinable.ensures _ c.typed_operand-operand.ensures).ok ∙ c.loop-all.invariant)

pub queries::typed_operand-returns-in-Select : goal.queries::typed_operand-returns-in-Select
queries::typed_operand-returns-in-Select t c = rw (c.in-Select.is, node.operand_select_at (known c.args.schema.now)) (rw c.get.ensures at c.typed_select.ensures)

pub queries::typed_operand-returns-in-Grouped : goal.queries::typed_operand-returns-in-Grouped
queries::typed_operand-returns-in-Grouped t c = rw (c.in-Grouped.is, node.operand_grouped_at (known c.args.schema.now)) (rw c.get-in-Grouped.ensures at c.typed_query_expression.ensures)

pub queries::typed_select-returns-in_err-from : goal.queries::typed_select-returns-in_err-from
queries::typed_select-returns-in_err-from t c =
    let p = err_from_is_err_and c.from_residual.result c.from_residual.ensures.1 in
    rw (p.1, p.2) (select-refused (known c.args.schema.now) c.args.tree.now (frames c.args.scope.now) _ (rw c.as_slice.ensures at c.in_err-from.ensures))

pub queries::typed_select-returns : goal.queries::typed_select-returns
queries::typed_select-returns t c =
    rw (select-found (known c.args.schema.now) c.args.tree.now (frames c.args.scope.now) c.in_ok-from.from (rw c.as_slice.ensures at c.in_ok-from.ensures.ok))
    (rw c.as_slice-2.ensures at c.select_over.ensures _ (rw c.inside-rows.ensures at c.typed_clauses-settled.ensures))

pub queries::typed_clauses-returns-in_err-key : goal.queries::typed_clauses-returns-in_err-key
queries::typed_clauses-returns-in_err-key t c =
    let p = err_from_is_err_and c.from_residual.result c.from_residual.ensures.1 in
    rw (p.1, p.2) (key-refused (clauses_of (known c.args.schema.now) c.args.tree.now) (frames c.args.rows.now) _ (rw (c.is_grouped.ensures (known c.args.schema.now), c.as_slice.ensures) at c.in_err-key.ensures))

pub queries::typed_clauses-returns : goal.queries::typed_clauses-returns
queries::typed_clauses-returns t c =
    rw (settled-parts (clauses_of (known c.args.schema.now) c.args.tree.now) (frames c.args.rows.now) c.in_ok-key.key (rw (c.is_grouped.ensures (known c.args.schema.now), c.as_slice.ensures) at c.in_ok-key.ensures.ok))
    (c.settled.ensures _ (c.both-3.ensures _ _ c.typed_filter-filter.ensures
    (c.both-2.ensures _ _ (c.shown_functions-functions.ensures (known c.args.schema.now))
    (c.groups_of-groups.ensures _ (c.both.ensures _ _
    (rw (c.grouped-groups.ensures, c.as_ref.ensures.value, c.width_of-2.ensures) at c.typed_list-list.ensures)
    (rw (c.in_ok-after_list.ensures.ok (known c.args.schema.now), c.grouped-groups.ensures, c.as_ref.ensures.value, c.width_of.ensures) at c.typed_filter-having.ensures))))))

pub tables::typed_from-returns : goal.tables::typed_from-returns
tables::typed_from-returns t c =
    rw (c.in-Some.ensures.cases.0, sym (crossed-whole (reference_part (known c.args.schema.now)) (reference_part (known c.args.schema.now) c.in-Some.first.now) c.in-Some.others.now c.loop-other.other-index c.loop-other-test.false))
    (c.loop-other.invariant c.in-Some.first.now c.in-Some.ensures.cases.0)

pub tables::typed_from-loop-other-preserved : goal.tables::typed_from-loop-other-preserved
tables::typed_from-loop-other-preserved t c = λ first e.
    rw (crossed-more (reference_part (known c.args.schema.now)) (reference_part (known c.args.schema.now) first) c.in-Some.others.now c.loop-other.other-index c.other-item.result c.loop-other-test.true c.other-item.is)
    (c.crossed-from.ensures (all_crossed (map (reference_part (known c.args.schema.now)) (take c.loop-other.other-index c.in-Some.others.now)) (reference_part (known c.args.schema.now) first)) (reference_part (known c.args.schema.now) c.other-item.result) (frames c.args.scope.now) (c.loop-other.invariant first e) c.typed_reference.ensures)

pub tables::typed_join-returns-in-Cross : goal.tables::typed_join-returns-in-Cross
tables::typed_join-returns-in-Cross t c = λ from h. rw (c.in-Cross.is, node.join_cross (known c.args.schema.now)) (c.crossed.ensures from (source_part (known c.args.schema.now) c.in-Cross.right) (frames c.args.scope.now) h c.typed_source.ensures)

pub tables::typed_join-returns-in_err-sides-in-Inner : goal.tables::typed_join-returns-in_err-sides-in-Inner
tables::typed_join-returns-in_err-sides-in-Inner t c = λ from h.
    let p = err_from_is_err_and c.from_residual.result c.from_residual.ensures.1 in
    rw (p.1, p.2, c.in-Inner.is, node.join_inner (known c.args.schema.now))
    (on-refused inner_join (condition_part (known c.args.schema.now) _) from (source_part (known c.args.schema.now) c.in-Inner.right) (frames c.args.scope.now) _ (c.in_err-sides-in-Inner.ensures _ (c.both.ensures _ _ h c.typed_source-right.ensures)))

pub tables::typed_join-returns-in_ok-sides-in-Inner : goal.tables::typed_join-returns-in_ok-sides-in-Inner
tables::typed_join-returns-in_ok-sides-in-Inner t c = λ from h.
    rw (c.in-Inner.is, node.join_inner (known c.args.schema.now), on-found inner_join (condition_part (known c.args.schema.now) c.in-Inner.on) from (source_part (known c.args.schema.now) c.in-Inner.right) (frames c.args.scope.now) c.in_ok-sides-in-Inner.sides (c.in_ok-sides-in-Inner.ensures _ (c.both.ensures _ _ h c.typed_source-right.ensures)).ok)
    (c.inner_join.ensures _ (rw (c.get.ensures, c.inside-inner.ensures) at c.typed_condition-on.ensures))

pub tables::typed_join-returns-in_err-sides-in-Left : goal.tables::typed_join-returns-in_err-sides-in-Left
tables::typed_join-returns-in_err-sides-in-Left t c = λ from h.
    let p = err_from_is_err_and c.from_residual-in_err-sides-in-Left.result c.from_residual-in_err-sides-in-Left.ensures.1 in
    rw (p.1, p.2, c.in-Left.is, node.join_left (known c.args.schema.now))
    (on-refused left_join (condition_part (known c.args.schema.now) _) from (source_part (known c.args.schema.now) c.in-Left.right) (frames c.args.scope.now) _ (c.in_err-sides-in-Left.ensures _ (c.both-in-Left.ensures _ _ h c.typed_source-right-in-Left.ensures)))

pub tables::typed_join-returns-in_ok-sides-in-Left : goal.tables::typed_join-returns-in_ok-sides-in-Left
tables::typed_join-returns-in_ok-sides-in-Left t c = λ from h.
    rw (c.in-Left.is, node.join_left (known c.args.schema.now), on-found left_join (condition_part (known c.args.schema.now) c.in-Left.on) from (source_part (known c.args.schema.now) c.in-Left.right) (frames c.args.scope.now) c.in_ok-sides-in-Left.sides (c.in_ok-sides-in-Left.ensures _ (c.both-in-Left.ensures _ _ h c.typed_source-right-in-Left.ensures)).ok)
    (c.left_join.ensures _ (rw (c.get-in-Left.ensures, c.inside-inner-in-Left.ensures) at c.typed_condition-on-in-Left.ensures))

pub tables::typed_reference-returns : goal.tables::typed_reference-returns
tables::typed_reference-returns t c =
    rw (node.reference_is (known c.args.schema.now) c.args.tree.now, sym (joined-whole (join_part (known c.args.schema.now)) (source_part (known c.args.schema.now) (out-TableReference c.args.tree.now).first) (out-TableReference c.args.tree.now).joins c.loop-join.join-index (rw c.as_slice-join-items.ensures at c.loop-join-test.false)))
    (rw c.as_slice-join-items.ensures at c.loop-join.invariant)

pub tables::typed_reference-loop-join-preserved : goal.tables::typed_reference-loop-join-preserved
tables::typed_reference-loop-join-preserved t c =
    rw (joined-more (join_part (known c.args.schema.now)) (source_part (known c.args.schema.now) (out-TableReference c.args.tree.now).first) c.as_slice-join-items.result.now c.loop-join.join-index c.join-item.result c.loop-join-test.true c.join-item.is)
    (c.typed_join-from.ensures _ c.loop-join.invariant)

pub tables::typed_source-returns-in-Table : goal.tables::typed_source-returns-in-Table
tables::typed_source-returns-in-Table t c = rw (c.in-Table.is, node.source_table (known c.args.schema.now)) (c.stored.ensures (frames c.args.scope.now))

pub tables::typed_source-returns-in-Derived : goal.tables::typed_source-returns-in-Derived
tables::typed_source-returns-in-Derived t c = rw (c.in-Derived.is, node.source_derived (known c.args.schema.now)) (rw c.as_text.ensures.text at c.derived.ensures (query_found (known c.args.schema.now) c.in-Derived.query) (frames c.args.scope.now) (rw c.get.ensures at c.typed_query_expression-query.ensures))

pub queries::typed_list-returns-then-len-gt-MAXIMUM_RESULT_COLUMNS : goal.queries::typed_list-returns-then-len-gt-MAXIMUM_RESULT_COLUMNS
queries::typed_list-returns-then-len-gt-MAXIMUM_RESULT_COLUMNS t c = rw c.in-Some.is (list-refused (known c.args.schema.now) c.in-Some.items (record { scope = (frames c.args.scope.now); clause = Shown c.args.first }) (rw c.len.ensures at c.if-len-gt-MAXIMUM_RESULT_COLUMNS.true))

pub queries::typed_list-returns : goal.queries::typed_list-returns
queries::typed_list-returns t c =
    rw (c.in-Some.is, list-found (known c.args.schema.now) c.in-Some.items (record { scope = (frames c.args.scope.now); clause = Shown c.args.first }) (rw c.len.ensures at c.if-len-gt-MAXIMUM_RESULT_COLUMNS.false), sym c.as_slice-item-items.ensures)
    (order-done (item_part (known c.args.schema.now)) as_found c.as_slice-item-items.result.now c.loop-item.item-index c.loop-item.shown (seen c.loop-item.here) _ c.loop-item-test.false c.loop-item.invariant)

pub queries::typed_list-returns-in_err-named : goal.queries::typed_list-returns-in_err-named
queries::typed_list-returns-in_err-named t c =
    let p = err_from_is_err_and c.from_residual-in_err-named.result c.from_residual-in_err-named.ensures.1 in
    rw (p.1, p.2, c.in-Some.is, list-found (known c.args.schema.now) c.in-Some.items (record { scope = (frames c.args.scope.now); clause = Shown c.args.first }) (rw c.len.ensures at c.if-len-gt-MAXIMUM_RESULT_COLUMNS.false), sym c.as_slice-item-items.ensures)
    (order-refused (item_part (known c.args.schema.now)) as_found c.as_slice-item-items.result.now c.loop-item.item-index c.item-item.result _ c.loop-item.shown (seen c.loop-item.here) _
    c.loop-item-test.true c.item-item.is c.loop-item.invariant
    (rw (item_at (known c.args.schema.now) (seen c.loop-item.here) c.item-item.result, sym (c.item_name.ensures (known c.args.schema.now)), sym c.in_ok-name.ensures) (c.in_err-named.ensures _ c.typed_expression-value.ensures)))

pub queries::typed_list-loop-item-preserved : goal.queries::typed_list-loop-item-preserved
queries::typed_list-loop-item-preserved t c =
    rw (c.in_ok-push.ensures.ok, c.in_ok-next.ensures.ok (known c.args.schema.now) ∙ sym (item_past (known c.args.schema.now) (seen c.loop-item.here) c.item-item.result))
    (order-next (item_part (known c.args.schema.now)) as_found c.as_slice-item-items.result.now c.loop-item.item-index c.item-item.result c.loop-item.shown c.in_ok-named.field-0 (seen c.loop-item.here)
    c.loop-item-test.true c.item-item.is
    (rw (item_at (known c.args.schema.now) (seen c.loop-item.here) c.item-item.result, sym (c.item_name.ensures (known c.args.schema.now)), sym c.in_ok-name.ensures) (c.in_ok-named.ensures _ c.typed_expression-value.ensures).ok) ∙ c.loop-item.invariant)

pub tables::typed_from-loop-other-init : goal.tables::typed_from-loop-other-init
tables::typed_from-loop-other-init t c = λ first e.
    let same : c.in-Some.first.now ≡ first = cc (e, c.in-Some.ensures.cases.0) in
    rw same at c.typed_reference-from.ensures
