use Rattle.std.proofs.Common.{◌≡◌, IfOk, subst, sym}
use Rattle.ast.specs.declared.tree.Addend.{roll-out-Addend}
use Rattle.ast.specs.declared.tree.Condition.{roll-out-Condition}
use Rattle.ast.specs.declared.tree.Conjunction.{roll-out-Conjunction}
use Rattle.ast.specs.declared.tree.Expression.{roll-out-Expression}
use Rattle.ast.specs.declared.tree.Query.{roll-out-Query}
use Rattle.ast.specs.declared.tree.Select.{roll-out-Select}
use Rattle.ast.specs.declared.tree.SelectItem.{roll-out-SelectItem}
use Rattle.ast.specs.declared.tree.TableReference.{roll-out-TableReference}
use Rattle.ast.specs.declared.tree.Term.{roll-out-Term}
use Rattle.ast_copies.proofs.Taken.{taken}
use Rattle.ast_copies.proofs.+copies.Goals as goal

-- ---- chains

pub expressions::copy_expression-returns : goal.expressions::copy_expression-returns
expressions::copy_expression-returns t c =
    record { copied = rw (c.in_ok-first.ensures.first _ c.copy_term-first.ensures, c.in_ok-first.ensures.second _ c.copy_terms.ensures) (roll-out-Expression _) }

pub expressions::copy_term-returns : goal.expressions::copy_term-returns
expressions::copy_term-returns t c =
    rw (c.in_ok-first.ensures.first _ c.copy_factor-first.ensures, c.in_ok-first.ensures.second _ c.copy_factors.ensures) (roll-out-Term _)

pub conditions::copy_condition-returns : goal.conditions::copy_condition-returns
conditions::copy_condition-returns t c =
    record { copied = rw (c.in_ok-first.ensures.first _ c.copy_conjunction-first.ensures, c.in_ok-first.ensures.second _ c.copy_conjunctions.ensures) (roll-out-Condition _) }

pub conditions::copy_conjunction-returns : goal.conditions::copy_conjunction-returns
conditions::copy_conjunction-returns t c =
    rw (c.in_ok-first.ensures.first _ c.copy_negation-first.ensures, c.in_ok-first.ensures.second _ c.copy_negations.ensures) (roll-out-Conjunction _)

pub queries::copy_query-returns : goal.queries::copy_query-returns
queries::copy_query-returns t c =
    record { copied = rw (c.in_ok-first.ensures.first _ c.copy_addend-first.ensures, c.in_ok-first.ensures.second _ c.copy_addends.ensures) (roll-out-Query _) }

pub queries::copy_addend-returns : goal.queries::copy_addend-returns
queries::copy_addend-returns t c =
    rw (c.in_ok-first.ensures.first _ c.copy_operand-first.ensures, c.in_ok-first.ensures.second _ c.copy_operands.ensures) (roll-out-Addend _)

pub queries::copy_table_reference-returns : goal.queries::copy_table_reference-returns
queries::copy_table_reference-returns t c =
    rw (c.in_ok-first.ensures.first _ c.copy_table_source-first.ensures, c.in_ok-first.ensures.second _ c.copy_joins.ensures) (roll-out-TableReference _)

-- ---- lists of pairs

pub expressions::copy_terms-loop-operator-preserved : goal.expressions::copy_terms-loop-operator-preserved
expressions::copy_terms-loop-operator-preserved t c =
    taken _ _ c.loop-operator-item.result c.loop-operator-test.true c.loop-operator-item.is c.loop-operator.invariant (c.in_ok-copied.ensures _ (c.with.ensures _ c.copy_term.ensures))

pub expressions::copy_factors-loop-operator-preserved : goal.expressions::copy_factors-loop-operator-preserved
expressions::copy_factors-loop-operator-preserved t c =
    taken _ _ c.loop-operator-item.result c.loop-operator-test.true c.loop-operator-item.is c.loop-operator.invariant (c.in_ok-copied.ensures _ (c.with.ensures _ c.copy_factor.ensures))

pub queries::copy_addends-loop-operator-preserved : goal.queries::copy_addends-loop-operator-preserved
queries::copy_addends-loop-operator-preserved t c =
    taken _ _ c.loop-operator-item.result c.loop-operator-test.true c.loop-operator-item.is c.loop-operator.invariant (c.in_ok-copied.ensures _ (c.with.ensures _ c.copy_addend.ensures))

pub queries::copy_operands-loop-has_all-preserved : goal.queries::copy_operands-loop-has_all-preserved
queries::copy_operands-loop-has_all-preserved t c =
    taken _ _ c.loop-has_all-item.result c.loop-has_all-test.true c.loop-has_all-item.is c.loop-has_all.invariant (c.in_ok-copied.ensures _ (c.with.ensures _ c.copy_operand.ensures))

-- ---- parts on the heap

pub expressions::copy_boxed_expression-returns : goal.expressions::copy_boxed_expression-returns
expressions::copy_boxed_expression-returns t c =
    subst (λ x. IfOk c.boxed.result (λ copied. copied ≡ x)) c.get.ensures (c.boxed.ensures _ c.copy_expression.ensures.copied)

pub conditions::copy_boxed_condition-returns : goal.conditions::copy_boxed_condition-returns
conditions::copy_boxed_condition-returns t c =
    subst (λ x. IfOk c.boxed.result (λ copied. copied ≡ x)) c.get.ensures (c.boxed.ensures _ c.copy_condition.ensures.copied)

pub queries::copy_boxed_query-returns : goal.queries::copy_boxed_query-returns
queries::copy_boxed_query-returns t c =
    subst (λ x. IfOk c.boxed.result (λ copied. copied ≡ x)) c.get.ensures (c.boxed.ensures _ c.copy_query.ensures.copied)

pub queries::copy_boxed_select-returns : goal.queries::copy_boxed_select-returns
queries::copy_boxed_select-returns t c =
    subst (λ x. IfOk c.boxed.result (λ copied. copied ≡ x)) c.get.ensures (c.boxed.ensures _ c.copy_select.ensures)

pub queries::copy_filter-returns-in-Some : goal.queries::copy_filter-returns-in-Some
queries::copy_filter-returns-in-Some t c =
    rw c.in-Some.is
    (c.some.ensures _ (subst (λ x. IfOk c.boxed.result (λ copied. copied ≡ x)) c.get.ensures (c.boxed.ensures _ c.copy_condition.ensures.copied)))

-- ---- predicates

pub conditions::copy_predicate-returns-in_ok-left-in-Compare : goal.conditions::copy_predicate-returns-in_ok-left-in-Compare
conditions::copy_predicate-returns-in_ok-left-in-Compare t c =
    rw (c.in_ok-left-in-Compare.ensures.first _ c.copy_expression-left.ensures.copied, c.in_ok-left-in-Compare.ensures.second _ c.copy_expression.ensures.copied) (sym c.in-Compare.is)

pub conditions::copy_predicate-returns-in_ok-operand-in-Between : goal.conditions::copy_predicate-returns-in_ok-operand-in-Between
conditions::copy_predicate-returns-in_ok-operand-in-Between t c =
    rw (c.in_ok-operand-in-Between.ensures.first _ c.copy_expression-in-Between.ensures.copied, c.in_ok-operand-in-Between.ensures.second _ c.copy_expression-in-Between-2.ensures.copied, c.in_ok-operand-in-Between.ensures.third _ c.copy_expression-in-Between-3.ensures.copied) (sym c.in-Between.is)

pub conditions::copy_predicate-returns-in_ok-operand-in-InList : goal.conditions::copy_predicate-returns-in_ok-operand-in-InList
conditions::copy_predicate-returns-in_ok-operand-in-InList t c =
    rw (c.in_ok-operand-in-InList.ensures.first _ c.copy_expression-operand.ensures.copied, c.in_ok-operand-in-InList.ensures.second _ c.copy.ensures) (sym c.in-InList.is)

pub conditions::copy_predicate-returns-in_ok-operand-in-InQuery : goal.conditions::copy_predicate-returns-in_ok-operand-in-InQuery
conditions::copy_predicate-returns-in_ok-operand-in-InQuery t c =
    rw (c.in_ok-operand-in-InQuery.ensures.first _ c.copy_expression-operand-in-InQuery.ensures.copied, c.in_ok-operand-in-InQuery.ensures.second _ c.copy_boxed_query.ensures) (sym c.in-InQuery.is)

pub conditions::copy_predicate-returns-in_ok-operand-in-Like : goal.conditions::copy_predicate-returns-in_ok-operand-in-Like
conditions::copy_predicate-returns-in_ok-operand-in-Like t c =
    rw (c.in_ok-operand-in-Like.ensures.first _ c.copy_expression-operand-in-Like.ensures.copied, c.in_ok-operand-in-Like.ensures.second _ c.copy_expression-in-Like.ensures.copied) (sym c.in-Like.is)

-- ---- queries

pub queries::copy_select-returns : goal.queries::copy_select-returns
queries::copy_select-returns t c =
    rw (
      c.in_ok-items.ensures.first _ c.copy_select_items.ensures,
      c.in_ok-items.ensures.second _ c.copy_table_references.ensures,
      c.in_ok-items.ensures.third _ c.copy_filter.ensures,
      c.in_ok-items.ensures.fourth _ c.copy.ensures,
      c.in_ok-items.ensures.fifth _ c.copy_filter-2.ensures,
    ) (roll-out-Select _)

pub queries::copy_select_item-returns : goal.queries::copy_select_item-returns
queries::copy_select_item-returns t c =
    rw (c.in_ok-value.ensures.first _ c.copy_expression-value.ensures.copied, c.in_ok-value.ensures.second _ c.copy.ensures) (roll-out-SelectItem _)

pub queries::copy_join-returns-in_ok-source-in-Inner : goal.queries::copy_join-returns-in_ok-source-in-Inner
queries::copy_join-returns-in_ok-source-in-Inner t c =
    rw (c.in_ok-source-in-Inner.ensures.first _ c.copy_table_source-source.ensures, c.in_ok-source-in-Inner.ensures.second _ c.copy_boxed_condition.ensures) (sym c.in-Inner.is)

pub queries::copy_join-returns-in_ok-source-in-Left : goal.queries::copy_join-returns-in_ok-source-in-Left
queries::copy_join-returns-in_ok-source-in-Left t c =
    rw (c.in_ok-source-in-Left.ensures.first _ c.copy_table_source-source-in-Left.ensures, c.in_ok-source-in-Left.ensures.second _ c.copy_boxed_condition-in-Left.ensures) (sym c.in-Left.is)

pub queries::copy_table_source-returns-in_ok-name-in-Table : goal.queries::copy_table_source-returns-in_ok-name-in-Table
queries::copy_table_source-returns-in_ok-name-in-Table t c =
    rw (c.in_ok-name-in-Table.ensures.first _ c.copy.ensures.copied, c.in_ok-name-in-Table.ensures.second _ c.copy-in-Table.ensures) (sym c.in-Table.is)

pub queries::copy_table_source-returns-in_ok-query-in-Derived : goal.queries::copy_table_source-returns-in_ok-query-in-Derived
queries::copy_table_source-returns-in_ok-query-in-Derived t c =
    rw (c.in_ok-query-in-Derived.ensures.first _ c.copy_boxed_query.ensures, c.in_ok-query-in-Derived.ensures.second _ c.copy-in-Derived.ensures) (sym c.in-Derived.is)
