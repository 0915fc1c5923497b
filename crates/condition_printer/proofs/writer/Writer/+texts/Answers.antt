use Rattle.std.proofs.Common.{◌++◌, ◌∙◌, ap, sym, subst}
use Rattle.std.specs.Prelude.{flat_map}
use Rattle.ast.specs.declared.tree.Join.{out-Join}
use Rattle.ast.specs.declared.tree.Join.TheVariants.{outs-Cross, outs-Inner, outs-Left}
use Rattle.ast.specs.declared.tree.Operand.{out-Operand}
use Rattle.ast.specs.declared.tree.Operand.TheVariants.{outs-Select, outs-Grouped}
use Rattle.ast.specs.declared.tree.Predicate.{out-Predicate}
use Rattle.ast.specs.declared.tree.Predicate.TheVariants.{outs-Nested, outs-Compare, outs-Between, outs-InList, outs-InQuery, outs-Like, outs-IsNull, outs-Exists}
use Rattle.ast.specs.declared.tree.Primary.{out-Primary}
use Rattle.ast.specs.declared.tree.Primary.TheVariants.{outs-Number, outs-Text, outs-Column, outs-CountRows, outs-Aggregate, outs-Parenthesized, outs-Subquery}
use Rattle.ast.specs.declared.tree.TableSource.{out-TableSource}
use Rattle.ast.specs.declared.tree.TableSource.TheVariants.{outs-Table, outs-Derived}
use Rattle.ast.specs.Words.{IN, LIKE, NOT}
use Rattle.typing.specs.Tokens.{if_written}
use Rattle.condition_printer.specs.Trees.{Puts, expression_tokens, item_tokens, join_tokens, reference_tokens}
use Rattle.condition_printer.proofs.Parts.{◌⨟◌, all_listed, before, done, ended, turn, written}
use Rattle.condition_printer.proofs.Productions.{addend, combined, condition, conjunct, conjunction, disjunct, expression, factor, intersected, join, multiplier, negation, next_item, next_reference, operand, predicate, primary, query, select, select_item, summand, table_reference, table_source, term, test}
use Rattle.condition_printer.proofs.writer.Writer.+texts.Goals as goal

-- ---- expressions

pub expression-loop-operator-preserved : goal.expression-loop-operator-preserved
expression-loop-operator-preserved t c =
    turn summand _ _ _ c.loop-operator-test.true c.loop-operator-item.is c.loop-operator.invariant
    (written c.add_symbol.ensures c.in_ok-symbol.ensures ⨟ c.in_ok-term-2.ensures)

pub expression-returns : goal.expression-returns
expression-returns t c = expression c.args.expression.now c.in_ok-term.ensures
    (subst (λ xs. Puts (flat_map summand xs) c.term.new.self c.loop-operator.self) c.as_slice-operator-items.ensures
    (ended summand _ _ c.loop-operator-test.false c.loop-operator.invariant))

pub term-loop-operator-preserved : goal.term-loop-operator-preserved
term-loop-operator-preserved t c =
    turn multiplier _ _ _ c.loop-operator-test.true c.loop-operator-item.is c.loop-operator.invariant
    (written c.multiply_symbol.ensures c.in_ok-symbol.ensures ⨟ c.in_ok-factor-2.ensures)

pub term-returns : goal.term-returns
term-returns t c = term c.args.term.now c.in_ok-factor.ensures
    (subst (λ xs. Puts (flat_map multiplier xs) c.factor.new.self c.loop-operator.self) c.as_slice-operator-items.ensures
    (ended multiplier _ _ c.loop-operator-test.false c.loop-operator.invariant))

pub factor-returns : goal.factor-returns
factor-returns t c =
    done c.primary.result (factor c.args.factor.now c.in_ok-maybe.ensures) c.primary.ensures

pub primary-returns-in-Number : goal.primary-returns-in-Number
primary-returns-in-Number t c =
    done c.number.result (λ last. primary c.args.primary.now (ap out-Primary c.in-Number.is ∙ outs-Number _) last) c.number.ensures

pub primary-returns-in-Text : goal.primary-returns-in-Text
primary-returns-in-Text t c =
    done c.text.result (λ last. primary c.args.primary.now (ap out-Primary c.in-Text.is ∙ outs-Text _) (last)) c.text.ensures

pub primary-returns-in-Column : goal.primary-returns-in-Column
primary-returns-in-Column t c =
    done c.write.result (λ last. primary c.args.primary.now (ap out-Primary c.in-Column.is ∙ outs-Column _) (last)) c.write.ensures

pub primary-returns-in-CountRows : goal.primary-returns-in-CountRows
primary-returns-in-CountRows t c =
    done c.count_rows.result (λ last. primary c.args.primary.now (ap out-Primary c.in-CountRows.is ∙ outs-CountRows) (last)) c.count_rows.ensures

pub primary-returns-in_ok-expression-in-Aggregate : goal.primary-returns-in_ok-expression-in-Aggregate
primary-returns-in_ok-expression-in-Aggregate t c =
    done c.symbol-in-Aggregate.result (λ last. primary c.args.primary.now (ap out-Primary c.in-Aggregate.is ∙ outs-Aggregate _ _ _) (
    written c.set_function_word.ensures c.in_ok-word-in-Aggregate.ensures ⨟
    (c.in_ok-symbol-in-Aggregate.ensures ⨟ (c.in_ok-maybe-in-Aggregate.ensures ⨟ (rw c.get.ensures at c.in_ok-expression-in-Aggregate.ensures)) ⨟ last))) c.symbol-in-Aggregate.ensures

pub primary-returns-in_ok-expression-in-Parenthesized : goal.primary-returns-in_ok-expression-in-Parenthesized
primary-returns-in_ok-expression-in-Parenthesized t c =
    done c.symbol-in-Parenthesized-2.result (λ last. primary c.args.primary.now (ap out-Primary c.in-Parenthesized.is ∙ outs-Parenthesized _) (
    c.in_ok-symbol-in-Parenthesized.ensures ⨟ (rw c.get-in-Parenthesized.ensures at c.in_ok-expression-in-Parenthesized.ensures) ⨟ last)) c.symbol-in-Parenthesized-2.ensures

pub primary-returns-in-Subquery : goal.primary-returns-in-Subquery
primary-returns-in-Subquery t c =
    done c.subquery.result (λ last. primary c.args.primary.now (ap out-Primary c.in-Subquery.is ∙ outs-Subquery _) (last)) c.subquery.ensures

pub subquery-returns : goal.subquery-returns
subquery-returns t c =
    done c.symbol-2.result
    (λ last. c.in_ok-symbol.ensures ⨟ (rw c.get.ensures at c.in_ok-query.ensures) ⨟ last) c.symbol-2.ensures

-- ---- conditions

pub condition-loop-conjunction-preserved : goal.condition-loop-conjunction-preserved
condition-loop-conjunction-preserved t c =
    turn disjunct _ _ _ c.loop-conjunction-test.true c.conjunction-item.is c.loop-conjunction.invariant
    (c.in_ok-word.ensures ⨟ c.in_ok-conjunction-2.ensures)

pub condition-returns : goal.condition-returns
condition-returns t c = condition c.args.condition.now c.in_ok-conjunction.ensures
    (subst (λ xs. Puts (flat_map disjunct xs) c.conjunction.new.self c.loop-conjunction.self) c.as_slice-conjunction-items.ensures
    (ended disjunct _ _ c.loop-conjunction-test.false c.loop-conjunction.invariant))

pub conjunction-loop-negation-preserved : goal.conjunction-loop-negation-preserved
conjunction-loop-negation-preserved t c =
    turn conjunct _ _ _ c.loop-negation-test.true c.negation-item.is c.loop-negation.invariant
    (c.in_ok-word.ensures ⨟ c.in_ok-negation-2.ensures)

pub conjunction-returns : goal.conjunction-returns
conjunction-returns t c = conjunction c.args.conjunction.now c.in_ok-negation.ensures
    (subst (λ xs. Puts (flat_map conjunct xs) c.negation.new.self c.loop-negation.self) c.as_slice-negation-items.ensures
    (ended conjunct _ _ c.loop-negation-test.false c.loop-negation.invariant))

pub negation-returns : goal.negation-returns
negation-returns t c =
    done c.test.result (negation c.args.negation.now c.in_ok-word_if.ensures) c.test.ensures

pub test-returns : goal.test-returns
test-returns t c =
    done c.maybe.result (test c.args.test.now c.in_ok-predicate.ensures) c.maybe.ensures

pub predicate-returns-in-Nested : goal.predicate-returns-in-Nested
predicate-returns-in-Nested t c =
    done c.nested.result (λ last. predicate c.args.predicate.now (ap out-Predicate c.in-Nested.is ∙ outs-Nested _) last) c.nested.ensures

pub predicate-returns-in_ok-symbol-in-Compare : goal.predicate-returns-in_ok-symbol-in-Compare
predicate-returns-in_ok-symbol-in-Compare t c =
    done c.expression-in-Compare.result (λ last. predicate c.args.predicate.now (ap out-Predicate c.in-Compare.is ∙ outs-Compare _ _ _) (
    c.in_ok-expression-in-Compare.ensures ⨟ written c.comparison_symbol.ensures c.in_ok-symbol-in-Compare.ensures ⨟ last)) c.expression-in-Compare.ensures

pub predicate-returns-in_ok-word-in-Between-2 : goal.predicate-returns-in_ok-word-in-Between-2
predicate-returns-in_ok-word-in-Between-2 t c =
    done c.expression-in-Between-3.result (λ last. predicate c.args.predicate.now (ap out-Predicate c.in-Between.is ∙ outs-Between _ _ _ _) (
    c.in_ok-expression-in-Between.ensures ⨟ c.in_ok-word_if-in-Between.ensures ⨟
    (c.in_ok-word-in-Between.ensures ⨟ c.in_ok-expression-in-Between-2.ensures) ⨟ (c.in_ok-word-in-Between-2.ensures ⨟ last))) c.expression-in-Between-3.ensures

pub predicate-returns-in_ok-operand_before-in-InList : goal.predicate-returns-in_ok-operand_before-in-InList
predicate-returns-in_ok-operand_before-in-InList t c =
    done c.literals.result (λ last. predicate c.args.predicate.now (ap out-Predicate c.in-InList.is ∙ outs-InList _ _ _)
    (before (expression_tokens c.in-InList.operand ++ if_written c.in-InList.is_negated NOT) IN c.in_ok-operand_before-in-InList.ensures (rw c.as_slice.ensures at last))) c.literals.ensures

pub predicate-returns-in_ok-operand_before-in-InQuery : goal.predicate-returns-in_ok-operand_before-in-InQuery
predicate-returns-in_ok-operand_before-in-InQuery t c =
    done c.subquery.result (λ last. predicate c.args.predicate.now (ap out-Predicate c.in-InQuery.is ∙ outs-InQuery _ _ _)
    (before (expression_tokens c.in-InQuery.operand ++ if_written c.in-InQuery.is_negated NOT) IN c.in_ok-operand_before-in-InQuery.ensures last)) c.subquery.ensures

pub predicate-returns-in_ok-operand_before-in-Like : goal.predicate-returns-in_ok-operand_before-in-Like
predicate-returns-in_ok-operand_before-in-Like t c =
    done c.expression-in-Like.result (λ last. predicate c.args.predicate.now (ap out-Predicate c.in-Like.is ∙ outs-Like _ _ _)
    (before (expression_tokens c.in-Like.operand ++ if_written c.in-Like.is_negated NOT) LIKE c.in_ok-operand_before-in-Like.ensures last)) c.expression-in-Like.ensures

pub predicate-returns-in-IsNull : goal.predicate-returns-in-IsNull
predicate-returns-in-IsNull t c =
    done c.null_test.result (λ last. predicate c.args.predicate.now (ap out-Predicate c.in-IsNull.is ∙ outs-IsNull _ _) last) c.null_test.ensures

pub predicate-returns-in_ok-word-in-Exists : goal.predicate-returns-in_ok-word-in-Exists
predicate-returns-in_ok-word-in-Exists t c =
    done c.subquery-in-Exists.result (λ last. predicate c.args.predicate.now (ap out-Predicate c.in-Exists.is ∙ outs-Exists _) (
    c.in_ok-word-in-Exists.ensures ⨟ last)) c.subquery-in-Exists.ensures

pub nested-returns : goal.nested-returns
nested-returns t c =
    done c.symbol-2.result (λ last. c.in_ok-symbol.ensures ⨟ (rw c.get.ensures at c.in_ok-condition.ensures) ⨟ last) c.symbol-2.ensures

pub operand_before-returns : goal.operand_before-returns
operand_before-returns t c =
    done c.word.result (λ last. c.in_ok-expression.ensures ⨟ c.in_ok-word_if.ensures ⨟ last) c.word.ensures

pub null_test-returns : goal.null_test-returns
null_test-returns t c =
    done c.word-2.result
    (λ last. c.in_ok-expression.ensures ⨟ (c.in_ok-word.ensures ⨟ c.in_ok-word_if.ensures) ⨟ last) c.word-2.ensures

-- ---- queries

pub query-loop-operator-preserved : goal.query-loop-operator-preserved
query-loop-operator-preserved t c =
    turn combined _ _ _ c.loop-operator-test.true c.loop-operator-item.is c.loop-operator.invariant
    (c.in_ok-write.ensures ⨟ c.in_ok-addend-2.ensures)

pub query-returns : goal.query-returns
query-returns t c = query c.args.query.now c.in_ok-addend.ensures
    (subst (λ xs. Puts (flat_map combined xs) c.addend.new.self c.loop-operator.self) c.as_slice-operator-items.ensures
    (ended combined _ _ c.loop-operator-test.false c.loop-operator.invariant))

pub addend-loop-has_all-preserved : goal.addend-loop-has_all-preserved
addend-loop-has_all-preserved t c =
    turn intersected _ _ _ c.loop-has_all-test.true c.loop-has_all-item.is c.loop-has_all.invariant
    ((c.in_ok-word.ensures ⨟ c.in_ok-word_if.ensures) ⨟ c.in_ok-operand-2.ensures)

pub addend-returns : goal.addend-returns
addend-returns t c = addend c.args.addend.now c.in_ok-operand.ensures
    (subst (λ xs. Puts (flat_map intersected xs) c.operand.new.self c.loop-has_all.self) c.as_slice-has_all-items.ensures
    (ended intersected _ _ c.loop-has_all-test.false c.loop-has_all.invariant))

pub operand-returns-in-Select : goal.operand-returns-in-Select
operand-returns-in-Select t c =
    done c.select.result (λ last. operand c.args.operand.now (ap out-Operand c.in-Select.is ∙ outs-Select _) (rw c.get.ensures at last)) c.select.ensures

pub operand-returns-in-Grouped : goal.operand-returns-in-Grouped
operand-returns-in-Grouped t c =
    done c.subquery.result (λ last. operand c.args.operand.now (ap out-Operand c.in-Grouped.is ∙ outs-Grouped _) (last)) c.subquery.ensures

pub select-returns : goal.select-returns
select-returns t c =
    done c.filter-2.result
    (select c.args.select.now c.in_ok-word.ensures c.in_ok-maybe.ensures c.in_ok-select_items.ensures c.in_ok-word-2.ensures
    (rw c.as_slice.ensures at c.in_ok-table_references.ensures) c.in_ok-filter.ensures (rw c.as_slice-2.ensures at c.in_ok-groups.ensures))
    c.filter-2.ensures

pub select_items-returns-in_default : goal.select_items-returns-in_default
select_items-returns-in_default t c =
    done c.symbol.result (λ last. rw c.in_default.is last) c.symbol.ensures

pub select_items-loop-item-preserved : goal.select_items-loop-item-preserved
select_items-loop-item-preserved t c =
    turn next_item _ _ _ c.loop-item-test.true c.item-item.is c.loop-item.invariant
    (c.in_ok-symbol.ensures ⨟ c.in_ok-select_item-2.ensures)

pub select_items-returns-after-loop-item : goal.select_items-returns-after-loop-item
select_items-returns-after-loop-item t c =
    rw (c.in-Some.is, sym c.as_slice.ensures)
    (all_listed item_tokens _ _ _ c.in-len1-up.len_at_least c.first-item.is c.loop-item-test.false c.in_ok-select_item.ensures c.loop-item.invariant)

pub select_item-returns : goal.select_item-returns
select_item-returns t c =
    done c.maybe.result (select_item c.args.item.now c.in_ok-expression.ensures) c.maybe.ensures

pub table_references-loop-reference-preserved : goal.table_references-loop-reference-preserved
table_references-loop-reference-preserved t c =
    turn next_reference _ _ _ c.loop-reference-test.true c.reference-item.is c.loop-reference.invariant
    (c.in_ok-symbol.ensures ⨟ c.in_ok-table_reference-2.ensures)

pub table_references-returns-after-loop-reference : goal.table_references-returns-after-loop-reference
table_references-returns-after-loop-reference t c =
    all_listed reference_tokens _ _ _ c.in-len1-up.len_at_least c.first-item.is c.loop-reference-test.false c.in_ok-table_reference.ensures c.loop-reference.invariant

pub table_reference-loop-join-preserved : goal.table_reference-loop-join-preserved
table_reference-loop-join-preserved t c = turn join_tokens _ _ _ c.loop-join-test.true c.join-item.is c.loop-join.invariant c.in_ok-join.ensures

pub table_reference-returns : goal.table_reference-returns
table_reference-returns t c = table_reference c.args.reference.now c.in_ok-table_source.ensures
    (subst (λ xs. Puts (flat_map join_tokens xs) c.table_source.new.self c.loop-join.self) c.as_slice-join-items.ensures
    (ended join_tokens _ _ c.loop-join-test.false c.loop-join.invariant))

pub join-returns-in_ok-word-in-Cross-2 : goal.join-returns-in_ok-word-in-Cross-2
join-returns-in_ok-word-in-Cross-2 t c =
    done c.table_source.result (λ last. join c.args.join.now (ap out-Join c.in-Cross.is ∙ outs-Cross _) (
    c.in_ok-word-in-Cross.ensures ⨟ c.in_ok-word-in-Cross-2.ensures ⨟ last)) c.table_source.ensures

pub join-returns-in_ok-word-in-Inner-2 : goal.join-returns-in_ok-word-in-Inner-2
join-returns-in_ok-word-in-Inner-2 t c =
    done c.condition.result (λ last. join c.args.join.now (ap out-Join c.in-Inner.is ∙ outs-Inner _ _ _) (
    c.in_ok-word_if-in-Inner.ensures ⨟ (c.in_ok-word-in-Inner.ensures ⨟ c.in_ok-table_source-in-Inner.ensures) ⨟
    (c.in_ok-word-in-Inner-2.ensures ⨟ (rw c.get.ensures at last)))) c.condition.ensures

pub join-returns-in_ok-word-in-Left-3 : goal.join-returns-in_ok-word-in-Left-3
join-returns-in_ok-word-in-Left-3 t c =
    done c.condition-in-Left.result (λ last. join c.args.join.now (ap out-Join c.in-Left.is ∙ outs-Left _ _ _) (
    (c.in_ok-word-in-Left.ensures ⨟ c.in_ok-word_if-in-Left.ensures) ⨟ (c.in_ok-word-in-Left-2.ensures ⨟ c.in_ok-table_source-in-Left.ensures) ⨟
    (c.in_ok-word-in-Left-3.ensures ⨟ (rw c.get-in-Left.ensures at last)))) c.condition-in-Left.ensures

pub table_source-returns-in_ok-name-in-Table : goal.table_source-returns-in_ok-name-in-Table
table_source-returns-in_ok-name-in-Table t c =
    done c.maybe.result (λ last. table_source c.args.source.now (ap out-TableSource c.in-Table.is ∙ outs-Table _ _) (c.in_ok-name-in-Table.ensures ⨟ last)) c.maybe.ensures

pub table_source-returns-in_ok-subquery-in-Derived : goal.table_source-returns-in_ok-subquery-in-Derived
table_source-returns-in_ok-subquery-in-Derived t c =
    done c.write.result (λ last. table_source c.args.source.now (ap out-TableSource c.in-Derived.is ∙ outs-Derived _ _) (c.in_ok-subquery-in-Derived.ensures ⨟ last)) c.write.ensures

pub filter-returns-in_ok-word-in-Some : goal.filter-returns-in_ok-word-in-Some
filter-returns-in_ok-word-in-Some t c =
    done c.condition.result
    (λ last. rw c.in-Some.is (c.in_ok-word-in-Some.ensures ⨟ (rw c.get.ensures at last))) c.condition.ensures
