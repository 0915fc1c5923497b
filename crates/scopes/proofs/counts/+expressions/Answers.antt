use Rattle.std.proofs.Common.{refl, sym, ap, ◌∙◌, ◌+◌}
use Rattle.ast.specs.declared.tree.Expression.{out-Expression}
use Rattle.ast.specs.declared.tree.Term.{out-Term}
use Rattle.typing.specs.Typing.{factor_part, term_part}
use Rattle.scopes.specs.Seen.{capped, count_of}
use Rattle.scopes.proofs.Counted.{counted, counted-all, capped-sum, expression-count, term-count, rows-count, aggregate-count, inner-count, number-count, text-count, column-count, query-count}
use Rattle.scopes.proofs.counts.+expressions.Goals as goal

pub count_in_factor-returns-in-CountRows : goal.count_in_factor-returns-in-CountRows
count_in_factor-returns-in-CountRows t c = λ k. rw (rows-count k c.args.tree.now c.in-CountRows.is) refl

pub count_in_factor-returns-in-Aggregate : goal.count_in_factor-returns-in-Aggregate
count_in_factor-returns-in-Aggregate t c = λ k. rw (aggregate-count k c.args.tree.now _ _ _ c.in-Aggregate.is) refl

pub count_in_factor-returns-in-Parenthesized : goal.count_in_factor-returns-in-Parenthesized
count_in_factor-returns-in-Parenthesized t c = λ k. rw (inner-count k c.args.tree.now _ c.in-Parenthesized.is) (rw c.get.ensures at c.count_in_expression.ensures k)

pub count_in_factor-returns-in-Number : goal.count_in_factor-returns-in-Number
count_in_factor-returns-in-Number t c = λ k. rw (number-count k c.args.tree.now _ c.in-Number.is) refl

pub count_in_factor-returns-in-Text : goal.count_in_factor-returns-in-Text
count_in_factor-returns-in-Text t c = λ k. rw (text-count k c.args.tree.now _ c.in-Text.is) refl

pub count_in_factor-returns-in-Column : goal.count_in_factor-returns-in-Column
count_in_factor-returns-in-Column t c = λ k. rw (column-count k c.args.tree.now _ c.in-Column.is) refl

pub count_in_factor-returns-in-Subquery : goal.count_in_factor-returns-in-Subquery
count_in_factor-returns-in-Subquery t c = λ k. rw (query-count k c.args.tree.now _ c.in-Subquery.is) refl

pub count_in_expression-returns : goal.count_in_expression-returns
count_in_expression-returns t c = λ k.
    c.loop-term.invariant k
    ∙ ap (λ n. capped (count_of (term_part k (out-Expression c.args.tree.now).first) + n))
    (counted-all (λ o. term_part k o.1) c.as_slice-term-items.result.now c.loop-term.term-index c.loop-term-test.false ∙ ap (counted (λ o. term_part k o.1)) c.as_slice-term-items.ensures)
    ∙ ap capped (sym (expression-count k c.args.tree.now))

pub count_in_term-returns : goal.count_in_term-returns
count_in_term-returns t c = λ k.
    c.loop-factor.invariant k
    ∙ ap (λ n. capped (count_of (factor_part k (out-Term c.args.tree.now).first) + n))
    (counted-all (λ o. factor_part k o.1) c.as_slice-factor-items.result.now c.loop-factor.factor-index c.loop-factor-test.false ∙ ap (counted (λ o. factor_part k o.1)) c.as_slice-factor-items.ensures)
    ∙ ap capped (sym (term-count k c.args.tree.now))
