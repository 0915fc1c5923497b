use Rattle.std.proofs.Common.{◌∙◌, ap, sym, ◌++◌, map, take}
use Rattle.ast.specs.declared.tree.Expression.{out-Expression}
use Rattle.ast.specs.declared.tree.Term.{out-Term}
use Rattle.typing.specs.Part.{functions_of}
use Rattle.typing.specs.Typing.{factor_part, term_part}
use Rattle.scopes.specs.Seen.{frames}
use Rattle.query_types.specs.Parts.{factor_after, term_after}
use Rattle.query_types.proofs.FunctionLists.{found-same, found-first, found-none, functions-more, functions-all, expression-functions, term-functions, rows-functions, aggregate-functions, inner-functions, number-functions, text-functions, column-functions, query-functions}
use Rattle.query_types.proofs.functions.+functions.Goals as goal

pub functions_in_expression-loop-term-init : goal.functions_in_expression-loop-term-init
functions_in_expression-loop-term-init t c = λ k. found-first c.functions_in_term-functions.result (frames c.args.scope.now) (term_part k (out-Expression c.args.tree.now).first).functions (c.functions_in_term-functions.ensures k)

pub functions_in_expression-loop-term-preserved : goal.functions_in_expression-loop-term-preserved
functions_in_expression-loop-term-preserved t c = λ k.
    found-same c.joined-functions.result (frames c.args.scope.now) _ _
    (functions-more (term_after k) (term_part k (out-Expression c.args.tree.now).first).functions c.as_slice-term-items.result.now c.loop-term.term-index c.loop-term-item.result c.loop-term-test.true c.loop-term-item.is)
    (c.joined-functions.ensures (frames c.args.scope.now) ((term_part k (out-Expression c.args.tree.now).first).functions ++ functions_of (map (term_after k) (take c.loop-term.term-index c.as_slice-term-items.result.now))) (term_part k c.loop-term-item.result.1).functions (c.loop-term.invariant k) (c.functions_in_term.ensures k))

pub functions_in_expression-returns : goal.functions_in_expression-returns
functions_in_expression-returns t c = λ k.
    found-same c.loop-term.functions (frames c.args.scope.now) _ _
    (expression-functions k c.args.tree.now
    ∙ ap (λ items. (term_part k (out-Expression c.args.tree.now).first).functions ++ functions_of (map (term_after k) items)) (sym c.as_slice-term-items.ensures)
    ∙ ap (λ more. (term_part k (out-Expression c.args.tree.now).first).functions ++ more) (sym (functions-all (term_after k) c.as_slice-term-items.result.now c.loop-term.term-index c.loop-term-test.false)))
    (c.loop-term.invariant k)

pub functions_in_term-loop-factor-init : goal.functions_in_term-loop-factor-init
functions_in_term-loop-factor-init t c = λ k. found-first c.functions_in_factor-functions.result (frames c.args.scope.now) (factor_part k (out-Term c.args.tree.now).first).functions (c.functions_in_factor-functions.ensures k)

pub functions_in_term-loop-factor-preserved : goal.functions_in_term-loop-factor-preserved
functions_in_term-loop-factor-preserved t c = λ k.
    found-same c.joined-functions.result (frames c.args.scope.now) _ _
    (functions-more (factor_after k) (factor_part k (out-Term c.args.tree.now).first).functions c.as_slice-factor-items.result.now c.loop-factor.factor-index c.loop-factor-item.result c.loop-factor-test.true c.loop-factor-item.is)
    (c.joined-functions.ensures (frames c.args.scope.now) ((factor_part k (out-Term c.args.tree.now).first).functions ++ functions_of (map (factor_after k) (take c.loop-factor.factor-index c.as_slice-factor-items.result.now))) (factor_part k c.loop-factor-item.result.1).functions (c.loop-factor.invariant k) (c.functions_in_factor.ensures k))

pub functions_in_term-returns : goal.functions_in_term-returns
functions_in_term-returns t c = λ k.
    found-same c.loop-factor.functions (frames c.args.scope.now) _ _
    (term-functions k c.args.tree.now
    ∙ ap (λ items. (factor_part k (out-Term c.args.tree.now).first).functions ++ functions_of (map (factor_after k) items)) (sym c.as_slice-factor-items.ensures)
    ∙ ap (λ more. (factor_part k (out-Term c.args.tree.now).first).functions ++ more) (sym (functions-all (factor_after k) c.as_slice-factor-items.result.now c.loop-factor.factor-index c.loop-factor-test.false)))
    (c.loop-factor.invariant k)

pub functions_in_factor-returns-in-CountRows : goal.functions_in_factor-returns-in-CountRows
functions_in_factor-returns-in-CountRows t c = λ k.
    found-same c.only_function.result (frames c.args.scope.now) _ _ (rows-functions k c.args.tree.now c.in-CountRows.is) (c.only_function.ensures _ (c.row_count.ensures (frames c.args.scope.now)))

pub functions_in_factor-returns-in-Aggregate : goal.functions_in_factor-returns-in-Aggregate
functions_in_factor-returns-in-Aggregate t c = λ k.
    found-same c.only_function-in-Aggregate.result (frames c.args.scope.now) _ _ (aggregate-functions k c.args.tree.now _ _ _ c.in-Aggregate.is)
    (c.only_function-in-Aggregate.ensures _ (rw c.get-argument.ensures at c.typed_aggregate-aggregate.ensures k))

pub functions_in_factor-returns-in-Parenthesized : goal.functions_in_factor-returns-in-Parenthesized
functions_in_factor-returns-in-Parenthesized t c = λ k.
    found-same c.functions_in_expression.result (frames c.args.scope.now) _ _ (inner-functions k c.args.tree.now _ c.in-Parenthesized.is) (rw c.get.ensures at c.functions_in_expression.ensures k)

pub functions_in_factor-returns-in-Number : goal.functions_in_factor-returns-in-Number
functions_in_factor-returns-in-Number t c = λ k. found-none c.new.result (frames c.args.scope.now) _ c.new.ensures (number-functions k c.args.tree.now _ c.in-Number.is)

pub functions_in_factor-returns-in-Text : goal.functions_in_factor-returns-in-Text
functions_in_factor-returns-in-Text t c = λ k. found-none c.new-in-Text.result (frames c.args.scope.now) _ c.new-in-Text.ensures (text-functions k c.args.tree.now _ c.in-Text.is)

pub functions_in_factor-returns-in-Column : goal.functions_in_factor-returns-in-Column
functions_in_factor-returns-in-Column t c = λ k. found-none c.new-in-Column.result (frames c.args.scope.now) _ c.new-in-Column.ensures (column-functions k c.args.tree.now _ c.in-Column.is)

pub functions_in_factor-returns-in-Subquery : goal.functions_in_factor-returns-in-Subquery
functions_in_factor-returns-in-Subquery t c = λ k. found-none c.new-in-Subquery.result (frames c.args.scope.now) _ c.new-in-Subquery.ensures (query-functions k c.args.tree.now _ c.in-Subquery.is)
