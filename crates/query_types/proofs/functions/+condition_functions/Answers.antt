use Rattle.std.proofs.Common.{◌∙◌, ap, sym, ◌++◌, map, take}
use Rattle.ast.specs.declared.tree.Condition.{out-Condition}
use Rattle.ast.specs.declared.tree.Conjunction.{out-Conjunction}
use Rattle.typing.specs.Part.{functions_of}
use Rattle.typing.specs.Typing.{conjunction_part, negation_part}
use Rattle.scopes.specs.Seen.{frames}
use Rattle.query_types.proofs.FunctionLists.{of, found-same, found-first, found-none, functions-more, functions-all, condition-functions, conjunction-functions, negation-functions, nested-functions, compare-functions, between-functions, like-functions, in_list-functions, in_query-functions, is_null-functions, exists-functions}
use Rattle.query_types.proofs.functions.+condition_functions.Goals as goal

pub functions_in_condition-loop-other-init : goal.functions_in_condition-loop-other-init
functions_in_condition-loop-other-init t c = λ k. found-first c.functions_in_conjunction-functions.result (frames c.args.scope.now) (conjunction_part k (out-Condition c.args.tree.now).first).functions (c.functions_in_conjunction-functions.ensures k)

pub functions_in_condition-loop-other-preserved : goal.functions_in_condition-loop-other-preserved
functions_in_condition-loop-other-preserved t c = λ k.
    found-same c.joined-functions.result (frames c.args.scope.now) _ _
    (functions-more (conjunction_part k) (conjunction_part k (out-Condition c.args.tree.now).first).functions c.as_slice-other-items.result.now c.loop-other.other-index c.other-item.result c.loop-other-test.true c.other-item.is)
    (c.joined-functions.ensures (frames c.args.scope.now) ((conjunction_part k (out-Condition c.args.tree.now).first).functions ++ functions_of (map (conjunction_part k) (take c.loop-other.other-index c.as_slice-other-items.result.now))) (conjunction_part k c.other-item.result).functions (c.loop-other.invariant k) (c.functions_in_conjunction.ensures k))

pub functions_in_condition-returns : goal.functions_in_condition-returns
functions_in_condition-returns t c = λ k.
    found-same c.loop-other.functions (frames c.args.scope.now) _ _
    (condition-functions k c.args.tree.now
    ∙ ap (λ items. (conjunction_part k (out-Condition c.args.tree.now).first).functions ++ functions_of (map (conjunction_part k) items)) (sym c.as_slice-other-items.ensures)
    ∙ ap (λ more. (conjunction_part k (out-Condition c.args.tree.now).first).functions ++ more) (sym (functions-all (conjunction_part k) c.as_slice-other-items.result.now c.loop-other.other-index c.loop-other-test.false)))
    (c.loop-other.invariant k)

pub functions_in_conjunction-loop-other-init : goal.functions_in_conjunction-loop-other-init
functions_in_conjunction-loop-other-init t c = λ k. found-first c.functions_in_negation-functions.result (frames c.args.scope.now) (negation_part k (out-Conjunction c.args.tree.now).first).functions (c.functions_in_negation-functions.ensures k)

pub functions_in_conjunction-loop-other-preserved : goal.functions_in_conjunction-loop-other-preserved
functions_in_conjunction-loop-other-preserved t c = λ k.
    found-same c.joined-functions.result (frames c.args.scope.now) _ _
    (functions-more (negation_part k) (negation_part k (out-Conjunction c.args.tree.now).first).functions c.as_slice-other-items.result.now c.loop-other.other-index c.other-item.result c.loop-other-test.true c.other-item.is)
    (c.joined-functions.ensures (frames c.args.scope.now) ((negation_part k (out-Conjunction c.args.tree.now).first).functions ++ functions_of (map (negation_part k) (take c.loop-other.other-index c.as_slice-other-items.result.now))) (negation_part k c.other-item.result).functions (c.loop-other.invariant k) (c.functions_in_negation.ensures k))

pub functions_in_conjunction-returns : goal.functions_in_conjunction-returns
functions_in_conjunction-returns t c = λ k.
    found-same c.loop-other.functions (frames c.args.scope.now) _ _
    (conjunction-functions k c.args.tree.now
    ∙ ap (λ items. (negation_part k (out-Conjunction c.args.tree.now).first).functions ++ functions_of (map (negation_part k) items)) (sym c.as_slice-other-items.ensures)
    ∙ ap (λ more. (negation_part k (out-Conjunction c.args.tree.now).first).functions ++ more) (sym (functions-all (negation_part k) c.as_slice-other-items.result.now c.loop-other.other-index c.loop-other-test.false)))
    (c.loop-other.invariant k)

pub functions_in_negation-returns : goal.functions_in_negation-returns
functions_in_negation-returns t c = λ k. found-same c.functions_in_predicate.result (frames c.args.scope.now) _ _ (negation-functions k c.args.tree.now) (c.functions_in_predicate.ensures k)

pub functions_in_predicate-returns-in-Nested : goal.functions_in_predicate-returns-in-Nested
functions_in_predicate-returns-in-Nested t c = λ k. rw (c.in-Nested.is, nested-functions k) (rw c.get.ensures at c.functions_in_condition.ensures k)

pub functions_in_predicate-returns-in-Compare : goal.functions_in_predicate-returns-in-Compare
functions_in_predicate-returns-in-Compare t c = λ k. rw (c.in-Compare.is, compare-functions k)
    (c.joined.ensures (frames c.args.scope.now) (of k c.in-Compare.x) (of k c.in-Compare.y) (c.functions_in_expression-functions.ensures k) (c.functions_in_expression.ensures k))

pub functions_in_predicate-returns-in-Between : goal.functions_in_predicate-returns-in-Between
functions_in_predicate-returns-in-Between t c = λ k. rw (c.in-Between.is, between-functions k)
    (c.joined-in-Between.ensures (frames c.args.scope.now) (of k c.in-Between.x ++ of k c.in-Between.low) (of k c.in-Between.high)
    (c.joined-functions.ensures (frames c.args.scope.now) (of k c.in-Between.x) (of k c.in-Between.low) (c.functions_in_expression-functions-in-Between.ensures k) (c.functions_in_expression-in-Between.ensures k))
    (c.functions_in_expression-in-Between-2.ensures k))

pub functions_in_predicate-returns-in-Like : goal.functions_in_predicate-returns-in-Like
functions_in_predicate-returns-in-Like t c = λ k. rw (c.in-Like.is, like-functions k)
    (c.joined-in-Like.ensures (frames c.args.scope.now) (of k c.in-Like.x) (of k c.in-Like.pattern) (c.functions_in_expression-functions-in-Like.ensures k) (c.functions_in_expression-in-Like.ensures k))

pub functions_in_predicate-returns-in-InList : goal.functions_in_predicate-returns-in-InList
functions_in_predicate-returns-in-InList t c = λ k. rw (c.in-InList.is, in_list-functions k) (c.functions_in_expression-in-InList.ensures k)

pub functions_in_predicate-returns-in-InQuery : goal.functions_in_predicate-returns-in-InQuery
functions_in_predicate-returns-in-InQuery t c = λ k. rw (c.in-InQuery.is, in_query-functions k) (c.functions_in_expression-in-InQuery.ensures k)

pub functions_in_predicate-returns-in-IsNull : goal.functions_in_predicate-returns-in-IsNull
functions_in_predicate-returns-in-IsNull t c = λ k. rw (c.in-IsNull.is, is_null-functions k) (c.functions_in_expression-in-IsNull.ensures k)

pub functions_in_predicate-returns-in-Exists : goal.functions_in_predicate-returns-in-Exists
functions_in_predicate-returns-in-Exists t c = λ k. rw c.in-Exists.is (found-none c.new.result (frames c.args.scope.now) _ c.new.ensures (exists-functions k _))
