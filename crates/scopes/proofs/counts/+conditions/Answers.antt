use Rattle.std.proofs.Common.{refl, sym, ap, ◌∙◌, ◌+◌}
use Rattle.ast.specs.declared.tree.Condition.{out-Condition}
use Rattle.ast.specs.declared.tree.Conjunction.{out-Conjunction}
use Rattle.typing.specs.Typing.{conjunction_part, negation_part}
use Rattle.scopes.specs.Seen.{capped, count_of}
use Rattle.scopes.proofs.Counted.{counted, counted-all, capped-sum, condition-count, conjunction-count, negation-count, nested-count, compare-count, between-count, like-count, in_list-count, in_query-count, is_null-count, exists-count}
use Rattle.scopes.proofs.counts.+conditions.Goals as goal

pub count_in_condition-returns : goal.count_in_condition-returns
count_in_condition-returns t c = λ k.
    c.loop-other.invariant k
    ∙ ap (λ n. capped (count_of (conjunction_part k (out-Condition c.args.tree.now).first) + n))
    (counted-all (conjunction_part k) c.as_slice-other-items.result.now c.loop-other.other-index c.loop-other-test.false ∙ ap (counted (conjunction_part k)) c.as_slice-other-items.ensures)
    ∙ ap capped (sym (condition-count k c.args.tree.now))

pub count_in_conjunction-returns : goal.count_in_conjunction-returns
count_in_conjunction-returns t c = λ k.
    c.loop-other.invariant k
    ∙ ap (λ n. capped (count_of (negation_part k (out-Conjunction c.args.tree.now).first) + n))
    (counted-all (negation_part k) c.as_slice-other-items.result.now c.loop-other.other-index c.loop-other-test.false ∙ ap (counted (negation_part k)) c.as_slice-other-items.ensures)
    ∙ ap capped (sym (conjunction-count k c.args.tree.now))

pub count_in_negation-returns : goal.count_in_negation-returns
count_in_negation-returns t c = λ k. rw (negation-count k c.args.tree.now) (c.count_in_predicate.ensures k)

pub count_in_predicate-returns-in-Nested : goal.count_in_predicate-returns-in-Nested
count_in_predicate-returns-in-Nested t c = λ k. rw (c.in-Nested.is, nested-count k _) (rw c.get.ensures at c.count_in_condition.ensures k)

pub count_in_predicate-returns-in-Compare : goal.count_in_predicate-returns-in-Compare
count_in_predicate-returns-in-Compare t c = λ k. rw (c.in-Compare.is, compare-count k _ _ _) (c.saturating_add.ensures ∙ capped-sum _ _ _ _ (c.count_in_expression.ensures k) (c.count_in_expression-in-Compare.ensures k))

pub count_in_predicate-returns-in-Between : goal.count_in_predicate-returns-in-Between
count_in_predicate-returns-in-Between t c = λ k. rw (c.in-Between.is, between-count k _ _ _ _)
    (c.saturating_add-in-Between-2.ensures ∙ capped-sum _ _ _ _ (c.saturating_add-in-Between.ensures ∙ capped-sum _ _ _ _ (c.count_in_expression-in-Between.ensures k) (c.count_in_expression-in-Between-2.ensures k)) (c.count_in_expression-in-Between-3.ensures k))

pub count_in_predicate-returns-in-Like : goal.count_in_predicate-returns-in-Like
count_in_predicate-returns-in-Like t c = λ k. rw (c.in-Like.is, like-count k _ _ _) (c.saturating_add-in-Like.ensures ∙ capped-sum _ _ _ _ (c.count_in_expression-in-Like.ensures k) (c.count_in_expression-in-Like-2.ensures k))

pub count_in_predicate-returns-in-InList : goal.count_in_predicate-returns-in-InList
count_in_predicate-returns-in-InList t c = λ k. rw (c.in-InList.is, in_list-count k _ _ _) (c.count_in_expression-in-InList.ensures k)

pub count_in_predicate-returns-in-InQuery : goal.count_in_predicate-returns-in-InQuery
count_in_predicate-returns-in-InQuery t c = λ k. rw (c.in-InQuery.is, in_query-count k _ _ _) (c.count_in_expression-in-InQuery.ensures k)

pub count_in_predicate-returns-in-IsNull : goal.count_in_predicate-returns-in-IsNull
count_in_predicate-returns-in-IsNull t c = λ k. rw (c.in-IsNull.is, is_null-count k _ _) (c.count_in_expression-in-IsNull.ensures k)

pub count_in_predicate-returns-in-Exists : goal.count_in_predicate-returns-in-Exists
count_in_predicate-returns-in-Exists t c = λ k. rw (c.in-Exists.is, exists-count k _) refl
