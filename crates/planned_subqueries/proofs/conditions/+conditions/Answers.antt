use Rattle.std.proofs.Common.{◌≡◌, ◌∙◌, sym, ◌∷◌, rules}
use Rattle.algebra.specs.declared.tree.Condition.{Condition}
use Rattle.rules.specs.Same.{KeepsCondition}
use Rattle.planned_subqueries.proofs.Kept.{empty, ended, through, turn}
use Rattle.planned_subqueries.proofs.conditions.+conditions.Goals as goal

pub planned_condition-returns-in-Or : goal.planned_condition-returns-in-Or
planned_condition-returns-in-Or t c = rw c.in-Or.is (c.or_of.ensures c.in-Or.operands c.all_conditions.ensures)

pub planned_condition-returns-in-And : goal.planned_condition-returns-in-And
planned_condition-returns-in-And t c = rw c.in-And.is (c.and_of.ensures c.in-And.operands c.all_conditions-in-And.ensures)

pub planned_condition-returns-in-Not : goal.planned_condition-returns-in-Not
planned_condition-returns-in-Not t c = rw c.in-Not.is (c.not_of.ensures c.in-Not.operand c.boxed_condition.ensures)

pub planned_condition-returns-in-IsTruth : goal.planned_condition-returns-in-IsTruth
planned_condition-returns-in-IsTruth t c = rw c.in-IsTruth.is (c.truth_of.ensures c.in-IsTruth.operand c.boxed_condition-in-IsTruth.ensures)

pub planned_condition-returns-in-Compare : goal.planned_condition-returns-in-Compare
planned_condition-returns-in-Compare t c = rw c.in-Compare.is (c.compare_of.ensures c.in-Compare.left c.in-Compare.right c.boxed_expression-left.ensures c.boxed_expression.ensures)

pub planned_condition-returns-in-Between : goal.planned_condition-returns-in-Between
planned_condition-returns-in-Between t c = rw c.in-Between.is (c.between_of.ensures c.in-Between.operand c.in-Between.low c.in-Between.high c.boxed_expression-operand.ensures c.boxed_expression-low.ensures c.boxed_expression-in-Between.ensures)

pub planned_condition-returns-in-InList : goal.planned_condition-returns-in-InList
planned_condition-returns-in-InList t c = rw c.in-InList.is (c.in_list_of.ensures c.in-InList.operand c.boxed_expression-in-InList.ensures)

pub planned_condition-returns-in-InQuery : goal.planned_condition-returns-in-InQuery
planned_condition-returns-in-InQuery t c = rw c.in-InQuery.is (c.in_query_of.ensures c.in-InQuery.operand c.in-InQuery.tree c.boxed_expression-operand-in-InQuery.ensures c.planned_tree.ensures)

pub planned_condition-returns-in-Like : goal.planned_condition-returns-in-Like
planned_condition-returns-in-Like t c = rw c.in-Like.is (c.like_of.ensures c.in-Like.operand c.in-Like.pattern c.boxed_expression-operand-in-Like.ensures c.boxed_expression-in-Like.ensures)

pub planned_condition-returns-in-IsNull : goal.planned_condition-returns-in-IsNull
planned_condition-returns-in-IsNull t c = rw c.in-IsNull.is (c.null_of.ensures c.in-IsNull.operand c.boxed_expression-in-IsNull.ensures)

pub planned_condition-returns-in-Exists : goal.planned_condition-returns-in-Exists
planned_condition-returns-in-Exists t c = rw c.in-Exists.is (c.exists_of.ensures c.in-Exists.tree c.planned_tree-in-Exists.ensures)

pub boxed_condition-returns : goal.boxed_condition-returns
boxed_condition-returns t c = through (λ (new : Condition). KeepsCondition new c.args.condition) c.planned_condition.result c.boxed.result c.boxed.ensures
    (rw (← c.into_inner.ensures) c.planned_condition.ensures)

pub all_conditions-loop-condition-preserved : goal.all_conditions-loop-condition-preserved
all_conditions-loop-condition-preserved t c =
    let old = c.loop-condition.condition-iterator.rest.items in
    let new = c.next.new.self.rest.items in
    let moved : old ≡ c.in-Some.condition ∷ new = search (rules) in
    turn KeepsCondition c.loop-condition.made c.planned_condition.result c.pushed-made.result old new c.args.conditions c.in-Some.condition moved
    c.pushed-made.ensures c.planned_condition.ensures c.loop-condition.invariant

pub all_conditions-returns : goal.all_conditions-returns
all_conditions-returns t c =
    let left = c.loop-condition.condition-iterator.rest in
    ended KeepsCondition c.loop-condition.made left.items c.args.conditions
    (empty left.items (sym left.ok.0 ∙ c.in-None.ensures.steps.0)) c.loop-condition.invariant
