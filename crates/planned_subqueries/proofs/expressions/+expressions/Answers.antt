use Rattle.std.proofs.Common.{◌≡◌, ◌∙◌, sym, ◌∷◌, rules}
use Rattle.algebra.specs.declared.tree.Expression.{Expression}
use Rattle.algebra.specs.declared.tree.Expression.TheVariants as e
use Rattle.rules.specs.Same.{KeepsExpression}
use Rattle.same_laws.proofs.Composed.{expression-refl}
use Rattle.planned_subqueries.specs.Kept.{KeepsNext}
use Rattle.planned_subqueries.proofs.Kept.{empty, ended, through, turn, with-operator}
use Rattle.planned_subqueries.proofs.expressions.+expressions.Goals as goal

pub planned_expression-returns-in-Constant : goal.planned_expression-returns-in-Constant
planned_expression-returns-in-Constant t c = rw c.in-Constant.is (expression-refl (e.Constant c.in-Constant.value))

pub planned_expression-returns-in-Column : goal.planned_expression-returns-in-Column
planned_expression-returns-in-Column t c = rw c.in-Column.is (expression-refl (e.Column c.in-Column.depth c.in-Column.place))

pub planned_expression-returns-in-Calculation : goal.planned_expression-returns-in-Calculation
planned_expression-returns-in-Calculation t c = rw c.in-Calculation.is (c.calculation_of.ensures c.in-Calculation.first c.in-Calculation.others c.boxed_expression-first.ensures c.all_operands.ensures)

pub planned_expression-returns-in-Concatenation : goal.planned_expression-returns-in-Concatenation
planned_expression-returns-in-Concatenation t c = rw c.in-Concatenation.is (c.concatenation_of.ensures c.in-Concatenation.first c.in-Concatenation.others c.boxed_expression-first-in-Concatenation.ensures c.planned_expressions.ensures)

pub planned_expression-returns-in-Negation : goal.planned_expression-returns-in-Negation
planned_expression-returns-in-Negation t c = rw c.in-Negation.is (c.negation_of.ensures c.in-Negation.operand c.boxed_expression.ensures)

pub planned_expression-returns-in-Scalar : goal.planned_expression-returns-in-Scalar
planned_expression-returns-in-Scalar t c = rw c.in-Scalar.is (c.scalar_of.ensures c.in-Scalar.tree c.planned_tree.ensures)

pub boxed_expression-returns : goal.boxed_expression-returns
boxed_expression-returns t c = through (λ (new : Expression). KeepsExpression new c.args.expression) c.planned_expression.result c.boxed.result c.boxed.ensures
    (rw (← c.into_inner.ensures) c.planned_expression.ensures)

pub planned_expressions-loop-expression-preserved : goal.planned_expressions-loop-expression-preserved
planned_expressions-loop-expression-preserved t c =
    let old = c.loop-expression.expression-iterator.rest.items in
    let new = c.next.new.self.rest.items in
    let moved : old ≡ c.in-Some.expression ∷ new = search (rules) in
    turn KeepsExpression c.loop-expression.made c.planned_expression.result c.pushed-made.result old new c.args.expressions c.in-Some.expression moved
    c.pushed-made.ensures c.planned_expression.ensures c.loop-expression.invariant

pub planned_expressions-returns : goal.planned_expressions-returns
planned_expressions-returns t c =
    let left = c.loop-expression.expression-iterator.rest in
    ended KeepsExpression c.loop-expression.made left.items c.args.expressions
    (empty left.items (sym left.ok.0 ∙ c.in-None.ensures.steps.0)) c.loop-expression.invariant

pub all_operands-loop-operator-preserved : goal.all_operands-loop-operator-preserved
all_operands-loop-operator-preserved t c =
    let old = c.loop-operator.operator-iterator.rest.items in
    let new = c.next.new.self.rest.items in
    let moved : old ≡ (c.in-Some.operator, c.in-Some.operand) ∷ new = search (rules) in
    turn KeepsNext c.loop-operator.made c.with_operator.result c.pushed-made.result old new c.args.operands (c.in-Some.operator, c.in-Some.operand) moved
    c.pushed-made.ensures (with-operator c.in-Some.operator c.planned_expression-operand.result c.with_operator.result c.in-Some.operand c.with_operator.ensures c.planned_expression-operand.ensures) c.loop-operator.invariant

pub all_operands-returns : goal.all_operands-returns
all_operands-returns t c =
    let left = c.loop-operator.operator-iterator.rest in
    ended KeepsNext c.loop-operator.made left.items c.args.operands
    (empty left.items (sym left.ok.0 ∙ c.in-None.ensures.steps.0)) c.loop-operator.invariant
