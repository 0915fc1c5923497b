use Rattle.rules.specs.Same.{KeepsExpression}
use Rattle.planned_subqueries.specs.Kept.{KeepsNext}
use Rattle.planned_subqueries.proofs.Kept.{Ahead}
use Rattle.planned_subqueries.proofs.expressions.+expressions.Given as goal

abbrev pub invariant-planned_expressions-loop-expression : goal.invariant-planned_expressions-loop-expression
invariant-planned_expressions-loop-expression l = Ahead KeepsExpression l.made l.expression-iterator.rest.items l.fn.expressions

abbrev pub invariant-all_operands-loop-operator : goal.invariant-all_operands-loop-operator
invariant-all_operands-loop-operator l = Ahead KeepsNext l.made l.operator-iterator.rest.items l.fn.operands
