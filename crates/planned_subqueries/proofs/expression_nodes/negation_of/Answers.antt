use Rattle.rewrite_laws.proofs.Parts.{negation-keeps}
use Rattle.rules.specs.Same.{KeepsExpression}
use Rattle.planned_subqueries.proofs.expression_nodes.negation_of.Goals as goal

pub returns : goal.returns
returns c = λ old h.
    let came : KeepsExpression c.in_ok-operand.operand old = rw c.in_ok-operand.was at h in
    negation-keeps c.in_ok-operand.operand old came
