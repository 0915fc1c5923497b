use Rattle.rewrite_laws.proofs.Parts.{null-keeps}
use Rattle.rules.specs.Same.{KeepsExpression}
use Rattle.planned_subqueries.proofs.condition_nodes.null_of.Goals as goal

pub returns : goal.returns
returns c = λ old h.
    let came : KeepsExpression c.in_ok-operand.operand old = rw c.in_ok-operand.was at h in
    null-keeps c.in_ok-operand.operand old came
