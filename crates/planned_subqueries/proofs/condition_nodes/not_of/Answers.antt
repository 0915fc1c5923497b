use Rattle.same_laws.proofs.Composed.{not-keeps}
use Rattle.rules.specs.Same.{KeepsCondition}
use Rattle.planned_subqueries.proofs.condition_nodes.not_of.Goals as goal

pub returns : goal.returns
returns c = λ old h.
    let came : KeepsCondition c.in_ok-operand.operand old = rw c.in_ok-operand.was at h in
    not-keeps c.in_ok-operand.operand old came
