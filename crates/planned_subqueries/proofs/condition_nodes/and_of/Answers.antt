use Rattle.operator_laws.specs.Same.{Each}
use Rattle.same_laws.proofs.Composed.{and-keeps}
use Rattle.rules.specs.Same.{KeepsCondition}
use Rattle.planned_subqueries.proofs.condition_nodes.and_of.Goals as goal

pub returns : goal.returns
returns c = λ old h.
    let came : Each KeepsCondition c.in_ok-operands.operands old = rw c.in_ok-operands.was at h in
    and-keeps c.in_ok-operands.operands old came
