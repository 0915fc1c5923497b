use Rattle.rewrite_laws.proofs.Parts.{test-keeps}
use Rattle.rules.specs.Same.{KeepsCondition}
use Rattle.planned_subqueries.proofs.condition_nodes.truth_of.Goals as goal

pub returns : goal.returns
returns c = λ old h.
    let came : KeepsCondition c.in_ok-operand.operand old = rw c.in_ok-operand.was at h in
    test-keeps c.args.truth c.in_ok-operand.operand old came
