use Rattle.rewrite_laws.proofs.Parts.{in_list-keeps}
use Rattle.rules.specs.Same.{KeepsExpression}
use Rattle.planned_subqueries.proofs.condition_nodes.in_list_of.Goals as goal

pub returns : goal.returns
returns c = λ old h.
    let came : KeepsExpression c.in_ok-operand.operand old = rw c.in_ok-operand.was at h in
    in_list-keeps c.args.values c.in_ok-operand.operand old came
