use Rattle.same_laws.proofs.Composed.{exists-keeps}
use Rattle.rules.specs.Same.{Keeps}
use Rattle.planned_subqueries.proofs.condition_nodes.exists_of.Goals as goal

pub returns : goal.returns
returns c = λ old h.
    let came : Keeps c.in_ok-tree.tree old = rw c.in_ok-tree.was at h in
    exists-keeps c.in_ok-tree.tree old came
