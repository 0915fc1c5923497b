use Rattle.rewrite_laws.proofs.Parts.{scalar_same}
use Rattle.same_laws.proofs.Composed.{scalar-keeps}
use Rattle.rules.specs.Same.{Keeps}
use Rattle.planned_subqueries.proofs.expression_nodes.scalar_of.Goals as goal

pub returns : goal.returns
returns c = λ old h.
    let came : Keeps c.in_ok-tree.tree old = rw c.in_ok-tree.was at h in
    scalar-keeps c.in_ok-tree.tree old came (scalar_same c.in_ok-tree.tree old)
