use Rattle.algebra.specs.declared.tree.Expression.{Expression}
use Rattle.rewrite_laws.proofs.Parts.{between-keeps}
use Rattle.rules.specs.Same.{KeepsExpression}
use Rattle.planned_subqueries.proofs.Kept.{came}
use Rattle.planned_subqueries.proofs.condition_nodes.between_of.Goals as goal

pub returns : goal.returns
returns c = λ x y z h k m.
    let parts = c.in_ok-parts.parts in
    between-keeps parts.0 x parts.1 y parts.2 z (came (λ (new : Expression). KeepsExpression new x) c.args.operand parts.0 c.in_ok-parts.ensures.first h)
    (came (λ (new : Expression). KeepsExpression new y) c.args.low parts.1 c.in_ok-parts.ensures.second k)
    (came (λ (new : Expression). KeepsExpression new z) c.args.high parts.2 c.in_ok-parts.ensures.third m)
