use Rattle.algebra.specs.declared.tree.Expression.{Expression}
use Rattle.rewrite_laws.proofs.Parts.{like-keeps}
use Rattle.rules.specs.Same.{KeepsExpression}
use Rattle.planned_subqueries.proofs.Kept.{came}
use Rattle.planned_subqueries.proofs.condition_nodes.like_of.Goals as goal

pub returns : goal.returns
returns c = λ x y h k.
    let sides = c.in_ok-sides.sides in
    like-keeps sides.0 x sides.1 y (came (λ (new : Expression). KeepsExpression new x) c.args.operand sides.0 c.in_ok-sides.ensures.first h)
    (came (λ (new : Expression). KeepsExpression new y) c.args.pattern sides.1 c.in_ok-sides.ensures.second k)
