use Rattle.algebra.specs.declared.tree.Expression.{Expression}
use Rattle.algebra.specs.declared.tree.Tree.{Tree}
use Rattle.rules.specs.Same.{Keeps, KeepsExpression}
use Rattle.same_laws.proofs.Composed.{in_query-keeps}
use Rattle.planned_subqueries.proofs.Kept.{came}
use Rattle.planned_subqueries.proofs.condition_nodes.in_query_of.Goals as goal

pub returns : goal.returns
returns c = λ x t h k.
    let parts = c.in_ok-parts.parts in
    in_query-keeps parts.0 x parts.1 t (came (λ (new : Expression). KeepsExpression new x) c.args.operand parts.0 c.in_ok-parts.ensures.first h)
    (came (λ (new : Tree). Keeps new t) c.args.tree parts.1 c.in_ok-parts.ensures.second k)
