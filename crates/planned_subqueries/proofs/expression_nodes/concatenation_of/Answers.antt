use Rattle.std.proofs.Common.{List}
use Rattle.algebra.specs.declared.tree.Expression.{Expression}
use Rattle.operator_laws.specs.Same.{Each}
use Rattle.rewrite_laws.proofs.Parts.{concatenation-keeps}
use Rattle.rules.specs.Same.{KeepsExpression}
use Rattle.planned_subqueries.proofs.Kept.{came}
use Rattle.planned_subqueries.proofs.expression_nodes.concatenation_of.Goals as goal

pub returns : goal.returns
returns c = λ x rest h k.
    let parts = c.in_ok-parts.parts in
    concatenation-keeps parts.0 x parts.1 rest (came (λ (new : Expression). KeepsExpression new x) c.args.first parts.0 c.in_ok-parts.ensures.first h)
    (came (λ (new : List Expression). Each KeepsExpression new rest) c.args.others parts.1 c.in_ok-parts.ensures.second k)
