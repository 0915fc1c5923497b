use Rattle.std.proofs.Common.{subst, List, IfOk}
use Rattle.algebra.specs.declared.tree.Expression.{Expression}
use Rattle.operator_laws.specs.Same.{Each}
use Rattle.rules.specs.Same.{KeepsExpression}
use Rattle.query_answers.proofs.sources.planned_row.Goals as goal

pub returns : goal.returns
returns c = subst (λ (old : List Expression). IfOk c.planned_expressions.result (λ new. Each KeepsExpression new old)) c.in_ok-translated.ensures
    c.planned_expressions.ensures
