use Rattle.std.proofs.Common.{subst, Option, IfOk}
use Rattle.algebra.specs.declared.tree.Condition.{Condition}
use Rattle.operator_laws.specs.Same.{IfBoth}
use Rattle.rules.specs.Same.{KeepsCondition}
use Rattle.update_delete.proofs.trees.filter_planned.Goals as goal

pub returns : goal.returns
returns c = subst (λ (old : Option Condition). IfOk c.planned_filter.result (λ new. IfBoth KeepsCondition new old)) c.in_ok-translated.ensures
    c.planned_filter.ensures
