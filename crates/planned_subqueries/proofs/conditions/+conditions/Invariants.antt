use Rattle.rules.specs.Same.{KeepsCondition}
use Rattle.planned_subqueries.proofs.Kept.{Ahead}
use Rattle.planned_subqueries.proofs.conditions.+conditions.Given as goal

abbrev pub invariant-all_conditions-loop-condition : goal.invariant-all_conditions-loop-condition
invariant-all_conditions-loop-condition l = Ahead KeepsCondition l.made l.condition-iterator.rest.items l.fn.conditions
