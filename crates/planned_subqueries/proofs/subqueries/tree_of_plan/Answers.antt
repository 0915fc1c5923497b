use Rattle.planned_subqueries.proofs.subqueries.tree_of_plan.Goals as goal

pub returns-in-Ok : goal.returns-in-Ok
returns-in-Ok c = c.rules_keep_the_outcome.ensures.replayed c.in-Ok.planned.steps c.args.tree c.in-Ok.planned.plan.tree c.in-Ok.ensures.replays
