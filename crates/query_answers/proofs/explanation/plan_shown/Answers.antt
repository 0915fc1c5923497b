use Rattle.query_answers.proofs.ShownPlans.{shows}
use Rattle.query_answers.proofs.explanation.plan_shown.Goals as goal

pub returns-in-Ok : goal.returns-in-Ok
returns-in-Ok c = record {
  shows =
      shows c.in-Ok.planned.steps c.args.tree c.in-Ok.planned.plan.tree c.in-Ok.ensures.replays c.in-Ok.ensures.looks c.in-Ok.ensures.joins c.steps_and_plan.result c.steps_and_plan.ensures.lines;
}
