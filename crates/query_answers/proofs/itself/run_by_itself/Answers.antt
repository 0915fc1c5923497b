use Rattle.std.proofs.Common.{◌∙◌}
use Rattle.transactions.proofs.Tests.{tells_reached}
use Rattle.query_answers.proofs.ByItself.{lists_plan}
use Rattle.query_answers.proofs.itself.run_by_itself.Goals as goal

pub returns-in-Ok-clause-lists : goal.returns-in-Ok-clause-lists
returns-in-Ok-clause-lists g c = λ sound runs.
    c.in-Ok.ensures.lists sound runs ∙ lists_plan (g.R.Reading.shows c.args.reading.now) c.args.plan.now

pub returns-in-Err-clause-limits : goal.returns-in-Err-clause-limits
returns-in-Err-clause-limits g c = tells_reached _ _ _ _ _ _ c.refusal_of.ensures c.in-Err.ensures.refused
