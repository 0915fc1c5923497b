use Rattle.executor.specs.Reply.{outcome_of}
use Rattle.query_answers.proofs.Planning.{refusal_by_plan, rows_by_plan}
use Rattle.query_answers.proofs.planned.answer.Goals as goal

pub returns-in-Ok-clause-answers : goal.returns-in-Ok-clause-answers
returns-in-Ok-clause-answers g c = rows_by_plan (g.R.Reading.shows c.args.reading.now).contents c.args.plan.now
    (g.R.Reading.is_sound c.args.reading.now) (outcome_of c.in-Ok.listed) c.in-Ok.ensures.lists c.shown.result c.shown.ensures.rows

pub returns-in-Ok-clause-refused : goal.returns-in-Ok-clause-refused
returns-in-Ok-clause-refused g c = refusal_by_plan (g.R.Reading.shows c.args.reading.now).contents c.args.plan.now
    (g.R.Reading.is_sound c.args.reading.now) (outcome_of c.in-Ok.listed) c.in-Ok.ensures.lists c.shown.result c.shown.ensures.refused
