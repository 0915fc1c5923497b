use Rattle.query_answers.proofs.Answering.{raised_tells}
use Rattle.query_answers.proofs.query.shown.Goals as goal

pub returns-in-Some-clause-limits : goal.returns-in-Some-clause-limits
returns-in-Some-clause-limits c = raised_tells c.in-Some.fault _ c.refusal_of_fault.ensures
