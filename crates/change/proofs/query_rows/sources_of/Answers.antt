use Rattle.query_answers.specs.Planned.{unordered}
use Rattle.change.proofs.query_rows.sources_of.Goals as goal

pub returns-in-Ok-constants-clause-gives : goal.returns-in-Ok-constants-clause-gives
returns-in-Ok-constants-clause-gives g c = (
  c.in-Ok.rows,
  c.in-Ok-constants.ensures,
  λ sound query planned. c.in-Ok.ensures.answers sound (unordered query) planned,
)

pub returns-in-Err-clause-refused : goal.returns-in-Err-clause-refused
returns-in-Err-clause-refused g c = λ sound query planned. c.in-Err.ensures.refused sound (unordered query) planned

pub returns-in-Ok-constants-clause-refused : goal.returns-in-Ok-constants-clause-refused
returns-in-Ok-constants-clause-refused g c = tt

pub returns-in-Ok-constants-clause-limits : goal.returns-in-Ok-constants-clause-limits
returns-in-Ok-constants-clause-limits g c = tt

pub returns-in-Ok-constants-clause-device : goal.returns-in-Ok-constants-clause-device
returns-in-Ok-constants-clause-device g c = tt

pub returns-in-Err-clause-gives : goal.returns-in-Err-clause-gives
returns-in-Err-clause-gives g c = tt

pub returns-in-Err-clause-limits : goal.returns-in-Err-clause-limits
returns-in-Err-clause-limits g c = c.in-Err.ensures.limits
