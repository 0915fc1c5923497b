use Rattle.std.proofs.Common.{refl, rules}
use Rattle.csvio.specs.Forms.{RefusesRows}
use Rattle.csvio.proofs.formed.rows_from.Goals as goal

pub returns-in-Ok-None-clause-refused : goal.returns-in-Ok-None-clause-refused
returns-in-Ok-None-clause-refused c = RefusesRows.field (λ rows all are. let found = c.rows_by.ensures.again rows all are in search rules) refl

pub returns-in-Err-clause-refused : goal.returns-in-Err-clause-refused
returns-in-Err-clause-refused c = RefusesRows.wanting refl
