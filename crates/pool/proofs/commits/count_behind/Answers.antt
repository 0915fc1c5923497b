use Rattle.pool.proofs.LaidLemmas.{some_any}
use Rattle.pool.proofs.commits.count_behind.Goals as goal

pub returns-then-first_has_zeros-clause-zeros : goal.returns-then-first_has_zeros-clause-zeros
returns-then-first_has_zeros-clause-zeros c = some_any c.count_all.result (c.first_has_zeros.ensures.zeros c.if-first_has_zeros.true)

pub returns-clause-none : goal.returns-clause-none
returns-clause-none c = λ gone pages none follows. c.first_has_zeros.ensures.others c.if-first_has_zeros.false follows.zeros
