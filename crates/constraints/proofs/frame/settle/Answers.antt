use Rattle.std.proofs.Common.{refl}
use Rattle.constraints.specs.Settled.{Breaks}
use Rattle.store.specs.Going.{Going}
use Rattle.constraints.proofs.frame.settle.Goals as goal

pub returns-in-Ok-None-clause-holds : goal.returns-in-Ok-None-clause-holds
returns-in-Ok-None-clause-holds g c = λ reading sound decided. rw c.in-Ok-None.field-0-is at (c.in-Ok-None.ensures.found reading sound decided)

pub returns-in-Ok-Some-clause-refused : goal.returns-in-Ok-Some-clause-refused
returns-in-Ok-Some-clause-refused g c = λ reading sound decided.
    let found = rw c.in-Ok-Some.field-0-is at (c.in-Ok-Some.ensures.found reading sound decided) in
    Breaks.violates found.0 c.in-Ok-Some.constraint found.1 refl found.2

pub returns-in-Ok-Some-clause-goes : goal.returns-in-Ok-Some-clause-goes
returns-in-Ok-Some-clause-goes g c = g.met.S.Store.goes_on_trans _ _ _ Going.keeps Going.keeps c.violation.ensures.goes c.undo.ensures.goes

pub returns-in-Err-clause-goes : goal.returns-in-Err-clause-goes
returns-in-Err-clause-goes g c = g.met.S.Store.goes_on_trans _ _ _ Going.keeps Going.keeps c.violation.ensures.goes c.undo-in-Err.ensures.goes
