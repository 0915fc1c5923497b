use Rattle.std.proofs.Common.{refl}
use Rattle.store.specs.Contents.{database_of}
use Rattle.store.specs.Going.{Going}
use Rattle.constraints.specs.Matched.{BreaksAny}
use Rattle.constraints.proofs.matching.settle_matches.Goals as goal

pub returns-in-Ok-None-clause-holds : goal.returns-in-Ok-None-clause-holds
returns-in-Ok-None-clause-holds g c = λ reading old sound good differs holds.
    let asked = rw c.in-Ok-None.field-0-is at c.in-Ok-None.ensures.none in
    let both = asked sound in
    c.what_comes_and_goes_decides.ensures reading old (database_of (g.S.Store.shows c.args.store.now).working) c.args.name.now c.args.came.now c.args.gone.now good differs holds both.0 both.1

pub returns-in-Ok-Some-clause-refused : goal.returns-in-Ok-Some-clause-refused
returns-in-Ok-Some-clause-refused g c = λ reading sound among.
    let one = rw c.in-Ok-Some.field-0-is at c.in-Ok-Some.ensures.some in
    BreaksAny.violates c.in-Ok-Some.constraint refl (one reading sound among)

pub returns-in-Ok-Some-clause-goes : goal.returns-in-Ok-Some-clause-goes
returns-in-Ok-Some-clause-goes g c = g.met.S.Store.goes_on_trans _ _ _ Going.keeps Going.keeps c.unmatched.ensures.goes c.undo.ensures.goes

pub returns-in-Err-clause-goes : goal.returns-in-Err-clause-goes
returns-in-Err-clause-goes g c = g.met.S.Store.goes_on_trans _ _ _ Going.keeps Going.keeps c.unmatched.ensures.goes c.undo-in-Err.ensures.goes
