use Rattle.std.proofs.Common.{refl, sym, subst}
use Rattle.store.specs.Contents.{database_of}
use Rattle.store.specs.Stored.{Stored}
use Rattle.constraints.specs.Settled.{Decided, Breaks}
use Rattle.store.specs.Going.{Going}
use Rattle.constraints.proofs.settled_rows.settle_rows.Goals as goal

pub returns-in-Ok-Fits-clause-holds : goal.returns-in-Ok-Fits-clause-holds
returns-in-Ok-Fits-clause-holds g c = λ reading sound decided others table there.
    let o = others table there in
    rw c.in-Ok-Fits.field-0-is at (c.in-Ok-Fits.ensures.found reading table o.0 sound there (decided table there) o.1) o.2

pub returns-in-Ok-Violates-clause-refused : goal.returns-in-Ok-Violates-clause-refused
returns-in-Ok-Violates-clause-refused g c = λ reading sound decided among.
    Breaks.violates among.table c.in-Ok-Violates.constraint among.there refl
    (rw c.in-Ok-Violates.field-0-is at (c.in-Ok-Violates.ensures.found reading among.table among.others sound among.there (decided among.table among.there) among.order))

pub returns-in-Err-settle-clause-refused : goal.returns-in-Err-settle-clause-refused
returns-in-Err-settle-clause-refused g c = λ reading sound decided among.
    let same = c.look_again.ensures.shows in
    subst (λ (s : Stored). Breaks reading (database_of s.working) c.args.name.now c.in-Err-settle.refusal) same
    (c.in-Err-settle.ensures.refused reading ((g.met.S.Store.goes_on_goes _ _ _ c.look_again.ensures.goes).sound sound)
    (subst (λ (s : Stored). Decided (g.C.Checks.decides c.args.checks.now reading) (database_of s.working) c.args.name.now) (sym same) decided))

pub returns-in-Ok-Violates-clause-goes : goal.returns-in-Ok-Violates-clause-goes
returns-in-Ok-Violates-clause-goes g c = g.met.S.Store.goes_on_trans _ _ _ Going.keeps Going.keeps c.look_again.ensures.goes c.undo.ensures.goes

pub returns-in-Ok-clause-goes : goal.returns-in-Ok-clause-goes
returns-in-Ok-clause-goes g c = g.met.S.Store.goes_on_trans _ _ _ Going.keeps Going.keeps c.look_again.ensures.goes c.settle.ensures.goes

pub returns-in-Err-settle-clause-goes : goal.returns-in-Err-settle-clause-goes
returns-in-Err-settle-clause-goes g c = g.met.S.Store.goes_on_trans _ _ _ Going.keeps Going.keeps c.look_again.ensures.goes c.settle.ensures.goes

pub returns-in-Err-clause-goes : goal.returns-in-Err-clause-goes
returns-in-Err-clause-goes g c = g.met.S.Store.goes_on_trans _ _ _ Going.keeps Going.keeps c.look_again.ensures.goes c.undo-in-Err.ensures.goes
