use Rattle.std.proofs.Common.{refl}
use Rattle.store.specs.Going.{Going}
use Rattle.constraints.proofs.Unmatched.{none-told, some-told}
use Rattle.constraints.proofs.Violations.{schema_here}
use Rattle.constraints.proofs.matching.unmatched.Goals as goal

pub returns-in-Ok-clause-none : goal.returns-in-Ok-clause-none
returns-in-Ok-clause-none g c =
    let old = g.S.Store.shows c.args.store.now in
    none-told old _ (g.S.Store.is_sound c.args.store.now) _ c.schema.result.now c.args.name.now c.args.came.now c.args.gone.now c.in-Ok.asked
    (λ sound. (g.met.S.Store.goes_on_goes _ _ _ c.in_default.ensures.goes).sound sound) c.in_default.ensures.shows
    (λ sound. schema_here _ _ old old c.schema.ensures refl (c.in_default.ensures.prepared sound)) c.in-Ok.ensures c.unmatched_of.result c.unmatched_of.ensures.none

pub returns-in-Ok-clause-some : goal.returns-in-Ok-clause-some
returns-in-Ok-clause-some g c =
    let old = g.S.Store.shows c.args.store.now in
    some-told old _ (g.S.Store.is_sound c.args.store.now) _ c.schema.result.now c.args.name.now c.args.came.now c.args.gone.now c.in-Ok.asked
    (λ sound. (g.met.S.Store.goes_on_goes _ _ _ c.in_default.ensures.goes).sound sound) c.in_default.ensures.shows
    (λ sound. schema_here _ _ old old c.schema.ensures refl (c.in_default.ensures.prepared sound)) c.in-Ok.ensures c.unmatched_of.result c.unmatched_of.ensures.some

pub returns-in-Ok-clause-goes : goal.returns-in-Ok-clause-goes
returns-in-Ok-clause-goes g c = g.met.S.Store.goes_on_trans _ _ _ Going.keeps Going.reads c.prepare.ensures.goes c.unmatched_of.ensures.goes
