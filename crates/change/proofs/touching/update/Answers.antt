use Rattle.std.proofs.Common.{sym, subst}
use Rattle.std.proofs.lemmas.Result.{IfOk-weaker, IfErr-weaker}
use Rattle.sqlval.specs.declared.schema.Schema.{Schema}
use Rattle.denote.specs.SchemaOf.{IsSchemaOf}
use Rattle.store.specs.Contents.{database_of}
use Rattle.session_definitions.specs.Refusals.{IsReserved}
use Rattle.constraints.specs.Changed.{RefusesChange}
use Rattle.change.proofs.Named.{no_device}
use Rattle.std.specs.FinMap.{get}
use Rattle.update_delete.specs.Reached.{IsNumberedOut, ReplacingReaches}
use Rattle.constraints.proofs.Limits.{tells_none}
use Rattle.store.specs.Going.{Going}
use Rattle.change.proofs.touching.update.Goals as goal

pub returns-in-Ok-clause-changes : goal.returns-in-Ok-clause-changes
returns-in-Ok-clause-changes g c = IfOk-weaker c.update_rows.result _ _
    (λ reply h reading is_reading sound of good.
    let db = database_of (g.S.Store.shows c.args.store.now).working in
    let schema : IsSchemaOf c.schema.result.now db = subst (λ (s : Schema). IsSchemaOf s db) (sym c.schema.ensures) of in
    h reading sound of (c.in-Ok.ensures.decides reading db is_reading schema)
    (rw c.as_slice.ensures (c.in-Ok.ensures.decides reading db is_reading schema)) good)
    c.update_rows.ensures.changes

pub returns-in-Ok-clause-refused : goal.returns-in-Ok-clause-refused
returns-in-Ok-clause-refused g c = IfErr-weaker c.update_rows.result _ _
    (λ refusal h reading is_reading sound of good.
    let db = database_of (g.S.Store.shows c.args.store.now).working in
    let schema : IsSchemaOf c.schema.result.now db = subst (λ (s : Schema). IsSchemaOf s db) (sym c.schema.ensures) of in
    h reading sound of (c.in-Ok.ensures.decides reading db is_reading schema)
    (rw c.as_slice.ensures (c.in-Ok.ensures.decides reading db is_reading schema)) good)
    c.update_rows.ensures.refused

pub returns-in-Err-clause-refused : goal.returns-in-Err-clause-refused
returns-in-Err-clause-refused g c = λ reading is_reading sound of good.
    let db = database_of (g.S.Store.shows c.args.store.now).working in
    let schema : IsSchemaOf c.schema.result.now db = subst (λ (s : Schema). IsSchemaOf s db) (sym c.schema.ensures) of in
    RefusesChange.withheld (subst IsReserved (sym (c.in-Err.ensures.good reading db schema good)) tt)

pub returns-in-Err-clause-device : goal.returns-in-Err-clause-device
returns-in-Err-clause-device g c = λ is. absurd (no_device c.in-Err.refusal c.in-Err.ensures.refused is)

pub returns-in-Err-clause-limits : goal.returns-in-Err-clause-limits
returns-in-Err-clause-limits g c = tells_none (ReplacingReaches (g.S.Store.counted c.args.store.now) (g.S.Store.is_sound c.args.store.now → IsNumberedOut (get (g.S.Store.shows c.args.store.now).working c.args.update.now.table))) c.in-Err.refusal c.in-Err.ensures.limits

pub returns-in-Ok-clause-accepted : goal.returns-in-Ok-clause-accepted
returns-in-Ok-clause-accepted g c = c.update_rows.ensures.accepted

pub returns-in-Ok-clause-limits : goal.returns-in-Ok-clause-limits
returns-in-Ok-clause-limits g c = c.update_rows.ensures.limits

pub returns-in-Ok-clause-device : goal.returns-in-Ok-clause-device
returns-in-Ok-clause-device g c = c.update_rows.ensures.device

pub returns-in-Ok-clause-same : goal.returns-in-Ok-clause-same
returns-in-Ok-clause-same g c = c.update_rows.ensures.same

pub returns-in-Ok-clause-goes : goal.returns-in-Ok-clause-goes
returns-in-Ok-clause-goes g c = c.update_rows.ensures.goes

pub returns-in-Err-clause-changes : goal.returns-in-Err-clause-changes
returns-in-Err-clause-changes g c = tt

pub returns-in-Err-clause-accepted : goal.returns-in-Err-clause-accepted
returns-in-Err-clause-accepted g c = tt

pub returns-in-Err-clause-goes : goal.returns-in-Err-clause-goes
returns-in-Err-clause-goes g c = g.met.S.Store.goes_on_refl _ Going.changes
