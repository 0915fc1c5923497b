use Rattle.std.proofs.lemmas.Result.{IfOk-weaker, IfErr-weaker}
use Rattle.typing.specs.declared.statement.InsertSource.TheVariants as from
use Rattle.table_changes.specs.Given.{into}
use Rattle.change.specs.Given.{GivenReaches, RefusesGiven}
use Rattle.change.specs.Listed.{typed_rows}
use Rattle.change.proofs.Inserted.{found_as, given_reaches, no_device, no_limit, wrong_as}
use Rattle.store.specs.Going.{Going}
use Rattle.change.proofs.given_rows.insert_given.Goals as goal

pub returns-in-Ok-clause-changes : goal.returns-in-Ok-clause-changes
returns-in-Ok-clause-changes g c = IfOk-weaker c.insert_fitting.result _ _
    (λ reply h reading is_reading sound of good. record {
      insert = into c.args.name.now c.in-Ok.columns (from.Values (typed_rows c.args.rows));
      found = found_as (g.S.Store.prepared c.args.store.now) c.schema.result.now c.args.name.now c.args.rows c.as_slice.result.now c.schema.ensures c.as_slice.ensures c.in-Ok.columns c.in-Ok.ensures.found;
      accepted = h reading is_reading sound of good;
    })
    c.insert_fitting.ensures.changes

pub returns-in-Ok-clause-refused : goal.returns-in-Ok-clause-refused
returns-in-Ok-clause-refused g c = IfErr-weaker c.insert_fitting.result _ _
    (λ refusal h reading is_reading sound of good. RefusesGiven.refused (into c.args.name.now c.in-Ok.columns (from.Values (typed_rows c.args.rows)))
    (found_as (g.S.Store.prepared c.args.store.now) c.schema.result.now c.args.name.now c.args.rows c.as_slice.result.now c.schema.ensures c.as_slice.ensures c.in-Ok.columns c.in-Ok.ensures.found)
    (h reading is_reading sound of good))
    c.insert_fitting.ensures.refused

pub returns-in-Ok-clause-limits : goal.returns-in-Ok-clause-limits
returns-in-Ok-clause-limits g c = IfErr-weaker c.insert_fitting.result _ _
    (λ refusal h. given_reaches (g.S.Store.counted c.insert_fitting.new.store) (g.S.Store.is_sound c.args.store.now) (g.S.Store.prepared c.args.store.now) (g.S.Store.shows c.args.store.now).working c.args.name.now c.args.rows
    (into c.args.name.now c.in-Ok.columns (from.Values (typed_rows c.args.rows)))
    (found_as (g.S.Store.prepared c.args.store.now) c.schema.result.now c.args.name.now c.args.rows c.as_slice.result.now c.schema.ensures c.as_slice.ensures c.in-Ok.columns c.in-Ok.ensures.found)
    refusal h)
    c.insert_fitting.ensures.limits

pub returns-in-Err-clause-refused : goal.returns-in-Err-clause-refused
returns-in-Err-clause-refused g c = λ reading is_reading sound of good.
    RefusesGiven.wrong (wrong_as (g.S.Store.prepared c.args.store.now) c.schema.result.now c.args.name.now c.args.rows c.as_slice.result.now c.schema.ensures c.as_slice.ensures c.in-Err.refusal c.in-Err.ensures.refused)

pub returns-in-Err-clause-limits : goal.returns-in-Err-clause-limits
returns-in-Err-clause-limits g c = no_limit (GivenReaches (g.S.Store.counted c.args.store.now) (g.S.Store.is_sound c.args.store.now) (g.S.Store.prepared c.args.store.now) (g.S.Store.shows c.args.store.now).working c.args.name.now c.args.rows) c.in-Err.refusal c.in-Err.ensures.causes

pub returns-in-Err-clause-device : goal.returns-in-Err-clause-device
returns-in-Err-clause-device g c = λ is. absurd (no_device c.in-Err.refusal c.in-Err.ensures.causes is)

pub returns-in-Ok-clause-accepted : goal.returns-in-Ok-clause-accepted
returns-in-Ok-clause-accepted g c = c.insert_fitting.ensures.accepted

pub returns-in-Ok-clause-device : goal.returns-in-Ok-clause-device
returns-in-Ok-clause-device g c = c.insert_fitting.ensures.device

pub returns-in-Ok-clause-same : goal.returns-in-Ok-clause-same
returns-in-Ok-clause-same g c = c.insert_fitting.ensures.same

pub returns-in-Ok-clause-goes : goal.returns-in-Ok-clause-goes
returns-in-Ok-clause-goes g c = c.insert_fitting.ensures.goes

pub returns-in-Err-clause-changes : goal.returns-in-Err-clause-changes
returns-in-Err-clause-changes g c = tt

pub returns-in-Err-clause-accepted : goal.returns-in-Err-clause-accepted
returns-in-Err-clause-accepted g c = tt

pub returns-in-Err-clause-goes : goal.returns-in-Err-clause-goes
returns-in-Err-clause-goes g c = g.met.S.Store.goes_on_refl _ Going.changes
