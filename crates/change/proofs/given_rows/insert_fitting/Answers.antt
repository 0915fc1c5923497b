use Rattle.std.proofs.Common.{◌≡◌, refl, sym, subst}
use Rattle.std.proofs.lemmas.Result.{IfOk-weaker, IfErr-weaker}
use Rattle.sqlval.specs.declared.schema.Schema.{Schema}
use Rattle.typing.specs.declared.statement.Change.TheVariants as does
use Rattle.typing.specs.declared.statement.InsertSource.TheVariants as from
use Rattle.denote.specs.SchemaOf.{IsSchemaOf}
use Rattle.session_definitions.specs.Refusals.{IsReserved}
use Rattle.store.specs.Contents.{database_of}
use Rattle.constraints.specs.Changed.{RefusesChange}
use Rattle.constraints.proofs.Limits.{tells_none}
use Rattle.table_changes.specs.Given.{into}
use Rattle.change.specs.Listed.{typed_rows}
use Rattle.change.specs.Reached.{ChangeReaches}
use Rattle.change.proofs.Named.{no_device}
use Rattle.change.proofs.Reaching.{inserting_reaches}
use Rattle.store.specs.Going.{Going}
use Rattle.change.proofs.given_rows.insert_fitting.Goals as goal

pub returns-in-Ok-rows_given-clause-changes : goal.returns-in-Ok-rows_given-clause-changes
returns-in-Ok-rows_given-clause-changes g c = IfOk-weaker c.insert_rows.result _ _
    (λ reply h reading is_reading sound of good.
    let db = database_of (g.S.Store.shows c.args.store.now).working in
    let schema : IsSchemaOf c.schema.result.now db = subst (λ (s : Schema). IsSchemaOf s db) (sym c.schema.ensures) of in
    let lent : IsSchemaOf c.schema-2.result.now db = subst (λ (s : Schema). IsSchemaOf s db) (sym c.schema-2.ensures) of in
    let there = c.in-Ok.ensures.there db schema in
    let decided = c.in-Ok.ensures.decides reading db is_reading schema in
    h reading c.args.columns.now (from.Values (typed_rows c.args.rows)) sound decided good
    (c.in-Ok-rows_given.ensures.gives reading db there.0 lent there.1 (decided there.0 there.1)))
    c.insert_rows.ensures.changes

pub returns-in-Ok-rows_given-clause-refused : goal.returns-in-Ok-rows_given-clause-refused
returns-in-Ok-rows_given-clause-refused g c = IfErr-weaker c.insert_rows.result _ _
    (λ refusal h reading is_reading sound of good.
    let db = database_of (g.S.Store.shows c.args.store.now).working in
    let schema : IsSchemaOf c.schema.result.now db = subst (λ (s : Schema). IsSchemaOf s db) (sym c.schema.ensures) of in
    let lent : IsSchemaOf c.schema-2.result.now db = subst (λ (s : Schema). IsSchemaOf s db) (sym c.schema-2.ensures) of in
    let there = c.in-Ok.ensures.there db schema in
    let decided = c.in-Ok.ensures.decides reading db is_reading schema in
    h reading c.args.columns.now (from.Values (typed_rows c.args.rows)) sound decided good
    (c.in-Ok-rows_given.ensures.gives reading db there.0 lent there.1 (decided there.0 there.1)))
    c.insert_rows.ensures.refused

pub returns-in-Ok-rows_given-clause-limits : goal.returns-in-Ok-rows_given-clause-limits
returns-in-Ok-rows_given-clause-limits g c =
    let old = g.S.Store.shows c.args.store.now in
    let db = database_of old.working in
    IfErr-weaker c.insert_rows.result _ _
    (λ refusal h. inserting_reaches (g.S.Store.counted c.insert_rows.new.store) (g.S.Store.is_sound c.args.store.now) (g.S.Store.prepared c.args.store.now) old.working old.working
    (into c.args.name.now c.args.columns.now (from.Values (typed_rows c.args.rows))) c.in-Ok-rows_given.stored refl
    (λ reading is_reading sound of good.
    let schema : IsSchemaOf c.schema.result.now db = subst (λ (s : Schema). IsSchemaOf s db) (sym c.schema.ensures) of in
    let lent : IsSchemaOf c.schema-2.result.now db = subst (λ (s : Schema). IsSchemaOf s db) (sym c.schema-2.ensures) of in
    let there = c.in-Ok.ensures.there db schema in
    c.in-Ok-rows_given.ensures.gives reading db there.0 lent there.1 (c.in-Ok.ensures.decides reading db is_reading schema there.0 there.1))
    refusal h)
    c.insert_rows.ensures.limits

pub returns-clause-refused : goal.returns-clause-refused
returns-clause-refused g c = λ reading is_reading sound of good.
    let db = database_of (g.S.Store.shows c.args.store.now).working in
    let schema : IsSchemaOf c.schema.result.now db = subst (λ (s : Schema). IsSchemaOf s db) (sym c.schema.ensures) of in
    let lent : IsSchemaOf c.schema-2.result.now db = subst (λ (s : Schema). IsSchemaOf s db) (sym c.schema-2.ensures) of in
    let there = c.in-Ok.ensures.there db schema in
    c.in-Err-rows_given.ensures.refused reading db there.0 lent there.1 (c.in-Ok.ensures.decides reading db is_reading schema there.0 there.1)

pub returns-clause-limits : goal.returns-clause-limits
returns-clause-limits g c = tells_none (ChangeReaches (g.S.Store.counted c.args.store.now) (g.S.Store.is_sound c.args.store.now) (g.S.Store.prepared c.args.store.now) (g.S.Store.shows c.args.store.now).working (does.Insert (into c.args.name.now c.args.columns.now (from.Values (typed_rows c.args.rows))))) c.in-Err-rows_given.refusal c.in-Err-rows_given.ensures.limits

pub returns-clause-device : goal.returns-clause-device
returns-clause-device g c = λ is. absurd (c.in-Err-rows_given.ensures.device is)

pub returns-in-Err-clause-refused : goal.returns-in-Err-clause-refused
returns-in-Err-clause-refused g c = λ reading is_reading sound of good.
    let db = database_of (g.S.Store.shows c.args.store.now).working in
    let schema : IsSchemaOf c.schema.result.now db = subst (λ (s : Schema). IsSchemaOf s db) (sym c.schema.ensures) of in
    RefusesChange.withheld (subst IsReserved (sym (c.in-Err.ensures.good reading db schema good)) tt)

pub returns-in-Err-clause-limits : goal.returns-in-Err-clause-limits
returns-in-Err-clause-limits g c = tells_none (ChangeReaches (g.S.Store.counted c.args.store.now) (g.S.Store.is_sound c.args.store.now) (g.S.Store.prepared c.args.store.now) (g.S.Store.shows c.args.store.now).working (does.Insert (into c.args.name.now c.args.columns.now (from.Values (typed_rows c.args.rows))))) c.in-Err.refusal c.in-Err.ensures.limits

pub returns-in-Err-clause-device : goal.returns-in-Err-clause-device
returns-in-Err-clause-device g c = λ is. absurd (no_device c.in-Err.refusal c.in-Err.ensures.refused is)

pub returns-in-Ok-rows_given-clause-accepted : goal.returns-in-Ok-rows_given-clause-accepted
returns-in-Ok-rows_given-clause-accepted g c = c.insert_rows.ensures.accepted

pub returns-in-Ok-rows_given-clause-device : goal.returns-in-Ok-rows_given-clause-device
returns-in-Ok-rows_given-clause-device g c = c.insert_rows.ensures.device

pub returns-in-Ok-rows_given-clause-same : goal.returns-in-Ok-rows_given-clause-same
returns-in-Ok-rows_given-clause-same g c = c.insert_rows.ensures.same

pub returns-in-Ok-rows_given-clause-goes : goal.returns-in-Ok-rows_given-clause-goes
returns-in-Ok-rows_given-clause-goes g c = c.insert_rows.ensures.goes

pub returns-clause-changes : goal.returns-clause-changes
returns-clause-changes g c = tt

pub returns-clause-accepted : goal.returns-clause-accepted
returns-clause-accepted g c = tt

pub returns-clause-goes : goal.returns-clause-goes
returns-clause-goes g c = g.met.S.Store.goes_on_refl _ Going.changes

pub returns-in-Err-clause-changes : goal.returns-in-Err-clause-changes
returns-in-Err-clause-changes g c = tt

pub returns-in-Err-clause-accepted : goal.returns-in-Err-clause-accepted
returns-in-Err-clause-accepted g c = tt

pub returns-in-Err-clause-goes : goal.returns-in-Err-clause-goes
returns-in-Err-clause-goes g c = g.met.S.Store.goes_on_refl _ Going.changes
