use Rattle.std.proofs.Common.{◌≡◌, sym, ap, subst, OnErr}
use Rattle.session_definitions.specs.Refusals.{IsReserved}
use Rattle.change.proofs.Named.{no_device}
use Rattle.std.proofs.lemmas.Result.{IfOk-weaker, IfErr-weaker}
use Rattle.sqlval.specs.declared.schema.Schema.{Schema}
use Rattle.typing.specs.declared.statement.Change.TheVariants as does
use Rattle.denote.specs.SchemaOf.{IsSchemaOf}
use Rattle.update_delete.specs.Checked.{AreChecksFor}
use Rattle.store.specs.Contents.{database_of}
use Rattle.store.specs.Stored.{Stored, SameButMark}
use Rattle.constraints.specs.Changed.{RefusesChange}
use Rattle.denote.specs.Database.{IsGood}
use Rattle.table_changes.specs.Given.{AreGiven, HasAccepted}
use Rattle.constraints.proofs.Limits.{tells_none}
use Rattle.change.specs.Reached.{ChangeReaches}
use Rattle.change.proofs.Reaching.{inserting_reaches}
use Rattle.store.specs.Going.{Going}
use Rattle.change.proofs.insert.insert.Goals as goal

pub returns-in-Ok-rows_of-clause-changes : goal.returns-in-Ok-rows_of-clause-changes
returns-in-Ok-rows_of-clause-changes g c = IfOk-weaker c.insert_rows.result _ _
    (λ reply h reading is_reading sound of good.
    let old = g.S.Store.shows c.args.store.now in
    let schema : IsSchemaOf c.schema.result.now (database_of old.working) = subst (λ (s : Schema). IsSchemaOf s (database_of old.working)) (sym c.schema.ensures) of in
    let there = c.in-Ok.ensures.there (database_of old.working) schema in
    let decided = c.in-Ok.ensures.decides reading (database_of old.working) is_reading schema in
    let given = c.in-Ok-rows_of.ensures.gives reading there.0 sound of good there.1 (decided there.0 there.1) in
    let same : old ≡ g.S.Store.shows c.rows_of.new.store = sym c.rows_of.ensures.shows in
    subst (λ (s : Stored). HasAccepted reading s (does.Insert c.args.insert.now) reply (g.S.Store.shows c.insert_rows.new.store)) (sym same)
    (h reading c.args.insert.now.columns c.args.insert.now.source ((g.met.S.Store.goes_on_goes _ _ _ c.rows_of.ensures.goes).sound sound)
    (subst (λ (s : Stored). AreChecksFor reading (database_of s.working) c.args.insert.now.table c.in-Ok.checks.conditions) same decided)
    (subst (λ (s : Stored). IsGood reading (database_of s.working)) same good)
    (subst (λ (s : Stored). AreGiven reading (database_of s.working) c.args.insert.now c.in-Ok-rows_of.rows) same given)))
    c.insert_rows.ensures.changes

pub returns-in-Ok-rows_of-clause-refused : goal.returns-in-Ok-rows_of-clause-refused
returns-in-Ok-rows_of-clause-refused g c = IfErr-weaker c.insert_rows.result _ _
    (λ refusal h reading is_reading sound of good.
    let old = g.S.Store.shows c.args.store.now in
    let schema : IsSchemaOf c.schema.result.now (database_of old.working) = subst (λ (s : Schema). IsSchemaOf s (database_of old.working)) (sym c.schema.ensures) of in
    let there = c.in-Ok.ensures.there (database_of old.working) schema in
    let decided = c.in-Ok.ensures.decides reading (database_of old.working) is_reading schema in
    let given = c.in-Ok-rows_of.ensures.gives reading there.0 sound of good there.1 (decided there.0 there.1) in
    let same : old ≡ g.S.Store.shows c.rows_of.new.store = sym c.rows_of.ensures.shows in
    subst (λ (s : Stored). RefusesChange reading (database_of s.working) (does.Insert c.args.insert.now) refusal) (sym same)
    (h reading c.args.insert.now.columns c.args.insert.now.source ((g.met.S.Store.goes_on_goes _ _ _ c.rows_of.ensures.goes).sound sound)
    (subst (λ (s : Stored). AreChecksFor reading (database_of s.working) c.args.insert.now.table c.in-Ok.checks.conditions) same decided)
    (subst (λ (s : Stored). IsGood reading (database_of s.working)) same good)
    (subst (λ (s : Stored). AreGiven reading (database_of s.working) c.args.insert.now c.in-Ok-rows_of.rows) same given)))
    c.insert_rows.ensures.refused

pub returns-clause-refused : goal.returns-clause-refused
returns-clause-refused g c = λ reading is_reading sound of good.
    let db = database_of (g.S.Store.shows c.args.store.now).working in
    let schema : IsSchemaOf c.schema.result.now db = subst (λ (s : Schema). IsSchemaOf s db) (sym c.schema.ensures) of in
    let there = c.in-Ok.ensures.there db schema in
    c.in-Err-rows_of.ensures.refused reading there.0 sound of good there.1 (c.in-Ok.ensures.decides reading db is_reading schema there.0 there.1)

pub returns-clause-device : goal.returns-clause-device
returns-clause-device g c = c.in-Err-rows_of.ensures.device

pub returns-in-Err-clause-refused : goal.returns-in-Err-clause-refused
returns-in-Err-clause-refused g c = λ reading is_reading sound of good.
    let db = database_of (g.S.Store.shows c.args.store.now).working in
    let schema : IsSchemaOf c.schema.result.now db = subst (λ (s : Schema). IsSchemaOf s db) (sym c.schema.ensures) of in
    RefusesChange.withheld (subst IsReserved (sym (c.in-Err.ensures.good reading db schema good)) tt)

pub returns-in-Err-clause-device : goal.returns-in-Err-clause-device
returns-in-Err-clause-device g c = λ is. absurd (no_device c.in-Err.refusal c.in-Err.ensures.refused is)

pub returns-in-Ok-rows_of-clause-limits : goal.returns-in-Ok-rows_of-clause-limits
returns-in-Ok-rows_of-clause-limits g c =
    let old = g.S.Store.shows c.args.store.now in
    let db = database_of old.working in
    IfErr-weaker c.insert_rows.result _ _
    (λ refusal h. inserting_reaches (g.S.Store.counted c.insert_rows.new.store) (g.S.Store.is_sound c.args.store.now) (g.S.Store.prepared c.args.store.now) old.working (g.S.Store.shows c.rows_of.new.store).working c.args.insert.now c.in-Ok-rows_of.rows (ap (λ (s : Stored). s.working) c.rows_of.ensures.shows)
    (λ reading is_reading sound of good.
    let schema : IsSchemaOf c.schema.result.now db = subst (λ (s : Schema). IsSchemaOf s db) (sym c.schema.ensures) of in
    let there = c.in-Ok.ensures.there db schema in
    c.in-Ok-rows_of.ensures.gives reading there.0 sound of good there.1 (c.in-Ok.ensures.decides reading db is_reading schema there.0 there.1))
    refusal h)
    c.insert_rows.ensures.limits

pub returns-in-Err-clause-limits : goal.returns-in-Err-clause-limits
returns-in-Err-clause-limits g c = tells_none (ChangeReaches (g.S.Store.counted c.args.store.now) (g.S.Store.is_sound c.args.store.now) (g.S.Store.prepared c.args.store.now) (g.S.Store.shows c.args.store.now).working (does.Insert c.args.insert.now)) c.in-Err.refusal c.in-Err.ensures.limits

pub returns-clause-limits : goal.returns-clause-limits
returns-clause-limits g c = tells_none (ChangeReaches (g.S.Store.counted c.rows_of.new.store) (g.S.Store.is_sound c.args.store.now) (g.S.Store.prepared c.args.store.now) (g.S.Store.shows c.args.store.now).working (does.Insert c.args.insert.now)) c.in-Err-rows_of.refusal c.in-Err-rows_of.ensures.limits

pub returns-in-Ok-rows_of-clause-goes : goal.returns-in-Ok-rows_of-clause-goes
returns-in-Ok-rows_of-clause-goes g c = g.met.S.Store.goes_on_trans _ _ _ Going.reads Going.changes c.rows_of.ensures.goes c.insert_rows.ensures.goes

pub returns-clause-goes : goal.returns-clause-goes
returns-clause-goes g c = g.met.S.Store.goes_on_trans _ _ _ Going.reads Going.changes c.rows_of.ensures.goes (g.met.S.Store.goes_on_refl _ Going.changes)

pub returns-in-Ok-rows_of-clause-accepted : goal.returns-in-Ok-rows_of-clause-accepted
returns-in-Ok-rows_of-clause-accepted g c = c.insert_rows.ensures.accepted

pub returns-in-Ok-rows_of-clause-same : goal.returns-in-Ok-rows_of-clause-same
returns-in-Ok-rows_of-clause-same g c = subst (λ (s : Stored). OnErr c.insert_rows.result (SameButMark s (g.S.Store.shows c.insert_rows.new.store))) c.rows_of.ensures.shows c.insert_rows.ensures.same

pub returns-clause-changes : goal.returns-clause-changes
returns-clause-changes g c = tt

pub returns-clause-accepted : goal.returns-clause-accepted
returns-clause-accepted g c = tt

pub returns-in-Err-clause-changes : goal.returns-in-Err-clause-changes
returns-in-Err-clause-changes g c = tt

pub returns-in-Err-clause-accepted : goal.returns-in-Err-clause-accepted
returns-in-Err-clause-accepted g c = tt

pub returns-in-Err-clause-goes : goal.returns-in-Err-clause-goes
returns-in-Err-clause-goes g c = g.met.S.Store.goes_on_refl _ Going.changes
