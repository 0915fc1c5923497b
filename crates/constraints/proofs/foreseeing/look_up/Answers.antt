use Rattle.std.proofs.Common.{◌≡◌, ◌∙◌, refl, ap, subst, Some, IfOk}
use Rattle.std.specs.Option.{option_map}
use Rattle.std.specs.FinMap.{get}
use Rattle.store.specs.Contents.{database_of}
use Rattle.store.specs.Contents.{table_of as held}
use Rattle.store.specs.Stored.{Stored}
use Rattle.store.proofs.Databases.{database-get}
use Rattle.constraints.specs.Foreseen.{foreseen_by, met_in}
use Rattle.constraints.proofs.Declared.{no_table}
use Rattle.constraints.proofs.Violations.{schema_here}
use Rattle.constraints.proofs.Looking.{when, still_decides, told_alone, told, said_of}
use Rattle.store.specs.Going.{Going}
use Rattle.constraints.proofs.foreseeing.look_up.Goals as goal

pub returns-in-None-clause-found : goal.returns-in-None-clause-found
returns-in-None-clause-found g c = λ reading table before whole sound there decided comes. tt

pub returns-in-None-clause-said : goal.returns-in-None-clause-said
returns-in-None-clause-said g c = λ table sound there indexed.
    let old = g.S.Store.shows c.args.store.now in
    let of = schema_here _ _ old old c.schema.ensures refl (c.in_default.ensures.prepared sound) in
    let none = no_table c.schema.result.now (database_of old.working) c.args.name.now of c.in-None.ensures.none in
    let held_there : get (database_of old.working) c.args.name.now ≡ Some (held table) = database-get old.working c.args.name.now ∙ ap (option_map held) there in
    absurd (cc (none, held_there))

pub returns-in-Ok-Violates-clause-found : goal.returns-in-Ok-Violates-clause-found
returns-in-Ok-Violates-clause-found g c = λ reading table before whole sound there decided comes.
    let old = g.S.Store.shows c.args.store.now in
    let of = schema_here _ _ old old c.schema.ensures refl (c.in_default.ensures.prepared sound) in
    let decides = still_decides reading old.working c.schema.result.now c.args.name.now c.in-Some.table.now of c.in-Some.ensures.there c.in-Some.ensures.named table there
    (g.C.Checks.decides c.args.checks.now reading) decided in
    told_alone reading old.working c.schema.result.now c.args.name.now c.in-Some.table.now of c.in-Some.ensures.there c.in-Some.ensures.named table there c.args.rows.now c.args.own before whole
    c.in-Ok-Violates.constraint comes (rw c.in-Ok-Violates.field-0-is at (c.in-Ok-Violates.ensures.found reading c.args.name.now decides))

pub returns-in-Ok-Keys-clause-found : goal.returns-in-Ok-Keys-clause-found
returns-in-Ok-Keys-clause-found g c =
    let old = g.S.Store.shows c.args.store.now in
    when c.looked_up.result (g.S.Store.is_sound c.args.store.now)
    (λ foreseen. foreseen ≡ foreseen_by (met_in c.args.own (get (g.S.Store.shows c.args.store.now).working c.args.name.now) c.args.rows.now) c.in-Ok-Keys.keys) _
    (λ sound. subst (λ (s : Stored). IfOk c.looked_up.result (λ foreseen. foreseen ≡ foreseen_by (met_in c.args.own (get s.working c.args.name.now) c.args.rows.now) c.in-Ok-Keys.keys))
    c.in_default.ensures.shows (c.looked_up.ensures.found ((g.met.S.Store.goes_on_goes _ _ _ c.in_default.ensures.goes).sound sound)))
    (λ foreseen is reading table before whole sound there decided comes.
    let of = schema_here _ _ old old c.schema.ensures refl (c.in_default.ensures.prepared sound) in
    let decides = still_decides reading old.working c.schema.result.now c.args.name.now c.in-Some.table.now of c.in-Some.ensures.there c.in-Some.ensures.named table there
    (g.C.Checks.decides c.args.checks.now reading) decided in
    told reading old.working c.schema.result.now c.args.name.now c.in-Some.table.now of c.in-Some.ensures.there c.in-Some.ensures.named table there c.args.rows.now c.args.own before whole
    c.in-Ok-Keys.keys foreseen comes (rw c.in-Ok-Keys.field-0-is at (c.in-Ok-Keys.ensures.found reading c.args.name.now decides)) (is sound))

pub returns-in-Ok-Keys-clause-said : goal.returns-in-Ok-Keys-clause-said
returns-in-Ok-Keys-clause-said g c =
    let old = g.S.Store.shows c.args.store.now in
    when c.looked_up.result (g.S.Store.is_sound c.args.store.now)
    (λ foreseen. foreseen ≡ foreseen_by (met_in c.args.own (get (g.S.Store.shows c.args.store.now).working c.args.name.now) c.args.rows.now) c.in-Ok-Keys.keys) _
    (λ sound. subst (λ (s : Stored). IfOk c.looked_up.result (λ foreseen. foreseen ≡ foreseen_by (met_in c.args.own (get s.working c.args.name.now) c.args.rows.now) c.in-Ok-Keys.keys))
    c.in_default.ensures.shows (c.looked_up.ensures.found ((g.met.S.Store.goes_on_goes _ _ _ c.in_default.ensures.goes).sound sound)))
    (λ foreseen is table sound there indexed.
    said_of old.working c.schema.result.now c.args.name.now c.in-Some.table.now (schema_here _ _ old old c.schema.ensures refl (c.in_default.ensures.prepared sound))
    c.in-Some.ensures.there c.in-Some.ensures.named c.args.own table c.args.rows.now c.in-Ok-Keys.keys foreseen there (rw c.in-Ok-Keys.field-0-is at c.in-Ok-Keys.ensures.keys) (is sound) indexed)

pub returns-in-Ok-Keys-clause-goes : goal.returns-in-Ok-Keys-clause-goes
returns-in-Ok-Keys-clause-goes g c = g.met.S.Store.goes_on_trans _ _ _ Going.keeps Going.reads c.prepare.ensures.goes c.looked_up.ensures.goes
