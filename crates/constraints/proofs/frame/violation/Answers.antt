use Rattle.std.proofs.Common.{◌≡◌, ◌∙◌, [], Some}
use Rattle.std.proofs.lemmas.Result.{IfOk-weaker}
use Rattle.std.specs.Prelude.{Contains, MatchOption}
use Rattle.std.specs.FinMap.{get}
use Rattle.denote.specs.Database.{Name, Table, CheckReading, table_of, violated_by}
use Rattle.store.specs.Contents.{database_of}
use Rattle.constraints.specs.Settled.{Decided, Holds}
use Rattle.constraints.proofs.Violations.{schema_here, table_read, none_holds, finds}
use Rattle.store.specs.Going.{Going}
use Rattle.constraints.proofs.frame.violation.Goals as goal

pub returns-in-None-clause-found : goal.returns-in-None-clause-found
returns-in-None-clause-found g c = λ reading sound decided.
    none_holds reading (database_of (g.S.Store.shows c.args.store.now).working) c.schema.result.now c.args.name.now
    (schema_here _ _ (g.S.Store.shows c.args.store.now) (g.S.Store.shows c.scan.new.self) c.schema.ensures ((g.met.S.Store.goes_on_goes _ _ _ c.scan.ensures.goes).stays.shows) (c.in_default.ensures.prepared ((g.met.S.Store.goes_on_goes _ _ _ c.scan.ensures.goes).sound sound)))
    c.in-None.ensures.none

pub returns-clause-found : goal.returns-clause-found
returns-clause-found g c = IfOk-weaker c.violation_in.result
    (λ found. (reading : CheckReading) (name : Name) → g.C.Checks.decides c.args.checks.now reading name c.in-Some.table.now.columns c.in-Some.table.now.constraints
    → MatchOption found (violated_by reading name (table_of c.in-Some.table.now c.as_slice.result.now) ≡ []) (λ constraint. Contains (violated_by reading name (table_of c.in-Some.table.now c.as_slice.result.now)) constraint))
    (λ found. (reading : CheckReading) → g.S.Store.is_sound c.args.store.now → Decided (g.C.Checks.decides c.args.checks.now reading) (database_of (g.S.Store.shows c.args.store.now).working) c.args.name.now
    → MatchOption found (Holds reading (database_of (g.S.Store.shows c.args.store.now).working) c.args.name.now)
    (λ constraint. (t : Table) × (get (database_of (g.S.Store.shows c.args.store.now).working) c.args.name.now ≡ Some t) × Contains (violated_by reading c.args.name.now t) constraint))
    (λ found h reading sound decided.
    let there = table_read (g.S.Store.shows c.args.store.now).working c.schema.result.now c.args.name.now c.in-Some.table.now c.as_slice.result.now
    (schema_here _ _ (g.S.Store.shows c.args.store.now) (g.S.Store.shows c.scan.new.self) c.schema.ensures ((g.met.S.Store.goes_on_goes _ _ _ c.scan.ensures.goes).stays.shows) (c.in_default.ensures.prepared ((g.met.S.Store.goes_on_goes _ _ _ c.scan.ensures.goes).sound sound)))
    c.in-Some.ensures.there c.in-Some.ensures.named (c.as_slice.ensures ∙ (c.in-Ok.ensures.rows sound).rows) in
    finds reading (database_of (g.S.Store.shows c.args.store.now).working) c.args.name.now (table_of c.in-Some.table.now c.as_slice.result.now) found there
    (h reading c.args.name.now (decided (table_of c.in-Some.table.now c.as_slice.result.now) there)))
    c.violation_in.ensures.found

pub returns-in-Err-clause-goes : goal.returns-in-Err-clause-goes
returns-in-Err-clause-goes g c = g.met.S.Store.goes_on_trans _ _ _ Going.reads Going.keeps c.scan.ensures.goes (g.met.S.Store.goes_on_refl _ Going.keeps)

pub returns-in-Err-prepare-clause-goes : goal.returns-in-Err-prepare-clause-goes
returns-in-Err-prepare-clause-goes g c = g.met.S.Store.goes_on_trans _ _ _ Going.reads Going.keeps c.scan.ensures.goes c.prepare.ensures.goes

pub returns-in-None-clause-goes : goal.returns-in-None-clause-goes
returns-in-None-clause-goes g c = g.met.S.Store.goes_on_trans _ _ _ Going.reads Going.keeps c.scan.ensures.goes c.prepare.ensures.goes

pub returns-clause-goes : goal.returns-clause-goes
returns-clause-goes g c = g.met.S.Store.goes_on_trans _ _ _ Going.reads Going.keeps c.scan.ensures.goes c.prepare.ensures.goes
