use Rattle.std.proofs.Common.{◌≡◌, ◌∙◌, ℕ, sym, subst, ap, List, [], Option}
use Rattle.std.specs.FinMap.{get}
use Rattle.sqlval.specs.declared.schema.Index.{Index}
use Rattle.sqlval.specs.declared.schema.Schema.{Schema}
use Rattle.sqlval.specs.Value.{Row}
use Rattle.typing.specs.declared.statement.Change.TheVariants as does
use Rattle.denote.specs.Database.{IndexDeclaration}
use Rattle.denote.specs.SchemaOf.{IsSchemaOf, index_of}
use Rattle.denote.specs.Stop.{IsFaultOf}
use Rattle.session_definitions.specs.Refusals.{IsReserved}
use Rattle.store.specs.Contents.{database_of, rows_of}
use Rattle.store.specs.Errors.{ChangingReaches, IndexingReaches, Never}
use Rattle.store.specs.Indexes.{entries_of}
use Rattle.store.specs.Stored.{Stored}
use Rattle.transactions.proofs.Tests.{reserved, tells_reached}
use Rattle.constraints.specs.Changed.{RefusesChange}
use Rattle.constraints.proofs.Declared.{table_there}
use Rattle.table_changes.specs.Indexes.{with_owner}
use Rattle.table_changes.proofs.Listed.{unchanged, there_or_unchanged, index_made, no_long_key, faults_of}
use Rattle.constraints.proofs.Limits.{tells_none, stop_tells}
use Rattle.table_changes.proofs.Listed.{indexing_reaches}
use Rattle.store.specs.Going.{Going}
use Rattle.table_changes.proofs.indexing.create_index.Goals as goal

-- what an index declares, of what it is with its owner
declared : (index : Index) (owner : Option ℕ) (made : IndexDeclaration) → with_owner index ≡ (owner, made) → index_of index ≡ made
declared index owner made e = ap (λ (p : Option ℕ × IndexDeclaration). p.1) e

pub returns-in_default-clause-changes : goal.returns-in_default-clause-changes
returns-in_default-clause-changes g c = λ reading sound of.
    unchanged reading (g.S.Store.shows c.args.store.now) c.schema.result.now c.args.index
    (subst (λ (s : Schema). IsSchemaOf s (database_of (g.S.Store.shows c.args.store.now).working)) (sym c.schema.ensures) of) c.in_default.ensures.none

pub returns-in-Err-rows_fit_key-clause-refused : goal.returns-in-Err-rows_fit_key-clause-refused
returns-in-Err-rows_fit_key-clause-refused g c = λ reading sound of.
    let old = g.S.Store.shows c.args.store.now in
    let schema = subst (λ (s : Schema). IsSchemaOf s (database_of old.working)) (sym c.schema.ensures) of in
    let found = table_there c.schema.result.now (database_of old.working) c.args.index.table c.in-Some.field-0.now schema c.in-Some.ensures.there c.in-Some.ensures.named in
    let rows : c.in-Ok.found.rows ≡ rows_of (entries_of (get old.working c.args.index.table)) =
    (c.in-Ok.ensures.rows ((g.met.S.Store.goes_on_goes _ _ _ c.begin.ensures.goes).sound sound)).rows ∙ ap (λ (s : Stored). rows_of (entries_of (get s.working c.args.index.table))) c.in_default-begin.ensures.shows in
    subst (RefusesChange reading (database_of old.working) (does.CreateIndex c.args.index)) (sym c.refusal_of_stop.ensures)
    (there_or_unchanged reading old c.args.index found.0 found.1 c.in-Err-rows_fit_key.stop
    (subst (λ (rows : List Row). IsFaultOf (faults_of c.args.index rows) c.in-Err-rows_fit_key.stop) rows
    (rw (c.as_slice.ensures, c.as_slice-2.ensures) at c.in-Err-rows_fit_key.ensures.passes.err)))

pub returns-in-Ok-create_index-clause-changes : goal.returns-in-Ok-create_index-clause-changes
returns-in-Ok-create_index-clause-changes g c = λ reading sound of.
    let old = g.S.Store.shows c.args.store.now in
    let schema = subst (λ (s : Schema). IsSchemaOf s (database_of old.working)) (sym c.schema.ensures) of in
    let found = table_there c.schema.result.now (database_of old.working) c.args.index.table c.in-Some.field-0.now schema c.in-Some.ensures.there c.in-Some.ensures.named in
    let rows : c.in-Ok.found.rows ≡ rows_of (entries_of (get old.working c.args.index.table)) =
    (c.in-Ok.ensures.rows ((g.met.S.Store.goes_on_goes _ _ _ c.begin.ensures.goes).sound sound)).rows ∙ ap (λ (s : Stored). rows_of (entries_of (get s.working c.args.index.table))) c.in_default-begin.ensures.shows in
    index_made reading old c.args.index (g.S.Store.shows c.scan.new.self) (g.S.Store.shows c.create_index.new.self)
    c.named_index-made.result found.0 found.1 (((g.met.S.Store.goes_on_goes _ _ _ c.scan.ensures.goes).stays.shows) ∙ c.in_default-begin.ensures.shows)
    (c.in-Ok-create_index.ensures.shows ((g.met.S.Store.goes_on_goes _ _ _ c.scan.ensures.goes).sound ((g.met.S.Store.goes_on_goes _ _ _ c.begin.ensures.goes).sound sound)))
    (ap (λ (index : IndexDeclaration). index.name) (declared c.named_index-made.result _ _ c.named_index-made.ensures.owners)) (ap (λ (index : IndexDeclaration). index.columns) (declared c.named_index-made.result _ _ c.named_index-made.ensures.owners))
    (subst (λ (rows : List Row). faults_of c.args.index rows ≡ []) rows (rw (c.as_slice.ensures, c.as_slice-2.ensures) at c.in_default-rows_fit_key.ensures.passes.ok))

pub returns-clause-refused : goal.returns-clause-refused
returns-clause-refused g c = λ reading sound of.
    let old = g.S.Store.shows c.args.store.now in
    let name = c.args.index.table in
    let same = ((g.met.S.Store.goes_on_goes _ _ _ c.scan.ensures.goes).stays.shows) ∙ c.in_default-begin.ensures.shows in
    let rows : c.in-Ok.found.rows ≡ rows_of (entries_of (get (g.S.Store.shows c.scan.new.self).working name)) =
    (c.in-Ok.ensures.rows ((g.met.S.Store.goes_on_goes _ _ _ c.begin.ensures.goes).sound sound)).rows ∙ ap (λ (s : Stored). rows_of (entries_of (get s.working name))) (sym ((g.met.S.Store.goes_on_goes _ _ _ c.scan.ensures.goes).stays.shows)) in
    let none : faults_of c.args.index (rows_of (entries_of (get (g.S.Store.shows c.scan.new.self).working name))) ≡ [] =
    subst (λ (rows : List Row). faults_of c.args.index rows ≡ []) rows (rw (c.as_slice.ensures, c.as_slice-2.ensures) at c.in_default-rows_fit_key.ensures.passes.ok) in
    RefusesChange.withheld (subst IsReserved (sym c.refusal_of-in-Err-create_index.ensures)
    (reserved (g.S.Store.is_sound c.scan.new.self) (g.S.Store.refused c.scan.new.self) (g.S.Store.refused c.create_index.new.self)
    (IndexingReaches (g.S.Store.counted c.create_index.new.self) (rows_of (entries_of (get (g.S.Store.shows c.scan.new.self).working name))) (index_of c.named_index-made.result))
    c.in-Err-create_index.error c.in-Err-create_index.ensures.refused ((g.met.S.Store.goes_on_goes _ _ _ c.scan.ensures.goes).sound ((g.met.S.Store.goes_on_goes _ _ _ c.begin.ensures.goes).sound sound)) (λ none. none)
    (λ long. no_long_key c.args.index.columns (rows_of (entries_of (get (g.S.Store.shows c.scan.new.self).working name))) (index_of c.named_index-made.result) (ap (λ (index : IndexDeclaration). index.columns) (declared c.named_index-made.result _ _ c.named_index-made.ensures.owners)) none long)))

pub returns-in-Err-clause-limits : goal.returns-in-Err-clause-limits
returns-in-Err-clause-limits g c = tells_none (ChangingReaches (g.S.Store.counted c.begin.new.store)) c.in-Err.refusal c.in-Err.ensures.limits

pub returns-in-Err-scan-clause-limits : goal.returns-in-Err-scan-clause-limits
returns-in-Err-scan-clause-limits g c = tells_none (ChangingReaches (g.S.Store.counted c.scan.new.self)) c.refusal_of.result (tells_reached _ _ _ Never c.in-Err-scan.error _ c.refusal_of.ensures c.in-Err-scan.ensures.refused)

pub returns-in-Err-rows_fit_key-clause-limits : goal.returns-in-Err-rows_fit_key-clause-limits
returns-in-Err-rows_fit_key-clause-limits g c = tells_none (ChangingReaches (g.S.Store.counted c.scan.new.self)) c.refusal_of_stop.result (stop_tells c.in-Err-rows_fit_key.stop _ c.refusal_of_stop.ensures)

pub returns-clause-limits : goal.returns-clause-limits
returns-clause-limits g c =
    let index : IndexDeclaration = index_of c.named_index-made.result in
    let rows = rows_of (entries_of (get (g.S.Store.shows c.scan.new.self).working c.args.index.table)) in
    indexing_reaches (g.S.Store.counted c.create_index.new.self) rows index c.refusal_of-in-Err-create_index.result
    (tells_reached _ _ _ (IndexingReaches (g.S.Store.counted c.create_index.new.self) rows index) c.in-Err-create_index.error _ c.refusal_of-in-Err-create_index.ensures c.in-Err-create_index.ensures.refused)

pub returns-in-Err-clause-goes : goal.returns-in-Err-clause-goes
returns-in-Err-clause-goes g c = g.met.S.Store.goes_on_trans _ _ _ Going.keeps Going.changes c.begin.ensures.goes (g.met.S.Store.goes_on_refl _ Going.changes)

pub returns-in-Err-scan-clause-goes : goal.returns-in-Err-scan-clause-goes
returns-in-Err-scan-clause-goes g c = g.met.S.Store.goes_on_trans _ _ _ Going.keeps Going.changes (g.met.S.Store.goes_on_trans _ _ _ Going.keeps Going.reads c.begin.ensures.goes c.scan.ensures.goes) (g.met.S.Store.goes_on_refl _ Going.changes)

pub returns-in-Err-rows_fit_key-clause-goes : goal.returns-in-Err-rows_fit_key-clause-goes
returns-in-Err-rows_fit_key-clause-goes g c = g.met.S.Store.goes_on_trans _ _ _ Going.keeps Going.changes (g.met.S.Store.goes_on_trans _ _ _ Going.keeps Going.reads c.begin.ensures.goes c.scan.ensures.goes) (g.met.S.Store.goes_on_refl _ Going.changes)

pub returns-in-Ok-create_index-clause-goes : goal.returns-in-Ok-create_index-clause-goes
returns-in-Ok-create_index-clause-goes g c = g.met.S.Store.goes_on_trans _ _ _ Going.keeps Going.changes (g.met.S.Store.goes_on_trans _ _ _ Going.keeps Going.reads c.begin.ensures.goes c.scan.ensures.goes) c.create_index.ensures.goes

pub returns-clause-goes : goal.returns-clause-goes
returns-clause-goes g c = g.met.S.Store.goes_on_trans _ _ _ Going.keeps Going.changes (g.met.S.Store.goes_on_trans _ _ _ Going.keeps Going.reads c.begin.ensures.goes c.scan.ensures.goes) c.create_index.ensures.goes
