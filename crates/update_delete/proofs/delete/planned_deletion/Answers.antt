use Rattle.std.proofs.Common.{◌∙◌, refl, sym, subst, arith}
use Rattle.std.proofs.lemmas.Result.{IfOk-weaker, IfErr-weaker}
use Rattle.std.specs.FinMap.{get}
use Rattle.sqlval.specs.declared.schema.Schema.{Schema}
use Rattle.denote.specs.SchemaOf.{IsSchemaOf}
use Rattle.store.specs.Contents.{database_of}
use Rattle.store.specs.Stored.{Stored}
use Rattle.constraints.specs.Changed.{RefusesChange}
use Rattle.update_delete.specs.Candidates.{AreCandidates}
use Rattle.store.specs.Going.{Going}
use Rattle.update_delete.proofs.delete.planned_deletion.Goals as goal

pub returns-clause-planned : goal.returns-clause-planned
returns-clause-planned g c = IfOk-weaker c.all_deletions.result _ _
    (λ planned h reading sound of good.
    let old = g.S.Store.shows c.args.store.now in
    let schema : IsSchemaOf c.schema-2.result.now (database_of old.working) =
    subst (λ (s : Schema). IsSchemaOf s (database_of old.working)) (sym (c.schema-2.ensures ∙ c.candidates.ensures.prepared ∙ c.lent_to_delete.ensures.prepared)) of in
    let lent = g.S.Store.shows c.lent_to_delete.new.store in
    let of_lent : IsSchemaOf (g.S.Store.prepared c.lent_to_delete.new.store) (database_of lent.working) =
    subst (λ (s : Schema). IsSchemaOf s (database_of lent.working)) (sym c.lent_to_delete.ensures.prepared)
    (subst (λ (s : Stored). IsSchemaOf (g.S.Store.prepared c.args.store.now) (database_of s.working)) (sym c.lent_to_delete.ensures.shows) of) in
    let entries : AreCandidates (get old.working c.args.delete.now.table) c.in-Ok.filter c.in-Ok-candidates.found =
    subst (λ (s : Stored). AreCandidates (get s.working c.args.delete.now.table) c.in-Ok.filter c.in-Ok-candidates.found) c.lent_to_delete.ensures.shows
    (c.in-Ok-candidates.ensures.rows ((g.met.S.Store.goes_on_goes _ _ _ c.lent_to_delete.ensures.goes).sound sound) of_lent) in
    let before : IsSchemaOf c.schema.result.now (database_of old.working) =
    subst (λ (s : Schema). IsSchemaOf s (database_of old.working)) (sym c.schema.ensures) of in
    h reading old.working schema (c.in-Ok.ensures.tree reading (database_of old.working) good before) (c.in-Ok-lent_to_delete.ensures.lent sound) entries)
    c.all_deletions.ensures.planned

pub returns-clause-refused : goal.returns-clause-refused
returns-clause-refused g c = IfErr-weaker c.all_deletions.result _ _
    (λ refusal h reading sound of good.
    let old = g.S.Store.shows c.args.store.now in
    let schema : IsSchemaOf c.schema-2.result.now (database_of old.working) =
    subst (λ (s : Schema). IsSchemaOf s (database_of old.working)) (sym (c.schema-2.ensures ∙ c.candidates.ensures.prepared ∙ c.lent_to_delete.ensures.prepared)) of in
    let lent = g.S.Store.shows c.lent_to_delete.new.store in
    let of_lent : IsSchemaOf (g.S.Store.prepared c.lent_to_delete.new.store) (database_of lent.working) =
    subst (λ (s : Schema). IsSchemaOf s (database_of lent.working)) (sym c.lent_to_delete.ensures.prepared)
    (subst (λ (s : Stored). IsSchemaOf (g.S.Store.prepared c.args.store.now) (database_of s.working)) (sym c.lent_to_delete.ensures.shows) of) in
    let entries : AreCandidates (get old.working c.args.delete.now.table) c.in-Ok.filter c.in-Ok-candidates.found =
    subst (λ (s : Stored). AreCandidates (get s.working c.args.delete.now.table) c.in-Ok.filter c.in-Ok-candidates.found) c.lent_to_delete.ensures.shows
    (c.in-Ok-candidates.ensures.rows ((g.met.S.Store.goes_on_goes _ _ _ c.lent_to_delete.ensures.goes).sound sound) of_lent) in
    let before : IsSchemaOf c.schema.result.now (database_of old.working) =
    subst (λ (s : Schema). IsSchemaOf s (database_of old.working)) (sym c.schema.ensures) of in
    h reading old.working schema (c.in-Ok.ensures.tree reading (database_of old.working) good before) (c.in-Ok-lent_to_delete.ensures.lent sound) entries)
    c.all_deletions.ensures.refused

pub returns-clause-device : goal.returns-clause-device
returns-clause-device g c = IfErr-weaker c.all_deletions.result _ _ (λ refusal h e. absurd (h e)) c.all_deletions.ensures.device

-- ---- each early return

pub returns-in-Err-clause-refused : goal.returns-in-Err-clause-refused
returns-in-Err-clause-refused g c = λ reading sound of good. RefusesChange.withheld tt

pub returns-in-Err-clause-limits : goal.returns-in-Err-clause-limits
returns-in-Err-clause-limits g c = tt

pub returns-in-Err-clause-device : goal.returns-in-Err-clause-device
returns-in-Err-clause-device g c = λ e. absurd (cc e)

pub returns-in-Err-clause-shows : goal.returns-in-Err-clause-shows
returns-in-Err-clause-shows g c = refl

pub returns-in-Err-clause-goes : goal.returns-in-Err-clause-goes
returns-in-Err-clause-goes g c = g.met.S.Store.goes_on_refl _ Going.reads

pub returns-in-Err-lent_to_delete-clause-refused : goal.returns-in-Err-lent_to_delete-clause-refused
returns-in-Err-lent_to_delete-clause-refused g c = λ reading sound of good. RefusesChange.withheld (c.in-Err-lent_to_delete.ensures.refused sound)

pub returns-in-Err-lent_to_delete-clause-limits : goal.returns-in-Err-lent_to_delete-clause-limits
returns-in-Err-lent_to_delete-clause-limits g c = c.in-Err-lent_to_delete.ensures.limits

pub returns-in-Err-lent_to_delete-clause-device : goal.returns-in-Err-lent_to_delete-clause-device
returns-in-Err-lent_to_delete-clause-device g c = c.in-Err-lent_to_delete.ensures.device

pub returns-in-Err-lent_to_delete-clause-shows : goal.returns-in-Err-lent_to_delete-clause-shows
returns-in-Err-lent_to_delete-clause-shows g c = c.lent_to_delete.ensures.shows

pub returns-in-Err-lent_to_delete-clause-goes : goal.returns-in-Err-lent_to_delete-clause-goes
returns-in-Err-lent_to_delete-clause-goes g c = c.lent_to_delete.ensures.goes

pub returns-in-Err-candidates-clause-refused : goal.returns-in-Err-candidates-clause-refused
returns-in-Err-candidates-clause-refused g c = λ reading sound of good.
    RefusesChange.withheld (c.in-Err-candidates.ensures.refused ((g.met.S.Store.goes_on_goes _ _ _ c.lent_to_delete.ensures.goes).sound sound))

pub returns-in-Err-candidates-clause-limits : goal.returns-in-Err-candidates-clause-limits
returns-in-Err-candidates-clause-limits g c = c.in-Err-candidates.ensures.limits

pub returns-in-Err-candidates-clause-device : goal.returns-in-Err-candidates-clause-device
returns-in-Err-candidates-clause-device g c = λ e.
    let risen = c.in-Err-candidates.ensures.device e in
    omega (arith, risen, (g.met.S.Store.goes_on_goes _ _ _ c.lent_to_delete.ensures.goes).refused)

pub returns-in-Err-candidates-clause-shows : goal.returns-in-Err-candidates-clause-shows
returns-in-Err-candidates-clause-shows g c = c.candidates.ensures.shows ∙ c.lent_to_delete.ensures.shows

pub returns-in-Err-candidates-clause-goes : goal.returns-in-Err-candidates-clause-goes
returns-in-Err-candidates-clause-goes g c = g.met.S.Store.goes_on_trans _ _ _ Going.reads Going.reads c.lent_to_delete.ensures.goes c.candidates.ensures.goes

pub returns-clause-goes : goal.returns-clause-goes
returns-clause-goes g c = g.met.S.Store.goes_on_trans _ _ _ Going.reads Going.reads c.lent_to_delete.ensures.goes c.candidates.ensures.goes
