use Rattle.std.proofs.Common.{sym, subst, refl}
use Rattle.std.proofs.lemmas.Result.{IfOk-weaker}
use Rattle.sqlval.specs.declared.schema.Schema.{Schema}
use Rattle.denote.specs.SchemaOf.{IsSchemaOf}
use Rattle.store.specs.Contents.{database_of}
use Rattle.store.specs.View.{seen_by}
use Rattle.sessions.proofs.OpenSteps.{means_as}
use Rattle.store.specs.Going.{Going}
use Rattle.sessions.proofs.cursor_calls.opened_typed.Goals as goal

pub returns-clause-begins : goal.returns-clause-begins
returns-clause-begins g c = IfOk-weaker c.open_cursor.result _ _
    (λ cursor h reading sound good of.
    let contents = seen_by (g.S.Store.shows c.args.store.now) c.args.view in
    h sound (c.in-Ok.ensures.plan reading contents good
    (subst (λ (schema : Schema). IsSchemaOf schema (database_of contents)) (sym c.schema.ensures) of)))
    c.open_cursor.ensures.begins

pub returns-clause-means : goal.returns-clause-means
returns-clause-means g c = IfOk-weaker c.open_cursor.result _ _
    (λ cursor tree. means_as (seen_by (g.S.Store.shows c.args.store.now) c.args.view) c.args.query.now c.in-Ok.planned.tree cursor tree c.in-Ok.ensures.tree c.translation_keeps_the_meaning.ensures.ordered)
    c.open_cursor.ensures.tree

pub returns-clause-refused : goal.returns-clause-refused
returns-clause-refused g c = c.open_cursor.ensures.refused

pub returns-clause-limits : goal.returns-clause-limits
returns-clause-limits g c = c.open_cursor.ensures.limits

pub returns-in-Err-clause-begins : goal.returns-in-Err-clause-begins
returns-in-Err-clause-begins g c = tt

pub returns-in-Err-clause-means : goal.returns-in-Err-clause-means
returns-in-Err-clause-means g c = tt

pub returns-in-Err-clause-refused : goal.returns-in-Err-clause-refused
returns-in-Err-clause-refused g c = λ sound. tt

pub returns-in-Err-clause-device : goal.returns-in-Err-clause-device
returns-in-Err-clause-device g c = λ is. absurd (cc)

pub returns-in-Err-clause-limits : goal.returns-in-Err-clause-limits
returns-in-Err-clause-limits g c = tt

pub returns-in-Err-clause-shows : goal.returns-in-Err-clause-shows
returns-in-Err-clause-shows g c = refl

pub returns-in-Err-clause-goes : goal.returns-in-Err-clause-goes
returns-in-Err-clause-goes g c = g.met.S.Store.goes_on_refl _ Going.reads
