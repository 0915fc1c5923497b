use Rattle.std.proofs.Common.{sym, subst, ◌∙◌}
use Rattle.std.proofs.lemmas.Result.{IfErr-weaker}
use Rattle.ast.specs.declared.statement.Statement.TheVariants as asks
use Rattle.sqlval.specs.declared.schema.Schema.{Schema}
use Rattle.denote.specs.Database.{IsGood}
use Rattle.denote.specs.SchemaOf.{IsSchemaOf}
use Rattle.store.specs.Contents.{database_of}
use Rattle.store.specs.Going.{Going}
use Rattle.store.specs.Stored.{Stored}
use Rattle.store.specs.View.{seen_by}
use Rattle.transactions.proofs.Tests.{reserved, tells_reached}
use Rattle.sessions.specs.Opened.{RefusesOpening}
use Rattle.sessions.proofs.Devices.{risen_later, of_store}
use Rattle.sessions.proofs.OpenSteps.{both_ok, opens_as, reason_found, refuses_wrong}
use Rattle.sessions.proofs.Typings.{against}
use Rattle.sessions.proofs.cursor_calls.opened.Goals as goal

pub returns-in-Ok-clause-opens : goal.returns-in-Ok-clause-opens
returns-in-Ok-clause-opens g c = both_ok _ _ _ c.opened_typed-cursor.result
    (λ cursor begins outcome rules are sound good.
    let of = (rw c.in_default.is at c.prepare.ensures.prepared) sound in
    opens_as rules c.args.query.now _ _ c.in-Ok.typed _ _ c.args.view are c.schema.ensures c.prepare.ensures.shows of c.in-Ok.ensures.finds.ok cursor
    (begins rules.check ((g.met.S.Store.goes_on_goes _ _ _ c.prepare.ensures.goes).sound sound)
    (subst (λ (st : Stored). IsGood rules.check (database_of (seen_by st c.args.view))) (sym c.prepare.ensures.shows) good)
    (subst (λ (st : Stored). IsSchemaOf (g.S.Store.prepared c.prepare.new.self) (database_of (seen_by st c.args.view))) (sym c.prepare.ensures.shows) of)) outcome)
    c.opened_typed-cursor.ensures.begins c.opened_typed-cursor.ensures.means

pub returns-in-Err-clause-refused : goal.returns-in-Err-clause-refused
returns-in-Err-clause-refused g c = λ rules are sound. RefusesOpening.withheld
    (rw c.refusal_of.ensures (reserved _ _ _ _ _ (rw c.in-Err.is at c.prepare.ensures.refused) sound (λ bad. bad) (λ bad. bad)))

pub returns-in-Ok-clause-refused : goal.returns-in-Ok-clause-refused
returns-in-Ok-clause-refused g c = IfErr-weaker c.opened_typed-cursor.result _ _
    (λ refusal h rules are sound. RefusesOpening.withheld (h ((g.met.S.Store.goes_on_goes _ _ _ c.prepare.ensures.goes).sound sound)))
    c.opened_typed-cursor.ensures.refused

pub returns-in-Err-query_typed_by-clause-refused : goal.returns-in-Err-query_typed_by-clause-refused
returns-in-Err-query_typed_by-clause-refused g c = λ rules are sound.
    let of : IsSchemaOf c.schema.result.now (database_of (seen_by (g.S.Store.shows c.args.store.now) c.args.view)) =
    subst (λ (schema : Schema). IsSchemaOf schema (database_of (seen_by (g.S.Store.shows c.args.store.now) c.args.view))) (sym c.schema.ensures) ((rw c.in_default.is at c.prepare.ensures.prepared) sound) in
    refuses_wrong rules _ c.args.query.now _ (against rules _ c.schema.result.now (asks.Query c.args.query.now) _ are of
    (reason_found c.args.query.now c.schema.result.now _ c.in-Err-query_typed_by.ensures.finds.err))

pub returns-in-Ok-clause-device : goal.returns-in-Ok-clause-device
returns-in-Ok-clause-device g c = IfErr-weaker c.opened_typed-cursor.result _ _ (λ refusal h is. risen_later _ _ _ ((g.met.S.Store.goes_on_goes _ _ _ c.prepare.ensures.goes).refused) (h is)) c.opened_typed-cursor.ensures.device

pub returns-in-Err-clause-limits : goal.returns-in-Err-clause-limits
returns-in-Err-clause-limits g c = tells_reached _ _ _ _ _ _ c.refusal_of.ensures (rw c.in-Err.is at c.prepare.ensures.refused)

pub returns-in-Ok-clause-goes : goal.returns-in-Ok-clause-goes
returns-in-Ok-clause-goes g c = g.met.S.Store.goes_on_trans _ _ _ Going.keeps Going.reads c.prepare.ensures.goes c.opened_typed-cursor.ensures.goes

pub returns-in-Ok-clause-limits : goal.returns-in-Ok-clause-limits
returns-in-Ok-clause-limits g c = c.opened_typed-cursor.ensures.limits

pub returns-in-Ok-clause-shows : goal.returns-in-Ok-clause-shows
returns-in-Ok-clause-shows g c = c.opened_typed-cursor.ensures.shows ∙ c.prepare.ensures.shows

pub returns-in-Err-clause-opens : goal.returns-in-Err-clause-opens
returns-in-Err-clause-opens g c = tt

pub returns-in-Err-clause-device : goal.returns-in-Err-clause-device
returns-in-Err-clause-device g c = λ is. of_store _ _ _ _ c.in-Err.error (rw c.in-Err.is at c.prepare.ensures.refused) (sym c.refusal_of.ensures ∙ is)

pub returns-in-Err-clause-shows : goal.returns-in-Err-clause-shows
returns-in-Err-clause-shows g c = c.prepare.ensures.shows

pub returns-in-Err-clause-goes : goal.returns-in-Err-clause-goes
returns-in-Err-clause-goes g c = c.prepare.ensures.goes

pub returns-in-Err-query_typed_by-clause-opens : goal.returns-in-Err-query_typed_by-clause-opens
returns-in-Err-query_typed_by-clause-opens g c = tt

pub returns-in-Err-query_typed_by-clause-device : goal.returns-in-Err-query_typed_by-clause-device
returns-in-Err-query_typed_by-clause-device g c = λ is. absurd (c.in-Err-query_typed_by.ensures.device is)

pub returns-in-Err-query_typed_by-clause-limits : goal.returns-in-Err-query_typed_by-clause-limits
returns-in-Err-query_typed_by-clause-limits g c = c.in-Err-query_typed_by.ensures.limits

pub returns-in-Err-query_typed_by-clause-shows : goal.returns-in-Err-query_typed_by-clause-shows
returns-in-Err-query_typed_by-clause-shows g c = c.prepare.ensures.shows

pub returns-in-Err-query_typed_by-clause-goes : goal.returns-in-Err-query_typed_by-clause-goes
returns-in-Err-query_typed_by-clause-goes g c = c.prepare.ensures.goes
