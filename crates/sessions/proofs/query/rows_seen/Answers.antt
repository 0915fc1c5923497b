use Rattle.transactions.proofs.Tests.{tells_reached}
use Rattle.std.proofs.lemmas.Result.{IfOk-weaker, IfErr-weaker}
use Rattle.sessions.proofs.Devices.{risen_later, of_store}
use Rattle.sessions.proofs.QuerySteps.{gives_typed, good_still, refuses_typed, schema_still}
use Rattle.store.specs.Going.{Going}
use Rattle.std.proofs.Common.{sym, ◌∙◌}
use Rattle.sessions.proofs.query.rows_seen.Goals as goal

pub returns-in-Ok-clause-gives : goal.returns-in-Ok-clause-gives
returns-in-Ok-clause-gives g c = IfOk-weaker c.evaluate-rows.result _ _
    (λ rows h rules x are is sound good.
    let of = (rw c.in_default.is at c.prepare.ensures.prepared) sound in
    gives_typed rules x c.args.statement.now _ _ c.in-Ok.typed _ _ c.args.view are is c.schema.ensures c.prepare.ensures.shows of c.in-Ok.ensures.finds.ok rows
    (λ q e. h rules.check q e ((g.met.S.Store.goes_on_goes _ _ _ c.prepare.ensures.goes).sound sound)
    (good_still rules x c.args.statement.now _ _ c.in-Ok.typed _ _ c.args.view are is c.schema.ensures c.prepare.ensures.shows of c.in-Ok.ensures.finds.ok good)
    (schema_still rules x c.args.statement.now _ _ c.in-Ok.typed _ _ c.args.view are is c.schema.ensures c.prepare.ensures.shows of c.in-Ok.ensures.finds.ok)))
    c.evaluate-rows.ensures.answers

pub returns-in-Ok-clause-refused : goal.returns-in-Ok-clause-refused
returns-in-Ok-clause-refused g c = IfErr-weaker c.evaluate-rows.result _ _
    (λ refusal h rules x are is sound good.
    let of = (rw c.in_default.is at c.prepare.ensures.prepared) sound in
    refuses_typed rules x c.args.statement.now _ _ c.in-Ok.typed _ _ c.args.view are is c.schema.ensures c.prepare.ensures.shows of c.in-Ok.ensures.finds.ok refusal
    (λ q e. h rules.check q e ((g.met.S.Store.goes_on_goes _ _ _ c.prepare.ensures.goes).sound sound)
    (good_still rules x c.args.statement.now _ _ c.in-Ok.typed _ _ c.args.view are is c.schema.ensures c.prepare.ensures.shows of c.in-Ok.ensures.finds.ok good)
    (schema_still rules x c.args.statement.now _ _ c.in-Ok.typed _ _ c.args.view are is c.schema.ensures c.prepare.ensures.shows of c.in-Ok.ensures.finds.ok)))
    c.evaluate-rows.ensures.refused

pub returns-in-Ok-clause-device : goal.returns-in-Ok-clause-device
returns-in-Ok-clause-device g c = IfErr-weaker c.evaluate-rows.result _ _ (λ refusal h is. risen_later _ _ _ ((g.met.S.Store.goes_on_goes _ _ _ c.prepare.ensures.goes).refused) (h is)) c.evaluate-rows.ensures.device

pub returns-in-Err-clause-limits : goal.returns-in-Err-clause-limits
returns-in-Err-clause-limits g c = tells_reached _ _ _ _ _ _ c.refusal_of.ensures (rw c.in-Err.is at c.prepare.ensures.refused)

pub returns-in-Ok-clause-goes : goal.returns-in-Ok-clause-goes
returns-in-Ok-clause-goes g c = g.met.S.Store.goes_on_trans _ _ _ Going.keeps Going.reads c.prepare.ensures.goes c.evaluate-rows.ensures.goes

pub returns-in-Ok-clause-limits : goal.returns-in-Ok-clause-limits
returns-in-Ok-clause-limits g c = c.evaluate-rows.ensures.limits

pub returns-in-Ok-clause-shows : goal.returns-in-Ok-clause-shows
returns-in-Ok-clause-shows g c = c.evaluate-rows.ensures.shows ∙ c.prepare.ensures.shows

pub returns-in-Err-clause-gives : goal.returns-in-Err-clause-gives
returns-in-Err-clause-gives g c = tt

pub returns-in-Err-clause-device : goal.returns-in-Err-clause-device
returns-in-Err-clause-device g c = λ is. of_store _ _ _ _ c.in-Err.error (rw c.in-Err.is at c.prepare.ensures.refused) (sym c.refusal_of.ensures ∙ is)

pub returns-in-Err-clause-shows : goal.returns-in-Err-clause-shows
returns-in-Err-clause-shows g c = c.prepare.ensures.shows

pub returns-in-Err-clause-goes : goal.returns-in-Err-clause-goes
returns-in-Err-clause-goes g c = c.prepare.ensures.goes

pub returns-in-Err-typed_by-clause-gives : goal.returns-in-Err-typed_by-clause-gives
returns-in-Err-typed_by-clause-gives g c = tt

pub returns-in-Err-typed_by-clause-device : goal.returns-in-Err-typed_by-clause-device
returns-in-Err-typed_by-clause-device g c = λ is. absurd (c.in-Err-typed_by.ensures.device is)

pub returns-in-Err-typed_by-clause-limits : goal.returns-in-Err-typed_by-clause-limits
returns-in-Err-typed_by-clause-limits g c = c.in-Err-typed_by.ensures.limits

pub returns-in-Err-typed_by-clause-shows : goal.returns-in-Err-typed_by-clause-shows
returns-in-Err-typed_by-clause-shows g c = c.prepare.ensures.shows

pub returns-in-Err-typed_by-clause-goes : goal.returns-in-Err-typed_by-clause-goes
returns-in-Err-typed_by-clause-goes g c = c.prepare.ensures.goes
