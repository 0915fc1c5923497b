use Rattle.std.proofs.Common.{sym, ap, subst, ◌∙◌}
use Rattle.std.proofs.lemmas.Result.{IfOk-weaker, IfErr-weaker}
use Rattle.sqlval.specs.declared.schema.Schema.{Schema}
use Rattle.denote.specs.SchemaOf.{IsSchemaOf}
use Rattle.store.specs.Contents.{database_of}
use Rattle.store.specs.Stored.{Stored}
use Rattle.transactions.proofs.Orders.{same}
use Rattle.transactions.proofs.Tests.{tells_reached}
use Rattle.sessions.proofs.Devices.{risen_later, of_store}
use Rattle.sessions.proofs.ChangeSteps.{makes_typed, refuses_typed, refuses_wrong}
use Rattle.sessions.proofs.Typings.{against}
use Rattle.store.specs.Going.{Going}
use Rattle.sessions.proofs.Kept.{same_after}
use Rattle.sessions.proofs.Limits.{tells_none}
use Rattle.sessions.proofs.ToldLimits.{statement_tells}
use Rattle.sessions.specs.ToldLimits.{StatementTells}
use Rattle.sessions.proofs.change.make.Goals as goal

pub returns-in-Ok-clause-changes : goal.returns-in-Ok-clause-changes
returns-in-Ok-clause-changes g c = IfOk-weaker c.make_typed.result _ _
    (λ reply h rules are is sound good.
    makes_typed rules c.args.statement.now _ _ c.in-Ok.typed _ _ are is c.schema.ensures c.prepare.ensures.shows ((rw c.in_default.is at c.prepare.ensures.prepared) sound) good c.in-Ok.ensures.finds.ok reply _
    (λ change e of there m. h rules c.args.statement.now change are e ((g.met.S.Store.goes_on_goes _ _ _ c.prepare.ensures.goes).sound sound) of there m))
    c.make_typed.ensures.changes

pub returns-in-Ok-clause-refused : goal.returns-in-Ok-clause-refused
returns-in-Ok-clause-refused g c = IfErr-weaker c.make_typed.result _ _
    (λ refusal h rules are is sound good.
    refuses_typed rules c.args.statement.now _ _ c.in-Ok.typed _ _ are is c.schema.ensures c.prepare.ensures.shows ((rw c.in_default.is at c.prepare.ensures.prepared) sound) good c.in-Ok.ensures.finds.ok refusal
    (λ change e of there m. h rules c.args.statement.now change are e ((g.met.S.Store.goes_on_goes _ _ _ c.prepare.ensures.goes).sound sound) of there m))
    c.make_typed.ensures.refused

pub returns-in-Err-typed_by-clause-refused : goal.returns-in-Err-typed_by-clause-refused
returns-in-Err-typed_by-clause-refused g c = λ rules are is sound good.
    let of : IsSchemaOf c.schema.result.now (database_of (g.S.Store.shows c.args.store.now).working) =
    subst (λ (schema : Schema). IsSchemaOf schema (database_of (g.S.Store.shows c.args.store.now).working)) (sym c.schema.ensures) ((rw c.in_default.is at c.prepare.ensures.prepared) sound) in
    refuses_wrong rules _ c.args.statement.now _ (against rules _ c.schema.result.now c.args.statement.now _ are of c.in-Err-typed_by.ensures.finds.err)

pub returns-in-Ok-clause-device : goal.returns-in-Ok-clause-device
returns-in-Ok-clause-device g c = IfErr-weaker c.make_typed.result _ _ (λ refusal h is. risen_later _ _ _ ((g.met.S.Store.goes_on_goes _ _ _ c.prepare.ensures.goes).refused) (h is)) c.make_typed.ensures.device

pub returns-in-Err-clause-goes : goal.returns-in-Err-clause-goes
returns-in-Err-clause-goes g c = g.met.S.Store.goes_on_trans _ _ _ Going.keeps Going.changes c.prepare.ensures.goes (g.met.S.Store.goes_on_refl _ Going.changes)

pub returns-in-Ok-clause-goes : goal.returns-in-Ok-clause-goes
returns-in-Ok-clause-goes g c = g.met.S.Store.goes_on_trans _ _ _ Going.keeps Going.changes c.prepare.ensures.goes c.make_typed.ensures.goes

pub returns-in-Err-typed_by-clause-goes : goal.returns-in-Err-typed_by-clause-goes
returns-in-Err-typed_by-clause-goes g c = g.met.S.Store.goes_on_trans _ _ _ Going.keeps Going.changes c.prepare.ensures.goes (g.met.S.Store.goes_on_refl _ Going.changes)

pub returns-in-Ok-clause-accepted : goal.returns-in-Ok-clause-accepted
returns-in-Ok-clause-accepted g c = c.make_typed.ensures.accepted

pub returns-in-Ok-clause-same : goal.returns-in-Ok-clause-same
returns-in-Ok-clause-same g c = same_after c.make_typed.result (g.S.Store.shows c.args.store.now) (g.S.Store.shows c.prepare.new.self) (g.S.Store.shows c.make_typed.new.store) c.prepare.ensures.shows c.make_typed.ensures.same

pub returns-in-Err-typed_by-clause-changes : goal.returns-in-Err-typed_by-clause-changes
returns-in-Err-typed_by-clause-changes g c = tt

pub returns-in-Err-typed_by-clause-accepted : goal.returns-in-Err-typed_by-clause-accepted
returns-in-Err-typed_by-clause-accepted g c = tt

pub returns-in-Err-typed_by-clause-device : goal.returns-in-Err-typed_by-clause-device
returns-in-Err-typed_by-clause-device g c = λ is. absurd (c.in-Err-typed_by.ensures.device is)

pub returns-in-Err-typed_by-clause-same : goal.returns-in-Err-typed_by-clause-same
returns-in-Err-typed_by-clause-same g c = same (g.S.Store.shows c.args.store.now) _ c.prepare.ensures.shows

pub returns-in-Err-clause-changes : goal.returns-in-Err-clause-changes
returns-in-Err-clause-changes g c = tt

pub returns-in-Err-clause-accepted : goal.returns-in-Err-clause-accepted
returns-in-Err-clause-accepted g c = tt

pub returns-in-Err-clause-device : goal.returns-in-Err-clause-device
returns-in-Err-clause-device g c = λ is. of_store _ _ _ _ c.in-Err.error (rw c.in-Err.is at c.prepare.ensures.refused) (sym c.refusal_of.ensures ∙ is)

pub returns-in-Err-clause-same : goal.returns-in-Err-clause-same
returns-in-Err-clause-same g c = same (g.S.Store.shows c.args.store.now) _ c.prepare.ensures.shows

pub returns-in-Ok-clause-reached : goal.returns-in-Ok-clause-reached
returns-in-Ok-clause-reached g c = IfErr-weaker c.make_typed.result _ _
    (λ refusal h. statement_tells (g.S.Store.counted c.make_typed.new.store) (g.S.Store.is_sound c.args.store.now) (g.S.Store.is_sound c.prepare.new.self)
    (g.S.Store.shows c.args.store.now).working (g.S.Store.shows c.prepare.new.self).working
    (g.met.S.Store.goes_on_goes _ _ _ c.prepare.ensures.goes).sound (ap (λ (st : Stored). st.working) c.prepare.ensures.shows)
    (g.S.Store.prepared c.prepare.new.self) c.schema.result.now c.args.statement.now c.in-Ok.typed c.schema.ensures
    (λ sound. (rw c.in_default.is at c.prepare.ensures.prepared) sound) c.in-Ok.ensures.finds.ok refusal h)
    c.make_typed.ensures.reached

pub returns-in-Err-typed_by-clause-reached : goal.returns-in-Err-typed_by-clause-reached
returns-in-Err-typed_by-clause-reached g c =
    tells_none (StatementTells (g.S.Store.counted c.prepare.new.self) (g.S.Store.is_sound c.args.store.now) (g.S.Store.shows c.args.store.now).working c.args.statement.now) c.in-Err-typed_by.refusal c.in-Err-typed_by.ensures.limits

pub returns-in-Err-clause-reached : goal.returns-in-Err-clause-reached
returns-in-Err-clause-reached g c =
    tells_none (StatementTells (g.S.Store.counted c.prepare.new.self) (g.S.Store.is_sound c.args.store.now) (g.S.Store.shows c.args.store.now).working c.args.statement.now) c.refusal_of.result
    (tells_reached _ _ _ _ _ _ c.refusal_of.ensures (rw c.in-Err.is at c.prepare.ensures.refused))
