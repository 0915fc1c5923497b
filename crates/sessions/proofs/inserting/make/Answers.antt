use Rattle.std.proofs.Common.{◌≡◌, sym, ap, subst, ◌∙◌}
use Rattle.std.proofs.lemmas.Result.{IfOk-weaker, IfErr-weaker}
use Rattle.denote.specs.Database.{IsGood}
use Rattle.denote.specs.SchemaOf.{IsSchemaOf}
use Rattle.session_definitions.specs.InsertedRows.{inserting}
use Rattle.store.specs.Contents.{database_of}
use Rattle.store.specs.Going.{Going}
use Rattle.store.specs.Stored.{Stored}
use Rattle.sessions.specs.Changed.{MakesChange, RefusesStatement}
use Rattle.sessions.proofs.Devices.{risen_later, of_store}
use Rattle.transactions.proofs.Orders.{same}
use Rattle.transactions.proofs.Tests.{tells_reached}
use Rattle.sessions.proofs.Kept.{same_after}
use Rattle.sessions.proofs.Limits.{tells_none}
use Rattle.sessions.proofs.ToldLimits.{given_tell}
use Rattle.sessions.specs.ToldLimits.{GivenTell}
use Rattle.sessions.proofs.inserting.make.Goals as goal

pub returns-clause-changes : goal.returns-clause-changes
returns-clause-changes g c = IfOk-weaker c.insert.result _ _
    (λ reply h rules x are sound good.
    let shows = c.prepare.ensures.shows in
    subst (λ (st : Stored). MakesChange (inserting rules c.args.table.now c.args.rows) st x reply (g.S.Store.shows c.insert.new.store)) shows
    (h rules x are ((g.met.S.Store.goes_on_goes _ _ _ c.prepare.ensures.goes).sound sound)
    (subst (λ (st : Stored). IsSchemaOf (g.S.Store.prepared c.prepare.new.self) (database_of st.working)) (sym shows) ((rw c.in_default.is at c.prepare.ensures.prepared) sound))
    (subst (λ (st : Stored). IsGood rules.check (database_of st.working)) (sym shows) good)))
    c.insert.ensures.changes

pub returns-clause-refused : goal.returns-clause-refused
returns-clause-refused g c = IfErr-weaker c.insert.result _ _
    (λ refusal h rules x are sound good.
    let shows = c.prepare.ensures.shows in
    subst (λ (st : Stored). RefusesStatement (inserting rules c.args.table.now c.args.rows) (database_of st.working) x refusal) shows
    (h rules x are ((g.met.S.Store.goes_on_goes _ _ _ c.prepare.ensures.goes).sound sound)
    (subst (λ (st : Stored). IsSchemaOf (g.S.Store.prepared c.prepare.new.self) (database_of st.working)) (sym shows) ((rw c.in_default.is at c.prepare.ensures.prepared) sound))
    (subst (λ (st : Stored). IsGood rules.check (database_of st.working)) (sym shows) good)))
    c.insert.ensures.refused

pub returns-clause-device : goal.returns-clause-device
returns-clause-device g c = IfErr-weaker c.insert.result _ _ (λ refusal h is. risen_later _ _ _ ((g.met.S.Store.goes_on_goes _ _ _ c.prepare.ensures.goes).refused) (h is)) c.insert.ensures.device

pub returns-in-Err-clause-goes : goal.returns-in-Err-clause-goes
returns-in-Err-clause-goes g c = g.met.S.Store.goes_on_trans _ _ _ Going.keeps Going.changes c.prepare.ensures.goes (g.met.S.Store.goes_on_refl _ Going.changes)

pub returns-clause-goes : goal.returns-clause-goes
returns-clause-goes g c = g.met.S.Store.goes_on_trans _ _ _ Going.keeps Going.changes c.prepare.ensures.goes c.insert.ensures.goes

pub returns-clause-accepted : goal.returns-clause-accepted
returns-clause-accepted g c = c.insert.ensures.accepted

pub returns-clause-same : goal.returns-clause-same
returns-clause-same g c = same_after c.insert.result (g.S.Store.shows c.args.store.now) (g.S.Store.shows c.prepare.new.self) (g.S.Store.shows c.insert.new.store) c.prepare.ensures.shows c.insert.ensures.same

pub returns-in-Err-clause-changes : goal.returns-in-Err-clause-changes
returns-in-Err-clause-changes g c = tt

pub returns-in-Err-clause-accepted : goal.returns-in-Err-clause-accepted
returns-in-Err-clause-accepted g c = tt

pub returns-in-Err-clause-device : goal.returns-in-Err-clause-device
returns-in-Err-clause-device g c = λ is. of_store _ _ _ _ c.in-Err.error (rw c.in-Err.is at c.prepare.ensures.refused) (sym c.refusal_of.ensures ∙ is)

pub returns-in-Err-clause-same : goal.returns-in-Err-clause-same
returns-in-Err-clause-same g c = same (g.S.Store.shows c.args.store.now) _ c.prepare.ensures.shows

pub returns-clause-reached : goal.returns-clause-reached
returns-clause-reached g c = IfErr-weaker c.insert.result _ _
    (λ refusal h. given_tell (g.S.Store.counted c.insert.new.store) (g.S.Store.is_sound c.args.store.now) (g.S.Store.is_sound c.prepare.new.self)
    (g.S.Store.shows c.args.store.now).working (g.S.Store.shows c.prepare.new.self).working
    (g.met.S.Store.goes_on_goes _ _ _ c.prepare.ensures.goes).sound (ap (λ (st : Stored). st.working) c.prepare.ensures.shows)
    (g.S.Store.prepared c.prepare.new.self) c.args.table.now c.args.rows
    (λ sound. (rw c.in_default.is at c.prepare.ensures.prepared) sound) refusal h)
    c.insert.ensures.reached

pub returns-in-Err-clause-reached : goal.returns-in-Err-clause-reached
returns-in-Err-clause-reached g c =
    tells_none (GivenTell (g.S.Store.counted c.prepare.new.self) (g.S.Store.is_sound c.args.store.now) (g.S.Store.shows c.args.store.now).working c.args.table.now c.args.rows) c.refusal_of.result
    (tells_reached _ _ _ _ _ _ c.refusal_of.ensures (rw c.in-Err.is at c.prepare.ensures.refused))
