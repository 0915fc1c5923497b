use Rattle.std.proofs.Common.{◌≡◌, sym, subst}
use Rattle.std.proofs.lemmas.Result.{IfOk-weaker, IfErr-weaker}
use Rattle.typing.specs.declared.statement.Change.{Change}
use Rattle.typing.specs.declared.statement.Typed.TheVariants as does
use Rattle.session_definitions.specs.Rules.{Means}
use Rattle.store.specs.Contents.{database_of}
use Rattle.sessions.specs.Changed.{HasChanged, RefusesChange}
use Rattle.sessions.proofs.ToldLimits.{tells_typed}
use Rattle.sessions.proofs.change.make_typed.Goals as goal

pub returns-in-Some-clause-changes : goal.returns-in-Some-clause-changes
returns-in-Some-clause-changes g c = IfOk-weaker c.make.result _ _
    (λ reply h rules x change are is sound of good means.
    let e : c.in-Some.change ≡ change = cc (is, c.in-Some.ensures) in
    subst (λ (y : Change). HasChanged rules (g.S.Store.shows c.args.store.now) y reply (g.S.Store.shows c.make.new.store)) e
    (h rules x are sound of good (subst (λ (y : Change). Means rules (database_of (g.S.Store.shows c.args.store.now).working) x (does.Change y)) (sym e) means)))
    c.make.ensures.changes

pub returns-in-Some-clause-refused : goal.returns-in-Some-clause-refused
returns-in-Some-clause-refused g c = IfErr-weaker c.make.result _ _
    (λ refusal h rules x change are is sound of good means.
    let e : c.in-Some.change ≡ change = cc (is, c.in-Some.ensures) in
    subst (λ (y : Change). RefusesChange rules (database_of (g.S.Store.shows c.args.store.now).working) y refusal) e
    (h rules x are sound of good (subst (λ (y : Change). Means rules (database_of (g.S.Store.shows c.args.store.now).working) x (does.Change y)) (sym e) means)))
    c.make.ensures.refused

pub returns-in-Some-clause-accepted : goal.returns-in-Some-clause-accepted
returns-in-Some-clause-accepted g c = c.make.ensures.accepted

pub returns-in-Some-clause-device : goal.returns-in-Some-clause-device
returns-in-Some-clause-device g c = c.make.ensures.device

pub returns-in-Some-clause-same : goal.returns-in-Some-clause-same
returns-in-Some-clause-same g c = c.make.ensures.same

pub returns-in-Some-clause-goes : goal.returns-in-Some-clause-goes
returns-in-Some-clause-goes g c = c.make.ensures.goes

pub returns-in-Some-clause-reached : goal.returns-in-Some-clause-reached
returns-in-Some-clause-reached g c = IfErr-weaker c.make.result _ _
    (λ refusal h. tells_typed (g.S.Store.counted c.make.new.store) (g.S.Store.is_sound c.args.store.now) (g.S.Store.prepared c.args.store.now) (g.S.Store.shows c.args.store.now).working c.args.typed c.in-Some.change c.in-Some.ensures refusal h)
    c.make.ensures.reached
