use Rattle.std.proofs.Common.{sym, subst, arith}
use Rattle.std.proofs.lemmas.Result.{IfOk-weaker, IfErr-weaker}
use Rattle.std.specs.Prelude.{OnErr}
use Rattle.typing.specs.declared.statement.Change.TheVariants as does
use Rattle.store.specs.Contents.{database_of}
use Rattle.store.specs.Stored.{Stored, SameButMark}
use Rattle.constraints.specs.Changed.{HasChanged, RefusesChange}
use Rattle.constraints.specs.Settled.{Decided}
use Rattle.denote.specs.Database.{IsGood}
use Rattle.update_delete.specs.Plans.{IsMeant, IsHarmless}
use Rattle.update_delete.proofs.Carried.{nothing}
use Rattle.std.specs.FinMap.{get}
use Rattle.constraints.proofs.Limits.{tells_none}
use Rattle.update_delete.specs.Reached.{IsNumberedOut, ReplacingReaches}
use Rattle.update_delete.proofs.Reaching.{replacing_reaches}
use Rattle.store.specs.Going.{Going}
use Rattle.update_delete.proofs.update.update_rows.Goals as goal

pub returns-in-Ok-Some-clause-changes : goal.returns-in-Ok-Some-clause-changes
returns-in-Ok-Some-clause-changes g c = IfOk-weaker c.carry_out.result _ _
    (λ reply h reading sound of decided checks good.
    let change = does.Update c.args.update.now in
    let old = g.S.Store.shows c.args.store.now in
    let mid = g.S.Store.shows c.planned_update.new.store in
    let same = c.planned_update.ensures.shows in
    let meant = rw c.in-Ok-Some.field-0-is at (c.in-Ok-Some.ensures.planned reading sound of decided checks good) in
    subst (λ (s : Stored). HasChanged reading s change reply (g.S.Store.shows c.carry_out.new.store)) same
    (h reading change ((g.met.S.Store.goes_on_goes _ _ _ c.planned_update.ensures.goes).sound sound)
    (subst (λ (s : Stored). Decided (g.C.Checks.decides c.args.checks.now reading) (database_of s.working) c.args.update.now.table) (sym same) decided)
    (subst (λ (s : Stored). IsGood reading (database_of s.working)) (sym same) good)
    (subst (λ (s : Stored). IsHarmless reading s.working change c.args.update.now.table c.in-Ok-Some.planned) (sym same) meant)))
    c.carry_out.ensures.changes

pub returns-in-Ok-Some-clause-refused : goal.returns-in-Ok-Some-clause-refused
returns-in-Ok-Some-clause-refused g c = IfErr-weaker c.carry_out.result _ _
    (λ refusal h reading sound of decided checks good.
    let change = does.Update c.args.update.now in
    let old = g.S.Store.shows c.args.store.now in
    let same = c.planned_update.ensures.shows in
    let meant = rw c.in-Ok-Some.field-0-is at (c.in-Ok-Some.ensures.planned reading sound of decided checks good) in
    subst (λ (s : Stored). RefusesChange reading (database_of s.working) change refusal) same
    (h reading change ((g.met.S.Store.goes_on_goes _ _ _ c.planned_update.ensures.goes).sound sound)
    (subst (λ (s : Stored). Decided (g.C.Checks.decides c.args.checks.now reading) (database_of s.working) c.args.update.now.table) (sym same) decided)
    (subst (λ (s : Stored). IsMeant reading s.working change c.args.update.now.table c.in-Ok-Some.planned) (sym same) meant.meant)))
    c.carry_out.ensures.refused

pub returns-in-Ok-None-clause-changes : goal.returns-in-Ok-None-clause-changes
returns-in-Ok-None-clause-changes g c = λ reading sound of decided checks good.
    nothing reading (g.S.Store.shows c.args.store.now) (g.S.Store.shows c.planned_update.new.store) (does.Update c.args.update.now)
    (rw c.in-Ok-None.field-0-is at (c.in-Ok-None.ensures.planned reading sound of decided checks good)) c.planned_update.ensures.shows

pub returns-in-Ok-Some-clause-same : goal.returns-in-Ok-Some-clause-same
returns-in-Ok-Some-clause-same g c =
    subst (λ (s : Stored). OnErr c.carry_out.result (SameButMark s (g.S.Store.shows c.carry_out.new.store))) c.planned_update.ensures.shows c.carry_out.ensures.same

pub returns-in-Ok-Some-clause-device : goal.returns-in-Ok-Some-clause-device
returns-in-Ok-Some-clause-device g c = IfErr-weaker c.carry_out.result _ _ (λ refusal h e. let risen = h e in omega (arith, risen, ((g.met.S.Store.goes_on_goes _ _ _ c.planned_update.ensures.goes).refused))) c.carry_out.ensures.device

pub returns-in-Err-clause-refused : goal.returns-in-Err-clause-refused
returns-in-Err-clause-refused g c = λ reading sound of decided checks good. c.in-Err.ensures.refused reading sound of checks good

pub returns-in-Ok-Some-clause-limits : goal.returns-in-Ok-Some-clause-limits
returns-in-Ok-Some-clause-limits g c =
    let name = c.args.update.now.table in
    let mid = g.S.Store.shows c.planned_update.new.store in
    let old = g.S.Store.shows c.args.store.now in
    IfErr-weaker c.carry_out.result _ _
    (λ refusal h. replacing_reaches (g.S.Store.counted c.carry_out.new.store) c.in-Ok-Some.planned.changes
    (g.S.Store.is_sound c.planned_update.new.store → IsNumberedOut (get mid.working name)) (g.S.Store.is_sound c.args.store.now → IsNumberedOut (get old.working name))
    (λ out sound. subst (λ (s : Stored). IsNumberedOut (get s.working name)) c.planned_update.ensures.shows (out ((g.met.S.Store.goes_on_goes _ _ _ c.planned_update.ensures.goes).sound sound))) refusal h)
    c.carry_out.ensures.limits

pub returns-in-Err-clause-limits : goal.returns-in-Err-clause-limits
returns-in-Err-clause-limits g c = tells_none (ReplacingReaches (g.S.Store.counted c.planned_update.new.store) (g.S.Store.is_sound c.args.store.now → IsNumberedOut (get (g.S.Store.shows c.args.store.now).working c.args.update.now.table))) c.in-Err.refusal c.in-Err.ensures.limits

pub returns-in-Ok-Some-clause-goes : goal.returns-in-Ok-Some-clause-goes
returns-in-Ok-Some-clause-goes g c = g.met.S.Store.goes_on_trans _ _ _ Going.reads Going.changes c.planned_update.ensures.goes c.carry_out.ensures.goes

pub returns-in-Ok-None-clause-goes : goal.returns-in-Ok-None-clause-goes
returns-in-Ok-None-clause-goes g c = g.met.S.Store.goes_on_trans _ _ _ Going.reads Going.changes c.planned_update.ensures.goes (g.met.S.Store.goes_on_refl _ Going.changes)

pub returns-in-Err-clause-goes : goal.returns-in-Err-clause-goes
returns-in-Err-clause-goes g c = g.met.S.Store.goes_on_trans _ _ _ Going.reads Going.changes c.planned_update.ensures.goes (g.met.S.Store.goes_on_refl _ Going.changes)
