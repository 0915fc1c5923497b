use Rattle.std.proofs.Common.{◌≡◌, refl, sym, subst, ◌∙◌}
use Rattle.transactions.specs.Shown.{settled}
use Rattle.transactions.proofs.Tests.{none_is, some_is}
use Rattle.sessions.specs.Held.{FitsIn, HoldsIn}
use Rattle.sessions.specs.Numbers.{kept_of}
use Rattle.sessions.proofs.Holding.{closed_kept}
use Rattle.sessions.proofs.calling.settle.Goals as goal

pub returns-then-is_some-clause-kept : goal.returns-then-is_some-clause-kept
returns-then-is_some-clause-kept g c =
    let active = some_is _ _ c.number.ensures (sym c.is_some.ensures ∙ c.if-is_some.true) in
    subst (λ o. kept_of c.args.slot.now ≡ settled o (kept_of c.args.slot.now)) (sym active.1) refl

pub returns-then-is_some-clause-holds : goal.returns-then-is_some-clause-holds
returns-then-is_some-clause-holds g c = λ w.
    let active = some_is _ _ c.number.ensures (sym c.is_some.ensures ∙ c.if-is_some.true) in
    subst (λ o. FitsIn (g.S.Store.shows c.args.store.now) w c.args.session o c.args.slot.now.cursors → HoldsIn (g.S.Store.shows c.args.store.now) w c.args.session o c.args.slot.now.cursors)
    (sym active.1) (λ h. h)

pub returns-clause-kept : goal.returns-clause-kept
returns-clause-kept g c =
    let none = none_is _ _ c.number.ensures (sym c.is_some.ensures ∙ c.if-is_some.false) in
    subst (λ o. kept_of (record c.args.slot.now { cursors = c.close_all.new.self }) ≡ settled o (kept_of c.args.slot.now)) (sym none)
    (closed_kept c.args.slot.now (record c.args.slot.now { cursors = c.close_all.new.self }) refl c.close_all.ensures.declared c.close_all.ensures.shut)

pub returns-clause-holds : goal.returns-clause-holds
returns-clause-holds g c = λ w fits.
    let none = none_is _ _ c.number.ensures (sym c.is_some.ensures ∙ c.if-is_some.false) in
    subst (λ o. HoldsIn (g.S.Store.shows c.args.store.now) w c.args.session o c.close_all.new.self) (sym none) c.close_all.ensures.shut
