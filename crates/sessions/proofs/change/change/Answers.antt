use Rattle.std.proofs.Common.{◌≡◌, refl, sym, ap, subst, ◌∙◌, inl, inr}
use Rattle.store.specs.Stored.{Stored, SameButMark, begun}
use Rattle.session_definitions.specs.Asked.{Asked}
use Rattle.transactions.specs.Shown.{session_of}
use Rattle.transactions.proofs.Orders.{begun_working, same}
use Rattle.transactions.proofs.Steps.{nothing_moves, withholds}
use Rattle.transactions.proofs.Tests.{reserved, tells_reached, unbegun}
use Rattle.sessions.specs.Numbers.{kept_of}
use Rattle.sessions.proofs.ChangeSteps.{beside_cursor, comes_late, good_begun, makes, no_fetch, only_reads, refuses}
use Rattle.sessions.proofs.Holding.{shut_kept}
use Rattle.sessions.proofs.Devices.{risen_later, risen_still, counts_none, of_store}
use Rattle.store.specs.Going.{Going}
use Rattle.sessions.proofs.Kept.{none_kept}
use Rattle.sessions.proofs.Limits.{tells_none}
use Rattle.std.specs.FinMap.{get}
use Rattle.sessions.proofs.ToldLimits.{begun_before, statement_told_before}
use Rattle.sessions.specs.ToldLimits.{StatementTells}
use Rattle.sessions.proofs.change.change.Goals as goal

pub returns-then-is_read_only-clause-moves : goal.returns-then-is_read_only-clause-moves
returns-then-is_read_only-clause-moves g c = λ rules text are is read other sound order shut good.
    only_reads rules (g.S.Store.shows c.args.store.now) _ _ (kept_of c.args.slot.now) text _ order shut is read (sym c.is_read_only.ensures ∙ c.if-is_read_only.true) (g.S.Store.shows c.args.store.now) refl

pub returns-then-has_open-clause-moves : goal.returns-then-has_open-clause-moves
returns-then-has_open-clause-moves g c = λ rules text are is read other sound order shut good.
    beside_cursor rules (g.S.Store.shows c.args.store.now) _ _ (kept_of c.args.slot.now) text _ order shut is read (sym c.is_read_only.ensures ∙ c.if-is_read_only.false)
    c.has_open.result c.has_open.ensures.is c.if-has_open.true (g.S.Store.shows c.args.store.now) refl

pub returns-then-comes_too_late-clause-moves : goal.returns-then-comes_too_late-clause-moves
returns-then-comes_too_late-clause-moves g c = λ rules text are is read other sound order shut good.
    comes_late rules _ _ _ (kept_of c.args.slot.now) text _ order shut is read (sym c.is_read_only.ensures ∙ c.if-is_read_only.false)
    c.has_open.result c.has_open.ensures.is c.if-has_open.false (sym c.comes_too_late.ensures ∙ c.if-comes_too_late.true) _ c.end.ensures.shows

pub returns-in-Err-clause-moves : goal.returns-in-Err-clause-moves
returns-in-Err-clause-moves g c = λ rules text are is read other sound order shut good.
    let st : Stored = g.S.Store.shows c.args.store.now in
    rw c.refusal_of.ensures
    (nothing_moves rules st _ _ (kept_of c.args.slot.now) (Asked.Text text) _ _ order
    (withholds rules st _ _ (kept_of c.args.slot.now) c.args.statement.now text _ other read (no_fetch (session_of (g.S.Store.shows c.args.store.now) c.args.writer.now c.args.session (kept_of c.args.slot.now)) c.args.statement.now is)
    (reserved _ _ _ _ _ (rw c.in-Err.is at c.begin.ensures.refused) sound (λ bad. bad) (λ bad. bad)))
    (same st _ (rw c.in-Err.is at c.begin.ensures.same)))

pub returns-in-Ok-clause-moves : goal.returns-in-Ok-clause-moves
returns-in-Ok-clause-moves g c = λ rules text are is read other sound order shut good.
    let begins : g.S.Store.shows c.begin.new.self ≡ begun (g.S.Store.shows c.args.store.now) c.args.session = rw c.in_default.is at c.begin.ensures.shows in
    makes rules _ _ _ (kept_of c.args.slot.now) text _ order shut is read (sym c.is_read_only.ensures ∙ c.if-is_read_only.false)
    c.has_open.result c.has_open.ensures.is c.if-has_open.false (sym c.comes_too_late.ensures ∙ c.if-comes_too_late.false) _ begins (shut_kept c.args.slot.now (c.has_open.ensures.shut c.if-has_open.false)) _ _
    (c.in-Ok.ensures.changes rules are is ((g.met.S.Store.goes_on_goes _ _ _ c.begin.ensures.goes).sound sound)
    (good_begun rules _ _ _ (kept_of c.args.slot.now) text _ order shut is read (sym c.is_read_only.ensures ∙ c.if-is_read_only.false)
    c.has_open.result c.has_open.ensures.is c.if-has_open.false (sym c.comes_too_late.ensures ∙ c.if-comes_too_late.false) _ begins good))

pub returns-in-Err-make-clause-moves : goal.returns-in-Err-make-clause-moves
returns-in-Err-make-clause-moves g c = λ rules text are is read other sound order shut good.
    let begins : g.S.Store.shows c.begin.new.self ≡ begun (g.S.Store.shows c.args.store.now) c.args.session = rw c.in_default.is at c.begin.ensures.shows in
    refuses rules _ _ _ (kept_of c.args.slot.now) text _ order shut is read (sym c.is_read_only.ensures ∙ c.if-is_read_only.false)
    c.has_open.result c.has_open.ensures.is c.if-has_open.false (sym c.comes_too_late.ensures ∙ c.if-comes_too_late.false) _ begins _ _ other
    (c.in-Err-make.ensures.refused rules are is ((g.met.S.Store.goes_on_goes _ _ _ c.begin.ensures.goes).sound sound)
    (good_begun rules _ _ _ (kept_of c.args.slot.now) text _ order shut is read (sym c.is_read_only.ensures ∙ c.if-is_read_only.false)
    c.has_open.result c.has_open.ensures.is c.if-has_open.false (sym c.comes_too_late.ensures ∙ c.if-comes_too_late.false) _ begins good))
    (unbegun _ _ _ _ _ c.number.ensures c.is_none-idle.ensures _
    (subst (λ (y : Stored). SameButMark y (g.S.Store.shows c.make.new.store)) begins c.in-Err-make.ensures.same) c.take_back.ensures.shows)

pub returns-then-is_read_only-clause-left : goal.returns-then-is_read_only-clause-left
returns-then-is_read_only-clause-left g c = inr (same (g.S.Store.shows c.args.store.now) _ refl, refl)

pub returns-then-has_open-clause-left : goal.returns-then-has_open-clause-left
returns-then-has_open-clause-left g c = inr (same (g.S.Store.shows c.args.store.now) _ refl, refl)

pub returns-then-comes_too_late-clause-left : goal.returns-then-comes_too_late-clause-left
returns-then-comes_too_late-clause-left g c = inl (c.has_open.ensures.shut c.if-has_open.false)

pub returns-in-Err-clause-left : goal.returns-in-Err-clause-left
returns-in-Err-clause-left g c = inl (c.has_open.ensures.shut c.if-has_open.false)

pub returns-in-Ok-clause-left : goal.returns-in-Ok-clause-left
returns-in-Ok-clause-left g c = inl (c.has_open.ensures.shut c.if-has_open.false)

pub returns-in-Err-make-clause-left : goal.returns-in-Err-make-clause-left
returns-in-Err-make-clause-left g c = inl (c.has_open.ensures.shut c.if-has_open.false)

pub returns-in-Ok-clause-device : goal.returns-in-Ok-clause-device
returns-in-Ok-clause-device g c = counts_none c.in-Ok.reply _ _ c.in-Ok.ensures.accepted

pub returns-in-Err-make-clause-device : goal.returns-in-Err-make-clause-device
returns-in-Err-make-clause-device g c = λ is. risen_still _ _ _ (risen_later _ _ _ ((g.met.S.Store.goes_on_goes _ _ _ c.begin.ensures.goes).refused) (c.in-Err-make.ensures.device is)) ((g.met.S.Store.goes_on_goes _ _ _ c.take_back.ensures.goes).refused)

pub returns-then-comes_too_late-clause-goes : goal.returns-then-comes_too_late-clause-goes
returns-then-comes_too_late-clause-goes g c = g.met.S.Store.goes_on_trans _ _ _ Going.keeps Going.changes c.end.ensures.goes (g.met.S.Store.goes_on_refl _ Going.changes)

pub returns-in-Err-clause-goes : goal.returns-in-Err-clause-goes
returns-in-Err-clause-goes g c = g.met.S.Store.goes_on_trans _ _ _ Going.keeps Going.changes c.begin.ensures.goes (g.met.S.Store.goes_on_refl _ Going.changes)

pub returns-in-Ok-clause-goes : goal.returns-in-Ok-clause-goes
returns-in-Ok-clause-goes g c = g.met.S.Store.goes_on_trans _ _ _ Going.keeps Going.changes c.begin.ensures.goes c.make.ensures.goes

pub returns-in-Err-make-clause-goes : goal.returns-in-Err-make-clause-goes
returns-in-Err-make-clause-goes g c = g.met.S.Store.goes_on_trans _ _ _ Going.changes Going.keeps (g.met.S.Store.goes_on_trans _ _ _ Going.keeps Going.changes c.begin.ensures.goes c.make.ensures.goes) c.take_back.ensures.goes

pub returns-then-is_read_only-clause-kept : goal.returns-then-is_read_only-clause-kept
returns-then-is_read_only-clause-kept g c = λ other. (same (g.S.Store.shows c.args.store.now) _ refl, refl)

pub returns-then-has_open-clause-kept : goal.returns-then-has_open-clause-kept
returns-then-has_open-clause-kept g c = λ other. (same (g.S.Store.shows c.args.store.now) _ refl, refl)

pub returns-then-comes_too_late-clause-kept : goal.returns-then-comes_too_late-clause-kept
returns-then-comes_too_late-clause-kept g c = λ other. absurd (other refl)

pub returns-in-Err-clause-kept : goal.returns-in-Err-clause-kept
returns-in-Err-clause-kept g c = λ other. (same (g.S.Store.shows c.args.store.now) _ (rw c.in-Err.is at c.begin.ensures.same), refl)

pub returns-in-Ok-clause-kept : goal.returns-in-Ok-clause-kept
returns-in-Ok-clause-kept g c = none_kept c.in-Ok.reply _ c.in-Ok.ensures.accepted

pub returns-in-Err-make-clause-kept : goal.returns-in-Err-make-clause-kept
returns-in-Err-make-clause-kept g c = λ other.
    let begins : g.S.Store.shows c.begin.new.self ≡ begun (g.S.Store.shows c.args.store.now) c.args.session = rw c.in_default.is at c.begin.ensures.shows in (
      unbegun _ _ _ _ _ c.number.ensures c.is_none-idle.ensures _
          (subst (λ (y : Stored). SameButMark y (g.S.Store.shows c.make.new.store)) begins c.in-Err-make.ensures.same) c.take_back.ensures.shows,
      refl,
    )

pub returns-then-is_read_only-clause-device : goal.returns-then-is_read_only-clause-device
returns-then-is_read_only-clause-device g c = λ is. absurd (cc)

pub returns-then-has_open-clause-device : goal.returns-then-has_open-clause-device
returns-then-has_open-clause-device g c = λ is. absurd (cc)

pub returns-then-comes_too_late-clause-device : goal.returns-then-comes_too_late-clause-device
returns-then-comes_too_late-clause-device g c = λ is. absurd (cc)

pub returns-in-Err-clause-device : goal.returns-in-Err-clause-device
returns-in-Err-clause-device g c = λ is. of_store _ _ _ _ c.in-Err.error (rw c.in-Err.is at c.begin.ensures.refused) (sym c.refusal_of.ensures ∙ is)

pub returns-then-is_read_only-clause-goes : goal.returns-then-is_read_only-clause-goes
returns-then-is_read_only-clause-goes g c = g.met.S.Store.goes_on_refl _ Going.changes

pub returns-then-has_open-clause-goes : goal.returns-then-has_open-clause-goes
returns-then-has_open-clause-goes g c = g.met.S.Store.goes_on_refl _ Going.changes

pub returns-then-is_read_only-clause-reached : goal.returns-then-is_read_only-clause-reached
returns-then-is_read_only-clause-reached g c = record {
  middle = c.args.store.now;
  before = g.met.S.Store.goes_on_refl _ Going.changes;
  behind = g.met.S.Store.goes_on_refl _ Going.keeps;
  at_end = λ active. refl;
  said = tt;
}

pub returns-then-has_open-clause-reached : goal.returns-then-has_open-clause-reached
returns-then-has_open-clause-reached g c = record {
  middle = c.args.store.now;
  before = g.met.S.Store.goes_on_refl _ Going.changes;
  behind = g.met.S.Store.goes_on_refl _ Going.keeps;
  at_end = λ active. refl;
  said = tt;
}

pub returns-then-comes_too_late-clause-reached : goal.returns-then-comes_too_late-clause-reached
returns-then-comes_too_late-clause-reached g c = record {
  middle = c.end.new.self;
  before = g.met.S.Store.goes_on_trans _ _ _ Going.keeps Going.changes c.end.ensures.goes (g.met.S.Store.goes_on_refl _ Going.changes);
  behind = g.met.S.Store.goes_on_refl _ Going.keeps;
  at_end = λ active. refl;
  said = tt;
}

pub returns-in-Err-clause-reached : goal.returns-in-Err-clause-reached
returns-in-Err-clause-reached g c = record {
  middle = c.begin.new.self;
  before = g.met.S.Store.goes_on_trans _ _ _ Going.keeps Going.changes c.begin.ensures.goes (g.met.S.Store.goes_on_refl _ Going.changes);
  behind = g.met.S.Store.goes_on_refl _ Going.keeps;
  at_end = λ active. refl;
  said = tells_none (StatementTells (g.S.Store.counted c.begin.new.self) (g.S.Store.is_sound c.args.store.now) (g.S.Store.shows c.args.store.now).working c.args.statement.now) c.refusal_of.result
      (tells_reached _ _ _ _ _ _ c.refusal_of.ensures (rw c.in-Err.is at c.begin.ensures.refused));
}

pub returns-in-Ok-clause-reached : goal.returns-in-Ok-clause-reached
returns-in-Ok-clause-reached g c = none_kept c.in-Ok.reply _ c.in-Ok.ensures.accepted

pub returns-in-Err-make-clause-reached : goal.returns-in-Err-make-clause-reached
returns-in-Err-make-clause-reached g c =
    let begins : g.S.Store.shows c.begin.new.self ≡ begun (g.S.Store.shows c.args.store.now) c.args.session = rw c.in_default.is at c.begin.ensures.shows in
    record {
      middle = c.make.new.store;
      before = g.met.S.Store.goes_on_trans _ _ _ Going.keeps Going.changes c.begin.ensures.goes c.make.ensures.goes;
      behind = c.take_back.ensures.goes;
      at_end = λ active.
          sym (c.take_back.ensures.stays (begun_before (get (g.S.Store.shows c.args.store.now).readers c.args.session) _ _ c.number.ensures c.is_none-idle.ensures active.0 active.1));
      said = statement_told_before (g.S.Store.counted c.make.new.store) (g.S.Store.is_sound c.args.store.now) (g.S.Store.is_sound c.begin.new.self)
          (g.S.Store.shows c.args.store.now).working (g.S.Store.shows c.begin.new.self).working
          (g.met.S.Store.goes_on_goes _ _ _ c.begin.ensures.goes).sound
          (ap (λ (st : Stored). st.working) begins ∙ begun_working (g.S.Store.shows c.args.store.now) c.args.session)
          c.args.statement.now c.in-Err-make.refusal c.in-Err-make.ensures.reached;
    }
