use Rattle.std.proofs.Common.{◌≡◌, Option, Some, None, ap, is_some, refl, sym, ◌∙◌}
use Rattle.store.specs.Going.{Going}
use Rattle.store.specs.Stored.{begun}
use Rattle.transactions.proofs.Orders.{same}
use Rattle.transactions.proofs.Tests.{reserved, tells_reached, unbegun}
use Rattle.cursors.specs.declared.cursor.OpenCursor.{OpenCursor}
use Rattle.sessions.specs.Numbers.{kept_of}
use Rattle.sessions.proofs.Devices.{risen_later, risen_still, of_store}
use Rattle.sessions.proofs.Exchanges.{held_some}
use Rattle.sessions.proofs.Holding.{closed_in, fits_same}
use Rattle.sessions.proofs.QuerySteps.{good_begun}
use Rattle.sessions.proofs.UnnamedFits.{Replaced, opens_leaves}
use Rattle.sessions.proofs.UnnamedOpens.{open_already, opening_withheld, refuses}
use Rattle.sessions.proofs.query_calls.open_read.Goals as goal

pub returns-then-has_unnamed-clause-leaves : goal.returns-then-has_unnamed-clause-leaves
returns-then-has_unnamed-clause-leaves g c = λ rules text are read sound order holds good. record {
  moves = open_already rules (g.S.Store.shows c.args.store.now) c.args.writer c.args.session (kept_of c.args.slot.now) text order
      (closed_in (g.S.Store.shows c.args.store.now) c.args.writer c.args.session _ c.args.slot.now holds) c.args.query.now read c.has_unnamed.result
      (λ contents. c.has_unnamed.ensures ∙ sym (held_some c.args.slot.now.cursors.unnamed contents)) c.if-has_unnamed.true;
  fits = fits_same (g.S.Store.shows c.args.store.now) (g.S.Store.shows c.args.store.now) c.args.writer c.args.writer c.args.session c.args.slot.now.cursors
      (same (g.S.Store.shows c.args.store.now) (g.S.Store.shows c.args.store.now) refl) refl holds;
}

pub returns-in-Err-clause-leaves : goal.returns-in-Err-clause-leaves
returns-in-Err-clause-leaves g c = λ rules text are read sound order holds good.
    let k = same (g.S.Store.shows c.args.store.now) _ (rw c.in-Err.is at c.begin.ensures.same) in
    record {
      moves = rw c.refusal_of.ensures
          (opening_withheld rules (g.S.Store.shows c.args.store.now) c.args.writer c.args.session (kept_of c.args.slot.now) text order _ _
          (reserved _ _ _ _ _ (rw c.in-Err.is at c.begin.ensures.refused) sound (λ bad. bad) (λ bad. bad)) k);
      fits = fits_same (g.S.Store.shows c.args.store.now) (g.S.Store.shows c.begin.new.self) c.args.writer c.args.writer c.args.session c.args.slot.now.cursors k refl holds;
    }

pub returns-in-Ok-clause-leaves : goal.returns-in-Ok-clause-leaves
returns-in-Ok-clause-leaves g c = λ rules text are read sound order holds good.
    let begins : g.S.Store.shows c.begin.new.self ≡ begun (g.S.Store.shows c.args.store.now) c.args.session = rw c.in_default.is at c.begin.ensures.shows in
    let put : Replaced c.args.slot.now.cursors c.exchange_unnamed-was.new.self (Some c.in-Ok.cursor) c.exchange_unnamed-was.result = record {
      puts = c.exchange_unnamed-was.ensures.puts;
      was = c.exchange_unnamed-was.ensures.was;
      named = c.exchange_unnamed-was.ensures.named;
    } in
    rw c.let_go.ensures
    (opens_leaves rules (g.S.Store.shows c.args.store.now) c.args.writer c.args.session c.args.slot.now text order holds c.args.query.now read c.has_unnamed.result
    (λ contents. c.has_unnamed.ensures ∙ sym (held_some c.args.slot.now.cursors.unnamed contents)) c.if-has_unnamed.false (g.S.Store.shows c.begin.new.self) _ begins c.view_of.ensures c.in-Ok.cursor
    (c.in-Ok.ensures.opens rules are ((g.met.S.Store.goes_on_goes _ _ _ c.begin.ensures.goes).sound sound) (good_begun rules.check _ _ _ _ _ begins c.view_of.ensures good)) (g.S.Store.shows c.opened.new.store) c.opened.ensures.shows
    c.exchange_unnamed-was.new.self c.exchange_unnamed-was.result put)

pub returns-in-Err-opened-clause-leaves : goal.returns-in-Err-opened-clause-leaves
returns-in-Err-opened-clause-leaves g c = λ rules text are read sound order holds good.
    let begins : g.S.Store.shows c.begin.new.self ≡ begun (g.S.Store.shows c.args.store.now) c.args.session = rw c.in_default.is at c.begin.ensures.shows in
    let k = unbegun (g.S.Store.shows c.args.store.now) (g.S.Store.shows c.take_back.new.store) c.args.session _ _ c.number.ensures c.is_none-idle.ensures _
    (same _ _ (c.opened.ensures.shows ∙ begins)) c.take_back.ensures.shows in
    record {
      moves = refuses rules (g.S.Store.shows c.args.store.now) c.args.writer c.args.session (kept_of c.args.slot.now) text order
          (closed_in (g.S.Store.shows c.args.store.now) c.args.writer c.args.session _ c.args.slot.now holds) c.args.query.now read c.has_unnamed.result
          (λ contents. c.has_unnamed.ensures ∙ sym (held_some c.args.slot.now.cursors.unnamed contents)) c.if-has_unnamed.false (g.S.Store.shows c.begin.new.self) _ begins c.view_of.ensures c.in-Err-opened.refusal _
          (c.in-Err-opened.ensures.refused rules are ((g.met.S.Store.goes_on_goes _ _ _ c.begin.ensures.goes).sound sound)) k;
      fits = fits_same (g.S.Store.shows c.args.store.now) (g.S.Store.shows c.take_back.new.store) c.args.writer c.args.writer c.args.session c.args.slot.now.cursors k refl holds;
    }

pub returns-in-Err-opened-clause-device : goal.returns-in-Err-opened-clause-device
returns-in-Err-opened-clause-device g c = λ is. risen_still _ _ _ (risen_later _ _ _ ((g.met.S.Store.goes_on_goes _ _ _ c.begin.ensures.goes).refused) (c.in-Err-opened.ensures.device is)) ((g.met.S.Store.goes_on_goes _ _ _ c.take_back.ensures.goes).refused)

pub returns-in-Err-clause-limits : goal.returns-in-Err-clause-limits
returns-in-Err-clause-limits g c = tells_reached _ _ _ _ _ _ c.refusal_of.ensures (rw c.in-Err.is at c.begin.ensures.refused)

pub returns-in-Ok-clause-goes : goal.returns-in-Ok-clause-goes
returns-in-Ok-clause-goes g c = g.met.S.Store.goes_on_trans _ _ _ Going.keeps Going.keeps c.begin.ensures.goes c.opened.ensures.goes

pub returns-in-Err-opened-clause-goes : goal.returns-in-Err-opened-clause-goes
returns-in-Err-opened-clause-goes g c = g.met.S.Store.goes_on_trans _ _ _ Going.keeps Going.keeps (g.met.S.Store.goes_on_trans _ _ _ Going.keeps Going.keeps c.begin.ensures.goes c.opened.ensures.goes) c.take_back.ensures.goes

pub returns-in-Err-clause-kept : goal.returns-in-Err-clause-kept
returns-in-Err-clause-kept g c = (same (g.S.Store.shows c.args.store.now) _ (rw c.in-Err.is at c.begin.ensures.same), refl)

pub returns-in-Err-opened-clause-kept : goal.returns-in-Err-opened-clause-kept
returns-in-Err-opened-clause-kept g c =
    let begins : g.S.Store.shows c.begin.new.self ≡ begun (g.S.Store.shows c.args.store.now) c.args.session = rw c.in_default.is at c.begin.ensures.shows in
    (unbegun _ _ _ _ _ c.number.ensures c.is_none-idle.ensures _ (same _ _ (c.opened.ensures.shows ∙ begins)) c.take_back.ensures.shows, refl)

pub returns-then-has_unnamed-clause-kept : goal.returns-then-has_unnamed-clause-kept
returns-then-has_unnamed-clause-kept g c = (same (g.S.Store.shows c.args.store.now) (g.S.Store.shows c.args.store.now) refl, refl)

pub returns-in-Ok-clause-told : goal.returns-in-Ok-clause-told
returns-in-Ok-clause-told g c = rw c.let_go.ensures tt

pub returns-then-has_unnamed-clause-device : goal.returns-then-has_unnamed-clause-device
returns-then-has_unnamed-clause-device g c = λ is. absurd (cc)

pub returns-then-has_unnamed-clause-limits : goal.returns-then-has_unnamed-clause-limits
returns-then-has_unnamed-clause-limits g c = tt

pub returns-then-has_unnamed-clause-told : goal.returns-then-has_unnamed-clause-told
returns-then-has_unnamed-clause-told g c = tt

pub returns-then-has_unnamed-clause-goes : goal.returns-then-has_unnamed-clause-goes
returns-then-has_unnamed-clause-goes g c = g.met.S.Store.goes_on_refl _ Going.keeps

pub returns-in-Err-clause-device : goal.returns-in-Err-clause-device
returns-in-Err-clause-device g c = λ is. of_store _ _ _ _ c.in-Err.error (rw c.in-Err.is at c.begin.ensures.refused) (sym c.refusal_of.ensures ∙ is)

pub returns-in-Err-clause-told : goal.returns-in-Err-clause-told
returns-in-Err-clause-told g c = tt

pub returns-in-Err-clause-goes : goal.returns-in-Err-clause-goes
returns-in-Err-clause-goes g c = c.begin.ensures.goes

pub returns-in-Ok-clause-device : goal.returns-in-Ok-clause-device
returns-in-Ok-clause-device g c = rw c.let_go.ensures tt

pub returns-in-Ok-clause-limits : goal.returns-in-Ok-clause-limits
returns-in-Ok-clause-limits g c = rw c.let_go.ensures tt

pub returns-in-Ok-clause-kept : goal.returns-in-Ok-clause-kept
returns-in-Ok-clause-kept g c = rw c.let_go.ensures tt

pub returns-in-Err-opened-clause-limits : goal.returns-in-Err-opened-clause-limits
returns-in-Err-opened-clause-limits g c = c.in-Err-opened.ensures.limits

pub returns-in-Err-opened-clause-told : goal.returns-in-Err-opened-clause-told
returns-in-Err-opened-clause-told g c = tt
