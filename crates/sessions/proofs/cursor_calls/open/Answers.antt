use Rattle.std.proofs.Common.{◌≡◌, Some, refl, sym, ◌∙◌}
use Rattle.ast.specs.declared.statement.Statement.TheVariants as asks
use Rattle.session_definitions.specs.Asked.{Asked}
use Rattle.store.specs.Going.{Going}
use Rattle.store.specs.Stored.{Stored, begun}
use Rattle.transactions.proofs.Orders.{same}
use Rattle.transactions.proofs.Steps.{nothing_moves, withholds}
use Rattle.transactions.proofs.Tests.{reserved, tells_reached, unbegun}
use Rattle.sessions.specs.Numbers.{kept_of}
use Rattle.sessions.proofs.Devices.{risen_later, risen_still, of_store}
use Rattle.sessions.proofs.Exchanges.{Exchanged}
use Rattle.sessions.proofs.Holding.{closed_in, fits_same}
use Rattle.sessions.proofs.OpenFits.{opens_leaves}
use Rattle.sessions.proofs.QuerySteps.{good_begun}
use Rattle.sessions.proofs.OpenSteps.{open_already, refuses, undeclared}
use Rattle.sessions.proofs.cursor_calls.open.Goals as goal

pub returns-then-is_open-clause-leaves : goal.returns-then-is_open-clause-leaves
returns-then-is_open-clause-leaves g c = λ rules text are read other sound order holds good. record {
  moves = open_already rules (g.S.Store.shows c.args.store.now) c.args.writer c.args.session (kept_of c.args.slot.now) text c.args.name.now order
      (closed_in (g.S.Store.shows c.args.store.now) c.args.writer c.args.session _ c.args.slot.now holds) read c.is_open.result c.is_open.ensures c.if-is_open.true;
  fits = fits_same (g.S.Store.shows c.args.store.now) (g.S.Store.shows c.args.store.now) c.args.writer c.args.writer c.args.session c.args.slot.now.cursors
      (same (g.S.Store.shows c.args.store.now) (g.S.Store.shows c.args.store.now) refl) refl holds;
}

pub returns-in_default-clause-leaves : goal.returns-in_default-clause-leaves
returns-in_default-clause-leaves g c = λ rules text are read other sound order holds good. record {
  moves = undeclared rules (g.S.Store.shows c.args.store.now) c.args.writer c.args.session (kept_of c.args.slot.now) text c.args.name.now order
      (closed_in (g.S.Store.shows c.args.store.now) c.args.writer c.args.session _ c.args.slot.now holds) read (sym (rw c.in_default.is at c.query_of.ensures));
  fits = fits_same (g.S.Store.shows c.args.store.now) (g.S.Store.shows c.args.store.now) c.args.writer c.args.writer c.args.session c.args.slot.now.cursors
      (same (g.S.Store.shows c.args.store.now) (g.S.Store.shows c.args.store.now) refl) refl holds;
}

pub returns-in-Err-clause-leaves : goal.returns-in-Err-clause-leaves
returns-in-Err-clause-leaves g c = λ rules text are read other sound order holds good.
    let st : Stored = g.S.Store.shows c.args.store.now in
    let k = same (g.S.Store.shows c.args.store.now) _ (rw c.in-Err.is at c.begin.ensures.same) in
    record {
      moves = rw c.refusal_of.ensures
          (nothing_moves rules (g.S.Store.shows c.args.store.now) c.args.writer c.args.session (kept_of c.args.slot.now) (Asked.Text text) _ _ order
          (withholds rules (g.S.Store.shows c.args.store.now) c.args.writer c.args.session (kept_of c.args.slot.now) (asks.OpenCursor c.args.name.now) text _ other read refl
          (reserved _ _ _ _ _ (rw c.in-Err.is at c.begin.ensures.refused) sound (λ bad. bad) (λ bad. bad))) k);
      fits = fits_same (g.S.Store.shows c.args.store.now) (g.S.Store.shows c.begin.new.self) c.args.writer c.args.writer c.args.session c.args.slot.now.cursors k refl holds;
    }

pub returns-in-Ok-clause-leaves : goal.returns-in-Ok-clause-leaves
returns-in-Ok-clause-leaves g c = λ rules text are read other sound order holds good.
    let begins : g.S.Store.shows c.begin.new.self ≡ begun (g.S.Store.shows c.args.store.now) c.args.session = rw c.in_default-begin.is at c.begin.ensures.shows in
    let put : Exchanged c.args.slot.now.cursors c.exchange-was.new.self c.args.name.now (Some c.in-Ok.cursor) c.exchange-was.result = record {
      opened = c.exchange-was.ensures.opened;
      was = c.exchange-was.ensures.was;
      declared = c.exchange-was.ensures.declared;
      unnamed = c.exchange-was.ensures.unnamed;
      fits = c.exchange-was.ensures.fits;
      fitted = c.exchange-was.ensures.fitted;
      none = c.exchange-was.ensures.none;
      found = c.exchange-was.ensures.found;
    } in
    rw c.let_go.ensures
    (opens_leaves rules (g.S.Store.shows c.args.store.now) c.args.writer c.args.session c.args.slot.now text c.args.name.now order holds read c.in-Some.query.now
    (sym (rw c.in-Some.is at c.query_of.ensures)) c.is_open.result c.is_open.ensures c.if-is_open.false (g.S.Store.shows c.begin.new.self) _ begins c.view_of.ensures c.in-Ok.cursor
    (c.in-Ok.ensures.opens rules are ((g.met.S.Store.goes_on_goes _ _ _ c.begin.ensures.goes).sound sound) (good_begun rules.check _ _ _ _ _ begins c.view_of.ensures good)) (g.S.Store.shows c.opened.new.store) c.opened.ensures.shows
    c.exchange-was.new.self c.exchange-was.result put)

pub returns-in-Err-opened-clause-leaves : goal.returns-in-Err-opened-clause-leaves
returns-in-Err-opened-clause-leaves g c = λ rules text are read other sound order holds good.
    let begins : g.S.Store.shows c.begin.new.self ≡ begun (g.S.Store.shows c.args.store.now) c.args.session = rw c.in_default-begin.is at c.begin.ensures.shows in
    let k = unbegun (g.S.Store.shows c.args.store.now) (g.S.Store.shows c.take_back.new.store) c.args.session _ _ c.number.ensures c.is_none-idle.ensures _
    (same _ _ (c.opened.ensures.shows ∙ begins)) c.take_back.ensures.shows in
    record {
      moves = refuses rules (g.S.Store.shows c.args.store.now) c.args.writer c.args.session (kept_of c.args.slot.now) text c.args.name.now order
          (closed_in (g.S.Store.shows c.args.store.now) c.args.writer c.args.session _ c.args.slot.now holds) read c.in-Some.query.now
          (sym (rw c.in-Some.is at c.query_of.ensures)) c.is_open.result c.is_open.ensures c.if-is_open.false (g.S.Store.shows c.begin.new.self) _ begins c.view_of.ensures c.in-Err-opened.refusal _ other
          (c.in-Err-opened.ensures.refused rules are ((g.met.S.Store.goes_on_goes _ _ _ c.begin.ensures.goes).sound sound)) k;
      fits = fits_same (g.S.Store.shows c.args.store.now) (g.S.Store.shows c.take_back.new.store) c.args.writer c.args.writer c.args.session c.args.slot.now.cursors k refl holds;
    }

pub returns-in-Err-opened-clause-device : goal.returns-in-Err-opened-clause-device
returns-in-Err-opened-clause-device g c = λ is. risen_still _ _ _ (risen_later _ _ _ ((g.met.S.Store.goes_on_goes _ _ _ c.begin.ensures.goes).refused) (c.in-Err-opened.ensures.device is)) ((g.met.S.Store.goes_on_goes _ _ _ c.take_back.ensures.goes).refused)

pub returns-in-Err-clause-limits : goal.returns-in-Err-clause-limits
returns-in-Err-clause-limits g c = tells_reached _ _ _ _ _ _ c.refusal_of.ensures (rw c.in-Err.is at c.begin.ensures.refused)

pub returns-in-Ok-clause-goes : goal.returns-in-Ok-clause-goes
returns-in-Ok-clause-goes g c = g.met.S.Store.goes_on_trans _ _ _ Going.keeps Going.keeps c.begin.ensures.goes c.opened.ensures.goes

pub returns-in-Err-opened-clause-goes : goal.returns-in-Err-opened-clause-goes
returns-in-Err-opened-clause-goes g c = g.met.S.Store.goes_on_trans _ _ _ Going.keeps Going.keeps (g.met.S.Store.goes_on_trans _ _ _ Going.keeps Going.keeps c.begin.ensures.goes c.opened.ensures.goes) c.take_back.ensures.goes

pub returns-in-Err-clause-kept : goal.returns-in-Err-clause-kept
returns-in-Err-clause-kept g c = (same (g.S.Store.shows c.args.store.now) _ (rw c.in-Err.is at c.begin.ensures.same), refl)

pub returns-in-Err-opened-clause-kept : goal.returns-in-Err-opened-clause-kept
returns-in-Err-opened-clause-kept g c =
    let begins : g.S.Store.shows c.begin.new.self ≡ begun (g.S.Store.shows c.args.store.now) c.args.session = rw c.in_default-begin.is at c.begin.ensures.shows in
    (unbegun _ _ _ _ _ c.number.ensures c.is_none-idle.ensures _ (same _ _ (c.opened.ensures.shows ∙ begins)) c.take_back.ensures.shows, refl)

pub returns-then-is_open-clause-kept : goal.returns-then-is_open-clause-kept
returns-then-is_open-clause-kept g c = (same (g.S.Store.shows c.args.store.now) (g.S.Store.shows c.args.store.now) refl, refl)

pub returns-in_default-clause-kept : goal.returns-in_default-clause-kept
returns-in_default-clause-kept g c = (same (g.S.Store.shows c.args.store.now) (g.S.Store.shows c.args.store.now) refl, refl)

pub returns-then-is_open-clause-device : goal.returns-then-is_open-clause-device
returns-then-is_open-clause-device g c = λ is. absurd (cc)

pub returns-in_default-clause-device : goal.returns-in_default-clause-device
returns-in_default-clause-device g c = λ is. absurd (cc)

pub returns-in-Err-clause-device : goal.returns-in-Err-clause-device
returns-in-Err-clause-device g c = λ is. of_store _ _ _ _ c.in-Err.error (rw c.in-Err.is at c.begin.ensures.refused) (sym c.refusal_of.ensures ∙ is)

pub returns-in-Ok-clause-device : goal.returns-in-Ok-clause-device
returns-in-Ok-clause-device g c = rw c.let_go.ensures tt

pub returns-then-is_open-clause-limits : goal.returns-then-is_open-clause-limits
returns-then-is_open-clause-limits g c = tt

pub returns-in_default-clause-limits : goal.returns-in_default-clause-limits
returns-in_default-clause-limits g c = tt

pub returns-in-Ok-clause-limits : goal.returns-in-Ok-clause-limits
returns-in-Ok-clause-limits g c = rw c.let_go.ensures tt

pub returns-in-Err-opened-clause-limits : goal.returns-in-Err-opened-clause-limits
returns-in-Err-opened-clause-limits g c = c.in-Err-opened.ensures.limits

pub returns-in-Ok-clause-kept : goal.returns-in-Ok-clause-kept
returns-in-Ok-clause-kept g c = rw c.let_go.ensures tt

pub returns-then-is_open-clause-goes : goal.returns-then-is_open-clause-goes
returns-then-is_open-clause-goes g c = g.met.S.Store.goes_on_refl _ Going.keeps

pub returns-in_default-clause-goes : goal.returns-in_default-clause-goes
returns-in_default-clause-goes g c = g.met.S.Store.goes_on_refl _ Going.keeps

pub returns-in-Err-clause-goes : goal.returns-in-Err-clause-goes
returns-in-Err-clause-goes g c = c.begin.ensures.goes
