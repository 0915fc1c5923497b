use Rattle.std.proofs.Common.{None, refl, sym, ◌∙◌}
use Rattle.transactions.proofs.Orders.{same}
use Rattle.sessions.specs.Numbers.{kept_of}
use Rattle.sessions.proofs.CursorSteps.{closes_none}
use Rattle.sessions.proofs.Exchanges.{Exchanged, closing_held}
use Rattle.sessions.proofs.Holding.{closed_in, fits_same}
use Rattle.sessions.proofs.cursor_calls.close.Goals as goal

pub returns-then-not-is_open-clause-leaves : goal.returns-then-not-is_open-clause-leaves
returns-then-not-is_open-clause-leaves c = λ rules text st w s read order holds. record {
  moves = closes_none rules st w s (kept_of c.args.slot.now) text order (closed_in st w s _ c.args.slot.now holds) c.args.name.now read
      (λ contents. sym (c.is_open.ensures contents) ∙ c.if-not-is_open.true);
  fits = fits_same st st w w s c.args.slot.now.cursors (same st st refl) refl holds;
}

pub returns-clause-leaves : goal.returns-clause-leaves
returns-clause-leaves c = λ rules text st w s read order holds.
    let first : Exchanged c.args.slot.now.cursors c.exchange-was.new.self c.args.name.now None c.exchange-was.result = record {
      opened = c.exchange-was.ensures.opened;
      was = c.exchange-was.ensures.was;
      declared = c.exchange-was.ensures.declared;
      unnamed = c.exchange-was.ensures.unnamed;
      fits = c.exchange-was.ensures.fits;
      fitted = c.exchange-was.ensures.fitted;
      none = c.exchange-was.ensures.none;
      found = c.exchange-was.ensures.found;
    } in
    rw c.let_go.ensures (closing_held rules st w s text order c.args.slot.now holds c.args.name.now c.exchange-was.new.self c.exchange-was.result first c.is_open.result c.is_open.ensures c.if-not-is_open.false read)

pub returns-then-not-is_open-clause-device : goal.returns-then-not-is_open-clause-device
returns-then-not-is_open-clause-device c = λ is. cc

pub returns-clause-device : goal.returns-clause-device
returns-clause-device c = rw c.let_go.ensures tt

pub returns-then-not-is_open-clause-limits : goal.returns-then-not-is_open-clause-limits
returns-then-not-is_open-clause-limits c = tt

pub returns-clause-limits : goal.returns-clause-limits
returns-clause-limits c = rw c.let_go.ensures tt

pub returns-then-not-is_open-clause-kept : goal.returns-then-not-is_open-clause-kept
returns-then-not-is_open-clause-kept c = refl

pub returns-clause-kept : goal.returns-clause-kept
returns-clause-kept c = rw c.let_go.ensures tt
