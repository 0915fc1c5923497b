use Rattle.std.proofs.Common.{None, refl, sym, ◌∙◌}
use Rattle.transactions.proofs.Orders.{same}
use Rattle.sessions.specs.Numbers.{kept_of}
use Rattle.sessions.proofs.CursorSteps.{fetches_none}
use Rattle.sessions.proofs.Exchanges.{Exchanged, fetching_held, not_there}
use Rattle.sessions.proofs.Holding.{closed_in, fits_same}
use Rattle.store.specs.Going.{Going}
use Rattle.sessions.proofs.cursor_calls.fetch.Goals as goal

pub returns-then-not-is_open-clause-leaves : goal.returns-then-not-is_open-clause-leaves
returns-then-not-is_open-clause-leaves g c = λ rules text read sound order holds.
    let st = g.S.Store.shows c.args.store.now in
    record {
      moves = fetches_none rules st c.args.writer c.args.session (kept_of c.args.slot.now) text order (closed_in st c.args.writer c.args.session _ c.args.slot.now holds) c.args.name.now read
          (λ contents. not_there _ (sym (c.is_open.ensures contents) ∙ c.if-not-is_open.true));
      fits = fits_same st st c.args.writer c.args.writer c.args.session c.args.slot.now.cursors (same st st refl) refl holds;
    }

pub returns-clause-leaves : goal.returns-clause-leaves
returns-clause-leaves g c = λ rules text read sound order holds.
    let st = g.S.Store.shows c.args.store.now in
    let first : Exchanged c.args.slot.now.cursors c.exchange-held.new.self c.args.name.now None c.exchange-held.result = record {
      opened = c.exchange-held.ensures.opened;
      was = c.exchange-held.ensures.was;
      declared = c.exchange-held.ensures.declared;
      unnamed = c.exchange-held.ensures.unnamed;
      fits = c.exchange-held.ensures.fits;
      fitted = c.exchange-held.ensures.fitted;
      none = c.exchange-held.ensures.none;
      found = c.exchange-held.ensures.found;
    } in
    let second : Exchanged c.exchange-held.new.self c.exchange-was.new.self c.args.name.now c.fetched-left.result.left c.exchange-was.result = record {
      opened = c.exchange-was.ensures.opened;
      was = c.exchange-was.ensures.was;
      declared = c.exchange-was.ensures.declared;
      unnamed = c.exchange-was.ensures.unnamed;
      fits = c.exchange-was.ensures.fits;
      fitted = c.exchange-was.ensures.fitted;
      none = c.exchange-was.ensures.none;
      found = c.exchange-was.ensures.found;
    } in
    rw c.let_go.ensures
    (fetching_held rules st c.args.writer c.args.session text order c.args.slot.now holds c.args.name.now c.exchange-held.new.self c.exchange-held.result first c.is_open.result c.is_open.ensures c.if-not-is_open.false
    read c.view_of.result c.view_of.ensures (g.S.Store.is_sound c.args.store.now) sound c.fetched-left.result.left c.fetched-left.result.reply c.fetched-left.ensures.gives
    c.exchange-was.new.self c.exchange-was.result second (g.S.Store.shows c.fetched-left.new.store) c.fetched-left.ensures.shows)

pub returns-clause-device : goal.returns-clause-device
returns-clause-device g c = rw c.let_go.ensures c.fetched-left.ensures.device

pub returns-clause-limits : goal.returns-clause-limits
returns-clause-limits g c = rw c.let_go.ensures c.fetched-left.ensures.limits

pub returns-clause-goes : goal.returns-clause-goes
returns-clause-goes g c = c.fetched-left.ensures.goes

pub returns-then-not-is_open-clause-device : goal.returns-then-not-is_open-clause-device
returns-then-not-is_open-clause-device g c = λ is. absurd (cc)

pub returns-then-not-is_open-clause-limits : goal.returns-then-not-is_open-clause-limits
returns-then-not-is_open-clause-limits g c = tt

pub returns-then-not-is_open-clause-goes : goal.returns-then-not-is_open-clause-goes
returns-then-not-is_open-clause-goes g c = g.met.S.Store.goes_on_refl _ Going.reads
