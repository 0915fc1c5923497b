use Rattle.std.proofs.Common.{◌≡◌, refl, subst, sym}
use Rattle.transactions.proofs.Orders.{same}
use Rattle.sessions.specs.Numbers.{kept_of}
use Rattle.sessions.proofs.Devices.{never_read}
use Rattle.sessions.proofs.Holding.{fits_same}
use Rattle.sessions.proofs.Limits.{unread_tells}
use Rattle.sessions.proofs.Statements.{no_query}
use Rattle.sessions.proofs.UnnamedOpens.{refuses_other, refuses_unread}
use Rattle.store.specs.Going.{Going}
use Rattle.sessions.proofs.query_calls.open_query.Goals as goal

pub returns-in-Ok-clause-leaves : goal.returns-in-Ok-clause-leaves
returns-in-Ok-clause-leaves g c = λ rules are sound order holds good. c.open_statement-reply.ensures.leaves rules c.args.text.now are c.in-Ok.ensures.read sound order holds good

pub returns-in-Err-clause-leaves : goal.returns-in-Err-clause-leaves
returns-in-Err-clause-leaves g c = λ rules are sound order holds good. record {
  moves = refuses_unread rules (g.S.Store.shows c.args.store.now) c.args.writer c.args.session (kept_of c.args.slot.now) c.args.text.now order c.in-Err.refusal c.in-Err.ensures.unread;
  fits = fits_same (g.S.Store.shows c.args.store.now) (g.S.Store.shows c.args.store.now) c.args.writer c.args.writer c.args.session c.args.slot.now.cursors
      (same (g.S.Store.shows c.args.store.now) (g.S.Store.shows c.args.store.now) refl) refl holds;
}

pub returns-in-Err-clause-device : goal.returns-in-Err-clause-device
returns-in-Err-clause-device g c = λ is. absurd (never_read c.args.text.now c.in-Err.refusal c.in-Err.ensures.unread is)

pub returns-in-Err-clause-limits : goal.returns-in-Err-clause-limits
returns-in-Err-clause-limits g c = unread_tells c.args.text.now c.in-Err.refusal c.in-Err.ensures.unread

pub returns-in-Err-clause-kept : goal.returns-in-Err-clause-kept
returns-in-Err-clause-kept g c = (same (g.S.Store.shows c.args.store.now) (g.S.Store.shows c.args.store.now) refl, refl)

pub returns-in-Ok-clause-device : goal.returns-in-Ok-clause-device
returns-in-Ok-clause-device g c = c.open_statement-reply.ensures.device

pub returns-in-Ok-clause-limits : goal.returns-in-Ok-clause-limits
returns-in-Ok-clause-limits g c = c.open_statement-reply.ensures.limits

pub returns-in-Ok-clause-told : goal.returns-in-Ok-clause-told
returns-in-Ok-clause-told g c = c.open_statement-reply.ensures.told

pub returns-in-Ok-clause-kept : goal.returns-in-Ok-clause-kept
returns-in-Ok-clause-kept g c = c.open_statement-reply.ensures.kept

pub returns-in-Ok-clause-goes : goal.returns-in-Ok-clause-goes
returns-in-Ok-clause-goes g c = c.open_statement-reply.ensures.goes

pub returns-in-Err-clause-told : goal.returns-in-Err-clause-told
returns-in-Err-clause-told g c = tt

pub returns-in-Err-clause-goes : goal.returns-in-Err-clause-goes
returns-in-Err-clause-goes g c = g.met.S.Store.goes_on_refl _ Going.keeps
