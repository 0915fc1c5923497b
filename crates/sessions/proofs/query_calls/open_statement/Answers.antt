use Rattle.std.proofs.Common.{◌≡◌, refl, subst, sym, ap, ◌∙◌}
use Rattle.ast.specs.declared.statement.OrderedQuery.{OrderedQuery}
use Rattle.ast.specs.declared.statement.Statement.TheVariants as asks
use Rattle.transactions.proofs.Orders.{same}
use Rattle.sessions.specs.Numbers.{kept_of}
use Rattle.sessions.proofs.Devices.{never_read}
use Rattle.sessions.proofs.Holding.{fits_same}
use Rattle.sessions.proofs.Limits.{unread_tells}
use Rattle.sessions.proofs.Statements.{no_query}
use Rattle.sessions.proofs.UnnamedOpens.{refuses_other, refuses_unread}
use Rattle.statement_definitions.specs.Reading.{IsRead}
use Rattle.store.specs.Going.{Going}
use Rattle.sessions.proofs.query_calls.open_statement.Goals as goal

pub returns-in-Query-clause-leaves : goal.returns-in-Query-clause-leaves
returns-in-Query-clause-leaves g c = λ rules text are read sound order holds good.
    c.open_read.ensures.leaves rules text are (subst (IsRead text) (c.in-Query.is ∙ ap (λ (q : OrderedQuery). asks.Query q) (sym c.get.ensures)) read) sound order holds good

pub returns-in_default-clause-leaves : goal.returns-in_default-clause-leaves
returns-in_default-clause-leaves g c = λ rules text are read sound order holds good. record {
  moves = refuses_other rules (g.S.Store.shows c.args.store.now) c.args.writer c.args.session (kept_of c.args.slot.now) text order c.args.statement.now read (no_query _ c.in_default.not-Query);
  fits = fits_same (g.S.Store.shows c.args.store.now) (g.S.Store.shows c.args.store.now) c.args.writer c.args.writer c.args.session c.args.slot.now.cursors
      (same (g.S.Store.shows c.args.store.now) (g.S.Store.shows c.args.store.now) refl) refl holds;
}

pub returns-in_default-clause-kept : goal.returns-in_default-clause-kept
returns-in_default-clause-kept g c = (same (g.S.Store.shows c.args.store.now) (g.S.Store.shows c.args.store.now) refl, refl)

pub returns-in-Query-clause-device : goal.returns-in-Query-clause-device
returns-in-Query-clause-device g c = c.open_read.ensures.device

pub returns-in-Query-clause-limits : goal.returns-in-Query-clause-limits
returns-in-Query-clause-limits g c = c.open_read.ensures.limits

pub returns-in-Query-clause-told : goal.returns-in-Query-clause-told
returns-in-Query-clause-told g c = c.open_read.ensures.told

pub returns-in-Query-clause-kept : goal.returns-in-Query-clause-kept
returns-in-Query-clause-kept g c = c.open_read.ensures.kept

pub returns-in-Query-clause-goes : goal.returns-in-Query-clause-goes
returns-in-Query-clause-goes g c = c.open_read.ensures.goes

pub returns-in_default-clause-device : goal.returns-in_default-clause-device
returns-in_default-clause-device g c = λ is. absurd (cc)

pub returns-in_default-clause-limits : goal.returns-in_default-clause-limits
returns-in_default-clause-limits g c = tt

pub returns-in_default-clause-told : goal.returns-in_default-clause-told
returns-in_default-clause-told g c = tt

pub returns-in_default-clause-goes : goal.returns-in_default-clause-goes
returns-in_default-clause-goes g c = g.met.S.Store.goes_on_refl _ Going.keeps
