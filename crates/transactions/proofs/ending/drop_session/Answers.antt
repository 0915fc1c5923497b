use Rattle.std.proofs.Common.{sym, ◌∙◌}
use Rattle.store.specs.Going.{keeps}
use Rattle.transactions.proofs.Maps.{get_gone, get_left}
use Rattle.transactions.proofs.Orders.{writer_is, orderly_ended, orderly_discarded}
use Rattle.transactions.proofs.Standing.{dropped_reader, dropped_writer, reads_without_reader, reads_without_writer}
use Rattle.transactions.proofs.ending.drop_session.Goals as goal

pub returns-then-is_writer-clause-drops : goal.returns-then-is_writer-clause-drops
returns-then-is_writer-clause-drops g c = λ slots kept is.
    let writes = writer_is c.args.session c.args.writer.now (sym c.is_writer.ensures ∙ c.if-is_writer.true) in
    rw (writes, c.end.ensures.shows, c.discard.ensures.shows) (dropped_writer (g.S.Store.shows c.args.store.now) slots c.args.session kept is)

pub returns-then-is_writer-clause-order : goal.returns-then-is_writer-clause-order
returns-then-is_writer-clause-order g c = λ order.
    let writes = writer_is c.args.session c.args.writer.now (sym c.is_writer.ensures ∙ c.if-is_writer.true) in
    rw (c.end.ensures.shows, c.discard.ensures.shows) (orderly_discarded (g.S.Store.shows c.args.store.now) c.args.session (rw writes at order))

pub returns-then-is_writer-clause-others : goal.returns-then-is_writer-clause-others
returns-then-is_writer-clause-others g c = λ q ne.
    rw (c.end.ensures.shows, c.discard.ensures.shows) (get_left (g.S.Store.shows c.args.store.now).readers c.args.session q ne)

pub returns-then-is_writer-clause-gone : goal.returns-then-is_writer-clause-gone
returns-then-is_writer-clause-gone g c = rw (c.end.ensures.shows, c.discard.ensures.shows) (get_gone (g.S.Store.shows c.args.store.now).readers c.args.session)

pub returns-clause-drops : goal.returns-clause-drops
returns-clause-drops g c = λ slots kept is.
    rw c.end-2.ensures.shows (dropped_reader (g.S.Store.shows c.args.store.now) c.args.writer.now slots c.args.session kept is (sym c.is_writer.ensures ∙ c.if-is_writer.false))

pub returns-clause-order : goal.returns-clause-order
returns-clause-order g c = λ order. rw c.end-2.ensures.shows (orderly_ended (g.S.Store.shows c.args.store.now) c.args.writer.now c.args.session (sym c.is_writer.ensures ∙ c.if-is_writer.false) order)

pub returns-clause-others : goal.returns-clause-others
returns-clause-others g c = λ q ne. rw c.end-2.ensures.shows (get_left (g.S.Store.shows c.args.store.now).readers c.args.session q ne)

pub returns-clause-gone : goal.returns-clause-gone
returns-clause-gone g c = rw c.end-2.ensures.shows (get_gone (g.S.Store.shows c.args.store.now).readers c.args.session)

pub returns-then-is_writer-clause-goes : goal.returns-then-is_writer-clause-goes
returns-then-is_writer-clause-goes g c = g.met.S.Store.goes_on_trans _ _ _ keeps keeps c.discard.ensures.goes c.end.ensures.goes

pub returns-then-is_writer-clause-reads : goal.returns-then-is_writer-clause-reads
returns-then-is_writer-clause-reads g c = λ q ne f.
    let writes = writer_is c.args.session c.args.writer.now (sym c.is_writer.ensures ∙ c.if-is_writer.true) in
    rw writes (reads_without_writer (g.S.Store.shows c.args.store.now) c.args.session q f ne)

pub returns-clause-reads : goal.returns-clause-reads
returns-clause-reads g c = λ q ne f. rw c.end-2.ensures.shows (reads_without_reader (g.S.Store.shows c.args.store.now) c.args.writer.now c.args.session q f ne)

pub returns-then-is_writer-clause-damage : goal.returns-then-is_writer-clause-damage
returns-then-is_writer-clause-damage g c = c.end.ensures.damage ∙ c.discard.ensures.damage

pub returns-clause-damage : goal.returns-clause-damage
returns-clause-damage g c = c.end-2.ensures.damage
