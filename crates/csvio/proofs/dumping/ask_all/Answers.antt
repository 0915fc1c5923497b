use Rattle.std.proofs.Common.{◌≡◌, ◌≢◌, ◌∙◌, subst, ℕ, true, rules}
use Rattle.std.specs.Prelude.{IfOk}
use Rattle.session_definitions.specs.World.{is_live}
use Rattle.sessions.specs.OfCore.{world_of}
use Rattle.csvio.specs.Dumping.{AsksAll, query_text, width_of}
use Rattle.std.proofs.Math.Nat.{le_trans}
use Rattle.csvio.proofs.dumping.ask_all.Goals as goal

pub returns-then-width-eq0-clause-asks : goal.returns-then-width-eq0-clause-asks
returns-then-width-eq0-clause-asks g c = λ rules are kept live.
    let none : width_of c.ask-found.result ≡ 0 = search rules in
    AsksAll.unordered (c.ask-found.ensures.asks rules (query_text c.args.table.now 0) are kept live c.query_text.ensures) none

pub returns-clause-asks : goal.returns-clause-asks
returns-clause-asks g c = λ rules are kept live.
    let shows = g.S.Store.shows in
    let some : width_of c.ask-found.result ≢ 0 = λ e. c.if-width-eq0.false (c.width_of-width.ensures ∙ e) in
    let kept_mid = c.ask-found.ensures.kept rules are kept in
    let live_mid : is_live (world_of shows c.ask-found.new.core) c.args.session.number ≡ true = c.ask-found.ensures.live c.args.session.number ∙ live in
    AsksAll.ordered (world_of shows c.ask-found.new.core) c.ask-found.result
    (c.ask-found.ensures.asks rules (query_text c.args.table.now 0) are kept live c.query_text.ensures) some
    (c.ask.ensures.asks rules (query_text c.args.table.now (width_of c.ask-found.result)) are kept_mid live_mid
    (subst (λ (n : ℕ). IfOk c.query_text-2.result (λ text. text.items ≡ query_text c.args.table.now n)) c.width_of-width.ensures c.query_text-2.ensures))

pub returns-clause-kept : goal.returns-clause-kept
returns-clause-kept g c = λ rules are kept. c.ask.ensures.kept rules are (c.ask-found.ensures.kept rules are kept)

pub returns-clause-live : goal.returns-clause-live
returns-clause-live g c = λ s. c.ask.ensures.live s ∙ c.ask-found.ensures.live s

pub returns-then-width-eq0-clause-kept : goal.returns-then-width-eq0-clause-kept
returns-then-width-eq0-clause-kept g c = c.ask-found.ensures.kept

pub returns-then-width-eq0-clause-live : goal.returns-then-width-eq0-clause-live
returns-then-width-eq0-clause-live g c = c.ask-found.ensures.live

pub returns-then-width-eq0-clause-counts : goal.returns-then-width-eq0-clause-counts
returns-then-width-eq0-clause-counts g c = c.ask-found.ensures.counts

pub returns-clause-counts : goal.returns-clause-counts
returns-clause-counts g c = le_trans c.ask-found.ensures.counts c.ask.ensures.counts
