use Rattle.std.proofs.Common.{◌≡◌, refl, ◌∙◌, inl, inr, sym}
use Rattle.ast.specs.declared.statement.Statement.TheVariants as asks
use Rattle.session_definitions.specs.Asked.{Asked}
use Rattle.store.specs.Stored.{Stored, begun}
use Rattle.transactions.proofs.Orders.{same}
use Rattle.transactions.proofs.Steps.{nothing_moves, withholds}
use Rattle.transactions.proofs.Tests.{reserved, tells_reached, unbegun}
use Rattle.sessions.proofs.QuerySteps.{gives, good_begun, refuses}
use Rattle.sessions.proofs.Devices.{risen_later, risen_still, of_store}
use Rattle.store.specs.Going.{Going}
use Rattle.sessions.proofs.query.query.Goals as goal

pub returns-in-Err-clause-moves : goal.returns-in-Err-clause-moves
returns-in-Err-clause-moves g c = λ rules text x kept are is read other sound order shut good.
    let st : Stored = g.S.Store.shows c.args.store.now in
    rw c.refusal_of.ensures
    (nothing_moves rules st _ _ kept (Asked.Text text) _ _ order
    (withholds rules st _ _ kept (asks.Query x) text _ other read refl (reserved _ _ _ _ _ (rw c.in-Err.is at c.begin.ensures.refused) sound (λ bad. bad) (λ bad. bad)))
    (same st _ (rw c.in-Err.is at c.begin.ensures.same)))

pub returns-in-Ok-clause-moves : goal.returns-in-Ok-clause-moves
returns-in-Ok-clause-moves g c = λ rules text x kept are is read other sound order shut good.
    let begins : g.S.Store.shows c.begin.new.self ≡ begun (g.S.Store.shows c.args.store.now) c.args.session = rw c.in_default.is at c.begin.ensures.shows in
    gives rules _ _ _ kept text x _ _ order shut read begins c.view_of.ensures _ _ (c.in-Ok.ensures.gives rules x are is ((g.met.S.Store.goes_on_goes _ _ _ c.begin.ensures.goes).sound sound)
    (good_begun rules.check _ _ _ _ _ begins c.view_of.ensures good)) c.rows_seen.ensures.shows

pub returns-in-Err-rows_seen-clause-moves : goal.returns-in-Err-rows_seen-clause-moves
returns-in-Err-rows_seen-clause-moves g c = λ rules text x kept are is read other sound order shut good.
    let begins : g.S.Store.shows c.begin.new.self ≡ begun (g.S.Store.shows c.args.store.now) c.args.session = rw c.in_default.is at c.begin.ensures.shows in
    refuses rules _ _ _ kept text x _ _ order shut read begins c.view_of.ensures _ _ other (c.in-Err-rows_seen.ensures.refused rules x are is ((g.met.S.Store.goes_on_goes _ _ _ c.begin.ensures.goes).sound sound)
    (good_begun rules.check _ _ _ _ _ begins c.view_of.ensures good))
    (unbegun _ _ _ _ _ c.number.ensures c.is_none-idle.ensures _ (same _ _ (c.rows_seen.ensures.shows ∙ begins)) c.take_back.ensures.shows)

pub returns-in-Err-clause-left : goal.returns-in-Err-clause-left
returns-in-Err-clause-left g c = inr (same (g.S.Store.shows c.args.store.now) _ (rw c.in-Err.is at c.begin.ensures.same))

pub returns-in-Ok-clause-left : goal.returns-in-Ok-clause-left
returns-in-Ok-clause-left g c =
    let begins : g.S.Store.shows c.begin.new.self ≡ begun (g.S.Store.shows c.args.store.now) c.args.session = rw c.in_default.is at c.begin.ensures.shows in
    inl (c.rows_seen.ensures.shows ∙ begins)

pub returns-in-Err-rows_seen-clause-left : goal.returns-in-Err-rows_seen-clause-left
returns-in-Err-rows_seen-clause-left g c =
    let begins : g.S.Store.shows c.begin.new.self ≡ begun (g.S.Store.shows c.args.store.now) c.args.session = rw c.in_default.is at c.begin.ensures.shows in
    inr (unbegun _ _ _ _ _ c.number.ensures c.is_none-idle.ensures _ (same _ _ (c.rows_seen.ensures.shows ∙ begins)) c.take_back.ensures.shows)

pub returns-in-Err-rows_seen-clause-device : goal.returns-in-Err-rows_seen-clause-device
returns-in-Err-rows_seen-clause-device g c = λ is. risen_still _ _ _ (risen_later _ _ _ ((g.met.S.Store.goes_on_goes _ _ _ c.begin.ensures.goes).refused) (c.in-Err-rows_seen.ensures.device is)) ((g.met.S.Store.goes_on_goes _ _ _ c.take_back.ensures.goes).refused)

pub returns-in-Err-clause-limits : goal.returns-in-Err-clause-limits
returns-in-Err-clause-limits g c = tells_reached _ _ _ _ _ _ c.refusal_of.ensures (rw c.in-Err.is at c.begin.ensures.refused)

pub returns-in-Ok-clause-goes : goal.returns-in-Ok-clause-goes
returns-in-Ok-clause-goes g c = g.met.S.Store.goes_on_trans _ _ _ Going.keeps Going.keeps c.begin.ensures.goes c.rows_seen.ensures.goes

pub returns-in-Err-rows_seen-clause-goes : goal.returns-in-Err-rows_seen-clause-goes
returns-in-Err-rows_seen-clause-goes g c = g.met.S.Store.goes_on_trans _ _ _ Going.keeps Going.keeps (g.met.S.Store.goes_on_trans _ _ _ Going.keeps Going.keeps c.begin.ensures.goes c.rows_seen.ensures.goes) c.take_back.ensures.goes

pub returns-in-Err-clause-kept : goal.returns-in-Err-clause-kept
returns-in-Err-clause-kept g c = same (g.S.Store.shows c.args.store.now) _ (rw c.in-Err.is at c.begin.ensures.same)

pub returns-in-Err-rows_seen-clause-kept : goal.returns-in-Err-rows_seen-clause-kept
returns-in-Err-rows_seen-clause-kept g c =
    let begins : g.S.Store.shows c.begin.new.self ≡ begun (g.S.Store.shows c.args.store.now) c.args.session = rw c.in_default.is at c.begin.ensures.shows in
    unbegun _ _ _ _ _ c.number.ensures c.is_none-idle.ensures _ (same _ _ (c.rows_seen.ensures.shows ∙ begins)) c.take_back.ensures.shows

pub returns-in-Err-clause-device : goal.returns-in-Err-clause-device
returns-in-Err-clause-device g c = λ is. of_store _ _ _ _ c.in-Err.error (rw c.in-Err.is at c.begin.ensures.refused) (sym c.refusal_of.ensures ∙ is)

pub returns-in-Err-clause-goes : goal.returns-in-Err-clause-goes
returns-in-Err-clause-goes g c = c.begin.ensures.goes

pub returns-in-Ok-clause-device : goal.returns-in-Ok-clause-device
returns-in-Ok-clause-device g c = tt

pub returns-in-Ok-clause-limits : goal.returns-in-Ok-clause-limits
returns-in-Ok-clause-limits g c = tt

pub returns-in-Ok-clause-kept : goal.returns-in-Ok-clause-kept
returns-in-Ok-clause-kept g c = tt

pub returns-in-Err-rows_seen-clause-limits : goal.returns-in-Err-rows_seen-clause-limits
returns-in-Err-rows_seen-clause-limits g c = c.in-Err-rows_seen.ensures.limits
