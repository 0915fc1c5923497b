use Rattle.std.proofs.Common.{[], ◌∷◌, sym, subst}
use Rattle.session_definitions.specs.Refusals.{IsReserved}
use Rattle.store.specs.Errors.{ChangingReaches, StoringReaches}
use Rattle.transactions.proofs.Tests.{tells_reached}
use Rattle.update_delete.proofs.Standing.{withheld}
use Rattle.std.specs.FinMap.{get}
use Rattle.update_delete.specs.Reached.{IsNumberedOut}
use Rattle.update_delete.proofs.Reaching.{gone_reaches, stored_reaches}
use Rattle.update_delete.proofs.making.make_change.Goals as goal

pub returns-in-Err-replace-clause-refused : goal.returns-in-Err-replace-clause-refused
returns-in-Err-replace-clause-refused g c = λ sound short.
    subst IsReserved (sym c.refusal_of-in-Err-replace.ensures)
    (withheld (g.S.Store.is_sound c.args.store.now) (g.S.Store.refused c.args.store.now) (g.S.Store.refused c.replace.new.self) (g.S.Store.counted c.replace.new.self) (g.S.Store.shows c.args.store.now).working
    c.args.name.now c.in-Becomes.row c.in-Err-replace.error c.in-Err-replace.ensures.refused sound (rw c.in-Becomes.is at short))

pub returns-in-Err-clause-limits : goal.returns-in-Err-clause-limits
returns-in-Err-clause-limits g c =
    gone_reaches (g.S.Store.counted c.delete.new.self) (c.args.change ∷ []) (IsNumberedOut (get (g.S.Store.shows c.args.store.now).working c.args.name.now)) _
    (tells_reached _ _ _ (ChangingReaches (g.S.Store.counted c.delete.new.self)) c.in-Err.error _ c.refusal_of.ensures c.in-Err.ensures.refused)

pub returns-in-Err-replace-clause-limits : goal.returns-in-Err-replace-clause-limits
returns-in-Err-replace-clause-limits g c =
    let table = get (g.S.Store.shows c.args.store.now).working c.args.name.now in
    rw c.in-Becomes.is (stored_reaches (g.S.Store.counted c.replace.new.self) table c.in-Becomes.row _
    (tells_reached _ _ _ (StoringReaches (g.S.Store.counted c.replace.new.self) table (c.in-Becomes.row ∷ [])) c.in-Err-replace.error _ c.refusal_of-in-Err-replace.ensures c.in-Err-replace.ensures.refused))
