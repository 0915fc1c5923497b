use Rattle.std.proofs.Common.{◌≡◌, ◌∙◌, Result, Err, OnErr, ap, sym, subst}
use Rattle.store.specs.declared.error.StoreError.{StoreError}
use Rattle.overlay.specs.WriteSet.{fresh_of, private_of, settled_of}
use Rattle.paged_store.proofs.PageLemmas.{none_fresh}
use Rattle.paged_store.proofs.undoing.undo_refused.Goals as goal

pub returns-in-Err-clause-left : goal.returns-in-Err-clause-left
returns-in-Err-clause-left c =
    subst (λ (done : Result (Unit {0}) StoreError). OnErr done (private_of c.undo.new.self ≡ settled_of c.args.changes.now)) (sym c.in-Err.is)
    (none_fresh (fresh_of c.undo.new.self) (settled_of c.undo.new.self) (settled_of c.args.changes.now) c.undo.ensures.fresh c.undo.ensures.settled)

pub returns-in-Err-clause-same : goal.returns-in-Err-clause-same
returns-in-Err-clause-same c = ap Err c.told.ensures.same ∙ sym c.in-Err.is

pub returns-in-Err-clause-damage : goal.returns-in-Err-clause-damage
returns-in-Err-clause-damage c = (tt, c.told.ensures.tells)
