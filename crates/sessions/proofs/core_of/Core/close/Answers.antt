use Rattle.std.proofs.Common.{◌≡◌, refl, sym, subst, None, ap, ◌∙◌}
use Rattle.std.specs.FinMap.{get}
use Rattle.store.specs.Stored.{Stored, closed}
use Rattle.transactions.specs.Orderly.{IsOrderly}
use Rattle.sessions.proofs.Cores.{orderly_alone, none_read, closes}
use Rattle.sessions.proofs.Holding.{nobody_held}
use Rattle.session_definitions.specs.Run.{without_sessions}
use Rattle.store.specs.declared.error.StoreError.{StoreError}
use Rattle.transactions.specs.Refused.{refused_by}
use Rattle.transactions.specs.Shown.{shown}
use Rattle.sessions.specs.Numbers.{Held, kept_in}
use Rattle.sessions.proofs.core_of.Core.close.Goals as goal

pub returns-clause-sound : goal.returns-clause-sound
returns-clause-sound g c = λ sound.
    let ends : g.S.Store.shows c.in-Err.back.value ≡ closed (g.S.Store.shows c.args.self.store) = c.in-Err.ensures.left.0 in
    record {
      store = c.in-Err.ensures.left.1 sound.store;
      order = subst (λ (x : Stored). IsOrderly x None) (sym ends) (orderly_alone (closed (g.S.Store.shows c.args.self.store)) refl refl);
      readers = λ q none. subst (λ (x : Stored). get x.readers q ≡ None) (sym ends) (none_read (closed (g.S.Store.shows c.args.self.store)) refl q);
      held = λ q slot is. nobody_held c.new.result.all q slot c.new.ensures is;
    }

pub returns-in-Ok-clause-closed : goal.returns-in-Ok-clause-closed
returns-in-Ok-clause-closed g c = λ sound. c.in-Ok.ensures.closed sound.store

pub returns-in-Ok-clause-settled : goal.returns-in-Ok-clause-settled
returns-in-Ok-clause-settled g c = c.in-Ok.ensures.settled

pub returns-in-Ok-clause-counts : goal.returns-in-Ok-clause-counts
returns-in-Ok-clause-counts g c = c.in-Ok.ensures.counts

pub returns-in-Ok-clause-fails : goal.returns-in-Ok-clause-fails
returns-in-Ok-clause-fails g c = tt

pub returns-in-Ok-clause-sound : goal.returns-in-Ok-clause-sound
returns-in-Ok-clause-sound g c = tt

pub returns-in-Ok-clause-device : goal.returns-in-Ok-clause-device
returns-in-Ok-clause-device g c = tt

pub returns-clause-closed : goal.returns-clause-closed
returns-clause-closed g c = tt

pub returns-clause-settled : goal.returns-clause-settled
returns-clause-settled g c = tt

pub returns-clause-counts : goal.returns-clause-counts
returns-clause-counts g c = tt

pub returns-clause-fails : goal.returns-clause-fails
returns-clause-fails g c = (c.refusal_of.ensures ∙ ap (λ (e : StoreError). refused_by e) c.in-Err.ensures.refused.0, subst (λ (all : Held). shown (g.S.Store.shows c.in-Err.back.value) None (kept_in all) ≡ without_sessions (shown (g.S.Store.shows c.args.self.store) c.args.self.writer (kept_in c.args.self.slots.all))) (sym c.new.ensures) (closes (g.S.Store.shows c.args.self.store) (g.S.Store.shows c.in-Err.back.value) c.args.self.writer (kept_in c.args.self.slots.all) c.in-Err.ensures.left.0))

pub returns-clause-device : goal.returns-clause-device
returns-clause-device g c = c.in-Err.ensures.refused.1
