use Rattle.std.proofs.Common.{◌≡◌, None, refl, ap, sym, subst, ◌∙◌}
use Rattle.std.specs.FinMap.{get}
use Rattle.store.specs.Stored.{Stored}
use Rattle.transactions.specs.Orderly.{IsOrderly}
use Rattle.transactions.specs.Shown.{shown}
use Rattle.sessions.specs.Held.{Holds}
use Rattle.sessions.specs.Numbers.{kept_in}
use Rattle.sessions.proofs.Cores.{opening_stopped}
use Rattle.sessions.proofs.Damage.{never_damaged}
use Rattle.sessions.proofs.Devices.{of_store}
use Rattle.sessions.proofs.core_of.Core.flush.Goals as goal

pub returns-in-Ok-clause-flushes : goal.returns-in-Ok-clause-flushes
returns-in-Ok-clause-flushes g c = ap (λ (st : Stored). shown st c.args.self.now.writer (kept_in c.args.self.now.slots.all)) c.flush.ensures.shows

pub returns-in-Ok-clause-left : goal.returns-in-Ok-clause-left
returns-in-Ok-clause-left g c = c.in-Ok.ensures.left

pub returns-in-Ok-clause-less : goal.returns-in-Ok-clause-less
returns-in-Ok-clause-less g c = c.in-Ok.ensures.less

pub returns-in-Ok-clause-same : goal.returns-in-Ok-clause-same
returns-in-Ok-clause-same g c = (refl, refl, c.flush.ensures.shows)

pub returns-in-Ok-clause-sound : goal.returns-in-Ok-clause-sound
returns-in-Ok-clause-sound g c = λ sound. record { store = (g.met.S.Store.goes_on_goes _ _ _ c.flush.ensures.goes).sound sound.store; order = subst (λ (st : Stored). IsOrderly st c.args.self.now.writer) (sym c.flush.ensures.shows) sound.order; readers = λ q none. subst (λ (st : Stored). get st.readers q ≡ None) (sym c.flush.ensures.shows) (sound.readers q none); held = λ q slot is. subst (λ (st : Stored). Holds st c.args.self.now.writer q slot.cursors) (sym c.flush.ensures.shows) (sound.held q slot is) }

pub returns-in-Ok-clause-device : goal.returns-in-Ok-clause-device
returns-in-Ok-clause-device g c = tt

pub returns-in-Ok-clause-goes : goal.returns-in-Ok-clause-goes
returns-in-Ok-clause-goes g c = c.flush.ensures.goes

pub returns-in-Ok-clause-counts : goal.returns-in-Ok-clause-counts
returns-in-Ok-clause-counts g c = (g.met.S.Store.goes_on_goes _ _ _ c.flush.ensures.goes).refused

pub returns-in-Err-clause-flushes : goal.returns-in-Err-clause-flushes
returns-in-Err-clause-flushes g c = (opening_stopped _ _ _ c.in-Err.error c.refusal_of.result c.refusal_of.ensures c.in-Err.ensures.refused tt, ap (λ (st : Stored). shown st c.args.self.now.writer (kept_in c.args.self.now.slots.all)) c.flush.ensures.shows)

pub returns-in-Err-clause-left : goal.returns-in-Err-clause-left
returns-in-Err-clause-left g c = tt

pub returns-in-Err-clause-less : goal.returns-in-Err-clause-less
returns-in-Err-clause-less g c = tt

pub returns-in-Err-clause-same : goal.returns-in-Err-clause-same
returns-in-Err-clause-same g c = (refl, refl, c.flush.ensures.shows)

pub returns-in-Err-clause-sound : goal.returns-in-Err-clause-sound
returns-in-Err-clause-sound g c = λ sound. record { store = (g.met.S.Store.goes_on_goes _ _ _ c.flush.ensures.goes).sound sound.store; order = subst (λ (st : Stored). IsOrderly st c.args.self.now.writer) (sym c.flush.ensures.shows) sound.order; readers = λ q none. subst (λ (st : Stored). get st.readers q ≡ None) (sym c.flush.ensures.shows) (sound.readers q none); held = λ q slot is. subst (λ (st : Stored). Holds st c.args.self.now.writer q slot.cursors) (sym c.flush.ensures.shows) (sound.held q slot is) }

pub returns-in-Err-clause-device : goal.returns-in-Err-clause-device
returns-in-Err-clause-device g c = λ is. of_store _ _ _ _ c.in-Err.error c.in-Err.ensures.refused (sym c.refusal_of.ensures ∙ is)

pub returns-in-Err-clause-goes : goal.returns-in-Err-clause-goes
returns-in-Err-clause-goes g c = c.flush.ensures.goes

pub returns-in-Err-clause-counts : goal.returns-in-Err-clause-counts
returns-in-Err-clause-counts g c = (g.met.S.Store.goes_on_goes _ _ _ c.flush.ensures.goes).refused

pub returns-in-Ok-clause-damage : goal.returns-in-Ok-clause-damage
returns-in-Ok-clause-damage g c = (rw c.in-Ok.is at c.flush.ensures.damage).0

pub returns-in-Err-clause-damage : goal.returns-in-Err-clause-damage
returns-in-Err-clause-damage g c = never_damaged _ _ _ _ _ c.in-Err.error (rw c.in-Err.is at c.flush.ensures.refused) (rw c.in-Err.is at c.flush.ensures.damage).1
