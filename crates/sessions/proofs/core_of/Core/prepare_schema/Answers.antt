use Rattle.std.proofs.Common.{◌≡◌, sym, subst, ap, ◌∙◌, true, false, None, refl}
use Rattle.denote.specs.SchemaOf.{IsSchemaOf}
use Rattle.store.specs.Contents.{Contents, database_of}
use Rattle.store.specs.View.{seen_by}
use Rattle.transactions.proofs.Tests.{reserved, tells_damage, tells_reached}
use Rattle.sessions.specs.Numbers.{held_at, kept_in, kept_of}
use Rattle.sessions.proofs.Cores.{is_live_at, not_live}
use Rattle.sessions.proofs.Holding.{is_held, kept_here, kept_none, not_held}
use Rattle.sessions.proofs.Schemas.{seen_before}
use Rattle.std.specs.FinMap.{get}
use Rattle.store.specs.Going.{Going}
use Rattle.store.specs.Stored.{Stored}
use Rattle.transactions.specs.Orderly.{IsOrderly}
use Rattle.transactions.specs.Shown.{shown}
use Rattle.sessions.specs.Held.{Holds}
use Rattle.sessions.proofs.Devices.{of_store}
use Rattle.sessions.proofs.core_of.Core.prepare_schema.Goals as goal

pub returns-in-Ok-clause-prepared : goal.returns-in-Ok-clause-prepared
returns-in-Ok-clause-prepared g c = λ sound.
    let st = g.S.Store.shows c.args.self.now.store in
    subst (λ (contents : Contents). IsSchemaOf (g.S.Store.prepared c.prepare.new.self) (database_of contents))
    (ap (seen_by st) c.view_of.ensures ∙ sym (seen_before st c.args.self.now.writer c.args.session.number))
    ((rw c.in-Ok.is at c.prepare.ensures.prepared) sound.store)

pub returns-in-Err-clause-refused : goal.returns-in-Err-clause-refused
returns-in-Err-clause-refused g c = λ sound live. rw c.refusal_of.ensures
    (reserved _ _ _ _ _ (rw c.in-Err.is at c.prepare.ensures.refused) sound.store (λ bad. bad) (λ bad. bad))

pub returns-then-not-stands-clause-refused : goal.returns-then-not-stands-clause-refused
returns-then-not-stands-clause-refused g c = λ sound live.
    let all = c.args.self.now.slots.all in
    let n = c.args.session.number in
    let none : held_at all n ≡ None = not_held _ (sym c.stands.ensures.is ∙ c.if-not-stands.true) in
    let dead = not_live (g.S.Store.shows c.args.self.now.store) c.args.self.now.writer (kept_in all) n (kept_none all n none) in
    let bad : true ≡ false = sym live ∙ dead in absurd (cc)

pub returns-in-Ok-clause-ended : goal.returns-in-Ok-clause-ended
returns-in-Ok-clause-ended g c = λ dead.
    let all = c.args.self.now.slots.all in
    let n = c.args.session.number in
    let held = is_held _ (sym c.stands.ensures.is ∙ c.if-not-stands.false) in
    let live = is_live_at (g.S.Store.shows c.args.self.now.store) c.args.self.now.writer (kept_in all) n (kept_of held.0) (kept_here all n held.0 held.1) in
    let bad : true ≡ false = sym live ∙ dead in absurd (cc)

pub returns-in-Err-clause-ended : goal.returns-in-Err-clause-ended
returns-in-Err-clause-ended g c = λ dead.
    let all = c.args.self.now.slots.all in
    let n = c.args.session.number in
    let held = is_held _ (sym c.stands.ensures.is ∙ c.if-not-stands.false) in
    let live = is_live_at (g.S.Store.shows c.args.self.now.store) c.args.self.now.writer (kept_in all) n (kept_of held.0) (kept_here all n held.0 held.1) in
    let bad : true ≡ false = sym live ∙ dead in absurd (cc)

pub returns-in-Ok-clause-refused : goal.returns-in-Ok-clause-refused
returns-in-Ok-clause-refused g c = tt

pub returns-in-Ok-clause-kept : goal.returns-in-Ok-clause-kept
returns-in-Ok-clause-kept g c = ap (λ (st : Stored). shown st c.args.self.now.writer (kept_in c.args.self.now.slots.all)) c.prepare.ensures.shows

pub returns-in-Ok-clause-sound : goal.returns-in-Ok-clause-sound
returns-in-Ok-clause-sound g c = λ sound. record { store = (g.met.S.Store.goes_on_goes _ _ _ c.prepare.ensures.goes).sound sound.store; order = subst (λ (st : Stored). IsOrderly st c.args.self.now.writer) (sym c.prepare.ensures.shows) sound.order; readers = λ q none. subst (λ (st : Stored). get st.readers q ≡ None) (sym c.prepare.ensures.shows) (sound.readers q none); held = λ q slot is. subst (λ (st : Stored). Holds st c.args.self.now.writer q slot.cursors) (sym c.prepare.ensures.shows) (sound.held q slot is) }

pub returns-in-Ok-clause-device : goal.returns-in-Ok-clause-device
returns-in-Ok-clause-device g c = tt

pub returns-in-Ok-clause-limits : goal.returns-in-Ok-clause-limits
returns-in-Ok-clause-limits g c = tt

pub returns-in-Ok-clause-goes : goal.returns-in-Ok-clause-goes
returns-in-Ok-clause-goes g c = c.prepare.ensures.goes

pub returns-in-Err-clause-prepared : goal.returns-in-Err-clause-prepared
returns-in-Err-clause-prepared g c = tt

pub returns-in-Err-clause-kept : goal.returns-in-Err-clause-kept
returns-in-Err-clause-kept g c = ap (λ (st : Stored). shown st c.args.self.now.writer (kept_in c.args.self.now.slots.all)) c.prepare.ensures.shows

pub returns-in-Err-clause-sound : goal.returns-in-Err-clause-sound
returns-in-Err-clause-sound g c = λ sound. record { store = (g.met.S.Store.goes_on_goes _ _ _ c.prepare.ensures.goes).sound sound.store; order = subst (λ (st : Stored). IsOrderly st c.args.self.now.writer) (sym c.prepare.ensures.shows) sound.order; readers = λ q none. subst (λ (st : Stored). get st.readers q ≡ None) (sym c.prepare.ensures.shows) (sound.readers q none); held = λ q slot is. subst (λ (st : Stored). Holds st c.args.self.now.writer q slot.cursors) (sym c.prepare.ensures.shows) (sound.held q slot is) }

pub returns-in-Err-clause-device : goal.returns-in-Err-clause-device
returns-in-Err-clause-device g c = λ is. of_store _ _ _ _ c.in-Err.error (rw c.in-Err.is at c.prepare.ensures.refused) (sym c.refusal_of.ensures ∙ is)

pub returns-in-Err-clause-limits : goal.returns-in-Err-clause-limits
returns-in-Err-clause-limits g c = tells_reached _ _ _ _ _ _ c.refusal_of.ensures (rw c.in-Err.is at c.prepare.ensures.refused)

pub returns-in-Err-clause-goes : goal.returns-in-Err-clause-goes
returns-in-Err-clause-goes g c = c.prepare.ensures.goes

pub returns-then-not-stands-clause-prepared : goal.returns-then-not-stands-clause-prepared
returns-then-not-stands-clause-prepared g c = tt

pub returns-then-not-stands-clause-ended : goal.returns-then-not-stands-clause-ended
returns-then-not-stands-clause-ended g c = λ dead. (refl, refl)

pub returns-then-not-stands-clause-kept : goal.returns-then-not-stands-clause-kept
returns-then-not-stands-clause-kept g c = refl

pub returns-then-not-stands-clause-sound : goal.returns-then-not-stands-clause-sound
returns-then-not-stands-clause-sound g c = λ sound. sound

pub returns-then-not-stands-clause-device : goal.returns-then-not-stands-clause-device
returns-then-not-stands-clause-device g c = λ is. absurd (cc)

pub returns-then-not-stands-clause-limits : goal.returns-then-not-stands-clause-limits
returns-then-not-stands-clause-limits g c = tt

pub returns-then-not-stands-clause-goes : goal.returns-then-not-stands-clause-goes
returns-then-not-stands-clause-goes g c = g.met.S.Store.goes_on_refl _ Going.keeps

pub returns-in-Ok-clause-damage : goal.returns-in-Ok-clause-damage
returns-in-Ok-clause-damage g c = ((rw c.in-Ok.is at c.prepare.ensures.damage).0, tt)

pub returns-in-Err-clause-damage : goal.returns-in-Err-clause-damage
returns-in-Err-clause-damage g c =
    (tt, tells_damage _ _ c.in-Err.error c.refusal_of.result c.refusal_of.ensures (rw c.in-Err.is at c.prepare.ensures.damage).1)

pub returns-then-not-stands-clause-damage : goal.returns-then-not-stands-clause-damage
returns-then-not-stands-clause-damage g c = (tt, refl)
