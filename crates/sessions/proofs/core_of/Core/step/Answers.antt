use Rattle.std.proofs.Common.{◌≡◌, refl, true, false, Some, None, sym, subst, ◌∙◌, inl, ap, ◌≢◌, [], ◌∷◌, arith}
use Rattle.std.specs.FinMap.{get}
use Rattle.refusals.specs.declared.refusal.Refusal.TheVariants.{SerializationFailure}
use Rattle.store.specs.Going.{Going}
use Rattle.store.specs.Stored.{SameButMark}
use Rattle.session_definitions.specs.Step.{Step}
use Rattle.session_definitions.specs.World.{is_live}
use Rattle.transactions.specs.Shown.{Slots, settled, shown}
use Rattle.sessions.specs.Kinds.{IsFetchText}
use Rattle.sessions.specs.Numbers.{Held, held_at, kept_in, kept_of}
use Rattle.sessions.proofs.Cores.{not_live, is_live_at, set_alike}
use Rattle.sessions.proofs.Holding.{all_held, held_readers, held_within, kept_here, kept_holds, kept_none, not_held, put_as, put_back}
use Rattle.sessions.proofs.Kept.{refused_alike, world_kept}
use Rattle.sessions.proofs.core_of.Core.step.Goals as goal

pub returns-then-not-stands-clause-step : goal.returns-then-not-stands-clause-step
returns-then-not-stands-clause-step g c = λ rules are sound live good.
    let none : held_at c.args.self.now.slots.all c.args.session.number ≡ None = not_held _ (sym c.stands.ensures.is ∙ c.if-not-stands.true) in
    let dead = not_live (g.S.Store.shows c.args.self.now.store) c.args.self.now.writer (kept_in c.args.self.now.slots.all) c.args.session.number (kept_none c.args.self.now.slots.all c.args.session.number none) in
    let bad : true ≡ false = sym live ∙ dead in absurd (cc)

pub returns-then-not-stands-clause-rolled_back : goal.returns-then-not-stands-clause-rolled_back
returns-then-not-stands-clause-rolled_back g c = λ is live.
    let none : held_at c.args.self.now.slots.all c.args.session.number ≡ None = not_held _ (sym c.stands.ensures.is ∙ c.if-not-stands.true) in
    let dead = not_live (g.S.Store.shows c.args.self.now.store) c.args.self.now.writer (kept_in c.args.self.now.slots.all) c.args.session.number (kept_none c.args.self.now.slots.all c.args.session.number none) in
    let bad : true ≡ false = sym live ∙ dead in absurd (cc)

pub returns-then-not-stands-clause-commits : goal.returns-then-not-stands-clause-commits
returns-then-not-stands-clause-commits g c = inl (g.met.S.Store.goes_on_refl _ Going.changes)

pub returns-then-not-stands-clause-kept : goal.returns-then-not-stands-clause-kept
returns-then-not-stands-clause-kept g c = λ other fetch. refl

pub returns-clause-step : goal.returns-clause-step
returns-clause-step g c = λ rules are sound live good.
    let st = g.S.Store.shows c.args.self.now.store in
    let new = g.S.Store.shows c.call-reply.new.store in
    let all = c.args.self.now.slots.all in
    let n = c.args.session.number in
    let slot = c.take-slot.result in
    let is = c.take-slot.ensures.is in
    let leaves = c.call-reply.ensures.leaves rules are sound.store sound.order (sound.held n slot is) good in
    let put = put_back c.set.new.self.all c.take-slot.new.self.all all n c.settle.new.slot c.take-slot.ensures.left c.set.ensures in
    subst (λ (slots : Slots). Step rules (shown st c.args.self.now.writer (kept_in all)) n c.args.text.now c.call-reply.result (shown new c.call-reply.new.writer slots))
    (sym (put_as c.set.new.self.all all n c.settle.new.slot (settled (get new.readers n) (kept_of c.call-reply.new.slot)) put c.settle.ensures.kept))
    (leaves.moves.step (kept_in all) (kept_here all n slot is))

pub returns-clause-explained : goal.returns-clause-explained
returns-clause-explained g c = c.call-reply.ensures.explained

pub returns-clause-sound : goal.returns-clause-sound
returns-clause-sound g c = λ rules are sound good.
    let st = g.S.Store.shows c.args.self.now.store in
    let new = g.S.Store.shows c.call-reply.new.store in
    let all = c.args.self.now.slots.all in
    let n = c.args.session.number in
    let slot = c.take-slot.result in
    let is = c.take-slot.ensures.is in
    let leaves = c.call-reply.ensures.leaves rules are sound.store sound.order (sound.held n slot is) good in
    let put = put_back c.set.new.self.all c.take-slot.new.self.all all n c.settle.new.slot c.take-slot.ensures.left c.set.ensures in
    let within = held_within all n slot is in
    record {
      store = (g.met.S.Store.goes_on_goes _ _ _ c.call-reply.ensures.goes).sound sound.store;
      order = leaves.moves.order;
      readers = λ q none. held_readers st new all n (Some c.settle.new.slot) within leaves.moves.others sound.readers
          (λ gone. let bad : Some c.settle.new.slot ≡ None = gone in absurd (cc)) q (subst (λ (held : Held). held_at held q ≡ None) put none);
      held = λ q x has. all_held st new c.args.self.now.writer c.call-reply.new.writer all n (Some c.settle.new.slot) within leaves.moves.others leaves.moves.reads sound.held
          (λ y e. kept_holds new c.call-reply.new.writer n c.settle.new.slot y (c.settle.ensures.holds c.call-reply.new.writer leaves.fits) e) q x
          (subst (λ (held : Held). held_at held q ≡ Some x) put has);
    }

pub returns-clause-ended : goal.returns-clause-ended
returns-clause-ended g c = λ dead.
    let live = is_live_at (g.S.Store.shows c.args.self.now.store) c.args.self.now.writer (kept_in c.args.self.now.slots.all) c.args.session.number (kept_of c.take-slot.result)
    (kept_here c.args.self.now.slots.all c.args.session.number c.take-slot.result c.take-slot.ensures.is) in
    let bad : true ≡ false = sym live ∙ dead in absurd (cc)

pub returns-clause-live : goal.returns-clause-live
returns-clause-live g c = λ q.
    let st = g.S.Store.shows c.args.self.now.store in
    let new = g.S.Store.shows c.call-reply.new.store in
    let all = c.args.self.now.slots.all in
    let n = c.args.session.number in
    let put = put_back c.set.new.self.all c.take-slot.new.self.all all n c.settle.new.slot c.take-slot.ensures.left c.set.ensures in
    subst (λ (slots : Slots). is_live (shown new c.call-reply.new.writer slots) q ≡ is_live (shown st c.args.self.now.writer (kept_in all)) q)
    (sym (put_as c.set.new.self.all all n c.settle.new.slot (kept_of c.settle.new.slot) put refl))
    (set_alike st new c.args.self.now.writer c.call-reply.new.writer (kept_in all) n (kept_of c.take-slot.result) (kept_of c.settle.new.slot) (kept_here all n c.take-slot.result c.take-slot.ensures.is) q)

pub returns-clause-kept : goal.returns-clause-kept
returns-clause-kept g c =
    let st = g.S.Store.shows c.args.self.now.store in
    let new = g.S.Store.shows c.call-reply.new.store in
    let all = c.args.self.now.slots.all in
    let n = c.args.session.number in
    let put = put_back c.set.new.self.all c.take-slot.new.self.all all n c.settle.new.slot c.take-slot.ensures.left c.set.ensures in
    refused_alike c.call-reply.result
    (λ refusal. refusal ≢ SerializationFailure → (IsFetchText c.args.text.now → ⊥)
    → SameButMark st new × (c.call-reply.new.writer ≡ c.args.self.now.writer) × (kept_of c.call-reply.new.slot ≡ kept_of c.take-slot.result))
    (λ refusal. refusal ≢ SerializationFailure → (IsFetchText c.args.text.now → ⊥)
    → shown new c.call-reply.new.writer (kept_in c.set.new.self.all) ≡ shown st c.args.self.now.writer (kept_in all))
    (λ refusal k other fetch.
    let same = k other fetch in
    ap (λ (slots : Slots). shown new c.call-reply.new.writer slots)
    (put_as c.set.new.self.all all n c.settle.new.slot (settled (get new.readers n) (kept_of c.call-reply.new.slot)) put c.settle.ensures.kept)
    ∙ world_kept st new c.args.self.now.writer c.call-reply.new.writer (kept_in all) n (kept_of c.take-slot.result) (kept_of c.call-reply.new.slot)
    (kept_here all n c.take-slot.result c.take-slot.ensures.is) same.0 same.1 same.2)
    c.call-reply.ensures.kept

pub returns-clause-counts : goal.returns-clause-counts
returns-clause-counts g c = (g.met.S.Store.goes_on_goes _ _ _ c.call-reply.ensures.goes).refused

pub returns-then-not-stands-clause-sound : goal.returns-then-not-stands-clause-sound
returns-then-not-stands-clause-sound g c = λ rules are sound good. sound

pub returns-then-not-stands-clause-explained : goal.returns-then-not-stands-clause-explained
returns-then-not-stands-clause-explained g c = λ x read sound. tt

pub returns-then-not-stands-clause-ended : goal.returns-then-not-stands-clause-ended
returns-then-not-stands-clause-ended g c = λ dead. (refl, refl)

pub returns-then-not-stands-clause-live : goal.returns-then-not-stands-clause-live
returns-then-not-stands-clause-live g c = λ q. refl

pub returns-then-not-stands-clause-device : goal.returns-then-not-stands-clause-device
returns-then-not-stands-clause-device g c = λ is. absurd (cc)

pub returns-then-not-stands-clause-limits : goal.returns-then-not-stands-clause-limits
returns-then-not-stands-clause-limits g c = tt

pub returns-then-not-stands-clause-idle : goal.returns-then-not-stands-clause-idle
returns-then-not-stands-clause-idle g c = λ unchanged. refl

pub returns-then-not-stands-clause-goes : goal.returns-then-not-stands-clause-goes
returns-then-not-stands-clause-goes g c = g.met.S.Store.goes_on_refl _ (Going.writes ((g.S.Store.shows c.args.self.now.store).working ∷ []))

pub returns-then-not-stands-clause-counts : goal.returns-then-not-stands-clause-counts
returns-then-not-stands-clause-counts g c = omega arith

pub returns-clause-rolled_back : goal.returns-clause-rolled_back
returns-clause-rolled_back g c = λ is live. c.call-reply.ensures.rolled_back is

pub returns-clause-device : goal.returns-clause-device
returns-clause-device g c = c.call-reply.ensures.device

pub returns-clause-limits : goal.returns-clause-limits
returns-clause-limits g c = c.call-reply.ensures.limits

pub returns-clause-idle : goal.returns-clause-idle
returns-clause-idle g c = c.call-reply.ensures.idle

pub returns-clause-goes : goal.returns-clause-goes
returns-clause-goes g c = c.call-reply.ensures.goes

pub returns-clause-commits : goal.returns-clause-commits
returns-clause-commits g c = c.call-reply.ensures.commits

pub returns-then-not-stands-clause-reached : goal.returns-then-not-stands-clause-reached
returns-then-not-stands-clause-reached g c = λ x read is. record {
  middle = c.args.self.now.store;
  before = g.met.S.Store.goes_on_refl _ Going.changes;
  behind = g.met.S.Store.goes_on_refl _ Going.keeps;
  at_end = λ active. refl;
  said = tt;
}

pub returns-clause-reached : goal.returns-clause-reached
returns-clause-reached g c = c.call-reply.ensures.reached

pub returns-then-not-stands-clause-damage : goal.returns-then-not-stands-clause-damage
returns-then-not-stands-clause-damage g c = λ x read of. refl

pub returns-clause-damage : goal.returns-clause-damage
returns-clause-damage g c = c.call-reply.ensures.damage
