use Rattle.std.proofs.Common.{◌≡◌, ◌≢◌, ℕ, refl, true, false, Some, None, sym, subst, ◌∙◌, ap}
use Rattle.std.specs.FinMap.{get}
use Rattle.session_definitions.specs.Asked.{Asked}
use Rattle.session_definitions.specs.Step.{StepOf}
use Rattle.session_definitions.specs.World.{is_live}
use Rattle.store.specs.Stored.{SameButMark}
use Rattle.transactions.specs.Shown.{Slots, settled, shown}
use Rattle.transactions.proofs.Orders.{same}
use Rattle.sessions.specs.declared.slots.Slot.{Slot}
use Rattle.sessions.specs.Numbers.{Held, held_at, kept_in, kept_of}
use Rattle.sessions.proofs.Cores.{not_live, is_live_at, others_stay, set_alike}
use Rattle.sessions.proofs.Holding.{all_held, held_readers, held_within, is_held, kept_here, kept_holds, kept_none, not_held, put_as, put_back}
use Rattle.sessions.proofs.Kept.{refused_alike, world_kept}
use Rattle.sessions.proofs.UnnamedSteps.{some_rules}
use Rattle.sessions.proofs.core_of.Core.close_query.Goals as goal

pub returns-then-not-stands-clause-step : goal.returns-then-not-stands-clause-step
returns-then-not-stands-clause-step g c = λ rules sound live.
    let none : held_at c.args.self.now.slots.all c.args.session.number ≡ None = not_held _ (sym c.stands.ensures.is ∙ c.if-not-stands.true) in
    let dead = not_live (g.S.Store.shows c.args.self.now.store) c.args.self.now.writer (kept_in c.args.self.now.slots.all) c.args.session.number (kept_none c.args.self.now.slots.all c.args.session.number none) in
    let bad : true ≡ false = sym live ∙ dead in absurd (cc)

pub returns-clause-step : goal.returns-clause-step
returns-clause-step g c = λ rules sound live.
    let st = g.S.Store.shows c.args.self.now.store in
    let new = g.S.Store.shows c.args.self.now.store in
    let all = c.args.self.now.slots.all in
    let n = c.args.session.number in
    let slot = c.take-slot.result in
    let is = c.take-slot.ensures.is in
    let leaves = c.close_query-reply.ensures.leaves rules st c.args.self.now.writer n sound.order (sound.held n slot is) in
    let put = put_back c.set.new.self.all c.take-slot.new.self.all all n c.settle.new.slot c.take-slot.ensures.left c.set.ensures in
    subst (λ (slots : Slots). StepOf rules (shown st c.args.self.now.writer (kept_in all)) n Asked.Close c.close_query-reply.result (shown new c.args.self.now.writer slots))
    (sym (put_as c.set.new.self.all all n c.settle.new.slot (settled (get new.readers n) (kept_of c.close_query-reply.new.slot)) put c.settle.ensures.kept))
    (leaves.moves.step (kept_in all) (kept_here all n slot is))

pub returns-clause-sound : goal.returns-clause-sound
returns-clause-sound g c = λ sound.
    let st = g.S.Store.shows c.args.self.now.store in
    let new = g.S.Store.shows c.args.self.now.store in
    let all = c.args.self.now.slots.all in
    let n = c.args.session.number in
    let slot = c.take-slot.result in
    let is = c.take-slot.ensures.is in
    let leaves = c.close_query-reply.ensures.leaves some_rules st c.args.self.now.writer n sound.order (sound.held n slot is) in
    let put = put_back c.set.new.self.all c.take-slot.new.self.all all n c.settle.new.slot c.take-slot.ensures.left c.set.ensures in
    let within = held_within all n slot is in
    record {
      store = sound.store;
      order = leaves.moves.order;
      readers = λ q none. held_readers st new all n (Some c.settle.new.slot) within leaves.moves.others sound.readers
          (λ gone. let bad : Some c.settle.new.slot ≡ None = gone in absurd (cc)) q (subst (λ (held : Held). held_at held q ≡ None) put none);
      held = λ q x has. all_held st new c.args.self.now.writer c.args.self.now.writer all n (Some c.settle.new.slot) within leaves.moves.others leaves.moves.reads sound.held
          (λ y e. kept_holds new c.args.self.now.writer n c.settle.new.slot y (c.settle.ensures.holds c.args.self.now.writer leaves.fits) e) q x
          (subst (λ (held : Held). held_at held q ≡ Some x) put has);
    }

pub returns-clause-ended : goal.returns-clause-ended
returns-clause-ended g c = λ dead.
    let live = is_live_at (g.S.Store.shows c.args.self.now.store) c.args.self.now.writer (kept_in c.args.self.now.slots.all) c.args.session.number (kept_of c.take-slot.result)
    (kept_here c.args.self.now.slots.all c.args.session.number c.take-slot.result c.take-slot.ensures.is) in
    let bad : true ≡ false = sym live ∙ dead in absurd (cc)

pub returns-clause-live : goal.returns-clause-live
returns-clause-live g c = λ q.
    let st = g.S.Store.shows c.args.self.now.store in
    let new = g.S.Store.shows c.args.self.now.store in
    let all = c.args.self.now.slots.all in
    let n = c.args.session.number in
    let put = put_back c.set.new.self.all c.take-slot.new.self.all all n c.settle.new.slot c.take-slot.ensures.left c.set.ensures in
    subst (λ (slots : Slots). is_live (shown new c.args.self.now.writer slots) q ≡ is_live (shown st c.args.self.now.writer (kept_in all)) q)
    (sym (put_as c.set.new.self.all all n c.settle.new.slot (kept_of c.settle.new.slot) put refl))
    (set_alike st new c.args.self.now.writer c.args.self.now.writer (kept_in all) n (kept_of c.take-slot.result) (kept_of c.settle.new.slot) (kept_here all n c.take-slot.result c.take-slot.ensures.is) q)

pub returns-then-not-stands-clause-refused : goal.returns-then-not-stands-clause-refused
returns-then-not-stands-clause-refused g c = λ live.
    let none : held_at c.args.self.now.slots.all c.args.session.number ≡ None = not_held _ (sym c.stands.ensures.is ∙ c.if-not-stands.true) in
    let dead = not_live (g.S.Store.shows c.args.self.now.store) c.args.self.now.writer (kept_in c.args.self.now.slots.all) c.args.session.number (kept_none c.args.self.now.slots.all c.args.session.number none) in
    let bad : true ≡ false = sym live ∙ dead in absurd (cc)

pub returns-clause-refused : goal.returns-clause-refused
returns-clause-refused g c = λ live. c.close_query-reply.ensures.refused

pub returns-then-not-stands-clause-others : goal.returns-then-not-stands-clause-others
returns-then-not-stands-clause-others g c = (refl, λ q ne. refl)

pub returns-clause-others : goal.returns-clause-others
returns-clause-others g c =
    let st = g.S.Store.shows c.args.self.now.store in
    let w = c.args.self.now.writer in
    let all = c.args.self.now.slots.all in
    let n = c.args.session.number in
    let put = put_back c.set.new.self.all c.take-slot.new.self.all all n c.settle.new.slot c.take-slot.ensures.left c.set.ensures in (
      refl,
      subst (λ (slots : Slots). (q : ℕ) → q ≢ n → get (shown st w slots).sessions q ≡ get (shown st w (kept_in all)).sessions q)
          (sym (put_as c.set.new.self.all all n c.settle.new.slot (kept_of c.settle.new.slot) put refl))
          (others_stay st w (kept_in all) n (Some (kept_of c.settle.new.slot))),
    )

pub returns-then-not-stands-clause-sound : goal.returns-then-not-stands-clause-sound
returns-then-not-stands-clause-sound g c = λ sound. sound

pub returns-then-not-stands-clause-ended : goal.returns-then-not-stands-clause-ended
returns-then-not-stands-clause-ended g c = λ dead. (refl, refl)

pub returns-then-not-stands-clause-live : goal.returns-then-not-stands-clause-live
returns-then-not-stands-clause-live g c = λ q. refl

pub returns-then-not-stands-clause-untouched : goal.returns-then-not-stands-clause-untouched
returns-then-not-stands-clause-untouched g c = refl

pub returns-clause-untouched : goal.returns-clause-untouched
returns-clause-untouched g c = refl
