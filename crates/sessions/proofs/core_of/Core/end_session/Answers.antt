use Rattle.std.proofs.Common.{◌≡◌, ◌≢◌, ℕ, true, false, refl, Some, None, sym, subst, ◌∙◌, arith}
use Rattle.session_definitions.specs.Run.{DropsSession}
use Rattle.session_definitions.specs.World.{is_live}
use Rattle.transactions.specs.Shown.{Slots, shown}
use Rattle.transactions.proofs.SlotLemmas.{slot_within}
use Rattle.sessions.specs.Numbers.{Held, held_at, kept_in, kept_of}
use Rattle.sessions.proofs.Cores.{not_live, is_live_at, drops, set_beside, set_there}
use Rattle.sessions.proofs.Holding.{all_held, held_readers, held_within, is_held, kept_here, kept_none, not_held, put_none}
use Rattle.store.specs.Going.{Going}
use Rattle.sessions.proofs.core_of.Core.end_session.Goals as goal

pub returns-then-not-stands-clause-drops : goal.returns-then-not-stands-clause-drops
returns-then-not-stands-clause-drops g c = λ live.
    let none : held_at c.args.self.now.slots.all c.args.session.number ≡ None = not_held _ (sym c.stands.ensures.is ∙ c.if-not-stands.true) in
    let dead = not_live (g.S.Store.shows c.args.self.now.store) c.args.self.now.writer (kept_in c.args.self.now.slots.all) c.args.session.number (kept_none c.args.self.now.slots.all c.args.session.number none) in
    let bad : true ≡ false = sym live ∙ dead in absurd (cc)

pub returns-then-not-stands-clause-live : goal.returns-then-not-stands-clause-live
returns-then-not-stands-clause-live g c =
    let none : held_at c.args.self.now.slots.all c.args.session.number ≡ None = not_held _ (sym c.stands.ensures.is ∙ c.if-not-stands.true) in
    (not_live (g.S.Store.shows c.args.self.now.store) c.args.self.now.writer (kept_in c.args.self.now.slots.all) c.args.session.number (kept_none c.args.self.now.slots.all c.args.session.number none), λ q ne. refl)

pub returns-clause-drops : goal.returns-clause-drops
returns-clause-drops g c = λ live.
    let held = is_held _ (sym c.stands.ensures.is ∙ c.if-not-stands.false) in
    let is = kept_here c.args.self.now.slots.all c.args.session.number held.0 held.1 in
    subst (λ (slots : Slots). DropsSession (shown (g.S.Store.shows c.args.self.now.store) c.args.self.now.writer (kept_in c.args.self.now.slots.all)) c.args.session.number (shown (g.S.Store.shows c.drop_session.new.store) c.drop_session.new.writer slots))
    (sym (put_none c.set.new.self.all c.args.self.now.slots.all c.args.session.number c.set.ensures))
    (drops (g.S.Store.shows c.args.self.now.store) (g.S.Store.shows c.drop_session.new.store) c.args.self.now.writer c.drop_session.new.writer (kept_in c.args.self.now.slots.all) c.args.session.number (kept_of held.0) is
    (c.drop_session.ensures.drops (kept_in c.args.self.now.slots.all) (kept_of held.0) is))

pub returns-clause-ended : goal.returns-clause-ended
returns-clause-ended g c = λ dead.
    let held = is_held _ (sym c.stands.ensures.is ∙ c.if-not-stands.false) in
    let is = kept_here c.args.self.now.slots.all c.args.session.number held.0 held.1 in
    let live = is_live_at (g.S.Store.shows c.args.self.now.store) c.args.self.now.writer (kept_in c.args.self.now.slots.all) c.args.session.number (kept_of held.0) is in
    let bad : true ≡ false = sym live ∙ dead in absurd (cc)

pub returns-clause-sound : goal.returns-clause-sound
returns-clause-sound g c = λ sound.
    let held = is_held _ (sym c.stands.ensures.is ∙ c.if-not-stands.false) in
    let within = held_within c.args.self.now.slots.all c.args.session.number held.0 held.1 in
    let st = g.S.Store.shows c.args.self.now.store in
    let new = g.S.Store.shows c.drop_session.new.store in
    record {
      store = (g.met.S.Store.goes_on_goes _ _ _ c.drop_session.ensures.goes).sound sound.store;
      order = c.drop_session.ensures.order sound.order;
      readers = λ q none. held_readers st new c.args.self.now.slots.all c.args.session.number None within c.drop_session.ensures.others sound.readers (λ gone. c.drop_session.ensures.gone) q
          (subst (λ (all : Held). held_at all q ≡ None) c.set.ensures none);
      held = λ q slot is. all_held st new c.args.self.now.writer c.drop_session.new.writer c.args.self.now.slots.all c.args.session.number None within c.drop_session.ensures.others
          c.drop_session.ensures.reads sound.held (λ x e. let bad : None ≡ Some x = e in absurd (cc)) q slot
          (subst (λ (all : Held). held_at all q ≡ Some slot) c.set.ensures is);
    }

pub returns-clause-live : goal.returns-clause-live
returns-clause-live g c =
    let held = is_held _ (sym c.stands.ensures.is ∙ c.if-not-stands.false) in
    let is = kept_here c.args.self.now.slots.all c.args.session.number held.0 held.1 in
    let within = slot_within (kept_in c.args.self.now.slots.all) c.args.session.number (kept_of held.0) is in
    subst (λ (slots : Slots). (is_live (shown (g.S.Store.shows c.drop_session.new.store) c.drop_session.new.writer slots) c.args.session.number ≡ false)
    × ((q : ℕ) → q ≢ c.args.session.number → is_live (shown (g.S.Store.shows c.drop_session.new.store) c.drop_session.new.writer slots) q ≡ is_live (shown (g.S.Store.shows c.args.self.now.store) c.args.self.now.writer (kept_in c.args.self.now.slots.all)) q))
    (sym (put_none c.set.new.self.all c.args.self.now.slots.all c.args.session.number c.set.ensures)) (
      set_there (g.S.Store.shows c.drop_session.new.store) c.drop_session.new.writer (kept_in c.args.self.now.slots.all) c.args.session.number None within,
      set_beside (g.S.Store.shows c.args.self.now.store) (g.S.Store.shows c.drop_session.new.store) c.args.self.now.writer c.drop_session.new.writer (kept_in c.args.self.now.slots.all) c.args.session.number None,
    )

pub returns-clause-counts : goal.returns-clause-counts
returns-clause-counts g c = (g.met.S.Store.goes_on_goes _ _ _ c.drop_session.ensures.goes).refused

pub returns-then-not-stands-clause-ended : goal.returns-then-not-stands-clause-ended
returns-then-not-stands-clause-ended g c = λ dead. refl

pub returns-then-not-stands-clause-sound : goal.returns-then-not-stands-clause-sound
returns-then-not-stands-clause-sound g c = λ sound. sound

pub returns-then-not-stands-clause-goes : goal.returns-then-not-stands-clause-goes
returns-then-not-stands-clause-goes g c = g.met.S.Store.goes_on_refl _ Going.keeps

pub returns-then-not-stands-clause-counts : goal.returns-then-not-stands-clause-counts
returns-then-not-stands-clause-counts g c = omega arith

pub returns-clause-goes : goal.returns-clause-goes
returns-clause-goes g c = c.drop_session.ensures.goes

pub returns-then-not-stands-clause-damage : goal.returns-then-not-stands-clause-damage
returns-then-not-stands-clause-damage g c = refl

pub returns-clause-damage : goal.returns-clause-damage
returns-clause-damage g c = c.drop_session.ensures.damage
