use Rattle.std.proofs.Common.{◌≡◌, ◌≢◌, ◌<◌, ℕ, true, Some, None, Ok, length, refl, sym, subst, ◌∙◌, arith}
use Rattle.session_definitions.specs.Run.{MakesSession}
use Rattle.session_definitions.specs.World.{is_live}
use Rattle.transactions.specs.Shown.{Slots, fresh, shown}
use Rattle.sessions.specs.Numbers.{Held, held_at, kept_in}
use Rattle.sessions.proofs.Cores.{makes, makes_none, not_live, set_beside, set_there}
use Rattle.sessions.proofs.Holding.{all_held, held_readers, kept_length, kept_none, new_holds, put_as, some_kept}
use Rattle.sessions.proofs.core_of.Core.new_session.Goals as goal

pub returns-in_default-clause-makes : goal.returns-in_default-clause-makes
returns-in_default-clause-makes g c = λ sound.
    makes_none (g.S.Store.shows c.args.self.now.store) c.args.self.now.writer (kept_in c.args.self.now.slots.all) (λ k lt. some_kept c.args.self.now.slots.all k (c.in_default.ensures.full k lt))

pub returns-clause-makes : goal.returns-clause-makes
returns-clause-makes g c = λ sound.
    let st = g.S.Store.shows c.args.self.now.store in
    let all = c.args.self.now.slots.all in
    subst (λ (slots : Slots). MakesSession (shown st c.args.self.now.writer (kept_in all)) (Ok c.in-Some.number) (shown st c.args.self.now.writer slots))
    (sym (put_as c.set.new.self.all all c.in-Some.number c.new_slot.result fresh c.set.ensures c.new_slot.ensures.kept))
    (makes st c.args.self.now.writer (kept_in all) c.in-Some.number (kept_length all ∙ c.first_free.ensures.sized) c.in-Some.ensures.within (kept_none all c.in-Some.number c.in-Some.ensures.free)
    (λ k lt. some_kept all k (c.in-Some.ensures.least k lt)) (sound.readers c.in-Some.number c.in-Some.ensures.free))

pub returns-clause-sound : goal.returns-clause-sound
returns-clause-sound g c = λ sound.
    let st = g.S.Store.shows c.args.self.now.store in
    let all = c.args.self.now.slots.all in
    let free : held_at all c.in-Some.number ≡ None = c.in-Some.ensures.free in
    let sized : length all ≡ 64 = c.first_free.ensures.sized in
    let below : c.in-Some.number < 64 = c.in-Some.ensures.within in
    let within : c.in-Some.number < length all = omega arith in
    record {
      store = sound.store;
      order = sound.order;
      readers = λ q none. held_readers st st all c.in-Some.number (Some c.new_slot.result) within (λ p ne. refl) sound.readers (λ gone. sound.readers c.in-Some.number free) q
          (subst (λ (held : Held). held_at held q ≡ None) c.set.ensures none);
      held = λ q slot is. all_held st st c.args.self.now.writer c.args.self.now.writer all c.in-Some.number (Some c.new_slot.result) within (λ p ne. refl) (λ p ne f. refl) sound.held
          (λ x e. new_holds st c.args.self.now.writer c.in-Some.number c.new_slot.result x (sound.readers c.in-Some.number free) c.new_slot.ensures.shut e) q slot
          (subst (λ (held : Held). held_at held q ≡ Some slot) c.set.ensures is);
    }

pub returns-clause-free : goal.returns-clause-free
returns-clause-free g c =
    not_live (g.S.Store.shows c.args.self.now.store) c.args.self.now.writer (kept_in c.args.self.now.slots.all) c.in-Some.number (kept_none c.args.self.now.slots.all c.in-Some.number c.in-Some.ensures.free)

pub returns-clause-live : goal.returns-clause-live
returns-clause-live g c =
    let st = g.S.Store.shows c.args.self.now.store in
    let all = c.args.self.now.slots.all in
    let long : length (kept_in all) ≡ 64 = kept_length all ∙ c.first_free.ensures.sized in
    let below : c.in-Some.number < 64 = c.in-Some.ensures.within in
    let within : c.in-Some.number < length (kept_in all) = omega arith in
    subst (λ (slots : Slots). (is_live (shown st c.args.self.now.writer slots) c.in-Some.number ≡ true)
    × ((q : ℕ) → q ≢ c.in-Some.number → is_live (shown st c.args.self.now.writer slots) q ≡ is_live (shown st c.args.self.now.writer (kept_in all)) q))
    (sym (put_as c.set.new.self.all all c.in-Some.number c.new_slot.result fresh c.set.ensures c.new_slot.ensures.kept)) (
      set_there st c.args.self.now.writer (kept_in all) c.in-Some.number (Some fresh) within,
      set_beside st st c.args.self.now.writer c.args.self.now.writer (kept_in all) c.in-Some.number (Some fresh),
    )

pub returns-in_default-clause-refused : goal.returns-in_default-clause-refused
returns-in_default-clause-refused g c = (refl, refl)

pub returns-in_default-clause-free : goal.returns-in_default-clause-free
returns-in_default-clause-free g c = tt

pub returns-in_default-clause-live : goal.returns-in_default-clause-live
returns-in_default-clause-live g c = tt

pub returns-in_default-clause-sound : goal.returns-in_default-clause-sound
returns-in_default-clause-sound g c = λ sound. sound

pub returns-in_default-clause-untouched : goal.returns-in_default-clause-untouched
returns-in_default-clause-untouched g c = refl

pub returns-in_default-clause-counts : goal.returns-in_default-clause-counts
returns-in_default-clause-counts g c = refl

pub returns-clause-refused : goal.returns-clause-refused
returns-clause-refused g c = tt

pub returns-clause-untouched : goal.returns-clause-untouched
returns-clause-untouched g c = refl

pub returns-clause-counts : goal.returns-clause-counts
returns-clause-counts g c = refl
