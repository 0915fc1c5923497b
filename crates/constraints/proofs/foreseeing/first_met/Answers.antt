use Rattle.std.proofs.Common.{◌≡◌, ◌∙◌, sym, ap, true, false, ◌∷◌, None, rules}
use Rattle.std.specs.FinMap.{get}
use Rattle.store.specs.Contents.{Contents}
use Rattle.constraints.proofs.Looking.{key-next, key-open}
use Rattle.constraints.proofs.foreseeing.first_met.Goals as goal

pub loop-key-preserved : goal.loop-key-preserved
loop-key-preserved g c =
    let f = c.loop-key.invariant.0 in
    let same = (g.met.R.Reading.follows_keeps _ _ f).contents in
    let is : c.in-Ok-false.field-0 ≡ false = search rules in
    let moved : c.loop-key.key-iterator.rest.items ≡ c.in-Some.key ∷ c.next.new.self.rest.items = search (rules) in (
      g.met.R.Reading.follows_trans _ _ _ f c.is_met.ensures.follows,
      (λ sound.
          let found = rw (is, c.as_slice.ensures) at (c.in-Ok-false.ensures.found (g.met.R.Reading.follows_sound _ _ f sound)) in
          sym (key-next c.args.own _ _ c.args.rows.now c.loop-key.key-iterator.rest.items c.next.new.self.rest.items c.in-Some.key c.in-Some-place.place false
          (ap (λ (m : Contents). get m c.args.name.now) same) moved c.in-Some-place.is found)
          ∙ c.loop-key.invariant.1 sound),
    )

pub returns-in-Ok-true-clause-found : goal.returns-in-Ok-true-clause-found
returns-in-Ok-true-clause-found g c =
    let f = c.loop-key.invariant.0 in
    let same = (g.met.R.Reading.follows_keeps _ _ f).contents in
    let is : c.in-Ok-true.field-0 ≡ true = search rules in
    let moved : c.loop-key.key-iterator.rest.items ≡ c.in-Some.key ∷ c.next.new.self.rest.items = search (rules) in λ sound.
    let found = rw (is, c.as_slice.ensures) at (c.in-Ok-true.ensures.found (g.met.R.Reading.follows_sound _ _ f sound)) in
    sym (key-next c.args.own _ _ c.args.rows.now c.loop-key.key-iterator.rest.items c.next.new.self.rest.items c.in-Some.key c.in-Some-place.place true
    (ap (λ (m : Contents). get m c.args.name.now) same) moved c.in-Some-place.is found)
    ∙ c.loop-key.invariant.1 sound

pub returns-in-Ok-true-clause-follows : goal.returns-in-Ok-true-clause-follows
returns-in-Ok-true-clause-follows g c = g.met.R.Reading.follows_trans _ _ _ c.loop-key.invariant.0 c.is_met.ensures.follows

pub returns-in_default-clause-found : goal.returns-in_default-clause-found
returns-in_default-clause-found g c =
    let moved : c.loop-key.key-iterator.rest.items ≡ c.in-Some.key ∷ c.next.new.self.rest.items = search (rules) in
    let none : c.in-Some.key.place ≡ None = c.in_default.is in λ sound.
    sym (key-open c.args.own _ c.args.rows.now c.loop-key.key-iterator.rest.items c.next.new.self.rest.items c.in-Some.key moved none) ∙ c.loop-key.invariant.1 sound
