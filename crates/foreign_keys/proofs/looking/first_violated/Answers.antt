use Rattle.std.proofs.Common.{◌≡◌, ◌∙◌, refl, sym, true, false, ◌∷◌, rules}
use Rattle.std.proofs.lemmas.List.Elements.{All-contains}
use Rattle.foreign_keys.specs.Sources.{Leads, is_violated_by}
use Rattle.foreign_keys.proofs.Following.{leads-still, violated-still, first-next, begins, goes-on}
use Rattle.foreign_keys.proofs.looking.first_violated.Goals as goal

pub loop-one-preserved-in-Ok-false : goal.loop-one-preserved-in-Ok-false
loop-one-preserved-in-Ok-false g c =
    let f = c.loop-one.invariant.0 in
    let before = g.R.Reading.shows c.args.reading.now in
    let now = g.R.Reading.shows c.loop-one.reading in
    let same = (g.met.R.Reading.follows_keeps _ _ f).contents in
    let is : c.in-Ok-false.field-0 ≡ false = search rules in
    let moved : c.loop-one.one-iterator.rest.items ≡ c.in-Some.one ∷ c.next.new.self.rest.items = search rules in (
      g.met.R.Reading.follows_trans _ _ _ f c.is_violated.ensures.follows,
      (λ sound leads.
          let own = All-contains (Leads before) c.args.asked c.in-Some.one leads (c.loop-one.invariant.2 c.in-Some.one (begins c.loop-one.one-iterator.rest.items c.next.new.self.rest.items c.in-Some.one moved)) in
          let found = rw is at (c.in-Ok-false.ensures.found (g.met.R.Reading.follows_sound _ _ f sound) (leads-still before now c.in-Some.one same own)) in
          sym (first-next (is_violated_by before c.args.name.now c.args.came.now c.args.gone.now) c.loop-one.one-iterator.rest.items c.next.new.self.rest.items c.in-Some.one false moved
          (found ∙ violated-still before now c.args.name.now c.args.came.now c.args.gone.now c.in-Some.one same))
          ∙ c.loop-one.invariant.1 sound leads),
      (λ x inside. c.loop-one.invariant.2 x (goes-on c.loop-one.one-iterator.rest.items c.next.new.self.rest.items c.in-Some.one x moved inside)),
    )

pub loop-one-preserved : goal.loop-one-preserved
loop-one-preserved g c =
    let f = c.loop-one.invariant.0 in
    let before = g.R.Reading.shows c.args.reading.now in
    let now = g.R.Reading.shows c.loop-one.reading in
    let same = (g.met.R.Reading.follows_keeps _ _ f).contents in
    let is : c.in-Ok-false.field-0 ≡ false = search rules in
    let moved : c.loop-one.one-iterator.rest.items ≡ c.in-Some.one ∷ c.next.new.self.rest.items = search rules in (
      g.met.R.Reading.follows_trans _ _ _ f c.is_violated.ensures.follows,
      (λ sound leads.
          let own = All-contains (Leads before) c.args.asked c.in-Some.one leads (c.loop-one.invariant.2 c.in-Some.one (begins c.loop-one.one-iterator.rest.items c.next.new.self.rest.items c.in-Some.one moved)) in
          let found = rw is at (c.in-Ok-false.ensures.found (g.met.R.Reading.follows_sound _ _ f sound) (leads-still before now c.in-Some.one same own)) in
          sym (first-next (is_violated_by before c.args.name.now c.args.came.now c.args.gone.now) c.loop-one.one-iterator.rest.items c.next.new.self.rest.items c.in-Some.one false moved
          (found ∙ violated-still before now c.args.name.now c.args.came.now c.args.gone.now c.in-Some.one same))
          ∙ c.loop-one.invariant.1 sound leads),
      (λ x inside. c.loop-one.invariant.2 x (goes-on c.loop-one.one-iterator.rest.items c.next.new.self.rest.items c.in-Some.one x moved inside)),
    )

pub returns-in-Ok-true-clause-some : goal.returns-in-Ok-true-clause-some
returns-in-Ok-true-clause-some g c =
    let f = c.loop-one.invariant.0 in
    let before = g.R.Reading.shows c.args.reading.now in
    let now = g.R.Reading.shows c.loop-one.reading in
    let same = (g.met.R.Reading.follows_keeps _ _ f).contents in
    let is : c.in-Ok-true.field-0 ≡ true = search rules in
    let moved : c.loop-one.one-iterator.rest.items ≡ c.in-Some.one ∷ c.next.new.self.rest.items = search rules in
    let inside = c.loop-one.invariant.2 c.in-Some.one (begins c.loop-one.one-iterator.rest.items c.next.new.self.rest.items c.in-Some.one moved) in λ sound leads.
    let own = All-contains (Leads before) c.args.asked c.in-Some.one leads inside in
    let found = rw is at (c.in-Ok-true.ensures.found (g.met.R.Reading.follows_sound _ _ f sound) (leads-still before now c.in-Some.one same own)) in
    (c.in-Some.one, inside, refl, sym (found ∙ violated-still before now c.args.name.now c.args.came.now c.args.gone.now c.in-Some.one same))

pub returns-in-Ok-true-clause-follows : goal.returns-in-Ok-true-clause-follows
returns-in-Ok-true-clause-follows g c = g.met.R.Reading.follows_trans _ _ _ c.loop-one.invariant.0 c.is_violated.ensures.follows
