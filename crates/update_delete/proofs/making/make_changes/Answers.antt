use Rattle.std.proofs.Common.{◌≡◌, ◌∙◌, refl, sym, ap, [], ◌∷◌, rules, arith}
use Rattle.update_delete.proofs.Standing.{alone_on, none_left, begins_with, ends, runs_out, goes_on, next_short, numbered_out_before}
use Rattle.std.specs.FinMap.{get}
use Rattle.store.specs.Stored.{undone}
use Rattle.update_delete.specs.Reached.{IsNumberedOut}
use Rattle.update_delete.proofs.Reaching.{leaves_all, leaves_later, leaves_one, reached_before}
use Rattle.store.specs.Going.{Going}
use Rattle.update_delete.proofs.making.make_changes.Goals as goal

pub loop-change-init : goal.loop-change-init
loop-change-init g c = record {
  stands = λ sound. begins_with (g.S.Store.shows c.args.store.now) c.args.name.now c.args.numbers.now c.args.changes _ (search (rules));
  none = leaves_all _ c.args.changes (search (rules));
  alone = refl;
  goes = g.met.S.Store.goes_on_refl _ Going.changes;
}

pub loop-change-preserved : goal.loop-change-preserved
loop-change-preserved g c = record {
  stands = λ sound.
      let moved : c.loop-change.change-iterator.rest.items ≡ c.in-Some.change ∷ c.next.new.self.rest.items = search (rules) in
      goes_on (g.S.Store.shows c.args.store.now) c.args.name.now c.args.numbers.now c.args.changes (g.S.Store.shows c.loop-change.store) c.loop-change.rest.now c.loop-change.change-iterator.rest.items
      (c.loop-change.invariant.stands sound) (g.S.Store.shows c.make_change.new.store) _ _ c.in-Some.change c.next.new.self.rest.items c.in-Some-split_first.ensures.cases.0 moved
      (c.in_default-make_change.ensures.shows ((g.met.S.Store.goes_on_goes _ _ _ c.loop-change.invariant.goes).sound sound));
  none =
      let moved : c.loop-change.change-iterator.rest.items ≡ c.in-Some.change ∷ c.next.new.self.rest.items = search (rules) in
      leaves_later c.args.changes c.loop-change.change-iterator.rest.items c.in-Some.change c.next.new.self.rest.items moved c.loop-change.invariant.none;
  alone = alone_on (g.S.Store.shows c.args.store.now) (g.S.Store.shows c.loop-change.store) (g.S.Store.shows c.make_change.new.store) c.loop-change.invariant.alone c.in_default-make_change.ensures.alone;
  goes = g.met.S.Store.goes_on_trans _ _ _ Going.changes Going.changes c.loop-change.invariant.goes c.make_change.ensures.goes;
}

pub returns-in_default-clause-shows : goal.returns-in_default-clause-shows
returns-in_default-clause-shows g c = λ sound.
    let none = none_left c.loop-change.rest.now c.in_default.ensures.cases in
    runs_out (g.S.Store.shows c.args.store.now) c.args.name.now c.args.numbers.now c.args.changes (g.S.Store.shows c.loop-change.store) c.loop-change.rest.now c.loop-change.change-iterator.rest.items
    (c.loop-change.invariant.stands sound) none

pub returns-clause-shows : goal.returns-clause-shows
returns-clause-shows g c = λ sound.
    let none = none_left c.loop-change.change-iterator.rest.items (sym c.loop-change.change-iterator.rest.ok.0 ∙ c.in-None.ensures.steps.0) in
    ends (g.S.Store.shows c.args.store.now) c.args.name.now c.args.numbers.now c.args.changes (g.S.Store.shows c.loop-change.store) c.loop-change.rest.now c.loop-change.change-iterator.rest.items
    (c.loop-change.invariant.stands sound) none

pub returns-in-Err-clause-undone : goal.returns-in-Err-clause-undone
returns-in-Err-clause-undone g c = c.in-Err.ensures.undone ∙ ap undone c.loop-change.invariant.alone

pub returns-in-Err-clause-refused : goal.returns-in-Err-clause-refused
returns-in-Err-clause-refused g c = λ sound short.
    let moved : c.loop-change.change-iterator.rest.items ≡ c.in-Some.change ∷ c.next.new.self.rest.items = search (rules) in
    c.in-Err.ensures.refused ((g.met.S.Store.goes_on_goes _ _ _ c.loop-change.invariant.goes).sound sound)
    (next_short (g.S.Store.shows c.args.store.now) c.args.name.now c.args.numbers.now c.args.changes (g.S.Store.shows c.loop-change.store) c.loop-change.rest.now c.loop-change.change-iterator.rest.items
    (c.loop-change.invariant.stands sound) c.in-Some.change c.next.new.self.rest.items moved short)

pub returns-in-Err-clause-device : goal.returns-in-Err-clause-device
returns-in-Err-clause-device g c = λ e. let risen = c.in-Err.ensures.device e in omega (arith, risen, ((g.met.S.Store.goes_on_goes _ _ _ c.loop-change.invariant.goes).refused))

pub returns-in-Err-clause-limits : goal.returns-in-Err-clause-limits
returns-in-Err-clause-limits g c =
    let moved : c.loop-change.change-iterator.rest.items ≡ c.in-Some.change ∷ c.next.new.self.rest.items = search (rules) in
    let old = g.S.Store.shows c.args.store.now in
    let mid = g.S.Store.shows c.loop-change.store in
    reached_before (g.S.Store.counted c.make_change.new.store) (c.in-Some.change ∷ []) c.args.changes (IsNumberedOut (get mid.working c.args.name.now))
    (g.S.Store.is_sound c.args.store.now → IsNumberedOut (get old.working c.args.name.now))
    (leaves_one c.args.changes c.loop-change.change-iterator.rest.items c.in-Some.change c.next.new.self.rest.items moved c.loop-change.invariant.none)
    (λ out sound. numbered_out_before old c.args.name.now c.args.numbers.now c.args.changes mid c.loop-change.rest.now c.loop-change.change-iterator.rest.items (c.loop-change.invariant.stands sound) out)
    c.in-Err.refusal c.in-Err.ensures.limits

pub returns-in-Err-clause-goes : goal.returns-in-Err-clause-goes
returns-in-Err-clause-goes g c = g.met.S.Store.goes_on_trans _ _ _ Going.changes Going.changes c.loop-change.invariant.goes c.make_change.ensures.goes
