use Rattle.std.proofs.Common.{◌≡◌, []}
use Rattle.std.specs.List.{flat_map}
use Rattle.catalog_records.specs.Places.{next_place}
use Rattle.catalog_records.proofs.Exits.{refused}
use Rattle.catalog_records.proofs.Repeats.{remains_none, remains_one, remains_next, read_more, no_more}
use Rattle.catalog_records.proofs.PlaceLemmas.{all_append, at_comma, next_front, some_place, comma_first}
use Rattle.catalog_records.proofs.read_places.next_places.Goals as goal

pub returns-then-comma-ne44-clause-again : goal.returns-then-comma-ne44-clause-again
returns-then-comma-ne44-clause-again c = λ all good e.
    remains_one next_place _ all _ _ _ _ _ (c.loop-comma.invariant.again all good e) c.in-Some.ensures.cases.0
    (λ y ys small others left whole. absurd (c.if-comma-ne44.true (next_front _ _ _ y ys c.in-Some.ensures.cases.0 left).0))

pub returns-in_err-place-clause-again : goal.returns-in_err-place-clause-again
returns-in_err-place-clause-again c = λ all good e.
    remains_one next_place _ all _ _ _ _ _ (c.loop-comma.invariant.again all good e) c.in-Some.ensures.cases.0
    (λ y ys small others left whole. refused _ c.in_err-place.field-0.0 all c.from_residual.ensures.1
    (c.in_err-place.ensures.again y (flat_map next_place ys) small (at_comma ys) (next_front _ _ _ y ys c.in-Some.ensures.cases.0 left).1))

pub loop-comma-preserved : goal.loop-comma-preserved
loop-comma-preserved c = record {
  sound = rw c.in_ok-push.ensures.ok (read_more next_place _ _ _ c.in_ok-place.place _ c.loop-comma.invariant.sound (comma_first _ _ _ _ _ c.in-Some.ensures.cases.0 c.if-comma-ne44.false c.in_ok-place.ensures.sound));
  kept = rw c.in_ok-push.ensures.ok (all_append _ c.loop-comma.places _ c.loop-comma.invariant.kept (c.in_ok-place.ensures.kept, tt));
  again = λ all good e. rw c.in_ok-push.ensures.ok (
      remains_next next_place _ all _ _ _ _ c.in_ok-place.place _ (c.loop-comma.invariant.again all good e) c.in-Some.ensures.cases.0
      (λ y ys small others left. c.in_ok-place.ensures.again y (flat_map next_place ys) small (at_comma ys) (next_front _ _ _ y ys c.in-Some.ensures.cases.0 left).1));
}

pub returns-clause-again : goal.returns-clause-again
returns-clause-again c = λ all good e.
    let gone : c.loop-comma.rest.now ≡ [] = no_more _ c.in_default.ensures.cases in
    remains_none next_place _ all _ some_place (rw gone at (c.loop-comma.invariant.again all good e))
