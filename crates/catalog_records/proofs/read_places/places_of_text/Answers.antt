use Rattle.std.proofs.Common.{◌≡◌, ◌∷◌, refl, sym, ◌∙◌}
use Rattle.std.specs.List.{flat_map}
use Rattle.catalog_records.specs.Places.{next_place}
use Rattle.catalog_records.proofs.Exits.{refused}
use Rattle.catalog_records.proofs.Repeats.{nothing, something}
use Rattle.catalog_records.proofs.PlaceLemmas.{at_comma, places_front, places_none}
use Rattle.catalog_records.proofs.read_places.places_of_text.Goals as goal

pub returns-then-is_empty-clause-again : goal.returns-then-is_empty-clause-again
returns-then-is_empty-clause-again c = λ all good e. c.new-places.ensures ∙ places_none _ all (nothing _ _ c.is_empty.ensures c.if-is_empty.true) good e

pub returns-in_err-place-clause-again : goal.returns-in_err-place-clause-again
returns-in_err-place-clause-again c = λ all good e.
    places_front _ all _ (something _ _ c.is_empty.ensures c.if-is_empty.false) good e (λ y ys small others left whole. refused _ c.in_err-place.field-0.0 all c.from_residual.ensures.1
    (c.in_err-place.ensures.again y (flat_map next_place ys) small (at_comma ys) left))

pub returns-in_err-next_places-clause-again : goal.returns-in_err-next_places-clause-again
returns-in_err-next_places-clause-again c = λ all good e.
    places_front _ all _ (something _ _ c.is_empty.ensures c.if-is_empty.false) good e (λ y ys small others left whole. refused _ c.in_err-next_places.field-0.0 all c.from_residual-in_err-next_places.ensures.1
    (c.in_err-next_places.ensures.again ys others (sym (c.in_ok-place.ensures.again y (flat_map next_place ys) small (at_comma ys) left).1)))

pub returns-clause-again : goal.returns-clause-again
returns-clause-again c = λ all good e.
    places_front _ all _ (something _ _ c.is_empty.ensures c.if-is_empty.false) good e (λ y ys small others left whole.
    let p = c.in_ok-place.ensures.again y (flat_map next_place ys) small (at_comma ys) left in
    let q : c.in_ok-next_places.field-0 ≡ ys = c.in_ok-next_places.ensures.again ys others (sym p.1) in
    let whole_is : c.append.new.self ≡ c.in_ok-place.place ∷ c.in_ok-next_places.field-0 = c.in_ok-append.ensures.ok ∙ (rw c.in_ok-push.ensures.ok (rw c.new-places.ensures refl)) in
    let first : c.in_ok-place.place ≡ y = p.0 in cc)
