use Rattle.std.proofs.Common.{◌≡◌, Some, None}
use Rattle.catalog_records.proofs.PlaceLemmas.{cut_first}
use Rattle.catalog_records.proofs.read_places.first_place.Goals as goal

pub returns-in-Some-clause-again : goal.returns-in-Some-clause-again
returns-in-Some-clause-again c = λ n rest small at e.
    let p = cut_first c.args.text.now _ _ n rest c.cut_at_comma.ensures small at e in
    let q : Some c.in-Some.place ≡ Some n = c.in-Some.ensures.again n small p.0 in ((cc), p.1)

pub returns-in-None-clause-again : goal.returns-in-None-clause-again
returns-in-None-clause-again c = λ n rest small at e.
    let p = cut_first c.args.text.now _ _ n rest c.cut_at_comma.ensures small at e in
    let q : None ≡ Some n = c.in-None.ensures.again n small p.0 in absurd (cc)
