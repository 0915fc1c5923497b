use Rattle.std.proofs.Common.{◌≡◌, refl}
use Rattle.uncorrelated_subqueries.proofs.nodes.hash_join_of.Goals as goal

pub returns : goal.returns
returns c = λ on x y h k m.
    let on_is : c.in_ok-on.on ≡ on = rw c.in_ok-on.was at h in
    let left_is : c.in_ok-on.left ≡ x = rw c.in_ok-on.was at k in
    let right_is : c.in_ok-on.right ≡ y = rw c.in_ok-on.was at m in
    rw (on_is, left_is, right_is, c.in_ok-left_places.ensures.first _ (rw c.as_slice.ensures at c.from_slice-left_places.ensures), c.in_ok-left_places.ensures.second _ (rw c.as_slice-2.ensures at c.from_slice.ensures))
    refl
