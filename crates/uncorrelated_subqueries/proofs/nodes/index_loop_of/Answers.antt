use Rattle.std.proofs.Common.{◌≡◌, refl}
use Rattle.uncorrelated_subqueries.proofs.nodes.index_loop_of.Goals as goal

pub returns : goal.returns
returns c = λ on x h k.
    let on_is : c.in_ok-on.on ≡ on = rw c.in_ok-on.was at h in
    let left_is : c.in_ok-on.left ≡ x = rw c.in_ok-on.was at k in
    rw (on_is, left_is, c.in_ok-table.ensures.first _ c.copied_table-table.ensures, c.in_ok-table.ensures.second _ (rw c.as_slice.ensures at c.from_slice-places.ensures), c.in_ok-table.ensures.third _ (rw c.as_slice-2.ensures at c.from_slice.ensures))
    refl
