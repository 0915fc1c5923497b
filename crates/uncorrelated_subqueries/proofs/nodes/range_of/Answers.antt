use Rattle.std.proofs.Common.{refl}
use Rattle.uncorrelated_subqueries.proofs.nodes.range_of.Goals as goal

pub returns : goal.returns
returns c =
    rw (c.in_ok-table.ensures.first _ c.copied_table-table.ensures, c.in_ok-table.ensures.second _ (rw c.as_slice.ensures at c.from_slice.ensures), c.in_ok-low.ensures.first _ c.copied_bound.ensures, c.in_ok-low.ensures.second _ c.copied_bound-2.ensures)
    refl
