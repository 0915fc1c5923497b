use Rattle.std.proofs.Common.{refl}
use Rattle.uncorrelated_subqueries.proofs.nodes.seek_of.Goals as goal

pub returns : goal.returns
returns c =
    rw (c.in_ok-table.ensures.first _ c.copied_table-table.ensures, c.in_ok-table.ensures.second _ (rw c.as_slice.ensures at c.from_slice-columns.ensures), c.in_ok-table.ensures.third _ c.copied_values.ensures)
    refl
