-- The order of whole rows, column by column, a beginning before the longer row. Rows are alike just
-- where they stand level in it.
use Rattle.std.specs.declared.cmp.Ordering.{Ordering}
use Rattle.std.specs.Cmp.{IsTotalOrder}
use Rattle.std.specs.Cmp.Lexicographic.{slice_cmp, lists_total}
use Rattle.sqlval.specs.Comparison.{value_order}
use Rattle.sqlval.specs.Value.{Row}
use Rattle.sqlval.proofs.ValueOrderLaws.{value_order_total}

abbrev pub row_order : Row → Row → Ordering
row_order = slice_cmp value_order

pub row_order_total : IsTotalOrder row_order
row_order_total = lists_total value_order_total
