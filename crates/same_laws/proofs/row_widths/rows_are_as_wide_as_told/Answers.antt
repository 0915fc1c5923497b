use Rattle.same_laws.proofs.Widths.{trees-wide}
use Rattle.same_laws.proofs.row_widths.rows_are_as_wide_as_told.Goals as goal

pub returns : goal.returns
returns c = trees-wide
