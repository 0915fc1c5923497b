use Rattle.std.proofs.Common.{◌≡◌, ◌++◌}
use Rattle.kernels.specs.Marks.{marked}
use Rattle.kernels.proofs.marks.marked_rows.Given as goal

abbrev pub invariant-loop-row : goal.invariant-loop-row
invariant-loop-row l = l.kept ++ marked l.left l.row-iterator.rest.items ≡ marked l.fn.marks l.fn.rows
