use Rattle.std.proofs.Common.{take}
use Rattle.kernels.proofs.Marking.{Marked}
use Rattle.kernels.proofs.set_rows.distinct_marks.Given as goal

abbrev pub invariant-loop-row : goal.invariant-loop-row
invariant-loop-row l = Marked l.counts l.marks (λ _. 1) (take l.row-index l.rows)
