use Rattle.std.proofs.Common.{take}
use Rattle.kernels.specs.Counts.{Counts}
use Rattle.kernels.proofs.counts.counts_of.Given as goal

abbrev pub invariant-loop-row : goal.invariant-loop-row
invariant-loop-row l = Counts l.counts (take l.row-index l.rows)
