use Rattle.std.proofs.Common.{◌≡◌, ◌+◌, drop}
use Rattle.sqlrecord.specs.Build.{lent, total_of}
use Rattle.sqlrecord.proofs.build.total.Given as goal

abbrev pub invariant-loop-cell : goal.invariant-loop-cell
invariant-loop-cell l = l.sum + total_of (lent (drop l.cell-index l.cells)) ≡ total_of (lent l.cells)
