use Rattle.std.proofs.Common.{◌≡◌, ◌+◌, ◌*◌, drop, length}
use Rattle.sqlrecord.specs.Build.{lent, total_of}
use Rattle.sqlrecord.proofs.build.fits.Given as goal

abbrev pub invariant-loop-cell : goal.invariant-loop-cell
invariant-loop-cell l =
    4080 + (4 * length (lent (drop l.cell-index l.cells)) + total_of (lent (drop l.cell-index l.cells))) ≡ l.room + (4 * length (lent l.cells) + total_of (lent l.cells))
