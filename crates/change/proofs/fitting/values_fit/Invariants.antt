use Rattle.std.proofs.Common.{◌≡◌, length}
use Rattle.change.specs.Fits.{values_fit}
use Rattle.change.proofs.fitting.values_fit.Given as goal

-- the answer is that for the columns that are left
abbrev pub invariant-loop-column : goal.invariant-loop-column
invariant-loop-column l = values_fit l.ours l.theirs ≡ values_fit l.columns l.row

abbrev pub decreases-loop-column : goal.decreases-loop-column
decreases-loop-column l = length l.ours
