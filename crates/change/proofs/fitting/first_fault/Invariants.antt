use Rattle.std.proofs.Common.{◌≡◌, length}
use Rattle.change.specs.Fits.{first_fault}
use Rattle.change.proofs.fitting.first_fault.Given as goal

-- nothing is wrong with those before
abbrev pub invariant-loop-row : goal.invariant-loop-row
invariant-loop-row l = first_fault l.columns l.left ≡ first_fault l.columns l.rows

abbrev pub decreases-loop-row : goal.decreases-loop-row
decreases-loop-row l = length l.left
