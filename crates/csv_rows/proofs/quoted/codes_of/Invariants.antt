use Rattle.std.proofs.Common.{◌≡◌, [], false, length}
use Rattle.csv_rows.specs.Undoubled.{undoubled}
use Rattle.csv_rows.proofs.quoted.codes_of.Given as goal

abbrev pub invariant-loop-rest : goal.invariant-loop-rest
invariant-loop-rest l = undoubled false [] l.fn.inner ≡ undoubled l.pending l.codes l.rest

abbrev pub decreases-loop-rest : goal.decreases-loop-rest
decreases-loop-rest l = length l.rest
