use Rattle.journal.proofs.Listing.{IsCounted}
use Rattle.journal.proofs.list.count_numbers.Given as goal

abbrev pub invariant-loop-i : goal.invariant-loop-i
invariant-loop-i l = IsCounted l.list l.fn.below l.i l.least
