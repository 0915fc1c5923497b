use Rattle.std.proofs.Common.{◌≤◌, length}
use Rattle.replies.specs.Printed.{quotes_doubled}
use Rattle.replies.proofs.Written.{HasTaken}
use Rattle.replies.proofs.printing.row.print_quoted.Given as goal

abbrev pub invariant-loop-at : goal.invariant-loop-at
invariant-loop-at g l = (length l.rest ≤ length l.text)
    × HasTaken (g.W.Write.contents l.initial.writer) (g.W.Write.contents l.writer) (quotes_doubled l.text) (quotes_doubled l.rest)

abbrev pub decreases-loop-at : goal.decreases-loop-at
decreases-loop-at g l = length l.rest
