use Rattle.std.proofs.Common.{drop}
use Rattle.replies.specs.Printed.{other_fields}
use Rattle.replies.proofs.Written.{HasTaken}
use Rattle.replies.proofs.printing.row.print_others.Given as goal

abbrev pub invariant-loop-value : goal.invariant-loop-value
invariant-loop-value g l =
    HasTaken (g.W.Write.contents l.initial.writer) (g.W.Write.contents l.writer) (other_fields l.values) (other_fields (drop l.value-index l.values))
