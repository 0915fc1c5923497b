use Rattle.std.proofs.Common.{drop}
use Rattle.replies.specs.Printed.{printed_rows}
use Rattle.replies.proofs.Written.{HasTaken}
use Rattle.replies.proofs.printing.reply.print_each_row.Given as goal

abbrev pub invariant-loop-row : goal.invariant-loop-row
invariant-loop-row g l =
    HasTaken (g.W.Write.contents l.initial.writer) (g.W.Write.contents l.writer) (printed_rows l.rows) (printed_rows (drop l.row-index l.rows))
