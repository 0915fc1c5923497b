use Rattle.std.proofs.Common.{drop}
use Rattle.replies.specs.Printed.{printed_lines}
use Rattle.replies.proofs.Written.{HasTaken}
use Rattle.replies.proofs.printing.reply.print_each_line.Given as goal

abbrev pub invariant-loop-line : goal.invariant-loop-line
invariant-loop-line g l =
    HasTaken (g.W.Write.contents l.initial.writer) (g.W.Write.contents l.writer) (printed_lines l.lines) (printed_lines (drop l.line-index l.lines))
