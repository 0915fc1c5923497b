use Rattle.std.proofs.Common.{rules}
use Rattle.std.proofs.lemmas.Result.{err_from_is_err_and}
use Rattle.replies.proofs.Written.{HasTaken-next, Writes-stop}
use Rattle.replies.proofs.Fields.{next_line}
use Rattle.replies.proofs.printing.reply.print_each_line.Goals as goal

pub returns-in_err-print_line-clause-writes : goal.returns-in_err-print_line-clause-writes
returns-in_err-print_line-clause-writes g c =
    let p = err_from_is_err_and c.from_residual.result c.from_residual.ensures.1 in
    Writes-stop _ _ _ _ _ _ _ _ _ _ c.in_err-print_line.was p.1
    (next_line _ _ _ c.args.lines.now c.line-item.result c.loop-line.line-index (search rules) c.line-item.is c.loop-line.invariant)
    c.print_line.ensures.writes

pub loop-line-preserved : goal.loop-line-preserved
loop-line-preserved g c =
    HasTaken-next _ _ _ _ _ _ _ _ c.in_ok-print_line.was
    (next_line _ _ _ c.args.lines.now c.line-item.result c.loop-line.line-index (search rules) c.line-item.is c.loop-line.invariant)
    c.print_line.ensures.writes
