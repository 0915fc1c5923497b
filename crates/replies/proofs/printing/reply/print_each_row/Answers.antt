use Rattle.std.proofs.Common.{rules}
use Rattle.std.proofs.lemmas.Result.{err_from_is_err_and}
use Rattle.replies.proofs.Written.{HasTaken-next, Writes-stop}
use Rattle.replies.proofs.Fields.{next_row}
use Rattle.replies.proofs.printing.reply.print_each_row.Goals as goal

pub returns-in_err-print_row-clause-writes : goal.returns-in_err-print_row-clause-writes
returns-in_err-print_row-clause-writes g c =
    let p = err_from_is_err_and c.from_residual.result c.from_residual.ensures.1 in
    Writes-stop _ _ _ _ _ _ _ _ _ _ c.in_err-print_row.was p.1
    (next_row _ _ _ c.args.rows.now c.row-item.result c.loop-row.row-index (search rules) c.row-item.is c.loop-row.invariant)
    c.print_row.ensures.writes

pub loop-row-preserved : goal.loop-row-preserved
loop-row-preserved g c =
    HasTaken-next _ _ _ _ _ _ _ _ c.in_ok-print_row.was
    (next_row _ _ _ c.args.rows.now c.row-item.result c.loop-row.row-index (search rules) c.row-item.is c.loop-row.invariant)
    c.print_row.ensures.writes
