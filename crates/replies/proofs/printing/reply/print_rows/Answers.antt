use Rattle.std.proofs.lemmas.Result.{err_from_is_err_and}
use Rattle.replies.proofs.Written.{HasTaken-none, HasTaken-next, Writes-stop, Writes-last}
use Rattle.replies.proofs.printing.reply.print_rows.Goals as goal

pub returns-in_err-print_each_row-clause-writes : goal.returns-in_err-print_each_row-clause-writes
returns-in_err-print_each_row-clause-writes g c =
    let p = err_from_is_err_and c.from_residual.result c.from_residual.ensures.1 in
    Writes-stop _ _ _ _ _ _ _ _ _ _ c.in_err-print_each_row.was p.1 (HasTaken-none _ _) c.print_each_row.ensures.writes

pub returns-clause-writes : goal.returns-clause-writes
returns-clause-writes g c =
    Writes-last _ _ _ _ _ _ (HasTaken-next _ _ _ _ _ _ _ _ c.in_ok-print_each_row.was (HasTaken-none _ _) c.print_each_row.ensures.writes) c.print_count.ensures.writes
