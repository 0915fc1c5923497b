use Rattle.std.proofs.lemmas.List.{take_rest}
use Rattle.std.proofs.lemmas.Result.{err_from_is_err_and}
use Rattle.replies.proofs.Written.{HasTaken-next, Writes-stop, Writes-last}
use Rattle.replies.proofs.Fields.{first_field}
use Rattle.replies.proofs.printing.row.print_fields.Goals as goal

pub returns-in_err-print_value-in-len1-up-clause-writes : goal.returns-in_err-print_value-in-len1-up-clause-writes
returns-in_err-print_value-in-len1-up-clause-writes g c =
    let p = err_from_is_err_and c.from_residual.result c.from_residual.ensures.1 in
    Writes-stop _ _ _ _ _ _ _ _ _ _ c.in_err-print_value-in-len1-up.was p.1
    (first_field _ c.args.row.now c.first-item.result c.in-len1-up.len_at_least c.first-item.is) c.print_value.ensures.writes

pub returns-in_ok-print_value-in-len1-up-clause-writes : goal.returns-in_ok-print_value-in-len1-up-clause-writes
returns-in_ok-print_value-in-len1-up-clause-writes g c =
    Writes-last _ _ _ _ _ _
    (HasTaken-next _ _ _ _ _ _ _ _ c.in_ok-print_value-in-len1-up.was
    (first_field _ c.args.row.now c.first-item.result c.in-len1-up.len_at_least c.first-item.is) c.print_value.ensures.writes)
    (rw (take_rest c.args.row.now 1) at c.print_others.ensures.writes)
