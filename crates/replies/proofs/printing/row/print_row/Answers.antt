use Rattle.std.proofs.Common.{◌∷◌, []}
use Rattle.std.proofs.lemmas.Result.{err_from_is_err_and}
use Rattle.replies.proofs.Written.{HasTaken-none, HasTaken-next, Writes-stop, Writes-last}
use Rattle.replies.proofs.printing.row.print_row.Goals as goal

pub returns-in_err-print_fields-clause-writes : goal.returns-in_err-print_fields-clause-writes
returns-in_err-print_fields-clause-writes g c =
    let p = err_from_is_err_and c.from_residual.result c.from_residual.ensures.1 in
    Writes-stop _ _ _ _ _ (10 ∷ []) _ _ _ _ c.in_err-print_fields.was p.1 (HasTaken-none _ _) (rw c.as_slice.ensures at c.print_fields.ensures.writes)

pub returns-clause-writes : goal.returns-clause-writes
returns-clause-writes g c =
    Writes-last _ _ _ _ _ _ (HasTaken-next _ _ _ _ _ (10 ∷ []) _ _ c.in_ok-print_fields.was (HasTaken-none _ _) (rw c.as_slice.ensures at c.print_fields.ensures.writes)) c.put.ensures.writes
