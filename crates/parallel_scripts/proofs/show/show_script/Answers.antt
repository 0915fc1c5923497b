use Rattle.std.proofs.lemmas.Result.{err_from_is_err_and}
use Rattle.replies.proofs.Written.{HasTaken-none, HasTaken-next, Writes-stop, Writes-last}
use Rattle.parallel_scripts.proofs.show.show_script.Goals as goal

pub returns-in_err-show_number-clause-writes : goal.returns-in_err-show_number-clause-writes
returns-in_err-show_number-clause-writes g c =
    let p = err_from_is_err_and c.from_residual.result c.from_residual.ensures.1 in
    Writes-stop _ _ _ _ _ _ _ _ _ _ c.in_err-show_number.was p.1 (HasTaken-none _ _) c.show_number.ensures

pub returns-clause-writes : goal.returns-clause-writes
returns-clause-writes g c =
    Writes-last _ _ _ _ _ _ (HasTaken-next _ _ _ _ _ _ _ _ c.in_ok-show_number.was (HasTaken-none _ _) c.show_number.ensures) c.show.ensures.writes
