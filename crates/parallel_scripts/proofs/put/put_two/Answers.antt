use Rattle.std.proofs.lemmas.Result.{err_from_is_err_and}
use Rattle.replies.proofs.Written.{HasTaken-none, HasTaken-next, Writes-stop, Writes-last}
use Rattle.parallel_scripts.proofs.put.put_two.Goals as goal

pub returns-in_err-put : goal.returns-in_err-put
returns-in_err-put g c =
    let p = err_from_is_err_and c.from_residual.result c.from_residual.ensures.1 in
    Writes-stop _ _ _ _ _ _ _ _ _ _ c.in_err-put.was p.1 (HasTaken-none _ _) c.put.ensures

pub returns : goal.returns
returns g c =
    Writes-last _ _ _ _ _ _ (HasTaken-next _ _ _ _ _ _ _ _ c.in_ok-put.was (HasTaken-none _ _) c.put.ensures) c.put-2.ensures
