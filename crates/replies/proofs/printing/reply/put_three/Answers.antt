use Rattle.std.proofs.lemmas.Result.{err_from_is_err_and}
use Rattle.replies.proofs.Written.{HasTaken-none, HasTaken-next, Writes-stop, Writes-last}
use Rattle.replies.proofs.printing.reply.put_three.Goals as goal

pub returns-in_err-put-clause-writes : goal.returns-in_err-put-clause-writes
returns-in_err-put-clause-writes g c =
    let p = err_from_is_err_and c.from_residual.result c.from_residual.ensures.1 in
    Writes-stop _ _ _ _ _ _ _ _ _ _ c.in_err-put.was p.1 (HasTaken-none _ _) c.put.ensures.writes

pub returns-clause-writes : goal.returns-clause-writes
returns-clause-writes g c =
    Writes-last _ _ _ _ _ _ (HasTaken-next _ _ _ _ _ _ _ _ c.in_ok-put.was (HasTaken-none _ _) c.put.ensures.writes) c.put_two.ensures.writes
