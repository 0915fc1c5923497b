use Rattle.std.proofs.lemmas.Result.{err_from_is_err_and}
use Rattle.replies.proofs.Written.{HasTaken-next, Writes-stop, Writes-last}
use Rattle.replies.proofs.Fields.{refusal_parts}
use Rattle.replies.proofs.printing.reply.print_detailed.Goals as goal

pub returns-in_err-put_three-clause-writes : goal.returns-in_err-put_three-clause-writes
returns-in_err-put_three-clause-writes g c =
    let p = err_from_is_err_and c.from_residual.result c.from_residual.ensures.1 in
    Writes-stop _ _ _ _ _ _ _ _ _ _ c.in_err-put_three.was p.1 (refusal_parts _ c.args.code.now c.args.detail.now) c.put_three.ensures.writes

pub returns-clause-writes : goal.returns-clause-writes
returns-clause-writes g c =
    Writes-last _ _ _ _ _ _
    (HasTaken-next _ _ _ _ _ _ _ _ c.in_ok-put_three.was (refusal_parts _ c.args.code.now c.args.detail.now) c.put_three.ensures.writes) c.put_two.ensures.writes
