use Rattle.std.proofs.Common.{rules}
use Rattle.std.proofs.lemmas.Result.{err_from_is_err_and}
use Rattle.replies.proofs.Written.{HasTaken-next, Writes-stop}
use Rattle.replies.proofs.Fields.{next_field}
use Rattle.replies.proofs.printing.row.print_others.Goals as goal

pub returns-in_err-print_other-clause-writes : goal.returns-in_err-print_other-clause-writes
returns-in_err-print_other-clause-writes g c =
    let p = err_from_is_err_and c.from_residual.result c.from_residual.ensures.1 in
    Writes-stop _ _ _ _ _ _ _ _ _ _ c.in_err-print_other.was p.1
    (next_field _ _ _ c.args.values.now c.value-item.result c.loop-value.value-index (search rules) c.value-item.is c.loop-value.invariant)
    c.print_other.ensures.writes

pub loop-value-preserved : goal.loop-value-preserved
loop-value-preserved g c =
    HasTaken-next _ _ _ _ _ _ _ _ c.in_ok-print_other.was
    (next_field _ _ _ c.args.values.now c.value-item.result c.loop-value.value-index (search rules) c.value-item.is c.loop-value.invariant)
    c.print_other.ensures.writes
