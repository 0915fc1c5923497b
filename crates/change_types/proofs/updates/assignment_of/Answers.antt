use Rattle.std.proofs.lemmas.Result.{err_from_is_err_and}
use Rattle.type_rules.proofs.FindsLemmas.{Finds-ok, then-err, then-ok}
use Rattle.change_types.proofs.updates.assignment_of.Goals as goal

pub returns-in_err-column : goal.returns-in_err-column
returns-in_err-column c = λ x h.
    let p = err_from_is_err_and c.from_residual.result c.from_residual.ensures.1 in
    rw (p.1, p.2) (then-err c.args.parts _ x _ c.in_err-column.was h)

pub returns : goal.returns
returns c = λ x h. then-ok c.args.parts _ _ x _ c.in_ok-column.was h (c.assigned.ensures _ (c.stored.ensures _ (Finds-ok _)))
