use Rattle.std.proofs.lemmas.Result.{err_from_is_err_and}
use Rattle.type_rules.proofs.FindsLemmas.{then-err, then-ok}
use Rattle.change_types.proofs.inserts.of_query.Goals as goal

pub returns-in_err-targets : goal.returns-in_err-targets
returns-in_err-targets c = λ x h.
    let p = err_from_is_err_and c.from_residual.result c.from_residual.ensures.1 in
    rw (p.1, p.2) (then-err c.args.parts _ x _ c.in_err-targets.was h)

pub returns : goal.returns
returns c = λ x h. then-ok c.args.parts _ _ x _ c.in_ok-targets.was h (c.agreed_on.ensures _ (rw (c.as_slice.ensures, c.as_slice-2.ensures) at c.agreeing-agreed.ensures))
