use Rattle.std.proofs.lemmas.Result.{err_from_is_err_and}
use Rattle.type_rules.proofs.FindsLemmas.{then-err, then-ok}
use Rattle.table_types.proofs.references.foreign_key.Goals as goal

pub returns-in_err-own : goal.returns-in_err-own
returns-in_err-own c = λ x h.
    let p = err_from_is_err_and c.from_residual.result c.from_residual.ensures.1 in
    rw (p.1, p.2) (then-err c.args.parts _ x _ c.in_err-own.was h)

pub returns : goal.returns
returns c = λ x h.
    then-ok c.args.parts _ _ x _ c.in_ok-own.was h (c.rule_made.ensures _ (rw (c.as_slice.ensures, c.as_slice-2.ensures) at c.matched-found.ensures))
