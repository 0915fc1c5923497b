use Rattle.std.proofs.Common.{◌≡◌, Ok}
use Rattle.std.proofs.lemmas.Result.{err_from_is_err_and}
use Rattle.type_rules.proofs.FindsLemmas.{Finds-ok, Finds-then_err}
use Rattle.type_rules.proofs.ConditionParts.{in_list-parts}
use Rattle.type_rules.proofs.conditions.in_list.Goals as goal

pub returns-in_err-x : goal.returns-in_err-x
returns-in_err-x c = λ a h.
    let p = err_from_is_err_and c.from_residual.result c.from_residual.ensures.1 in
    rw (p.1, p.2) (Finds-then_err _ a _ (rw c.in_err-x.was at h))

pub returns : goal.returns
returns c = λ a h.
    let found : a ≡ Ok c.in_ok-x.x = (rw c.in_ok-x.was at h).ok in
    rw (found, in_list-parts c.args.is_negated _ c.args.literals.now)
    (c.list_of.ensures _ (c.both.ensures _ _ (c.boxed.ensures _ (Finds-ok _)) c.literals_of-values.ensures))
