use Rattle.std.proofs.Common.{◌≡◌, Ok}
use Rattle.std.proofs.lemmas.Result.{err_from_is_err_and}
use Rattle.type_rules.proofs.FindsLemmas.{Finds-ok}
use Rattle.type_rules.proofs.ConditionParts.{compared_first, compared-parts}
use Rattle.type_rules.proofs.conditions.compared.Goals as goal

pub returns-in_err-x : goal.returns-in_err-x
returns-in_err-x c = λ a b h k.
    let p = err_from_is_err_and c.from_residual.result c.from_residual.ensures.1 in
    rw (p.1, p.2) (compared_first _ c.args.operator a b (rw c.in_err-x.was at h))

pub returns : goal.returns
returns c = λ a b h k.
    let found : a ≡ Ok c.in_ok-x.x = (rw c.in_ok-x.was at h).ok in
    rw (found, compared-parts c.args.operator)
    (c.compare_of.ensures _ (c.both.ensures _ _ (c.boxed.ensures _ (Finds-ok _)) (c.boxed-y.ensures _ (c.of_type.ensures b k))))
