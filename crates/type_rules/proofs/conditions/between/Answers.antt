use Rattle.std.proofs.Common.{◌≡◌, Ok}
use Rattle.std.proofs.lemmas.Result.{err_from_is_err_and}
use Rattle.type_rules.proofs.FindsLemmas.{Finds-ok}
use Rattle.type_rules.proofs.ConditionParts.{between_first, between-parts}
use Rattle.type_rules.proofs.conditions.between.Goals as goal

pub returns-in_err-x : goal.returns-in_err-x
returns-in_err-x c = λ a b d h k m.
    let p = err_from_is_err_and c.from_residual.result c.from_residual.ensures.1 in
    rw (p.1, p.2) (between_first _ c.args.is_negated a b d (rw c.in_err-x.was at h))

pub returns : goal.returns
returns c = λ a b d h k m.
    let found : a ≡ Ok c.in_ok-x.x = (rw c.in_ok-x.was at h).ok in
    rw (found, between-parts c.args.is_negated)
    (c.between_of.ensures _ (c.both-2.ensures _ _ (c.boxed.ensures _ (Finds-ok _))
    (c.both.ensures _ _ (c.boxed-low.ensures _ (c.of_type.ensures b k)) (c.boxed-high.ensures _ (c.of_type-2.ensures d m)))))
