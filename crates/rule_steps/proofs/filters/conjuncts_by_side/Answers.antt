use Rattle.std.proofs.Common.{◌≡◌, ◌∙◌, sym, subst, ℕ, Some, IfOk}
use Rattle.rules.specs.FilterRules.{of_both, on_right, right_of}
use Rattle.rule_steps.proofs.Chosen.{some-is}
use Rattle.rule_steps.proofs.filters.conjuncts_by_side.Goals as goal

pub returns-in-Ok-Some-clause-right : goal.returns-in-Ok-Some-clause-right
returns-in-Ok-Some-clause-right c = λ w conditions h k.
    let wide : c.in-Ok-Some.field-0 ≡ Some w = rw c.in-Ok-Some.is at h in
    let found : c.in-Ok-Some.field-0 ≡ Some c.in-Ok-Some.width = rw c.in-Ok-Some.is at c.in-Ok-Some.field-0-is in
    let same : c.in-Ok-Some.width ≡ w = some-is (sym found ∙ wide) in
    subst (λ (v : ℕ). IfOk c.sides_at.result (λ sides. sides.right ≡ on_right v (right_of v conditions))) same
    (c.sides_at.ensures.right conditions k)

pub returns-in-Ok-Some-clause-both : goal.returns-in-Ok-Some-clause-both
returns-in-Ok-Some-clause-both c = λ w conditions h k.
    let wide : c.in-Ok-Some.field-0 ≡ Some w = rw c.in-Ok-Some.is at h in
    let found : c.in-Ok-Some.field-0 ≡ Some c.in-Ok-Some.width = rw c.in-Ok-Some.is at c.in-Ok-Some.field-0-is in
    let same : c.in-Ok-Some.width ≡ w = some-is (sym found ∙ wide) in
    subst (λ (v : ℕ). IfOk c.sides_at.result (λ sides. sides.both ≡ of_both v conditions)) same
    (c.sides_at.ensures.both conditions k)
