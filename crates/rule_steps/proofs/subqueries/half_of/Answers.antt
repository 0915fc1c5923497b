use Rattle.std.proofs.Common.{◌∙◌, refl}
use Rattle.rules.specs.SubqueryRules.{half}
use Rattle.rule_steps.proofs.subqueries.half_of.Goals as goal

pub returns-in-Ok : goal.returns-in-Ok
returns-in-Ok c = λ condition h. c.half.ensures ∙ (λ i. half c.args.wanted
    (c.in-Ok.ensures.first condition (c.boxed.ensures condition h) i) (c.in-Ok.ensures.second c.args.left refl i)
    (c.in-Ok.ensures.third c.args.right c.new-right.ensures i))
