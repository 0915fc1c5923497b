use Rattle.std.proofs.Common.{◌≡◌, ◌∙◌, ap, sym}
use Rattle.rules.specs.Applied.{here}
use Rattle.rules.specs.declared.rule.Rule.{Rule}
use Rattle.rule_steps.proofs.attempt.used.Goals as goal

pub returns-in-FilterBelowProduct : goal.returns-in-FilterBelowProduct
returns-in-FilterBelowProduct c = λ calm new e. c.go_below.ensures calm new
    (ap (λ (rule : Rule). here calm rule c.args.tree) (sym c.in-FilterBelowProduct.is) ∙ e)

pub returns-in-FilterLeftOfLeftJoin : goal.returns-in-FilterLeftOfLeftJoin
returns-in-FilterLeftOfLeftJoin c = λ calm new e. c.go_left.ensures calm new
    (ap (λ (rule : Rule). here calm rule c.args.tree) (sym c.in-FilterLeftOfLeftJoin.is) ∙ e)
