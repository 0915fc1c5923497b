use Rattle.std.proofs.Common.{◌≡◌, subst, IfOk}
use Rattle.algebra.specs.declared.tree.Tree.{Tree}
use Rattle.rules.specs.Conjuncts.{joined}
use Rattle.rule_steps.proofs.together.joined_by.Goals as goal

pub returns-in-Ok : goal.returns-in-Ok
returns-in-Ok c = λ list one other h k l. subst (λ (x : Tree). IfOk c.joined.result (λ made. made ≡ x))
    (λ i. joined (c.in-Ok.ensures.first list h i) (c.in-Ok.ensures.second one k i) (c.in-Ok.ensures.third other l i))
    c.joined.ensures
