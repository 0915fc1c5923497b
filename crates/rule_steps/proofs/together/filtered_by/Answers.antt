use Rattle.std.proofs.Common.{◌≡◌, subst, IfOk}
use Rattle.algebra.specs.declared.tree.Tree.{Tree}
use Rattle.rules.specs.Conjuncts.{filtered}
use Rattle.rule_steps.proofs.together.filtered_by.Goals as goal

pub returns-in-Ok : goal.returns-in-Ok
returns-in-Ok c = λ list below h k. subst (λ (x : Tree). IfOk c.filtered.result (λ made. made ≡ x))
    (λ i. filtered (c.in-Ok.ensures.first list h i) (c.in-Ok.ensures.second below k i)) c.filtered.ensures
