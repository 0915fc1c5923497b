use Rattle.std.proofs.Common.{◌≡◌, subst, IfOk}
use Rattle.algebra.specs.declared.tree.Tree.{Tree}
use Rattle.algebra.specs.declared.tree.Tree.TheVariants as t
use Rattle.rule_steps.proofs.together.filter_by.Goals as goal

pub returns-in-Ok : goal.returns-in-Ok
returns-in-Ok c = λ test below h k. subst (λ (x : Tree). IfOk c.filter_of.result (λ made. made ≡ x))
    (λ i. t.Filter (c.in-Ok.ensures.first test h i) (c.in-Ok.ensures.second below k i)) c.filter_of.ensures
