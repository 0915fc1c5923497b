use Rattle.std.proofs.Common.{◌∙◌}
use Rattle.btree_remove.proofs.PageSteps.{leaf_link}
use Rattle.btree_remove.proofs.leaf.next_leaf.Goals as goal

pub returns-clause-next : goal.returns-clause-next
returns-clause-next g c = λ next es h. c.link.ensures ∙ leaf_link _ _ _ next es c.in_ok-leaf.ensures.node h
