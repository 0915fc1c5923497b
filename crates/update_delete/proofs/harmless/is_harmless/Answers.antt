use Rattle.update_delete.proofs.harmless.is_harmless.Goals as goal

pub returns-in-Stays-clause-sure : goal.returns-in-Stays-clause-sure
returns-in-Stays-clause-sure g c = λ reading name whole decides sure. rw c.in-Stays.is tt

pub returns-in-Goes-clause-sure : goal.returns-in-Goes-clause-sure
returns-in-Goes-clause-sure g c = λ reading name whole decides sure. rw c.in-Goes.is tt

pub returns-in-Becomes-clause-sure : goal.returns-in-Becomes-clause-sure
returns-in-Becomes-clause-sure g c = rw c.in-Becomes.is c.may_replace.ensures.sure
