use Rattle.std.proofs.lemmas.Bool.{eqb-true, eqb-false}
use Rattle.btree_read.proofs.leaf.is_named.Goals as goal

pub returns-in-Some-clause-yes : goal.returns-in-Some-clause-yes
returns-in-Some-clause-yes c = λ e. rw c.in-Some.is (eqb-true _ _ e)

pub returns-in-Some-clause-other : goal.returns-in-Some-clause-other
returns-in-Some-clause-other c = λ e n. eqb-false _ _ e (rw c.in-Some.is at n)
