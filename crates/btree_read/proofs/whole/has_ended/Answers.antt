use Rattle.std.proofs.Common.{◌≡◌, Some, ap}
use Rattle.std.proofs.lemmas.Bool.{eqb-true, eqb-false}
use Rattle.btree_read.proofs.whole.has_ended.Goals as goal

pub returns-in-Some-clause-yes : goal.returns-in-Some-clause-yes
returns-in-Some-clause-yes c = λ e. rw c.in-Some.is (ap Some (eqb-true _ _ e))

pub returns-in-Some-clause-other : goal.returns-in-Some-clause-other
returns-in-Some-clause-other c = λ e n. let same : Some c.in-Some.next ≡ Some 0 = rw c.in-Some.is at n in eqb-false _ _ e (cc)
