use Rattle.std.proofs.Common.{refl}
use Rattle.uncorrelated_subqueries.proofs.subqueries.exists_or_truth.Goals as goal

pub returns-in-None : goal.returns-in-None
returns-in-None c = λ t x h k. rw (← c.in_ok-truth.ensures.first t h, c.in-None.is, c.in_ok-truth.ensures.second x k) refl

pub returns-in-Some : goal.returns-in-Some
returns-in-Some c = λ t x h k. rw (← c.in_ok-truth.ensures.first t h, c.in-Some.is) c.constant_truth.ensures
