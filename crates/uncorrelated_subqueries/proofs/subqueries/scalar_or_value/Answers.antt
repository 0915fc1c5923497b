use Rattle.std.proofs.Common.{refl}
use Rattle.uncorrelated_subqueries.proofs.subqueries.scalar_or_value.Goals as goal

pub returns-in-None : goal.returns-in-None
returns-in-None c = λ v x h k. rw (← c.in_ok-value.ensures.first v h, c.in-None.is, c.in_ok-value.ensures.second x k) refl

pub returns-in-Some : goal.returns-in-Some
returns-in-Some c = λ v x h k. rw (← c.in_ok-value.ensures.first v h, c.in-Some.is) refl
