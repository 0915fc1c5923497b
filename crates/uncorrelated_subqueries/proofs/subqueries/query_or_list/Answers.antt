use Rattle.std.proofs.Common.{refl}
use Rattle.uncorrelated_subqueries.proofs.subqueries.query_or_list.Goals as goal

pub returns-in-None : goal.returns-in-None
returns-in-None c = λ vs x y h k m. rw (← c.in_ok-values.ensures.first vs h, c.in-None.is, c.in_ok-values.ensures.second x k, c.in_ok-values.ensures.third y m) refl

pub returns-in-Some : goal.returns-in-Some
returns-in-Some c = λ vs x y h k m. rw (← c.in_ok-values.ensures.first vs h, c.in-Some.is, c.in_ok-values.ensures.second x k) refl
