use Rattle.std.proofs.Common.{refl}
use Rattle.uncorrelated_subqueries.proofs.nodes.group_of.Goals as goal

pub returns : goal.returns
returns c = λ x y z h g f. rw (c.in_ok-columns.ensures.first x h, c.in_ok-columns.ensures.second y g, c.in_ok-columns.ensures.third z f) refl
