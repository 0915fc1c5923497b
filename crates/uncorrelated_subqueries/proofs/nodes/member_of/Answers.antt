use Rattle.std.proofs.Common.{refl}
use Rattle.uncorrelated_subqueries.proofs.nodes.member_of.Goals as goal

pub returns : goal.returns
returns c = λ x y z h g f. rw (c.in_ok-operand.ensures.first x h, c.in_ok-operand.ensures.second y g, c.in_ok-operand.ensures.third z f) refl
