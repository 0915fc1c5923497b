use Rattle.std.proofs.Common.{refl}
use Rattle.uncorrelated_subqueries.proofs.nodes.filter_of.Goals as goal

pub returns : goal.returns
returns c = λ x y h g. rw (c.in_ok-condition.ensures.first x h, c.in_ok-condition.ensures.second y g) refl
