use Rattle.std.proofs.Common.{refl}
use Rattle.uncorrelated_subqueries.proofs.nodes.product_of.Goals as goal

pub returns : goal.returns
returns c = λ x y h g. rw (c.in_ok-left.ensures.first x h, c.in_ok-left.ensures.second y g) refl
