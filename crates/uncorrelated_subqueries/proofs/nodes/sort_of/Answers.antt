use Rattle.std.proofs.Common.{refl}
use Rattle.uncorrelated_subqueries.proofs.nodes.sort_of.Goals as goal

pub returns : goal.returns
returns c = λ x y h g. rw (c.in_ok-keys.ensures.first x h, c.in_ok-keys.ensures.second y g) refl
