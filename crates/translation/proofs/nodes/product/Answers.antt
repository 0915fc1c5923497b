use Rattle.std.proofs.Common.{refl, ap}
use Rattle.translation.proofs.nodes.product.Goals as goal

pub returns : goal.returns
returns c = λ x y h g. rw (c.in_ok-left.ensures.first x (c.boxed.ensures x h), c.in_ok-left.ensures.second y (c.boxed-2.ensures y g)) refl
