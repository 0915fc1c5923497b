use Rattle.std.proofs.Common.{refl, ap}
use Rattle.translation.proofs.nodes.left_join.Goals as goal

pub returns : goal.returns
returns c = λ k x y h g f. rw (c.in_ok-on.ensures.first k (c.boxed.ensures k h), c.in_ok-on.ensures.second x (c.boxed-2.ensures x g), c.in_ok-on.ensures.third y (c.boxed-3.ensures y f)) refl
