use Rattle.std.proofs.Common.{refl, ap}
use Rattle.translation.proofs.nodes.set.Goals as goal

pub returns : goal.returns
returns c = λ y g. rw (c.in_ok-left.ensures.first _ (c.boxed.ensures _ refl), c.in_ok-left.ensures.second y (c.boxed-2.ensures y g)) refl
