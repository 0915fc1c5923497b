use Rattle.std.proofs.Common.{refl, ap}
use Rattle.translation.proofs.nodes.filter.Goals as goal

pub returns : goal.returns
returns c = λ k x h g. rw (c.in_ok-condition.ensures.first k (c.boxed.ensures k h), c.in_ok-condition.ensures.second x (c.boxed-2.ensures x g)) refl
