use Rattle.std.proofs.Common.{refl, ap}
use Rattle.translation.proofs.nodes.project.Goals as goal

pub returns : goal.returns
returns c = λ es x h g. rw (c.in_ok-items.ensures.first es h, c.in_ok-items.ensures.second x (c.boxed.ensures x g)) refl
