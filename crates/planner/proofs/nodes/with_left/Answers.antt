use Rattle.std.proofs.Common.{refl}
use Rattle.planner.proofs.nodes.with_left.Goals as goal

pub returns : goal.returns
returns c = rw c.in_ok-steps.was refl
