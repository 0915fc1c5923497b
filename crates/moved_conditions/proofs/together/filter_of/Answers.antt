use Rattle.std.proofs.Common.{refl}
use Rattle.moved_conditions.proofs.together.filter_of.Goals as goal

pub returns : goal.returns
returns c = rw (c.in_ok-condition.ensures.first _ c.new.ensures, c.in_ok-condition.ensures.second _ c.new-2.ensures) refl
