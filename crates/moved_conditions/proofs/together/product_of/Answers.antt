use Rattle.std.proofs.Common.{refl}
use Rattle.moved_conditions.proofs.together.product_of.Goals as goal

pub returns : goal.returns
returns c = rw (c.in_ok-left.ensures.first _ c.new.ensures, c.in_ok-left.ensures.second _ c.new-2.ensures) refl
