use Rattle.std.proofs.Common.{refl}
use Rattle.moved_conditions.proofs.together.inner_of.Goals as goal

pub returns : goal.returns
returns c = rw (
  c.in_ok-on.ensures.first _ c.new-on.ensures,
  c.in_ok-on.ensures.second _ c.new-left.ensures,
  c.in_ok-on.ensures.third _ c.new.ensures,
) refl
