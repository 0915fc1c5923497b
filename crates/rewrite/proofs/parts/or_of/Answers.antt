use Rattle.std.proofs.Common.{◌≡◌}
use Rattle.algebra.specs.declared.tree.Condition.TheVariants as k
use Rattle.rewrite.proofs.parts.or_of.Goals as goal

pub returns : goal.returns
returns c = λ a h.
    let is : c.in_ok-part.field-0 ≡ a = rw c.in_ok-part.was at h in
    λ i. record { part = k.Or (is i).part; changed = (is i).changed }
