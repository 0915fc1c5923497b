use Rattle.std.proofs.Common.{◌≡◌}
use Rattle.algebra.specs.declared.tree.SetFunction.TheVariants as f
use Rattle.rewrite.proofs.parts.over_of.Goals as goal

pub returns : goal.returns
returns c = λ a h.
    let is : c.in_ok-part.field-0 ≡ a = rw c.in_ok-part.was at h in
    λ i. record { part = f.Over c.args.function c.args.distinct (is i).part; changed = (is i).changed }
