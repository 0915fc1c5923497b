use Rattle.std.proofs.Common.{◌≡◌}
use Rattle.algebra.specs.declared.tree.Tree.TheVariants as t
use Rattle.rewrite.proofs.parts.sort_of.Goals as goal

pub returns : goal.returns
returns c = λ a h.
    let is : c.in_ok-part.field-0 ≡ a = rw c.in_ok-part.was at h in
    λ i. record { part = t.Sort c.args.keys (is i).part; changed = (is i).changed }
