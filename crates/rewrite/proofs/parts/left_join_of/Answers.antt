use Rattle.std.proofs.Common.{◌≡◌}
use Rattle.algebra.specs.declared.tree.Tree.TheVariants as t
use Rattle.rewrite.specs.Visits.{pair}
use Rattle.rewrite.proofs.parts.left_join_of.Goals as goal

pub returns : goal.returns
returns c = λ a b h m.
    let is : c.in_ok-part.field-0 ≡ pair a b = c.in_ok-part.ensures a b h m in
    λ i. record { part = t.Left (is i).part.1 (is i).part.0.0 (is i).part.0.1 c.args.width; changed = (is i).changed }
