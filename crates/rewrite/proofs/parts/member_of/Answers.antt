use Rattle.std.proofs.Common.{◌≡◌}
use Rattle.algebra.specs.declared.tree.Tree.TheVariants as t
use Rattle.rewrite.specs.Visits.{pair}
use Rattle.rewrite.proofs.parts.member_of.Goals as goal

pub returns : goal.returns
returns c = λ a b h m.
    let is : c.in_ok-part.field-0 ≡ pair a b = c.in_ok-part.ensures a b h m in
    λ i. record { part = t.Member (is i).part.1 c.args.negated (is i).part.0.1 (is i).part.0.0; changed = (is i).changed }
