use Rattle.std.proofs.Common.{refl, ap}
use Rattle.algebra.specs.declared.tree.Tree.TheVariants as t
use Rattle.translation.proofs.nodes.distinct.Goals as goal

pub returns : goal.returns
returns c = λ x h. ap t.Distinct (c.in_ok-boxed.ensures x h)
