use Rattle.algebra.specs.declared.tree.Tree.TheVariants as t
use Rattle.planner.specs.Led.{LedBoth}
use Rattle.planner.proofs.Children.{product-left, product-right}
use Rattle.planner.proofs.Walked.{both-led}
use Rattle.std.proofs.Common.{refl}
use Rattle.planner.specs.Joins.{OneTable}
use Rattle.planner.proofs.nodes.product_of.Goals as goal

pub returns-clause-led : goal.returns-clause-led
returns-clause-led c = λ calm l r h k.
    let led : LedBoth calm l r c.in_ok-steps.field-0 = rw c.in_ok-steps.was at k in
    both-led calm (λ left right. t.Product left right) product-left product-right l r c.in_ok-steps.field-0 h led

pub returns-clause-tables : goal.returns-clause-tables
returns-clause-tables c = λ one other h.
    let sides = c.in_ok-steps.field-0 in
    let both : OneTable one sides.left × OneTable other sides.right = rw c.in_ok-steps.was at h in
    record { l = sides.left; r = sides.right; is = refl; first = both.0; second = both.1 }
