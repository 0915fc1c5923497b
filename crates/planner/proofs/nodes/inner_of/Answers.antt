use Rattle.algebra.specs.declared.tree.Tree.TheVariants as t
use Rattle.planner.specs.Led.{LedBoth}
use Rattle.planner.proofs.Children.{inner-left, inner-right}
use Rattle.planner.proofs.Walked.{both-led}
use Rattle.planner.proofs.nodes.inner_of.Goals as goal

pub returns : goal.returns
returns c = λ calm l r h k.
    let led : LedBoth calm l r c.in_ok-steps.field-0 = rw c.in_ok-steps.was at k in
    both-led calm (λ left right. t.Inner c.args.on left right) (inner-left c.args.on) (inner-right c.args.on) l r c.in_ok-steps.field-0 h led
