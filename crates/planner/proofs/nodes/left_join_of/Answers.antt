use Rattle.algebra.specs.declared.tree.Tree.TheVariants as t
use Rattle.planner.specs.Led.{LedBoth}
use Rattle.planner.proofs.Children.{left_join-left, left_join-right}
use Rattle.planner.proofs.Walked.{both-led}
use Rattle.planner.proofs.nodes.left_join_of.Goals as goal

pub returns : goal.returns
returns c = λ calm l r h k.
    let led : LedBoth calm l r c.in_ok-steps.field-0 = rw c.in_ok-steps.was at k in
    both-led calm (λ left right. t.Left c.args.on left right c.args.width) (left_join-left c.args.on c.args.width) (left_join-right c.args.on c.args.width) l r c.in_ok-steps.field-0 h led
