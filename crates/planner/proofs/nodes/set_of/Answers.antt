use Rattle.algebra.specs.declared.tree.Tree.TheVariants as t
use Rattle.planner.specs.Led.{LedBoth}
use Rattle.planner.proofs.Children.{set-left, set-right}
use Rattle.planner.proofs.Walked.{both-led}
use Rattle.planner.proofs.nodes.set_of.Goals as goal

pub returns : goal.returns
returns c = λ calm l r h k.
    let led : LedBoth calm l r c.in_ok-steps.field-0 = rw c.in_ok-steps.was at k in
    both-led calm (λ left right. t.Set c.args.operation left right) (set-left c.args.operation) (set-right c.args.operation) l r c.in_ok-steps.field-0 h led
