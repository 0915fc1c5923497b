use Rattle.std.proofs.Common.{◌≡◌, ap}
use Rattle.algebra.specs.declared.tree.Tree.{Tree}
use Rattle.algebra.specs.declared.tree.Tree.TheVariants as t
use Rattle.planner.specs.Led.{LedAt}
use Rattle.planner.proofs.Children.{group-part}
use Rattle.planner.proofs.Walked.{one-led}
use Rattle.planner.proofs.nodes.group_of.Goals as goal

pub returns-clause-led : goal.returns-clause-led
returns-clause-led c = λ calm old h k.
    let led : LedAt 0 calm old c.in_ok-steps.field-0 = rw c.in_ok-steps.was at k in
    one-led calm (t.Group c.args.columns c.args.functions) (group-part c.args.columns c.args.functions) old c.in_ok-steps.field-0 h led

pub returns-clause-tree : goal.returns-clause-tree
returns-clause-tree c = λ x h.
    let came : c.in_ok-steps.field-0.tree ≡ x = rw c.in_ok-steps.was at h in ap (λ (rows : Tree). (t.Group c.args.columns c.args.functions) rows) came
