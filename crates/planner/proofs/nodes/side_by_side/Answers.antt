use Rattle.planner.specs.Joins.{OneTable}
use Rattle.planner.specs.Led.{LedAt}
use Rattle.planner.proofs.Parts.{sides-came, sides-lead, sides-of}
use Rattle.planner.proofs.nodes.side_by_side.Goals as goal

pub returns-clause-led : goal.returns-clause-led
returns-clause-led c = λ calm l r h k.
    let left = c.in_ok-steps.field-0 in
    let first : LedAt 0 calm l left = rw c.in_ok-steps.was at h in
    sides-lead calm l r left c.args.right c.with_left.result
    (sides-came c.args.right c.behind.result c.with_left.result left c.behind.ensures c.with_left.ensures) first k

pub returns-clause-tables : goal.returns-clause-tables
returns-clause-tables c = λ one other h k.
    let left = c.in_ok-steps.field-0 in
    let first : OneTable one left.tree = rw c.in_ok-steps.was at h in
    sides-of one other left c.args.right c.with_left.result
    (sides-came c.args.right c.behind.result c.with_left.result left c.behind.ensures c.with_left.ensures) first k
