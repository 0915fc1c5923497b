use Rattle.std.proofs.Common.{◌≡◌, ◌∙◌, subst, Option, IfOk}
use Rattle.algebra.specs.declared.tree.Bound.{Bound}
use Rattle.join_columns.proofs.Opened.{condition_compare}
use Rattle.range_lookups.specs.Ends.{compared_bound}
use Rattle.range_lookups.proofs.Bounded.{compared-is}
use Rattle.range_lookups.proofs.bounds.bound_in.Goals as goal

pub returns-in-Compare : goal.returns-in-Compare
returns-in-Compare c = rw (c.in-Compare.is, condition_compare)
    (subst (λ (x : Option Bound). IfOk c.compared_bound.result (λ found. found ≡ x))
    ((λ i. compared_bound c.args.end c.args.column c.in-Compare.operator (c.get.ensures i) (c.get-in-Compare.ensures i))
    ∙ compared-is c.args.end c.args.column c.in-Compare.operator c.in-Compare.left c.in-Compare.right)
    c.compared_bound.ensures)
