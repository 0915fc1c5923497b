use Rattle.std.proofs.Common.{◌≡◌, ◌∙◌, ap, sym, List}
use Rattle.std.specs.Option.{option_map}
use Rattle.algebra.specs.declared.tree.Tree.TheVariants as t
use Rattle.rules.specs.Nodes.{first_found}
use Rattle.rules.specs.OrderRules.{sort_to_range}
use Rattle.rule_steps.specs.Found.{order_by}
use Rattle.rule_steps.proofs.Chosen.{at-node}
use Rattle.rule_steps.proofs.Looking.{order-is, ordered_rows}
use Rattle.rule_steps.proofs.Opening.{order-opened}
use Rattle.typing.specs.declared.typed.OrderKey.{OrderKey}
use Rattle.rule_steps.proofs.orders.go_in_order.Goals as goal

pub returns-in-Scan : goal.returns-in-Scan
returns-in-Scan c = λ new e.
    let keys = c.in-Sort.keys in
    let items = c.in-Project.items in
    let table = c.in-Scan.table in
    let node : c.args.tree ≡ t.Sort keys (t.Project items (t.Scan table)) = c.in-Sort.is
    ∙ ap (t.Sort keys) (sym c.into_inner.ensures ∙ c.in-Project.is
    ∙ ap (t.Project items) (sym c.into_inner-in-Project.ensures ∙ c.in-Scan.is)) in
    c.in_order.ensures new
    (ap (λ (k : List OrderKey). option_map (ordered_rows items table) (first_found (order_by k items) table.indexes)) c.as_slice.ensures
    ∙ order-is keys items table table.indexes
    ∙ order-opened keys items table new (at-node sort_to_range c.args.tree (t.Sort keys (t.Project items (t.Scan table))) new node e))
