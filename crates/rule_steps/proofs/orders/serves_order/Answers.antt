use Rattle.std.proofs.Common.{◌∙◌}
use Rattle.rule_steps.proofs.Looking.{order-told}
use Rattle.rule_steps.proofs.orders.serves_order.Goals as goal

pub returns : goal.returns
returns c = c.has_order.ensures ∙ order-told c.args.keys.now c.args.items.now c.args.table.now c.args.table.now.indexes
