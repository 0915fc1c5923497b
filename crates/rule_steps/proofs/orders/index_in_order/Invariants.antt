use Rattle.std.proofs.Common.{◌≡◌, drop}
use Rattle.rules.specs.Nodes.{first_found}
use Rattle.rule_steps.specs.Found.{order_by}
use Rattle.rule_steps.proofs.orders.index_in_order.Given as goal

-- no index before this one serves
abbrev pub invariant-loop-columns : goal.invariant-loop-columns
invariant-loop-columns l =
    first_found (order_by l.keys l.items) (drop l.columns-index l.indexes) ≡ first_found (order_by l.keys l.items) l.indexes
