use Rattle.std.proofs.Common.{◌≡◌, drop}
use Rattle.rules.specs.OrderRules.{is_item}
use Rattle.rule_steps.proofs.orders.is_item.Given as goal

-- no item before this one is the column
abbrev pub invariant-loop-item : goal.invariant-loop-item
invariant-loop-item l =
    is_item (drop l.item-index l.items) l.column ≡ is_item l.items l.column
