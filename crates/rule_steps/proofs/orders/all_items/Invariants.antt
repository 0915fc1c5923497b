use Rattle.std.proofs.Common.{◌≡◌, drop}
use Rattle.std.specs.List.{list_all}
use Rattle.rules.specs.OrderRules.{is_item}
use Rattle.rule_steps.proofs.orders.all_items.Given as goal

-- the columns before this one are items
abbrev pub invariant-loop-column : goal.invariant-loop-column
invariant-loop-column l =
    list_all (is_item l.items) (drop l.column-index l.columns) ≡ list_all (is_item l.items) l.columns
