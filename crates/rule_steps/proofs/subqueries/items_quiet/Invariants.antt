use Rattle.std.proofs.Common.{◌≡◌, drop}
use Rattle.std.specs.List.{list_all}
use Rattle.rules.specs.SubqueryRules.{quiet_item}
use Rattle.rule_steps.proofs.subqueries.items_quiet.Given as goal

-- the items before this one are quiet
abbrev pub invariant-loop-item : goal.invariant-loop-item
invariant-loop-item l =
    list_all quiet_item (drop l.item-index l.items) ≡ list_all quiet_item l.items
