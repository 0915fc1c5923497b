use Rattle.std.proofs.Common.{◌≡◌, map, drop}
use Rattle.std.specs.List.{position_from}
use Rattle.algebra.specs.OrderKeys.{column_of, is_column}
use Rattle.rule_steps.proofs.orders.place_of.Given as goal

-- no item before this one is the column
abbrev pub invariant-loop-item : goal.invariant-loop-item
invariant-loop-item l =
    (l.place ≡ l.item-index) × (position_from (is_column l.column) l.place (map column_of (drop l.item-index l.items))
    ≡ position_from (is_column l.column) 0 (map column_of l.items))
