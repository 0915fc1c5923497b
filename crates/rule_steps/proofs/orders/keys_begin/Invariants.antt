use Rattle.std.proofs.Common.{◌≡◌, map, drop}
use Rattle.algebra.specs.OrderKeys.{column_of, handed_on}
use Rattle.algebra.specs.Sorted.{ascending}
use Rattle.rules.specs.OrderRules.{keys_begin}
use Rattle.rule_steps.proofs.orders.keys_begin.Given as goal

-- the keys before this one are those of the columns before
abbrev pub invariant-loop-key : goal.invariant-loop-key
invariant-loop-key l =
    keys_begin (drop l.key-index l.keys) (handed_on (map column_of l.items) (ascending l.columns))
    ≡ keys_begin l.keys (handed_on (map column_of l.items) (ascending l.fn.columns))
