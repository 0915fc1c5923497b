use Rattle.std.proofs.Common.{◌≡◌, drop}
use Rattle.constraints.specs.Keys.{by_key}
use Rattle.constraints.proofs.order.compare_keys.Given as goal

-- the columns before this one tie
abbrev pub invariant-loop-column : goal.invariant-loop-column
invariant-loop-column l = by_key (drop l.column-index l.columns) l.one l.other ≡ by_key l.columns l.one l.other
