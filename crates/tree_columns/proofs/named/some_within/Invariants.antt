use Rattle.std.proofs.Common.{◌≡◌, drop}
use Rattle.std.specs.List.{list_any}
use Rattle.rules.specs.Columns.{names_only}
use Rattle.tree_columns.specs.Within.{within}
use Rattle.tree_columns.proofs.named.some_within.Given as goal

-- no condition before this one names these columns alone
abbrev pub invariant-loop-condition : goal.invariant-loop-condition
invariant-loop-condition l =
    list_any (names_only (within l.reach l.width)) (drop l.condition-index l.conditions)
    ≡ list_any (names_only (within l.reach l.width)) l.conditions
