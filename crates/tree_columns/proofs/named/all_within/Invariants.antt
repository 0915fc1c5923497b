use Rattle.std.proofs.Common.{◌≡◌, drop}
use Rattle.std.specs.List.{list_all}
use Rattle.rules.specs.Columns.{names_only}
use Rattle.tree_columns.specs.Within.{within}
use Rattle.tree_columns.proofs.named.all_within.Given as goal

-- the conditions before this one all name these columns alone
abbrev pub invariant-loop-condition : goal.invariant-loop-condition
invariant-loop-condition l =
    list_all (names_only (within l.reach l.width)) (drop l.condition-index l.conditions)
    ≡ list_all (names_only (within l.reach l.width)) l.conditions
