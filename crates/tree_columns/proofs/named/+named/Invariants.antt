use Rattle.std.proofs.Common.{◌≡◌, map, drop}
use Rattle.std.specs.List.{list_all}
use Rattle.algebra.specs.Raising.{itself}
use Rattle.rules.specs.Columns.{names_only}
use Rattle.tree_columns.specs.Within.{within}
use Rattle.tree_columns.proofs.named.+named.Given as goal

-- the operands before this one all name these columns alone
abbrev pub invariant-all_name_within-loop-operand : goal.invariant-all_name_within-loop-operand
invariant-all_name_within-loop-operand l =
    list_all itself (map (names_only (within l.reach l.width)) (drop l.operand-index l.operands))
    ≡ list_all itself (map (names_only (within l.reach l.width)) l.operands)
