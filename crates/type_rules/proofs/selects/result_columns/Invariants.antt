use Rattle.std.proofs.Common.{◌≡◌, map, take}
use Rattle.typing.specs.Select.{column_of}
use Rattle.type_rules.proofs.selects.result_columns.Given as goal

-- the columns so far
abbrev pub invariant-loop-item : goal.invariant-loop-item
invariant-loop-item l = l.columns ≡ map column_of (take l.item-index l.items)
