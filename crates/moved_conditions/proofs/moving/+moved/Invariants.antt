use Rattle.std.proofs.Common.{◌≡◌, map, take}
use Rattle.rules.specs.Columns.{moved}
use Rattle.moved_conditions.specs.Shifted.{shifted}
use Rattle.moved_conditions.proofs.moving.+moved.Given as goal

abbrev pub invariant-moved_all-loop-condition : goal.invariant-moved_all-loop-condition
invariant-moved_all-loop-condition l =
    l.made ≡ map (moved (shifted l.shift l.width)) (take l.condition-index l.condition-items)
