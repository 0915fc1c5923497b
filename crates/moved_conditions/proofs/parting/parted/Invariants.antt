use Rattle.rules.specs.Columns.{names_only}
use Rattle.tree_columns.specs.Within.{within}
use Rattle.moved_conditions.proofs.Sifted.{Sifted}
use Rattle.moved_conditions.proofs.parting.parted.Given as goal

abbrev pub invariant-loop-condition : goal.invariant-loop-condition
invariant-loop-condition l =
    Sifted (names_only (within l.reach l.width)) l.division.passing l.division.others
    l.condition-iterator.rest.items l.fn.conditions
