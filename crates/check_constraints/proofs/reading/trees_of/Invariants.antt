use Rattle.std.proofs.Common.{◌≡◌, map, take}
use Rattle.algebra.specs.Described.{described_in}
use Rattle.algebra.specs.Translated.{tree_of_condition}
use Rattle.check_constraints.proofs.reading.trees_of.Given as goal

abbrev pub invariant-loop-condition : goal.invariant-loop-condition
invariant-loop-condition l = l.trees ≡ map (tree_of_condition (described_in l.schema)) (take l.condition-index l.conditions)
