use Rattle.std.proofs.Common.{◌≡◌, map, take}
use Rattle.algebra.specs.Described.{described_in}
use Rattle.algebra.specs.Translated.{tree_of_expression}
use Rattle.update_delete.proofs.trees.sources_of.Given as goal

abbrev pub invariant-loop-assignment : goal.invariant-loop-assignment
invariant-loop-assignment l = l.sources ≡ map (λ a. tree_of_expression (described_in l.schema) a.source) (take l.assignment-index l.assignments)
