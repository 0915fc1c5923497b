use Rattle.std.proofs.Common.{◌≡◌, map, take}
use Rattle.algebra.specs.Described.{described_in}
use Rattle.algebra.specs.Translated.{tree_of_expression}
use Rattle.query_answers.proofs.sources.row_trees.Given as goal

-- the trees so far
abbrev pub invariant-loop-source : goal.invariant-loop-source
invariant-loop-source l = l.trees ≡ map (tree_of_expression (described_in l.schema)) (take l.source-index l.sources)
