use Rattle.std.proofs.Common.{map, take}
use Rattle.algebra.specs.Described.{described_in}
use Rattle.algebra.specs.Translated.{tree_of_expression}
use Rattle.operator_laws.specs.Same.{Each}
use Rattle.rules.specs.Same.{KeepsExpression}
use Rattle.query_answers.proofs.sources.planned_rows.Given as goal

-- the trees so far may stand for those of the rows so far
abbrev pub invariant-loop-row : goal.invariant-loop-row
invariant-loop-row l = Each (Each KeepsExpression) l.trees (map (map (tree_of_expression (described_in l.schema))) (take l.row-index l.rows))
