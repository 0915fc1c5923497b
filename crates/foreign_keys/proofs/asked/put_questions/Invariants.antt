use Rattle.std.proofs.Common.{◌≡◌, ◌++◌, map, drop}
use Rattle.std.specs.Prelude.{All, Contains}
use Rattle.foreign_keys.specs.Asked.{question_of, questions_of, HasWays}
use Rattle.foreign_keys.proofs.asked.put_questions.Given as goal

-- the foreign keys among the constraints so far
abbrev pub invariant-loop-constraint : goal.invariant-loop-constraint
invariant-loop-constraint l =
    (map question_of l.asked ++ questions_of l.name l.table.name (drop l.constraint-index l.constraint-items)
    ≡ map question_of l.fn.asked ++ questions_of l.name l.table.name l.constraint-items)
    × (Contains l.schema.tables l.table → All (HasWays l.schema) l.fn.asked → All (HasWays l.schema) l.asked)
