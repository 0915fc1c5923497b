use Rattle.std.proofs.Common.{◌≡◌, ◌++◌, map, drop}
use Rattle.std.specs.Prelude.{All}
use Rattle.foreign_keys.specs.Asked.{question_of, HasWays}
use Rattle.foreign_keys.proofs.Asking.{questions_over}
use Rattle.foreign_keys.proofs.asked.asked_of.Given as goal

-- the foreign keys of the tables so far
abbrev pub invariant-loop-table : goal.invariant-loop-table
invariant-loop-table l =
    (map question_of l.asked ++ questions_over l.name (drop l.table-index l.table-items) ≡ questions_over l.name l.table-items)
    × All (HasWays l.schema) l.asked
