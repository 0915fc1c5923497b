use Rattle.std.proofs.Common.{◌≡◌, drop}
use Rattle.query_answers.specs.Lent.{rows_lent}
use Rattle.query_answers.proofs.lent.LentTablesTables.rows.Given as goal

abbrev pub invariant-loop-table : goal.invariant-loop-table
invariant-loop-table l = rows_lent (drop l.table-index l.self.tables) l.name ≡ rows_lent l.self.tables l.name
