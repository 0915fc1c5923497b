use Rattle.std.proofs.Common.{◌≡◌, drop}
use Rattle.query_answers.specs.Lent.{is_lent}
use Rattle.query_answers.proofs.lent.is_lent.Given as goal

abbrev pub invariant-loop-table : goal.invariant-loop-table
invariant-loop-table l = is_lent (drop l.table-index l.tables) l.name ≡ is_lent l.tables l.name
