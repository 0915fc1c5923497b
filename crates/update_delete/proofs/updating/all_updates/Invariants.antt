use Rattle.std.proofs.Common.{◌≡◌, [], drop, map}
use Rattle.denote.specs.Database.{table_of}
use Rattle.denote.specs.Evaluation.{together}
use Rattle.denote.proofs.GivesLemmas.{after}
use Rattle.query_answers.specs.Lent.{rows_lent}
use Rattle.update_delete.specs.Given.{update_given}
use Rattle.update_delete.proofs.updating.all_updates.Given as goal

-- the changes so far, and then those of the rows that are left
abbrev pub invariant-loop-row : goal.invariant-loop-row
invariant-loop-row l =
    let change = update_given (rows_lent l.lent.tables) l.checks (table_of l.table []) l.update in
    after l.changes (together (map change (drop l.row-index l.rows))) ≡ together (map change l.rows)
