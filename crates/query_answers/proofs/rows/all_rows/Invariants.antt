use Rattle.std.proofs.Common.{◌≡◌, List, [], drop, map}
use Rattle.algebra.specs.declared.tree.Expression.{Expression}
use Rattle.denote.specs.Evaluation.{together}
use Rattle.query_answers.specs.Lent.{rows_lent}
use Rattle.query_answers.specs.Sources.{row_given}
use Rattle.denote.specs.Database.{table_of}
use Rattle.denote.proofs.GivesLemmas.{after}
use Rattle.query_answers.proofs.rows.all_rows.Given as goal

-- the rows so far, and then those that are left
abbrev pub invariant-loop-sources : goal.invariant-loop-sources
invariant-loop-sources l =
    let row = λ (sources : List Expression). row_given (rows_lent l.lent.tables) l.checks (table_of l.table []) l.columns sources in
    after l.added (together (map row (drop l.sources-index l.trees))) ≡ together (map row l.trees)
