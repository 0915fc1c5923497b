use Rattle.std.proofs.Common.{◌≡◌, ◌++◌, drop}
use Rattle.query_answers.specs.Sources.{tables_in_rows}
use Rattle.query_answers.proofs.sources.names_in_rows.Given as goal

-- the names so far, and those that are left
abbrev pub invariant-loop-sources : goal.invariant-loop-sources
invariant-loop-sources l = l.names ++ tables_in_rows (drop l.sources-index l.rows) ≡ tables_in_rows l.rows
