use Rattle.std.proofs.Common.{◌≡◌, ◌++◌, drop}
use Rattle.query_answers.specs.Sources.{tables_in_row}
use Rattle.update_delete.proofs.trees.names_in_sources.Given as goal

-- the names so far, and those that are left
abbrev pub invariant-loop-source : goal.invariant-loop-source
invariant-loop-source l = l.names ++ tables_in_row (drop l.source-index l.sources) ≡ tables_in_row l.sources
