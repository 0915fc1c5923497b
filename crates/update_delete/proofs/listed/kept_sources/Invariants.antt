use Rattle.std.proofs.Common.{◌≡◌, map, take}
use Rattle.uncorrelated_subqueries.specs.Kept.{kept_expression}
use Rattle.query_answers.specs.Lent.{rows_lent}
use Rattle.update_delete.proofs.listed.kept_sources.Given as goal

abbrev pub invariant-loop-source : goal.invariant-loop-source
invariant-loop-source l = l.made ≡ map (kept_expression (rows_lent l.lent.tables)) (take l.source-index l.sources)
