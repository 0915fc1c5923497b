use Rattle.std.proofs.Common.{◌≡◌, take}
use Rattle.uncorrelated_subqueries.proofs.tables.copied_indexes.Given as goal

abbrev pub invariant-loop-columns : goal.invariant-loop-columns
invariant-loop-columns l = l.copied ≡ take l.columns-index l.columns-items
