use Rattle.std.proofs.Common.{◌≡◌, drop}
use Rattle.std.specs.List.{list_any}
use Rattle.sqlval.specs.Matching.{matches}
use Rattle.foreign_keys.proofs.keys.has_match.Given as goal

abbrev pub invariant-loop-row : goal.invariant-loop-row
invariant-loop-row l = list_any (matches l.columns l.key) (drop l.row-index l.rows) ≡ list_any (matches l.columns l.key) l.rows
