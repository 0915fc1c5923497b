use Rattle.std.proofs.Common.{◌≡◌, drop}
use Rattle.sqlval.specs.Matching.{key_of, matches}
use Rattle.constraints.proofs.twins.are_twins.Given as goal

-- the columns before this one are equal
abbrev pub invariant-loop-column : goal.invariant-loop-column
invariant-loop-column l = matches (drop l.column-index l.columns) (key_of (drop l.column-index l.columns) l.row) l.other ≡ matches l.columns (key_of l.columns l.row) l.other
