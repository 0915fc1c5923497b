use Rattle.std.proofs.Common.{◌≡◌, drop}
use Rattle.sqlval.specs.Matching.{key_of}
use Rattle.database_trees.proofs.kept.have_one_key.Given as goal

-- what is left of the columns decides
abbrev pub invariant-loop-at : goal.invariant-loop-at
invariant-loop-at l = key_of (drop l.at l.columns) l.row ≡ key_of (drop l.at l.columns) l.other → key_of l.columns l.row ≡ key_of l.columns l.other
