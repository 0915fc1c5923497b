use Rattle.std.proofs.Common.{◌≡◌, ◌++◌, ◌+◌, drop}
use Rattle.table_types.specs.Tables.{names_of}
use Rattle.table_types.proofs.headings.names_of.Given as goal

-- the names so far, and those of the headings that are left
abbrev pub invariant-loop-at : goal.invariant-loop-at
invariant-loop-at l = l.names ++ names_of (l.at + 1) (drop l.at l.headings) ≡ names_of 1 l.headings
