use Rattle.std.proofs.Common.{◌≡◌, drop}
use Rattle.key_lookups.specs.Sought.{literal_for}
use Rattle.key_lookups.proofs.sought.literal_of_column.Given as goal

-- no condition before this one has a literal for the column
abbrev pub invariant-loop-conjunct : goal.invariant-loop-conjunct
invariant-loop-conjunct l = literal_for l.column (drop l.conjunct-index l.conjuncts) ≡ literal_for l.column l.conjuncts
