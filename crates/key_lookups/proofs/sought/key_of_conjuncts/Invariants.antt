use Rattle.std.proofs.Common.{◌≡◌, drop}
use Rattle.key_lookups.specs.Sought.{key_among}
use Rattle.key_lookups.proofs.Put.{behind}
use Rattle.key_lookups.proofs.sought.key_of_conjuncts.Given as goal

-- the literals of the columns before this one are put
abbrev pub invariant-loop-column : goal.invariant-loop-column
invariant-loop-column l = behind l.key (key_among l.conjuncts (drop l.column-index l.columns)) ≡ key_among l.conjuncts l.columns
