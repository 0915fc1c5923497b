use Rattle.std.proofs.Common.{◌≡◌, drop, map}
use Rattle.typing.specs.Finding.{each}
use Rattle.type_rules.proofs.FindsLemmas.{after}
use Rattle.table_types.specs.Tables.{column_of}
use Rattle.table_types.proofs.columns.each_column.Given as goal

-- those so far, and then those that are left, are all
abbrev pub invariant-loop-definition : goal.invariant-loop-definition
invariant-loop-definition l = after l.columns (each (map column_of (drop l.definition-index l.definitions))) ≡ each (map column_of l.definitions)
