use Rattle.std.proofs.Common.{◌≡◌, drop, map}
use Rattle.typing.specs.Finding.{each}
use Rattle.typing.specs.Insert.{row_stored}
use Rattle.typing.specs.Known.{known}
use Rattle.type_rules.proofs.FindsLemmas.{after}
use Rattle.change_types.proofs.inserts.typed_rows.Given as goal

-- the rows so far, and then those that are left, are all
abbrev pub invariant-loop-row : goal.invariant-loop-row
invariant-loop-row l = after l.typed (each (map (row_stored (known l.schema) l.targets) (drop l.row-index l.rows))) ≡ each (map (row_stored (known l.schema) l.targets) l.rows)
