use Rattle.std.proofs.Common.{◌≡◌, drop, map}
use Rattle.typing.specs.Finding.{each}
use Rattle.typing.specs.Known.{known}
use Rattle.typing.specs.Update.{assignment_found}
use Rattle.scopes.specs.Seen.{frames}
use Rattle.type_rules.proofs.FindsLemmas.{after}
use Rattle.change_types.proofs.updates.typed_assignments.Given as goal

-- the assignments so far, and then those that are left, are all
abbrev pub invariant-loop-assignment : goal.invariant-loop-assignment
invariant-loop-assignment l =
    after l.typed (each (map (assignment_found (known l.schema) (frames l.scope) l.table.columns) (drop l.assignment-index l.assignments)))
    ≡ each (map (assignment_found (known l.schema) (frames l.scope) l.table.columns) l.assignments)
