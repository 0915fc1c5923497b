-- What is planned for rows by their changes.
use Rattle.std.specs.Prelude.{◌≡◌, ℕ, Bool, List, Option, Some, None}
use Rattle.sqlval.specs.Value.{Row}
use Rattle.update_delete.specs.declared.change.RowChange.{RowChange}
use Rattle.update_delete.specs.declared.planned.Planned.{Planned}
use Rattle.update_delete.specs.RowChanges.{rows_gone}

abbrev pub IsPlannedFor : List ℕ → List Row → List RowChange → Bool → Option Planned → Type 0
IsPlannedFor numbers rows changes harmless None = ⊥
IsPlannedFor numbers rows changes harmless (Some planned) =
    planned ≡ record { numbers = numbers; changes = changes; gone = rows_gone rows changes; harmless = harmless }
