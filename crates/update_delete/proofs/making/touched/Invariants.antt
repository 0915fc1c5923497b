use Rattle.std.proofs.Common.{◌≡◌, ◌≤◌, take}
use Rattle.std.specs.Prelude.{count_by}
use Rattle.update_delete.specs.RowChanges.{is_change}
use Rattle.update_delete.proofs.making.touched.Given as goal

-- those so far
abbrev pub invariant-loop-change : goal.invariant-loop-change
invariant-loop-change l = record { so_far : l.count ≡ count_by is_change (take l.change-index l.changes); few : l.count ≤ l.change-index }
