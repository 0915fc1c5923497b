use Rattle.std.proofs.Common.{◌≡◌, ◌++◌, drop}
use Rattle.update_delete.specs.RowChanges.{rows_new}
use Rattle.update_delete.proofs.new_rows.new_rows.Given as goal

-- the new rows so far, and then those of the changes that are left
abbrev pub invariant-loop-change : goal.invariant-loop-change
invariant-loop-change l = l.rows ++ rows_new (drop l.change-index l.changes) ≡ rows_new l.changes
