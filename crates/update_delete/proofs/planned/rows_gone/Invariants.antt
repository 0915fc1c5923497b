use Rattle.std.proofs.Common.{◌≡◌, ◌++◌}
use Rattle.update_delete.specs.RowChanges.{rows_gone}
use Rattle.update_delete.proofs.planned.rows_gone.Given as goal

-- the rows gone so far, and those that are left
abbrev pub invariant-loop-row : goal.invariant-loop-row
invariant-loop-row l = l.gone ++ rows_gone l.row-iterator.rest.items l.left ≡ rows_gone l.fn.rows l.changes
