use Rattle.change_types.proofs.updates.typed_update.Goals as goal

pub returns : goal.returns
returns c = c.second.ensures _ (c.both.ensures _ _ (rw c.as_slice.ensures at c.distinct_columns-columns.ensures) c.changes_in.ensures)
