use Rattle.change_types.proofs.inserts.typed_insert.Goals as goal

pub returns : goal.returns
returns c =
    c.insert_of.ensures _ (c.both.ensures _ _ (rw c.as_slice-columns.ensures at c.distinct_names.ensures)
    (c.rows_stored-rows.ensures _ (rw c.as_slice-columns.ensures at c.targets_in-targets.ensures)))
