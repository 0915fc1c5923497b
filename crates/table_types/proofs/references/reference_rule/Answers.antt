use Rattle.table_types.proofs.references.reference_rule.Goals as goal

pub returns : goal.returns
returns c = λ x h.
    c.foreign_key.ensures _ (c.both-2.ensures _ _ (c.both.ensures _ _ (rw c.as_slice.ensures at c.own_table-own.ensures) h)
    (rw c.as_slice-2.ensures at (c.meant_by-meant.ensures _ (rw c.as_text.ensures.text at c.referenced_table-table.ensures))))
