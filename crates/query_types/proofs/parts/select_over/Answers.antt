use Rattle.query_types.proofs.parts.select_over.Goals as goal

pub returns : goal.returns
returns c = λ x h. c.select_from.ensures _ (c.both-settled.ensures _ _ (rw c.as_slice.ensures at c.tables_found.ensures) h)
