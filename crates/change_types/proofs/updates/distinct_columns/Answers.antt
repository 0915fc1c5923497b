use Rattle.change_types.proofs.updates.distinct_columns.Goals as goal

pub returns : goal.returns
returns c = rw (c.as_slice.ensures, c.in_ok-columns.ensures) at c.distinct_texts.ensures
