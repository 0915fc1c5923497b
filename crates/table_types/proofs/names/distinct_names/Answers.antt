use Rattle.table_types.proofs.names.distinct_names.Goals as goal

pub returns : goal.returns
returns c = rw (c.as_slice.ensures, c.in_ok-texts.ensures) at c.distinct_texts.ensures
