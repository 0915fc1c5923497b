use Rattle.table_types.proofs.columns.distinct_columns.Goals as goal

pub returns : goal.returns
returns c = rw (c.as_slice.ensures, c.in_ok-names.ensures) at c.distinct_texts.ensures
