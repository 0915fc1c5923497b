use Rattle.table_types.proofs.columns.typed_columns.Goals as goal

pub returns : goal.returns
returns c = c.second.ensures _ (c.both.ensures _ _ (c.both-list.ensures _ _ c.few_columns.ensures c.distinct_columns.ensures) c.each_column.ensures)
