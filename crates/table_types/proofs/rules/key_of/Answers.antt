use Rattle.table_types.proofs.rules.key_of.Goals as goal

pub returns : goal.returns
returns c = c.second.ensures _ (c.both.ensures _ _ (c.both-list.ensures _ _ c.few_columns.ensures c.distinct_names.ensures) c.places_of.ensures)
