use Rattle.table_types.proofs.references.listed_columns.Goals as goal

pub returns : goal.returns
returns c = c.second.ensures _ (c.both.ensures _ _ c.distinct_names.ensures c.places_named-places.ensures)
