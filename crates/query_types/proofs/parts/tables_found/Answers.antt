use Rattle.query_types.proofs.parts.tables_found.Goals as goal

pub returns : goal.returns
returns c = c.both.ensures _ _ c.few_tables.ensures c.distinct_tables.ensures
