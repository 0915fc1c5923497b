use Rattle.table_types.proofs.known_tables.own_table.Goals as goal

pub returns : goal.returns
returns c = c.own_of.ensures _ (c.both.ensures _ _ c.typed_columns-columns.ensures c.keys_in-keys.ensures)
