use Rattle.table_types.proofs.KeyLists.{column-keys-found}
use Rattle.table_types.proofs.known_tables.keys_of_element.Goals as goal

pub returns-in_ok-column_keys-in-Column : goal.returns-in_ok-column_keys-in-Column
returns-in_ok-column_keys-in-Column c = rw c.in-Column.is (column-keys-found c.args.place c.in-Column.column.constraints _ (rw c.as_slice.ensures at c.in_ok-column_keys-in-Column.ensures))
