use Rattle.table_types.proofs.KeyLists.{key_alone-is}
use Rattle.table_types.proofs.known_tables.table_keys.Goals as goal

pub returns-in-PrimaryKey : goal.returns-in-PrimaryKey
returns-in-PrimaryKey c = rw (c.in-PrimaryKey.is, key_alone-is) (c.key_alone.ensures _ (rw c.as_slice.ensures at c.key_of.ensures))

pub returns-in-Unique : goal.returns-in-Unique
returns-in-Unique c = rw (c.in-Unique.is, key_alone-is) (c.key_alone-in-Unique.ensures _ (rw c.as_slice-in-Unique.ensures at c.key_of-in-Unique.ensures))
