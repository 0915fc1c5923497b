-- Why a database was not changed, by the refusals of what it stands on.
use Rattle.page_space.specs.declared.error.SpaceError.TheVariants.{Damaged}
use Rattle.catalog.specs.declared.error.ChangeError.{ChangeError}
use Rattle.catalog.specs.declared.error.ChangeError.TheVariants as change
use Rattle.index_trees.specs.declared.error.IndexError.{IndexError}
use Rattle.index_trees.specs.declared.error.IndexError.TheVariants as index
use Rattle.tablestore.specs.declared.error.AppendError.{AppendError}
use Rattle.tablestore.specs.declared.error.AppendError.TheVariants as put
use Rattle.database_trees.specs.declared.error.DatabaseError.{DatabaseError}
use Rattle.database_trees.specs.declared.error.DatabaseError.TheVariants.{Space, Record, Key, Number, Schema}

abbrev pub of_index : IndexError → DatabaseError
of_index (index.Space fault) = Space fault
of_index index.Key = Key

-- what an index has is never too long for it
abbrev pub of_removal : IndexError → DatabaseError
of_removal (index.Space fault) = Space fault
of_removal index.Key = Space Damaged

abbrev pub of_append : AppendError → DatabaseError
of_append (put.Space fault) = Space fault
of_append put.Record = Record
of_append put.Number = Number

-- a record of the schema has no code, or one that is too long
abbrev pub of_change : ChangeError → DatabaseError
of_change (change.Space fault) = Space fault
of_change change.Record = Schema
of_change change.Key = Schema
