-- The indexes of a table in the order in which rules try them.
use Rattle.std.specs.Prelude.{ℕ, nat_eq, Bool, false, List, ◌++◌, filter, Option, Some, None}
use Rattle.std.specs.Cmp.Lexicographic.{pointwise}
use Rattle.algebra.specs.declared.tree.StoredTable.{StoredTable}

-- whether these are the columns of the key
abbrev pub is_key : Option (List ℕ) → List ℕ → Bool
is_key None columns = false
is_key (Some key) columns = pointwise nat_eq key columns

-- that of the primary key before the others
abbrev pub key_first : StoredTable → List (List ℕ)
key_first table = filter (is_key table.key) table.indexes ++ table.indexes
