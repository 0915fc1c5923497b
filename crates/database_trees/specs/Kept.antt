-- An exchange of rows that leaves an index as it is. Our own choice.
use Rattle.std.specs.Prelude.{◌≡◌, ℕ, List, [], ◌∷◌, Some, slice_index_or}
use Rattle.sqlval.specs.Matching.{key_of}
use Rattle.sqlval.specs.Value.{Row}
use Rattle.store.specs.declared.rows.Numbered.{Numbered}
use Rattle.store.specs.declared.rows.NumberedRow.{NumberedRow}
use Rattle.database_trees.specs.declared.exchange.Exchange.{Exchange}

-- just one row is put, of this number and with the values of this row at these columns
pub record IsPutFor (columns : List ℕ) (put : Numbered) (one : NumberedRow) : Type 0 where
  pub row : Row
  pub rows : put.rows ≡ row ∷ []
  pub number : slice_index_or put.numbers 0 0 ≡ one.number
  pub key : key_of columns row ≡ key_of columns one.row

-- one row is put in place of one of its number that has the same values at these columns
pub record IsPutBack (columns : List ℕ) (exchange : Exchange) : Type 0 where
  pub one : NumberedRow
  pub taken : exchange.taken ≡ Some one
  pub put : IsPutFor columns exchange.put one
