-- Rows in the order of a key, and neighbours of one key. ISO/IEC 9075:1992, 4.10.2 and 11.7, says
-- what rows of one key are; the order is our own choice.
use Rattle.std.specs.Prelude.{ℕ, Bool, false, ◌||◌, List, [], ◌∷◌, map}
use Rattle.std.specs.Borrow.{Bor}
use Rattle.std.specs.Cmp.Lexicographic.{slice_cmp}
use Rattle.std.specs.declared.cmp.Ordering.{Ordering}
use Rattle.sqlval.specs.Comparison.{value_order}
use Rattle.sqlval.specs.Matching.{key_of, matches}
use Rattle.sqlval.specs.Value.{Row}

-- the order of two rows by the values of some columns, one after another
abbrev pub by_key : List ℕ → Row → Row → Ordering
by_key columns one other = slice_cmp value_order (key_of columns one) (key_of columns other)

-- what a list of lent rows holds
abbrev pub rows_lent : List (Bor Row) → List Row
rows_lent rows = map (λ (row : Bor Row). row.now) rows

-- whether the first of these rows has the key of a row, none of it null
abbrev pub is_next_twin : List ℕ → Row → List Row → Bool
is_next_twin columns row [] = false
is_next_twin columns row (next ∷ rows) = matches columns (key_of columns row) next

-- whether some row has the key of the one before it
abbrev pub has_neighbours : List ℕ → List Row → Bool
has_neighbours columns [] = false
has_neighbours columns (row ∷ rows) = is_next_twin columns row rows || has_neighbours columns rows
