-- Rows in the order of keys, ties in the order in which they were.
use Rattle.std.specs.Prelude.{ℕ, false, if◌then◌else◌, List, [], ◌∷◌, map}
use Rattle.std.specs.Ordering.{is_lt}
use Rattle.sqlval.specs.Value.{Row}
use Rattle.typing.specs.declared.typed.OrderKey.{OrderKey}
use Rattle.denote.specs.Answer.{by_keys}

-- a row put into a sorted list, before its ties
abbrev pub put_row : List OrderKey → Row → List Row → List Row
put_row keys row [] = row ∷ []
put_row keys row (other ∷ rows) = if is_lt (by_keys keys other row) then other ∷ put_row keys row rows else row ∷ other ∷ rows

-- from the last row to the first, so that ties keep their order
abbrev pub sorted : List OrderKey → List Row → List Row
sorted keys [] = []
sorted keys (row ∷ rows) = put_row keys row (sorted keys rows)

-- the order of an index: its columns, from the lowest value
abbrev pub ascending : List ℕ → List OrderKey
ascending columns = map (λ column. record { place = column; descending = false }) columns
