-- Which rows of a list are kept, as marks beside them.
use Rattle.std.specs.Prelude.{ℕ, nat_lt, Bool, true, false, List, [], ◌∷◌}
use Rattle.sqlval.specs.Value.{Row}
use Rattle.denote.specs.Bag.{times}

-- the marked rows; what has no mark is not kept
abbrev pub marked : List Bool → List Row → List Row
marked marks [] = []
marked [] (row ∷ rows) = marked [] rows
marked (true ∷ marks) (row ∷ rows) = row ∷ marked marks rows
marked (false ∷ marks) (row ∷ rows) = marked marks rows

-- of alike rows the first, as many as are allowed; `before` are the rows before these
abbrev pub first_marks : (Row → ℕ) → List Row → List Row → List Bool
first_marks allowed before [] = []
first_marks allowed before (row ∷ rows) = nat_lt (times row before) (allowed row) ∷ first_marks allowed (row ∷ before) rows
