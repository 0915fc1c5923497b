-- Some of a page's cells, and all of them with others in place of some.
use Rattle.std.specs.Prelude.{ℕ, List, ◌++◌, take, drop}
use Rattle.sqlrecord.specs.Page.{cells_upto, count_of}

-- the cells of the slots from one up to another
abbrev pub cells_between : List ℕ → ℕ → ℕ → List (List ℕ)
cells_between page first last = drop first (cells_upto page last)

-- a page's cells with others in place of those from one place up to another
abbrev pub cells_with : List ℕ → ℕ → ℕ → List (List ℕ) → List (List ℕ)
cells_with page at behind cells = cells_between page 0 at ++ (cells ++ cells_between page behind (count_of page))

-- a list with others in place of those from one place up to another
abbrev pub spliced : List (List ℕ) → ℕ → ℕ → List (List ℕ) → List (List ℕ)
spliced all at behind cells = take at all ++ (cells ++ drop behind all)
