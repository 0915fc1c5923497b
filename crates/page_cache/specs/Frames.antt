-- Pages that stand in memory.
use Rattle.std.specs.Prelude.{◌≡◌, ℕ, List, Option, Contains, Some}

-- each of these pages is what is shown under its number; a number under which there is no page is
-- never among them
abbrev pub AreClean : (ℕ → Option (List ℕ)) → List (ℕ × List ℕ) → Type 0
AreClean shows frames = (n : ℕ) (page : List ℕ) → Contains frames (n, page) → shows n ≡ Some page
