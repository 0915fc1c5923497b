-- Pages by their numbers.
use Rattle.std.specs.Prelude.{map, ℕ, Bool, true, false, List, Option, None, Some, if◌then◌else◌, ◌==◌}
use Rattle.std.specs.Ordering.{nat_cmp}
use Rattle.std.specs.Map.{lookup}
use Rattle.std.specs.BTreeMap.{is_at}

-- which pages there are, and their bytes
abbrev pub PageMap : Type 0
PageMap = ℕ → Option (List ℕ)

abbrev pub pick : {A : Type 0} → Option A → Option A → Option A
pick (Some x) o = Some x
pick None o = o

-- some pages, laid over others
abbrev pub over : PageMap → PageMap → PageMap
over top base n = pick (top n) (base n)

-- one page alone
abbrev pub only : ℕ → List ℕ → PageMap
only number page n = if number == n then Some page else None

-- pages where they are known, and otherwise none
abbrev pub known : Bool → PageMap → PageMap
known true pages n = pages n
known false pages n = None

-- the pages of a set
abbrev pub pages_in : List (ℕ × List ℕ) → PageMap
pages_in set n = lookup (is_at (nat_cmp n)) set

-- the numbers of the pages of a set
abbrev pub numbers_of : List (ℕ × List ℕ) → List ℕ
numbers_of set = map (λ e. e.0) set
