-- Stored tables whose rows are lent, as a tree finds them.
use Rattle.std.specs.Prelude.{◌≡◌, ℕ, Bool, false, true, ◌||◌, if◌then◌else◌, List, [], ◌∷◌, length, Contains}
use Rattle.std.specs.List.{sum_by}
use Rattle.sqlval.specs.Schema.{same_name}
use Rattle.sqlval.specs.Value.{Row}
use Rattle.denote.specs.Bag.{distinct_by}
use Rattle.denote.specs.Meaning.{Tables}
use Rattle.query_answers.specs.declared.lent.LentTable.{LentTable}

-- the rows of the first table of this name; none where no table has it
abbrev pub rows_lent : List LentTable → List ℕ → List Row
rows_lent [] name = []
rows_lent (table ∷ tables) name = if same_name table.name name then table.rows else rows_lent tables name

-- whether a table has this name
abbrev pub is_lent : List LentTable → List ℕ → Bool
is_lent [] name = false
is_lent (table ∷ tables) name = same_name table.name name || is_lent tables name

-- the tables of these names are among them, and each has its rows
pub record IsLending (tables : List LentTable) (rows : Tables) (names : List (List ℕ)) : Type 0 where
  pub right : (name : List ℕ) → is_lent tables name ≡ true → rows_lent tables name ≡ rows name
  pub all : (name : List ℕ) → Contains names name → is_lent tables name ≡ true

-- ---- how many rows are read

-- each of these names once
abbrev pub once : List (List ℕ) → List (List ℕ)
once = distinct_by same_name

-- how many rows the tables of these names have together, each table counted once
abbrev pub rows_under : Tables → List (List ℕ) → ℕ
rows_under rows names = sum_by (λ name. length (rows name)) (once names)

-- how many of them are read for one more name
abbrev pub newly_read : List LentTable → Tables → List ℕ → ℕ
newly_read tables rows name = if is_lent tables name then 0 else length (rows name)
