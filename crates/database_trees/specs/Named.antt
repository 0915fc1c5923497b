-- Rows of a table, looked up.
use Rattle.std.specs.Prelude.{ℕ, zero, suc, ◌==◌, if◌then◌else◌, List, [], ◌∷◌, Option, None, Some}
use Rattle.store.specs.Contents.{Entry}

-- the row of a number
abbrev pub row_numbered : ℕ → List Entry → Option Entry
row_numbered number [] = None
row_numbered number (e ∷ rows) = if e.0 == number then Some e else row_numbered number rows

-- the number before a number
abbrev pub one_before : ℕ → Option ℕ
one_before zero = None
one_before (suc number) = Some number

-- what was found, where it has this number
abbrev pub if_numbered : ℕ → Option Entry → Option Entry
if_numbered number None = None
if_numbered number (Some e) = if e.0 == number then Some e else None
