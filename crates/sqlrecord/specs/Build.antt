-- A page made of its cells, which lie one behind another up to its end.
use Rattle.std.specs.Prelude.{ℕ, ◌+◌, ◌-◌, ◌*◌, ◌/◌, ◌%◌, ◌≤◌, List, [], ◌∷◌, ◌++◌, length, map, replicate}
use Rattle.std.specs.Borrow.{Bor}
use Rattle.std.specs.Int.{w32, to_be_bytes}

-- what a list of lent cells holds
abbrev pub lent : List (Bor (List ℕ)) → List (List ℕ)
lent cells = map (λ (cell : Bor (List ℕ)). cell.now) cells

abbrev pub total_of : List (List ℕ) → ℕ
total_of [] = 0
total_of (cell ∷ cells) = length cell + total_of cells

-- the cells and their slots fill no more than what the first 16 bytes leave
abbrev pub Fits : List (List ℕ) → Type 0
Fits cells = 4 * length cells + total_of cells ≤ 4080

abbrev pub flatten : List (List ℕ) → List ℕ
flatten [] = []
flatten (cell ∷ cells) = cell ++ flatten cells

-- a number in two bytes
abbrev pub two_bytes : ℕ → List ℕ
two_bytes n = n / 256 ∷ n % 256 ∷ []

-- the slots of cells that lie one behind another from `at` on
abbrev pub slots_of : ℕ → List (List ℕ) → List ℕ
slots_of at [] = []
slots_of at (cell ∷ cells) = two_bytes at ++ two_bytes (length cell) ++ slots_of (at + length cell) cells

-- the first 16 bytes
abbrev pub head_of : ℕ → ℕ → ℕ → ℕ → List ℕ
head_of kind count low link = kind ∷ 0 ∷ (two_bytes count ++ two_bytes low ++ 0 ∷ 0 ∷ (to_be_bytes w32 link ++ 0 ∷ 0 ∷ 0 ∷ 0 ∷ []))

-- all bytes of a page of these cells: the first 16, the slots, zeros, and the cells one behind
-- another up to the end. They depend on nothing else, so nothing stays of what the page held before
abbrev pub page_of : ℕ → ℕ → List (List ℕ) → List ℕ
page_of kind link cells = head_of kind (length cells) (4096 - total_of cells) link ++ slots_of (4096 - total_of cells) cells ++ replicate (4080 - 4 * length cells - total_of cells) 0 ++ flatten cells
