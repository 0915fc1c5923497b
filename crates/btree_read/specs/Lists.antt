-- Lists of page numbers.
use Rattle.std.specs.Prelude.{◌≡◌, ℕ, ◌⊎◌, List, [], ◌∷◌, ⊤}

abbrev pub Has : ℕ → List ℕ → Type 0
Has n [] = ⊥
Has n (x ∷ xs) = (n ≡ x) ⊎ Has n xs

-- no number stands twice
abbrev pub Apart : List ℕ → Type 0
Apart [] = ⊤
Apart (x ∷ xs) = (Has x xs → ⊥) × Apart xs

-- links lead from a number over these places, each a page with the page that it names, to another
-- number
abbrev pub Leads : ℕ → List (ℕ × ℕ) → ℕ → Type 0
Leads from [] to = from ≡ to
Leads from (leaf ∷ leaves) to = (from ≡ leaf.0) × Leads leaf.1 leaves to
