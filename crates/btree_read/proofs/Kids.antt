-- The children of an inner page by place, and one of them exchanged for one or more.
use Rattle.std.proofs.Common.{ℕ, zero, suc, List, [], ◌∷◌, ◌++◌, Option, Some}
use Rattle.btree_read.specs.Nodes.{Key}

abbrev pub kid_at : {T : Type 0} → T → List (Key × T) → ℕ → T
kid_at first [] at = first
kid_at first (c ∷ rest) zero = first
kid_at first (c ∷ rest) (suc at) = kid_at c.1 rest at

abbrev pub put_first : {T : Type 0} → T → List (Key × T) → ℕ → T → T
put_first first [] at new = new
put_first first (c ∷ rest) zero new = new
put_first first (c ∷ rest) (suc at) new = first

-- `new` in place of the child at `at`, with `more` behind it
abbrev pub put_rest : {T : Type 0} → List (Key × T) → ℕ → T → List (Key × T) → List (Key × T)
put_rest [] at new more = more
put_rest (c ∷ rest) zero new more = more ++ c ∷ rest
put_rest (c ∷ rest) (suc at) new more = (c.0, put_first c.1 rest at new) ∷ put_rest rest at new more

-- the bounds of the keys under the child at a place
abbrev pub low_at : {T : Type 0} → Key → List (Key × T) → ℕ → Key
low_at lo [] at = lo
low_at lo (c ∷ rest) zero = lo
low_at lo (c ∷ rest) (suc at) = low_at c.0 rest at

abbrev pub high_at : {T : Type 0} → Option Key → List (Key × T) → ℕ → Option Key
high_at hi [] at = hi
high_at hi (c ∷ rest) zero = Some c.0
high_at hi (c ∷ rest) (suc at) = high_at hi rest at
