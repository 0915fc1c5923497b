-- Loops that ask each element, and end at the first that says no.
use Rattle.std.proofs.Common.{◌≡◌, sym, ap, ◌∙◌, ℕ, ◌+◌, ◌<◌, ◌≤◌, Bool, true, false, ◌&&◌, List, [], ◌∷◌, length, get_or, drop, add-one, drop-cons}
use Rattle.std.proofs.lemmas.List.{at_drop_all}

module _ {X : Type 0} (all : List X → Bool) (each : X → Bool)
    (first : (x : X) (rest : List X) → all (x ∷ rest) ≡ (each x && all rest)) where
  taken_off : (xs : List X) (i : ℕ) (x : X) → i < length xs → x ≡ get_or xs i x → drop i xs ≡ x ∷ drop (i + 1) xs
  taken_off xs i x within is = rw (drop-cons xs i x within, ← is, add-one)

  turn : (xs : List X) (i : ℕ) (x : X) → i < length xs → x ≡ get_or xs i x → all (drop i xs) ≡ all xs
      → (each x && all (drop (i + 1) xs)) ≡ all xs
  turn xs i x within is keeps =
      sym (first x (drop (i + 1) xs)) ∙ ap all (sym (taken_off xs i x within is)) ∙ keeps

  -- one more said yes
  pub goes_on : (xs : List X) (i : ℕ) (x : X) → i < length xs → x ≡ get_or xs i x → true ≡ each x
      → all (drop i xs) ≡ all xs → all (drop (i + 1) xs) ≡ all xs
  goes_on xs i x within is e keeps =
      ap (λ (b : Bool). b && all (drop (i + 1) xs)) e ∙ turn xs i x within is keeps

  -- one said no
  pub says_no : (xs : List X) (i : ℕ) (x : X) → i < length xs → x ≡ get_or xs i x → false ≡ each x
      → all (drop i xs) ≡ all xs → false ≡ all xs
  says_no xs i x within is e keeps =
      ap (λ (b : Bool). b && all (drop (i + 1) xs)) e ∙ turn xs i x within is keeps

-- none is left
pub none_left : {X : Type 0} (all : List X → Bool) → all [] ≡ true → (xs : List X) (i : ℕ) → length xs ≤ i
    → all (drop i xs) ≡ all xs → true ≡ all xs
none_left all none xs i past keeps = sym none ∙ sym (at_drop_all all xs i past) ∙ keeps
