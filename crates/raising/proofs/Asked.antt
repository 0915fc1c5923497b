-- Loops that ask each element, and end at the first that says yes.
use Rattle.std.proofs.Common.{◌≡◌, sym, ap, ◌∙◌, ℕ, ◌+◌, ◌<◌, ◌≤◌, Bool, true, false, ◌||◌, List, [], ◌∷◌, length, get_or, drop, add-one, drop-cons}
use Rattle.std.proofs.lemmas.List.{at_drop_all}

module _ {X : Type 0} (some : List X → Bool) (each : X → Bool)
    (first : (x : X) (rest : List X) → some (x ∷ rest) ≡ (each x || some rest)) where
  taken_off : (xs : List X) (i : ℕ) (x : X) → i < length xs → x ≡ get_or xs i x → drop i xs ≡ x ∷ drop (i + 1) xs
  taken_off xs i x within is = rw (drop-cons xs i x within, ← is, add-one)

  turn : (xs : List X) (i : ℕ) (x : X) → i < length xs → x ≡ get_or xs i x → some (drop i xs) ≡ some xs
      → (each x || some (drop (i + 1) xs)) ≡ some xs
  turn xs i x within is keeps =
      sym (first x (drop (i + 1) xs)) ∙ ap some (sym (taken_off xs i x within is)) ∙ keeps

  -- one more said no
  pub goes_on : (xs : List X) (i : ℕ) (x : X) → i < length xs → x ≡ get_or xs i x → false ≡ each x
      → some (drop i xs) ≡ some xs → some (drop (i + 1) xs) ≡ some xs
  goes_on xs i x within is e keeps =
      ap (λ (b : Bool). b || some (drop (i + 1) xs)) e ∙ turn xs i x within is keeps

  -- one said yes
  pub says_yes : (xs : List X) (i : ℕ) (x : X) → i < length xs → x ≡ get_or xs i x → true ≡ each x
      → some (drop i xs) ≡ some xs → true ≡ some xs
  says_yes xs i x within is e keeps =
      ap (λ (b : Bool). b || some (drop (i + 1) xs)) e ∙ turn xs i x within is keeps

-- none is left
pub none_left : {X : Type 0} (some : List X → Bool) → some [] ≡ false → (xs : List X) (i : ℕ) → length xs ≤ i
    → some (drop i xs) ≡ some xs → false ≡ some xs
none_left some none xs i past keeps = sym none ∙ sym (at_drop_all some xs i past) ∙ keeps
