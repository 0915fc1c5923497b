-- Loops that put lists behind one another.
use Rattle.std.proofs.Common.{◌≡◌, sym, ap, ◌∙◌, ℕ, ◌+◌, ◌<◌, ◌≤◌, List, [], ◌∷◌, ◌++◌, length, get_or, drop, append_assoc, append-nil, add-one, drop-cons}
use Rattle.std.proofs.lemmas.List.{at_drop_all}

taken_off : {X : Type 0} (xs : List X) (i : ℕ) (x : X) → i < length xs → x ≡ get_or xs i x
    → drop i xs ≡ x ∷ drop (i + 1) xs
taken_off xs i x within is = rw (drop-cons xs i x within, ← is, add-one)

-- one turn, where the list of all is that of the first and those of the rest
pub one_more : {X Y : Type 0} (all : List X → List Y) (each : X → List Y)
    → ((x : X) (rest : List X) → all (x ∷ rest) ≡ each x ++ all rest)
    → (xs : List X) (i : ℕ) (x : X) (found part : List Y) → i < length xs → x ≡ get_or xs i x → part ≡ each x
    → found ++ all (drop i xs) ≡ all xs → (found ++ part) ++ all (drop (i + 1) xs) ≡ all xs
one_more all each first xs i x found part within is e keeps =
    append_assoc found part (all (drop (i + 1) xs))
    ∙ ap (λ p. found ++ (p ++ all (drop (i + 1) xs))) e
    ∙ ap (λ l. found ++ l) (sym (first x (drop (i + 1) xs)))
    ∙ ap (λ l. found ++ all l) (sym (taken_off xs i x within is))
    ∙ keeps

-- none is left
pub all_put : {X Y : Type 0} (all : List X → List Y) → all [] ≡ [] → (xs : List X) (i : ℕ) (found : List Y)
    → length xs ≤ i → found ++ all (drop i xs) ≡ all xs → found ≡ all xs
all_put all none xs i found past keeps =
    sym (append-nil found) ∙ ap (λ l. found ++ l) (sym none ∙ sym (at_drop_all all xs i past)) ∙ keeps
