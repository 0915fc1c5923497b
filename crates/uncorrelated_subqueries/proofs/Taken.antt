-- A turn of a loop that makes something of the items of a list.
use Rattle.std.proofs.Common.{◌≡◌, refl, sym, ap, ℕ, ◌+◌, ◌<◌, List, [], ◌∷◌, ◌++◌, map, length, take, get_or}
use Rattle.std.proofs.Math.Numerals.{add-one}
use Rattle.std.proofs.Math.Seq.{take-suc}

one_more : {A B : Type 0} (f : A → B) (xs : List A) (x : A) → map f (xs ++ x ∷ []) ≡ map f xs ++ f x ∷ []
one_more f [] x = refl
one_more f (y ∷ ys) x = ap (λ zs. f y ∷ zs) (one_more f ys x)

mapped-suc : {A B : Type 0} (f : A → B) (xs : List A) (at : ℕ) (x : A) → at < length xs → x ≡ get_or xs at x → map f (take (at + 1) xs) ≡ map f (take at xs) ++ f x ∷ []
mapped-suc f xs at x below is = rw (add-one, take-suc xs at x, ← is) (one_more f (take at xs) x)

-- what was made, and what is made of the next item
pub taken : {A B : Type 0} (f : A → B) (xs : List A) (at : ℕ) (x : A) {made next : List B} → at < length xs → x ≡ get_or xs at x → made ≡ map f (take at xs)
    → next ≡ made ++ f x ∷ [] → next ≡ map f (take (at + 1) xs)
taken f xs at x below is before more = rw (more, before) (sym (mapped-suc f xs at x below is))
