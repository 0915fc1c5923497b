-- The sum of integers, one after another.
use Rattle.std.proofs.Common.{◌≡◌, refl, ap, sym, ◌∙◌, ℕ, suc, ◌+◌, ◌<◌, List, ◌∷◌, drop, get_or, length, pos, ◌+ℤ◌, arith, add-one, drop-cons}
use Rattle.std.specs.Prelude.{ℤ}
use Rattle.std.proofs.lemmas.Int.{ints}
use Rattle.std.proofs.Math.IntN.{+ℤ_assoc}
use Rattle.sqlval.specs.declared.value.Value.{Value}
use Rattle.sqlval.specs.declared.value.Value.TheVariants.{Null, Int, Text}
use Rattle.denote.specs.Group.{total}
use Rattle.kernels.specs.Totals.{integer_in}

none-first : (z : ℤ) → z ≡ pos 0 +ℤ z
none-first z = omega (arith, ints)

total-cons : (x : Value) (xs : List Value) → total (x ∷ xs) ≡ integer_in x +ℤ total xs
total-cons Null xs = none-first (total xs)
total-cons (Int n) xs = refl
total-cons (Text codes) xs = none-first (total xs)

pub total-more : (xs : List Value) (i : ℕ) (x : Value) (n sum : ℤ) → i < length xs → x ≡ get_or xs i x → n ≡ integer_in x → sum +ℤ total (drop i xs) ≡ total xs
    → (sum +ℤ n) +ℤ total (drop (i + 1) xs) ≡ total xs
total-more xs i x n sum short is number so_far =
    let left : drop i xs ≡ get_or xs i x ∷ drop (suc i) xs = drop-cons xs i x short in
    let next : drop (suc i) xs ≡ drop (i + 1) xs = ap (λ k. drop k xs) (sym (add-one i)) in
    let item : total (drop i xs) ≡ n +ℤ total (drop (i + 1) xs) =
    ap total left ∙ total-cons (get_or xs i x) (drop (suc i) xs) ∙ (λ k. integer_in (sym is k) +ℤ total (next k)) ∙ ap (λ z. z +ℤ total (drop (i + 1) xs)) (sym number) in
    +ℤ_assoc sum n (total (drop (i + 1) xs)) ∙ ap (λ z. sum +ℤ z) (sym item) ∙ so_far
