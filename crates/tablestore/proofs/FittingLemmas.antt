-- What holds of each element, a step at a time.
use Rattle.std.proofs.Common.{sym, subst, ℕ, zero, suc, ◌+◌, ◌<◌, List, [], ◌∷◌, length, get_or, drop, drop-cons, add-one, arith}
use Rattle.std.specs.List.{AllByRecursion}

pub all_step : {A : Type 0} (P : A → Type 0) (xs : List A) (i : ℕ) (d : A) → i < length xs → P (get_or xs i d) → (AllByRecursion P (drop i xs) → AllByRecursion P xs)
    → AllByRecursion P (drop (i + 1) xs) → AllByRecursion P xs
all_step P xs i d less here rest after =
    rest (subst (λ l. AllByRecursion P l) (sym (drop-cons xs i d less)) (here, subst (λ (n : ℕ). AllByRecursion P (drop n xs)) (add-one i) after))

pub all_at : {A : Type 0} (P : A → Type 0) (xs : List A) (i : ℕ) (d : A) → i < length xs → AllByRecursion P xs → P (get_or xs i d)
all_at P [] i d less h = absurd (omega (arith, less))
all_at P (x ∷ xs) zero d less h = h.0
all_at P (x ∷ xs) (suc i) d less h = all_at P xs i d (omega (arith, less)) h.1
