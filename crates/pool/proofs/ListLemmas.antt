-- Lists of pages with their numbers.
use Rattle.std.proofs.Common.{◌≡◌, ◌∙◌, ℕ, zero, suc, ◌<◌, List, [], ◌∷◌, ◌++◌, None, IsSome, length, get_or, refl, sym, ap, arith}
use Rattle.std.specs.List.Sorted.{IsStrictlySortedBy}
use Rattle.std.specs.Ordering.{nat_cmp}
use Rattle.std.proofs.lemmas.Map.Keys.{below_from_sorted}
use Rattle.journal.specs.Lists.{IsRising, number_in, image_in}
use Rattle.pool.specs.Pages.{numbers_of}

numbers_long : (set : List (ℕ × List ℕ)) → length (numbers_of set) ≡ length set
numbers_long [] = refl
numbers_long (e ∷ rest) = ap suc (numbers_long rest)

numbers_at : (set : List (ℕ × List ℕ)) (i : ℕ) → get_or (numbers_of set) i 0 ≡ number_in set i
numbers_at [] i = refl
numbers_at (e ∷ rest) zero = refl
numbers_at (e ∷ rest) (suc i) = numbers_at rest i

-- pages whose numbers ascend stand in the order of their numbers
pub rising_from : (set : List (ℕ × List ℕ)) → IsStrictlySortedBy nat_cmp (numbers_of set) → IsRising set
rising_from set sorted i less =
    let long = numbers_long set in
    let one = below_from_sorted (numbers_of set) i (suc i) 0 sorted (omega arith) (omega (arith, less, long)) in
    let here = numbers_at set i in
    let next = numbers_at set (suc i) in omega (arith, one, here, next)

-- one page more, where each has its size
pub sized_more : (images : List (ℕ × List ℕ)) (n : ℕ) (page : List ℕ) → ((i : ℕ) → i < length images → length (image_in images i) ≡ 4096) → length page ≡ 4096
    → (i : ℕ) → i < length (images ++ (n, page) ∷ []) → length (image_in (images ++ (n, page) ∷ []) i) ≡ 4096
sized_more [] n page each size zero less = size
sized_more [] n page each size (suc i) less = absurd (omega (arith, less))
sized_more (x ∷ xs) n page each size zero less = each 0 (omega arith)
sized_more (x ∷ xs) n page each size (suc i) less = sized_more xs n page (λ k l. each (suc k) (omega (arith, l))) size i (omega (arith, less))

-- the pages that are listed, and those that are left, are all of them
pub listed_one : (images more now left all : List (ℕ × List ℕ)) (e : ℕ × List ℕ) → images ++ left ≡ all → left ≡ e ∷ more → now ≡ images ++ e ∷ [] → now ++ more ≡ all
listed_one images more now left all e same is with_one =
    ap (λ (l : List (ℕ × List ℕ)). l ++ more) with_one ∙ moved images ∙ ap (λ (l : List (ℕ × List ℕ)). images ++ l) (sym is) ∙ same
  where
    moved : (xs : List (ℕ × List ℕ)) → (xs ++ e ∷ []) ++ more ≡ xs ++ e ∷ more
    moved [] = refl
    moved (x ∷ xs) = ap (λ (l : List (ℕ × List ℕ)). x ∷ l) (moved xs)

-- where none is left, all are listed
pub nothing_left : (images left all : List (ℕ × List ℕ)) → images ++ left ≡ all → (0 < length left → ⊥) → images ≡ all
nothing_left images [] all same none = sym (whole images) ∙ same
  where
    whole : (xs : List (ℕ × List ℕ)) → xs ++ [] ≡ xs
    whole [] = refl
    whole (x ∷ xs) = ap (λ (l : List (ℕ × List ℕ)). x ∷ l) (whole xs)
nothing_left images (x ∷ xs) all same none = absurd (none (omega arith))

pub none_some : IsSome {T = ℕ × List ℕ} None → ⊥
none_some e = cc
