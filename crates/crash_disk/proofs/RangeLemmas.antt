-- Ranges and lengths, and an outcome that has one of each more than another.
use Rattle.std.proofs.Common.{◌≡◌, ◌≢◌, ◌⊎◌, inl, inr, ⊎_elim, ℕ, zero, suc, ◌<◌, ◌≤◌, List, [], ◌∷◌, ◌++◌, length, get_or, sym, ◌∙◌, ap, subst, arith}
use Rattle.std.specs.Prelude.{true, false}
use Rattle.std.proofs.lemmas.Bool.{cases_lt, cases_eq}
use Rattle.std.proofs.lemmas.Bool.Decides.{nat_tests}
use Rattle.crash_disk.specs.declared.outcome.Outcome.{Outcome}
use Rattle.crash_disk.specs.Outcomes.{IsWithin, in_range, InRange, has_length, IsSized}

-- in the first range or in another
pub range_cases1 : (r : ℕ × ℕ) (rs : List (ℕ × ℕ)) (i : ℕ) → InRange (r ∷ rs) i → IsWithin r.0 r.1 i ⊎ InRange rs i
range_cases1 r rs i is = by (cases_lt i r.0) (cases_lt i r.1)
  where
    by : (i < r.0) ⊎ (r.0 ≤ i) → (i < r.1) ⊎ (r.1 ≤ i) → IsWithin r.0 r.1 i ⊎ InRange rs i
    by (inl less) other = inr (let skip : in_range (r ∷ rs) i ≡ in_range rs i = grind (arith, nat_tests, less) in sym skip ∙ is)
    by (inr low) (inl high) = inl (low, high)
    by (inr low) (inr past) = inr (let skip : in_range (r ∷ rs) i ≡ in_range rs i = grind (arith, nat_tests, low, past) in sym skip ∙ is)

pub range_first : (r : ℕ × ℕ) (rs : List (ℕ × ℕ)) (i : ℕ) → r.0 ≤ i → i < r.1 → InRange (r ∷ rs) i
range_first r rs i low high = grind (arith, nat_tests, low, high)

pub range_next : (r : ℕ × ℕ) (rs : List (ℕ × ℕ)) (i : ℕ) → InRange rs i → InRange (r ∷ rs) i
range_next r rs i is = by (cases_lt i r.0) (cases_lt i r.1)
  where
    by : (i < r.0) ⊎ (r.0 ≤ i) → (i < r.1) ⊎ (r.1 ≤ i) → InRange (r ∷ rs) i
    by (inl less) other = let skip : in_range (r ∷ rs) i ≡ in_range rs i = grind (arith, nat_tests, less) in skip ∙ is
    by (inr low) (inl high) = range_first r rs i low high
    by (inr low) (inr past) = let skip : in_range (r ∷ rs) i ≡ in_range rs i = grind (arith, nat_tests, low, past) in skip ∙ is

pub range_old : (rs : List (ℕ × ℕ)) (r : ℕ × ℕ) (i : ℕ) → InRange rs i → InRange (rs ++ r ∷ []) i
range_old [] r i is = absurd (no is)
  where
    no : false ≡ true → ⊥
    no e = cc
range_old (x ∷ xs) r i is = ⊎_elim (λ here. range_first x (xs ++ r ∷ []) i here.0 here.1) (λ there. range_next x (xs ++ r ∷ []) i (range_old xs r i there)) (range_cases1 x xs i is)

pub range_new : (rs : List (ℕ × ℕ)) (r : ℕ × ℕ) (i : ℕ) → IsWithin r.0 r.1 i → InRange (rs ++ r ∷ []) i
range_new [] r i is = range_first r [] i is.0 is.1
range_new (x ∷ xs) r i is = range_next x (xs ++ r ∷ []) i (range_new xs r i is)

pub range_cases : (rs : List (ℕ × ℕ)) (r : ℕ × ℕ) (i : ℕ) → InRange (rs ++ r ∷ []) i → InRange rs i ⊎ IsWithin r.0 r.1 i
range_cases [] r i is = ⊎_elim (λ here. inr here) (λ none. inl none) (range_cases1 r [] i is)
range_cases (x ∷ xs) r i is =
    ⊎_elim (λ here. inl (range_first x xs i here.0 here.1)) (λ there. ⊎_elim (λ old. inl (range_next x xs i old)) (λ new. inr new) (range_cases xs r i there)) (range_cases1 x (xs ++ r ∷ []) i is)

pub range_at : (rs : List (ℕ × ℕ)) (k : ℕ) (d : ℕ × ℕ) (i : ℕ) → k < length rs
    → IsWithin (get_or rs k d).0 (get_or rs k d).1 i → InRange rs i
range_at [] k d i less is = absurd (omega (arith, less))
range_at (r ∷ rs) zero d i less is = range_first r rs i is.0 is.1
range_at (r ∷ rs) (suc k) d i less is = range_next r rs i (range_at rs k d i (omega (arith, less)) is)

pub length_cases1 : (m : ℕ) (ms : List ℕ) (n : ℕ) → has_length (m ∷ ms) n ≡ true → (n ≡ m) ⊎ (has_length ms n ≡ true)
length_cases1 m ms n is = by (cases_eq n m)
  where
    by : (n ≡ m) ⊎ (n ≢ m) → (n ≡ m) ⊎ (has_length ms n ≡ true)
    by (inl same) = inl same
    by (inr other) = inr (let skip : has_length (m ∷ ms) n ≡ has_length ms n = grind (arith, nat_tests, other) in sym skip ∙ is)

pub length_first : (m : ℕ) (ms : List ℕ) (n : ℕ) → n ≡ m → has_length (m ∷ ms) n ≡ true
length_first m ms n is = grind (arith, nat_tests, is)

pub length_next : (m : ℕ) (ms : List ℕ) (n : ℕ) → has_length ms n ≡ true → has_length (m ∷ ms) n ≡ true
length_next m ms n is = by (cases_eq n m)
  where
    by : (n ≡ m) ⊎ (n ≢ m) → has_length (m ∷ ms) n ≡ true
    by (inl same) = length_first m ms n same
    by (inr other) = let skip : has_length (m ∷ ms) n ≡ has_length ms n = grind (arith, nat_tests, other) in skip ∙ is

pub length_old : (ns : List ℕ) (n i : ℕ) → has_length ns i ≡ true → has_length (ns ++ n ∷ []) i ≡ true
length_old [] n i is = absurd (no is)
  where
    no : false ≡ true → ⊥
    no e = cc
length_old (x ∷ xs) n i is = ⊎_elim (λ here. length_first x (xs ++ n ∷ []) i here) (λ there. length_next x (xs ++ n ∷ []) i (length_old xs n i there)) (length_cases1 x xs i is)

pub length_new : (ns : List ℕ) (n i : ℕ) → i ≡ n → has_length (ns ++ n ∷ []) i ≡ true
length_new [] n i is = length_first n [] i is
length_new (x ∷ xs) n i is = length_next x (xs ++ n ∷ []) i (length_new xs n i is)

pub length_cases : (ns : List ℕ) (n i : ℕ) → has_length (ns ++ n ∷ []) i ≡ true → (has_length ns i ≡ true) ⊎ (i ≡ n)
length_cases [] n i is = ⊎_elim (λ here. inr here) (λ none. inl none) (length_cases1 n [] i is)
length_cases (x ∷ xs) n i is =
    ⊎_elim (λ here. inl (length_first x xs i here)) (λ there. ⊎_elim (λ old. inl (length_next x xs i old)) (λ new. inr new) (length_cases xs n i there)) (length_cases1 x (xs ++ n ∷ []) i is)

-- what one outcome more has of the one before
pub record IsMore (was next : Outcome) (a b len : ℕ) : Type 0 where
  pub synced : next.synced.items ≡ was.synced.items
  pub ranges : next.ranges.items ≡ was.ranges.items ++ (a, b) ∷ []
  pub lengths : next.lengths.items ≡ was.lengths.items ++ len ∷ []

pub more_old : (was next : Outcome) (a b len i : ℕ) → IsMore was next a b len → InRange was.ranges.items i
    → InRange next.ranges.items i
more_old was next a b len i m is = subst (λ (l : List (ℕ × ℕ)). InRange l i) (sym m.ranges) (range_old was.ranges.items (a, b) i is)

pub more_new : (was next : Outcome) (a b len i : ℕ) → IsMore was next a b len → a ≤ i → i < b
    → InRange next.ranges.items i
more_new was next a b len i m low high = subst (λ (l : List (ℕ × ℕ)). InRange l i) (sym m.ranges) (range_new was.ranges.items (a, b) i (low, high))

pub not_more : (was next : Outcome) (a b len i : ℕ) → IsMore was next a b len → (InRange was.ranges.items i → ⊥)
    → (i < a) ⊎ (b ≤ i) → InRange next.ranges.items i → ⊥
not_more was next a b len i m none out is = by out (range_cases was.ranges.items (a, b) i (subst (λ (l : List (ℕ × ℕ)). InRange l i) m.ranges is))
  where
    by : (i < a) ⊎ (b ≤ i) → InRange was.ranges.items i ⊎ IsWithin a b i → ⊥
    by out (inl old) = none old
    by (inl less) (inr new) = omega (arith, less, new.0)
    by (inr more) (inr new) = omega (arith, more, new.1)

pub more_sizes : (was next : Outcome) (a b len : ℕ) → IsMore was next a b len
    → length next.synced.items ∷ next.lengths.items ≡ (length was.synced.items ∷ was.lengths.items) ++ len ∷ []
more_sizes was next a b len m = let s = m.synced in let l = m.lengths in λ i. length (s i) ∷ l i

pub sized_old : (was next : Outcome) (a b len k : ℕ) → IsMore was next a b len → IsSized was k → IsSized next k
sized_old was next a b len k m is = ap (λ (l : List ℕ). has_length l k) (more_sizes was next a b len m) ∙ length_old (length was.synced.items ∷ was.lengths.items) len k is

pub sized_new : (was next : Outcome) (a b len k : ℕ) → IsMore was next a b len → k ≡ len → IsSized next k
sized_new was next a b len k m is = ap (λ (l : List ℕ). has_length l k) (more_sizes was next a b len m) ∙ length_new (length was.synced.items ∷ was.lengths.items) len k is

pub sized_cases : (was next : Outcome) (a b len k : ℕ) → IsMore was next a b len → IsSized next k
    → IsSized was k ⊎ (k ≡ len)
sized_cases was next a b len k m is = length_cases (length was.synced.items ∷ was.lengths.items) len k (ap (λ (l : List ℕ). has_length l k) (sym (more_sizes was next a b len m)) ∙ is)
