-- Columns that are compared with the same columns, in whatever order, find the same rows.
use Rattle.std.proofs.Common.{◌≡◌, refl, ap, sym, ◌∙◌, ℕ, ◌+◌, ◌<◌, ◌≤◌, Bool, true, false, ◌&&◌, ◌||◌, List, [], ◌∷◌, length, drop, get_or, arith}
use Rattle.std.specs.Prelude.{nat_eq, slice_index_or}
use Rattle.std.specs.List.{list_any, list_all, zip}
use Rattle.std.proofs.lemmas.Bool.{eqb-true}
use Rattle.std.proofs.lemmas.List.{drop_more, drop_all}
use Rattle.sqlval.specs.declared.value.Value.TheVariants.{Null}
use Rattle.sqlval.specs.Matching.{is_equal, key_of, matches}
use Rattle.sqlval.specs.Value.{Row}
use Rattle.foreign_keys.specs.Pairs.{is_same_pair, are_within, are_same_pairs}

and-split : (a b : Bool) → (a && b) ≡ true → (a ≡ true) × (b ≡ true)
and-split true b e = (refl, e)
and-split false b e = absurd (cc)

and-join : (a b : Bool) → a ≡ true → b ≡ true → (a && b) ≡ true
and-join true b e f = f
and-join false b e f = absurd (cc)

both_ways : (a b : Bool) → (a ≡ true → b ≡ true) → (b ≡ true → a ≡ true) → a ≡ b
both_ways true b f g = sym (f refl)
both_ways false true f g = g refl
both_ways false false f g = refl

module _ (f : ℕ × ℕ → Bool) where
  same_pair : (one other : ℕ × ℕ) → is_same_pair one other ≡ true → f other ≡ f one
  same_pair one other e =
      let both = and-split (nat_eq one.0 other.0) (nat_eq one.1 other.1) e in
      let first : one.0 ≡ other.0 = eqb-true one.0 other.0 both.0 in
      let second : one.1 ≡ other.1 = eqb-true one.1 other.1 both.1 in
      sym (ap (λ n. f (n, one.1)) first ∙ ap (λ n. f (other.0, n)) second)

  one_of : (pair : ℕ × ℕ) (others : List (ℕ × ℕ)) → list_any (is_same_pair pair) others ≡ true → list_all f others ≡ true → f pair ≡ true
  one_of pair [] e h = absurd (cc)
  one_of pair (other ∷ others) e h =
      let both = and-split (f other) (list_all f others) h in
      by (is_same_pair pair other) refl e both.0 (λ later. one_of pair others later both.1)
    where
      by : (b : Bool) → is_same_pair pair other ≡ b → (b || list_any (is_same_pair pair) others) ≡ true → f other ≡ true
          → (list_any (is_same_pair pair) others ≡ true → f pair ≡ true) → f pair ≡ true
      by true is e here rest = sym (same_pair pair other is) ∙ here
      by false is e here rest = rest e

  all_of : (pairs others : List (ℕ × ℕ)) → are_within pairs others ≡ true → list_all f others ≡ true → list_all f pairs ≡ true
  all_of [] others e h = refl
  all_of (pair ∷ pairs) others e h =
      let both = and-split (list_any (is_same_pair pair) others) (are_within pairs others) e in
      and-join (f pair) (list_all f pairs) (one_of pair others both.0 h) (all_of pairs others both.1 h)

  same_all : (pairs others : List (ℕ × ℕ)) → are_within pairs others ≡ true → are_within others pairs ≡ true → list_all f pairs ≡ list_all f others
  same_all pairs others e g = both_ways (list_all f pairs) (list_all f others) (all_of others pairs g) (all_of pairs others e)

-- a pair of columns of two rows
abbrev pair_equal : Row → Row → ℕ × ℕ → Bool
pair_equal row other pair = is_equal (slice_index_or other pair.1 Null) (slice_index_or row pair.0 Null)

by_pairs : (from to : List ℕ) (row other : Row) → length from ≡ length to → matches to (key_of from row) other ≡ list_all (pair_equal row other) (zip from to)
by_pairs [] [] row other e = refl
by_pairs [] (place ∷ to) row other e = absurd (omega (arith, e))
by_pairs (column ∷ from) [] row other e = absurd (omega (arith, e))
by_pairs (column ∷ from) (place ∷ to) row other e =
    let rest : length from ≡ length to = omega (arith, e) in
    ap (λ b. is_equal (slice_index_or other place Null) (slice_index_or row column Null) && b) (by_pairs from to row other rest)

pub same_matches : (from to others places : List ℕ) → are_same_pairs from to others places ≡ true → (row other : Row) → matches to (key_of from row) other ≡ matches places (key_of others row) other
same_matches from to others places e row other =
    let all = and-split (nat_eq (length from) (length to) && nat_eq (length others) (length places)) (are_within (zip from to) (zip others places) && are_within (zip others places) (zip from to)) e in
    let counts = and-split (nat_eq (length from) (length to)) (nat_eq (length others) (length places)) all.0 in
    let pairs = and-split (are_within (zip from to) (zip others places)) (are_within (zip others places) (zip from to)) all.1 in
    by_pairs from to row other (eqb-true (length from) (length to) counts.0)
    ∙ same_all (pair_equal row other) (zip from to) (zip others places) pairs.0 pairs.1
    ∙ sym (by_pairs others places row other (eqb-true (length others) (length places) counts.1))

-- ---- how they are compared, one list after another

first-none : (a b c d : Bool) → a ≡ false → false ≡ ((a && b) && (c && d))
first-none true b c d e = absurd (cc)
first-none false b c d e = refl

second-none : (a b c d : Bool) → b ≡ false → false ≡ ((a && b) && (c && d))
second-none true true c d e = absurd (cc)
second-none true false c d e = refl
second-none false b c d e = refl

third-none : (a b c d : Bool) → c ≡ false → false ≡ ((a && b) && (c && d))
third-none true true true d e = absurd (cc)
third-none true true false d e = refl
third-none true false c d e = refl
third-none false b c d e = refl

last-decides : (a b c d : Bool) → a ≡ true → b ≡ true → c ≡ true → d ≡ ((a && b) && (c && d))
last-decides true true true d e f g = refl
last-decides true true false d e f g = absurd (cc)
last-decides true false c d e f g = absurd (cc)
last-decides false b c d e f g = absurd (cc)

module _ (from to others places : List ℕ) where
  pub first-apart : nat_eq (length from) (length to) ≡ false → false ≡ are_same_pairs from to others places
  first-apart e = first-none (nat_eq (length from) (length to)) (nat_eq (length others) (length places))
      (are_within (zip from to) (zip others places)) (are_within (zip others places) (zip from to)) e

  pub others-apart : nat_eq (length others) (length places) ≡ false → false ≡ are_same_pairs from to others places
  others-apart e = second-none (nat_eq (length from) (length to)) (nat_eq (length others) (length places))
      (are_within (zip from to) (zip others places)) (are_within (zip others places) (zip from to)) e

  pub not-within : are_within (zip from to) (zip others places) ≡ false → false ≡ are_same_pairs from to others places
  not-within e = third-none (nat_eq (length from) (length to)) (nat_eq (length others) (length places))
      (are_within (zip from to) (zip others places)) (are_within (zip others places) (zip from to)) e

  pub both-within : nat_eq (length from) (length to) ≡ true → nat_eq (length others) (length places) ≡ true → are_within (zip from to) (zip others places) ≡ true
      → are_within (zip others places) (zip from to) ≡ are_same_pairs from to others places
  both-within e f g = last-decides (nat_eq (length from) (length to)) (nat_eq (length others) (length places))
      (are_within (zip from to) (zip others places)) (are_within (zip others places) (zip from to)) e f g

pub as-many : (xs ys : List ℕ) → nat_eq (length xs) (length ys) ≡ true → length ys ≡ length xs
as-many xs ys e = sym (eqb-true (length xs) (length ys) e)

-- the pairs of two lists from a place on
pairs-from : (xs ys : List ℕ) (k : ℕ) → k < length xs → k < length ys → zip (drop k xs) (drop k ys) ≡ (get_or xs k 0, get_or ys k 0) ∷ zip (drop (k + 1) xs) (drop (k + 1) ys)
pairs-from xs ys k here there = λ i. zip (drop_more xs k 0 here i) (drop_more ys k 0 there i)

pub any-pair-next : (p : ℕ × ℕ → Bool) (xs ys : List ℕ) (k : ℕ) (b : Bool) → k < length xs → k < length ys → b ≡ p (get_or xs k 0, get_or ys k 0)
    → list_any p (zip (drop k xs) (drop k ys)) ≡ (b || list_any p (zip (drop (k + 1) xs) (drop (k + 1) ys)))
any-pair-next p xs ys k b here there is =
    ap (list_any p) (pairs-from xs ys k here there) ∙ ap (λ c. c || list_any p (zip (drop (k + 1) xs) (drop (k + 1) ys))) (sym is)

pub all-pairs-next : (p : ℕ × ℕ → Bool) (xs ys : List ℕ) (k : ℕ) (b : Bool) → k < length xs → k < length ys → b ≡ p (get_or xs k 0, get_or ys k 0)
    → list_all p (zip (drop k xs) (drop k ys)) ≡ (b && list_all p (zip (drop (k + 1) xs) (drop (k + 1) ys)))
all-pairs-next p xs ys k b here there is =
    ap (list_all p) (pairs-from xs ys k here there) ∙ ap (λ c. c && list_all p (zip (drop (k + 1) xs) (drop (k + 1) ys))) (sym is)

no-pairs : (xs ys : List ℕ) (k : ℕ) → length xs ≤ k → zip (drop k xs) (drop k ys) ≡ []
no-pairs xs ys k past = ap (λ (zs : List ℕ). zip zs (drop k ys)) (drop_all k xs past)

pub any-pair-end : (p : ℕ × ℕ → Bool) (xs ys : List ℕ) (k : ℕ) → length xs ≤ k → list_any p (zip (drop k xs) (drop k ys)) ≡ false
any-pair-end p xs ys k past = ap (list_any p) (no-pairs xs ys k past)

pub all-pairs-end : (p : ℕ × ℕ → Bool) (xs ys : List ℕ) (k : ℕ) → length xs ≤ k → list_all p (zip (drop k xs) (drop k ys)) ≡ true
all-pairs-end p xs ys k past = ap (list_all p) (no-pairs xs ys k past)
