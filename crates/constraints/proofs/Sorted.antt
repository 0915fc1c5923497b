-- In rows that ascend by a key those of one key are neighbours; and rows in another order, those of
-- each key in theirs, have twins alike.
use Rattle.std.proofs.Common.{◌≡◌, refl, ap, sym, ◌∙◌, subst, ℕ, suc, ◌+◌, ◌<◌, Bool, true, false, not, ◌&&◌, ◌||◌, if◌then◌else◌, List, [], ◌∷◌, map, length, slice_index_or, arith}
use Rattle.std.specs.Prelude.{filter}
use Rattle.std.specs.List.{list_any}
use Rattle.std.specs.Cmp.{IsStrictWeakOrder}
use Rattle.std.specs.Cmp.Lexicographic.{pointwise, slice_cmp}
use Rattle.std.specs.FinMap.{slice_cmp-IsAntisymmetric}
use Rattle.std.specs.List.Sorted.{IsSortedBy, IsStableBy, ties}
use Rattle.std.specs.Ordering.{is_eq, is_lt, ordering_reverse, int_cmp}
use Rattle.std.specs.declared.cmp.Ordering.{Ordering}
use Rattle.std.specs.declared.cmp.Ordering.TheVariants.{Less, Equal, Greater}
use Rattle.std.proofs.lemmas.Cmp.{lists_total}
use Rattle.std.proofs.lemmas.List.MinMax.{ranks_by}
use Rattle.sqlval.specs.declared.value.Value.{Value}
use Rattle.sqlval.specs.declared.value.Value.TheVariants.{Null, Int, Text}
use Rattle.sqlval.specs.declared.truth.Truth.TheVariants.{True}
use Rattle.sqlval.specs.Comparison.{text_order, value_order}
use Rattle.sqlval.specs.Truth.{same_truth, truth_of}
use Rattle.sqlval.specs.Matching.{is_equal, key_of, matches}
use Rattle.sqlval.specs.Value.{Row}
use Rattle.sqlval.proofs.ValueOrderLaws.{value_order_total, value_order-level}
use Rattle.denote.specs.Database.{has_twins}
use Rattle.constraints.specs.Keys.{by_key, has_neighbours}

-- ---- equal values are one value

level : (r : Ordering) → same_truth (truth_of (is_eq r)) True ≡ true → r ≡ Equal
level Less e = absurd (cc)
level Equal e = refl
level Greater e = absurd (cc)

equal_one : (x y : Value) → is_equal x y ≡ true → x ≡ y
equal_one Null Null e = refl
equal_one Null (Int y) e = absurd (cc)
equal_one Null (Text y) e = absurd (cc)
equal_one (Int x) Null e = absurd (cc)
equal_one (Int x) (Int y) e = value_order-level (Int x) (Int y) (level (int_cmp x y) e)
equal_one (Int x) (Text y) e = absurd (cc)
equal_one (Text x) Null e = absurd (cc)
equal_one (Text x) (Int y) e = absurd (cc)
equal_one (Text x) (Text y) e = value_order-level (Text x) (Text y) (level (text_order x y) e)

both_true : (a b : Bool) → (a && b) ≡ true → (a ≡ true) × (b ≡ true)
both_true true true e = (refl, refl)
both_true true false e = absurd (cc)
both_true false b e = absurd (cc)

equal_keys : (xs ys : List Value) → pointwise is_equal xs ys ≡ true → xs ≡ ys
equal_keys [] [] e = refl
equal_keys [] (y ∷ ys) e = absurd (cc)
equal_keys (x ∷ xs) [] e = absurd (cc)
equal_keys (x ∷ xs) (y ∷ ys) e =
    let both = both_true (is_equal x y) (pointwise is_equal xs ys) e in
    let head = equal_one x y both.0 in
    let tail = equal_keys xs ys both.1 in
    cc

-- ---- rows of one key

module _ (columns : List ℕ) {X : Type 0} (row : X → Row) where
  abbrev pub key : X → List Value
  key x = key_of columns (row x)

  abbrev pub before : X → X → Bool
  before x y = is_lt (by_key columns (row x) (row y))

  pub keys_rank : IsStrictWeakOrder before
  keys_rank = ranks_by (lists_total value_order_total) key

  neither : (r : Ordering) → is_lt r ≡ false → is_lt (ordering_reverse r) ≡ false → r ≡ Equal
  neither Less e f = absurd (cc)
  neither Equal e f = refl
  neither Greater e f = absurd (cc)

  -- rows of which neither stands before the other have one key
  pub one_key : (x y : X) → before x y ≡ false → before y x ≡ false → key x ≡ key y
  one_key x y e f =
      slice_cmp-IsAntisymmetric value_order-level (key x) (key y)
      (neither (slice_cmp value_order (key x) (key y)) e (ap is_lt (sym ((lists_total value_order_total).antisymm (key y) (key x))) ∙ f))

  itself : (x : X) → before x x ≡ false
  itself x = at (before x x) refl
    where
      at : (b : Bool) → before x x ≡ b → b ≡ false
      at false e = refl
      at true e = let f = keys_rank.one_way x x e in absurd (cc)

  ties_alike : (x y : X) → key x ≡ key y → ties before x y ≡ true
  ties_alike x y e =
      let one : before x y ≡ false = ap (λ k. is_lt (slice_cmp value_order (key x) k)) (sym e) ∙ itself x in
      let other : before y x ≡ false = ap (λ k. is_lt (slice_cmp value_order k (key x))) (sym e) ∙ itself x in
      rw (one, other) refl

  both_not : (a b : Bool) → (not a && not b) ≡ true → (a ≡ false) × (b ≡ false)
  both_not false false e = (refl, refl)
  both_not false true e = absurd (cc)
  both_not true b e = absurd (cc)

  tied : (x y : X) → ties before x y ≡ true → key x ≡ key y
  tied x y e = let both = both_not (before x y) (before y x) e in one_key x y both.0 both.1

  -- whether a row is the twin of another
  abbrev twin : X → X → Bool
  twin x y = matches columns (key x) (row y)

  twin_key : (x y : X) → twin x y ≡ true → key y ≡ key x
  twin_key x y e = equal_keys (key y) (key x) e

  -- ---- rows that ascend

  -- none of these stands before x
  abbrev pub NoneBefore : X → List X → Type 0
  NoneBefore x [] = Unit {0}
  NoneBefore x (y ∷ ys) = (before y x ≡ false) × NoneBefore x ys

  abbrev pub Ascends : List X → Type 0
  Ascends [] = Unit {0}
  Ascends (x ∷ xs) = NoneBefore x xs × Ascends xs

  lower : (x y : X) (ys : List X) → before y x ≡ false → NoneBefore y ys → NoneBefore x ys
  lower x y [] e h = tt
  lower x y (z ∷ zs) e h = (keys_rank.chain z y x h.0 e, lower x y zs e h.1)

  pub ascends-sorted : (xs : List X) → IsSortedBy before xs → Ascends xs
  ascends-sorted [] h = tt
  ascends-sorted (x ∷ []) h = (tt, tt)
  ascends-sorted (x ∷ y ∷ ys) h =
      let rest = ascends-sorted (y ∷ ys) (λ k d low below. later k d below) in
      let first = h 0 x (omega arith) (omega arith) in
      ((first, lower x y ys first rest.0), rest)
    where
      later : (k : ℕ) (d : X) → k + 1 < length (y ∷ ys) → before (slice_index_or (y ∷ ys) (k + 1) d) (slice_index_or (y ∷ ys) k d) ≡ false
      later k d below =
          let more : (k + 1) + 1 < length (x ∷ y ∷ ys) = omega (arith, below) in
          moved ((k + 1) + 1) (k + 1) (omega arith) (omega arith) (h (k + 1) d (omega arith) more)
        where
          moved : (m n : ℕ) → m ≡ suc (k + 1) → n ≡ suc k → before (slice_index_or (x ∷ y ∷ ys) m d) (slice_index_or (x ∷ y ∷ ys) n d) ≡ false
              → before (slice_index_or (y ∷ ys) (k + 1) d) (slice_index_or (y ∷ ys) k d) ≡ false
          moved m n e f g =
              let here : before (slice_index_or (x ∷ y ∷ ys) (suc (k + 1)) d) (slice_index_or (x ∷ y ∷ ys) n d) ≡ false =
              subst (λ (z : ℕ). before (slice_index_or (x ∷ y ∷ ys) z d) (slice_index_or (x ∷ y ∷ ys) n d) ≡ false) e g in
              subst (λ (z : ℕ). before (slice_index_or (x ∷ y ∷ ys) (suc (k + 1)) d) (slice_index_or (x ∷ y ∷ ys) z d) ≡ false) f here

  -- between x and a twin of x there stand only twins of x
  no_later : (x y : X) (ys : List X) → before y x ≡ false → NoneBefore y ys → twin x y ≡ false → list_any (matches columns (key x)) (map row ys) ≡ false
  no_later x y [] first h e = refl
  no_later x y (z ∷ zs) first h e = at (twin x z) refl (no_later x y zs first h.1 e)
    where
      at : (b : Bool) → twin x z ≡ b → list_any (matches columns (key x)) (map row zs) ≡ false → (b || list_any (matches columns (key x)) (map row zs)) ≡ false
      at false f rest = rest
      at true f rest =
          let same : key z ≡ key x = twin_key x z f in
          let low : before x y ≡ false = ap (λ k. is_lt (slice_cmp value_order k (key y))) (sym same) ∙ h.0 in
          let one : key x ≡ key y = one_key x y low first in
          let also : twin x y ≡ true = ap (λ k. pointwise is_equal k (key x)) (sym one ∙ sym same) ∙ f in
          absurd (cc (also, e))

  pub neighbours : (xs : List X) → Ascends xs → has_twins columns (map row xs) ≡ has_neighbours columns (map row xs)
  neighbours [] h = refl
  neighbours (x ∷ []) h = refl
  neighbours (x ∷ y ∷ ys) h = at (twin x y) refl (neighbours (y ∷ ys) h.1)
    where
      at : (b : Bool) → twin x y ≡ b → has_twins columns (map row (y ∷ ys)) ≡ has_neighbours columns (map row (y ∷ ys))
          → ((b || list_any (matches columns (key x)) (map row ys)) || has_twins columns (map row (y ∷ ys))) ≡ (b || has_neighbours columns (map row (y ∷ ys)))
      at true e rest = refl
      at false e rest = rw (no_later x y ys (h.0).0 (h.1).0 e) rest

  -- ---- rows in another order

  -- a row whose key is wholly non-null, and with it another of the key
  record Clash (xs : List X) : Type 0 where
    pub one : X
    pub whole : twin one one ≡ true
    pub two : 1 < length (filter (ties before one) xs)

  further : (x : X) (xs : List X) → Clash xs → Clash (x ∷ xs)
  further x xs h = record { one = h.one; whole = h.whole; two = at (ties before h.one x) h.two }
    where
      at : (b : Bool) → 1 < length (filter (ties before h.one) xs) → 1 < length (if b then x ∷ filter (ties before h.one) xs else filter (ties before h.one) xs)
      at true below = omega (arith, below)
      at false below = below

  some_tie : (x : X) (xs : List X) → list_any (matches columns (key x)) (map row xs) ≡ true → (twin x x ≡ true) × (0 < length (filter (ties before x) xs))
  some_tie x [] e = absurd (cc)
  some_tie x (y ∷ ys) e = at (twin x y) refl e (some_tie x ys)
    where
      at : (b : Bool) → twin x y ≡ b → (b || list_any (matches columns (key x)) (map row ys)) ≡ true
          → (list_any (matches columns (key x)) (map row ys) ≡ true → (twin x x ≡ true) × (0 < length (filter (ties before x) ys)))
          → (twin x x ≡ true) × (0 < length (filter (ties before x) (y ∷ ys)))
      at true f e rest =
          let same : key y ≡ key x = twin_key x y f in
          (ap (λ k. pointwise is_equal k (key x)) (sym same) ∙ f, (rw (ties_alike x y (sym same)) (omega arith)))
      at false f e rest = let found = rest e in (found.0, more (ties before x y) found.1)
        where
          more : (b : Bool) → 0 < length (filter (ties before x) ys) → 0 < length (if b then y ∷ filter (ties before x) ys else filter (ties before x) ys)
          more true below = omega (arith, below)
          more false below = below

  clash : (xs : List X) → has_twins columns (map row xs) ≡ true → Clash xs
  clash [] e = absurd (cc)
  clash (x ∷ xs) e = at (list_any (matches columns (key x)) (map row xs)) refl e (clash xs)
    where
      at : (b : Bool) → list_any (matches columns (key x)) (map row xs) ≡ b → (b || has_twins columns (map row xs)) ≡ true → (has_twins columns (map row xs) ≡ true → Clash xs) → Clash (x ∷ xs)
      at true f e rest =
          let found = some_tie x xs f in
          let below = found.1 in
          record { one = x; whole = found.0; two = rw (ties_alike x x refl) (omega (arith, below)) }
      at false f e rest = further x xs (rest e)

  tie_found : (x y : X) (ys : List X) → key x ≡ key y → twin x x ≡ true → 0 < length (filter (ties before x) ys) → list_any (matches columns (key y)) (map row ys) ≡ true
  tie_found x y [] same whole below = absurd (omega (arith, below))
  tie_found x y (z ∷ zs) same whole below = at (ties before x z) refl below (tie_found x y zs same whole)
    where
      at : (b : Bool) → ties before x z ≡ b → 0 < length (if b then z ∷ filter (ties before x) zs else filter (ties before x) zs)
          → (0 < length (filter (ties before x) zs) → list_any (matches columns (key y)) (map row zs) ≡ true)
          → (twin y z || list_any (matches columns (key y)) (map row zs)) ≡ true
      at true f below rest =
          let also : key x ≡ key z = tied x z f in
          let found : twin y z ≡ true = ap (λ k. pointwise is_equal k (key y)) (sym also) ∙ ap (λ k. pointwise is_equal (key x) k) (sym same) ∙ whole in
          rw found refl
      at false f below rest = rw (rest below) (or_true (twin y z))
        where
          or_true : (b : Bool) → (b || true) ≡ true
          or_true true = refl
          or_true false = refl

  clashing : (xs : List X) (one : X) → twin one one ≡ true → 1 < length (filter (ties before one) xs) → has_twins columns (map row xs) ≡ true
  clashing [] one whole below = absurd (omega (arith, below))
  clashing (x ∷ xs) one whole below = at (ties before one x) refl below (clashing xs one whole)
    where
      at : (b : Bool) → ties before one x ≡ b → 1 < length (if b then x ∷ filter (ties before one) xs else filter (ties before one) xs)
          → (1 < length (filter (ties before one) xs) → has_twins columns (map row xs) ≡ true)
          → (list_any (matches columns (key x)) (map row xs) || has_twins columns (map row xs)) ≡ true
      at true f below rest = rw (tie_found one x xs (tied one x f) whole (omega (arith, below))) refl
      at false f below rest = rw (rest below) (or_true (list_any (matches columns (key x)) (map row xs)))
        where
          or_true : (b : Bool) → (b || true) ≡ true
          or_true true = refl
          or_true false = refl

  pub same_twins : (xs ys : List X) → IsStableBy before xs ys → has_twins columns (map row ys) ≡ has_twins columns (map row xs)
  same_twins xs ys same = at (has_twins columns (map row xs)) refl (has_twins columns (map row ys)) refl
    where
      at : (a : Bool) → has_twins columns (map row xs) ≡ a → (b : Bool) → has_twins columns (map row ys) ≡ b → b ≡ a
      at true e true f = refl
      at false e false f = refl
      at true e false f =
          let h = clash xs e in
          let g : has_twins columns (map row ys) ≡ true = clashing ys h.one h.whole (subst (λ (l : List X). 1 < length l) (sym (same h.one)) h.two) in
          absurd (cc (g, f))
      at false e true f =
          let h = clash ys f in
          let g : has_twins columns (map row xs) ≡ true = clashing xs h.one h.whole (subst (λ (l : List X). 1 < length l) (same h.one) h.two) in
          absurd (cc (g, e))

  -- what a sort gives
  pub sorted-twins : (xs ys : List X) → IsSortedBy before ys → IsStableBy before xs ys → has_neighbours columns (map row ys) ≡ has_twins columns (map row xs)
  sorted-twins xs ys up stable = sym (neighbours ys (ascends-sorted ys up)) ∙ same_twins xs ys stable
