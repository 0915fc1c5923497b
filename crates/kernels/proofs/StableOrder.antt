-- A list is what a stable sort makes of another where it ascends and keeps the order of ties: there
-- is one such list.
use Rattle.std.proofs.Common.{◌≡◌, refl, ap, sym, ◌∙◌, subst, ℕ, suc, ◌+◌, ◌<◌, Bool, true, false, not, ◌&&◌, if◌then◌else◌, List, [], ◌∷◌, length, slice_index_or, arith}
use Rattle.std.specs.Prelude.{filter}
use Rattle.std.specs.Cmp.{IsStrictWeakOrder, IsTotalOrder}
use Rattle.std.specs.List.Sorted.{IsSortedBy, IsStableBy, ties}
use Rattle.std.specs.Ordering.{is_lt, ordering_reverse}
use Rattle.std.specs.declared.cmp.Ordering.TheVariants.{Equal}
use Rattle.std.proofs.lemmas.Cmp.{then_total}
use Rattle.std.proofs.lemmas.List.MinMax.{ranks_by}
use Rattle.sqlval.specs.Comparison.{value_order}
use Rattle.sqlval.specs.declared.value.Value.{Value}
use Rattle.sqlval.specs.Value.{Row}
use Rattle.sqlval.proofs.ValueOrderLaws.{value_order_total}
use Rattle.typing.specs.declared.typed.OrderKey.{OrderKey}
use Rattle.algebra.specs.Sorted.{put_row, sorted}
use Rattle.denote.specs.Answer.{directed, by_keys}
use Rattle.denote.specs.Expression.{cell}

-- ---- the order of keys

directed_total : (descending : Bool) (key : OrderKey) → IsTotalOrder (λ (a b : Row). directed descending a b key)
directed_total false key = record {
  antisymm = λ x y. value_order_total.antisymm (cell x key.place) (cell y key.place);
  trans = λ x y z. value_order_total.trans (cell x key.place) (cell y key.place) (cell z key.place);
  congr = λ x y z. value_order_total.congr (cell x key.place) (cell y key.place) (cell z key.place);
}
directed_total true key = record {
  antisymm = λ x y. value_order_total.antisymm (cell y key.place) (cell x key.place);
  trans = λ x y z p q. value_order_total.trans (cell z key.place) (cell y key.place) (cell x key.place) q p;
  congr = λ x y z p. level (cell x key.place) (cell y key.place) (cell z key.place) p;
}
  where
    level : (x y z : Value) → value_order y x ≡ Equal → value_order z x ≡ value_order z y
    level x y z p = value_order_total.antisymm z x ∙ ap ordering_reverse (sym (value_order_total.congr y x z p)) ∙ sym (value_order_total.antisymm z y)

keys_total : (keys : List OrderKey) → IsTotalOrder (by_keys keys)
keys_total [] = record { antisymm = λ x y. refl; trans = λ x y z p q. p; congr = λ x y z p. refl }
keys_total (key ∷ keys) = then_total {R = λ (a b : Row). directed key.descending a b key} {S = by_keys keys} (directed_total key.descending key) (keys_total keys)

abbrev pub less_by : List OrderKey → Row → Row → Bool
less_by keys a b = is_lt (by_keys keys a b)

pub keys_rank : (keys : List OrderKey) → IsStrictWeakOrder (less_by keys)
keys_rank keys = ranks_by (keys_total keys) (λ (row : Row). row)

-- ---- lists that ascend

module _ {X : Type 0} (lt : X → X → Bool) (o : IsStrictWeakOrder lt) where
  -- none of these stands before x
  abbrev pub NoneBefore : X → List X → Type 0
  NoneBefore x [] = Unit {0}
  NoneBefore x (y ∷ ys) = (lt y x ≡ false) × NoneBefore x ys

  abbrev pub Ascends : List X → Type 0
  Ascends [] = Unit {0}
  Ascends (x ∷ xs) = NoneBefore x xs × Ascends xs

  lower : (x y : X) (ys : List X) → lt y x ≡ false → NoneBefore y ys → NoneBefore x ys
  lower x y [] e h = tt
  lower x y (z ∷ zs) e h = (o.chain z y x h.0 e, lower x y zs e h.1)

  pub ascends-sorted : (xs : List X) → IsSortedBy lt xs → Ascends xs
  ascends-sorted [] h = tt
  ascends-sorted (x ∷ []) h = (tt, tt)
  ascends-sorted (x ∷ y ∷ ys) h =
      let rest = ascends-sorted (y ∷ ys) (λ k d low below. later k d below) in
      let first = h 0 x (omega arith) (omega arith) in
      ((first, lower x y ys first rest.0), rest)
    where
      later : (k : ℕ) (d : X) → k + 1 < length (y ∷ ys) → lt (slice_index_or (y ∷ ys) (k + 1) d) (slice_index_or (y ∷ ys) k d) ≡ false
      later k d below =
          let more : (k + 1) + 1 < length (x ∷ y ∷ ys) = omega (arith, below) in
          moved ((k + 1) + 1) (k + 1) (omega arith) (omega arith) (h (k + 1) d (omega arith) more)
        where
          moved : (m n : ℕ) → m ≡ suc (k + 1) → n ≡ suc k → lt (slice_index_or (x ∷ y ∷ ys) m d) (slice_index_or (x ∷ y ∷ ys) n d) ≡ false
              → lt (slice_index_or (y ∷ ys) (k + 1) d) (slice_index_or (y ∷ ys) k d) ≡ false
          moved m n e f g =
              let here : lt (slice_index_or (x ∷ y ∷ ys) (suc (k + 1)) d) (slice_index_or (x ∷ y ∷ ys) n d) ≡ false =
              subst (λ (z : ℕ). lt (slice_index_or (x ∷ y ∷ ys) z d) (slice_index_or (x ∷ y ∷ ys) n d) ≡ false) e g in
              subst (λ (z : ℕ). lt (slice_index_or (x ∷ y ∷ ys) (suc (k + 1)) d) (slice_index_or (x ∷ y ∷ ys) z d) ≡ false) f here

  tie-self : (x : X) → ties lt x x ≡ true
  tie-self x = at (lt x x) refl
    where
      at : (b : Bool) → lt x x ≡ b → (not b && not b) ≡ true
      at false e = refl
      at true e = let f = o.one_way x x e in absurd (cc)

  tied : (x y : X) → lt x y ≡ false → lt y x ≡ false → ties lt x y ≡ true
  tied x y e f = rw (e, f) refl

  not_before : (x y : X) → ties lt x y ≡ true → (lt x y ≡ false) × (lt y x ≡ false)
  not_before x y e = at (lt x y) (lt y x) e
    where
      at : (a b : Bool) → (not a && not b) ≡ true → (a ≡ false) × (b ≡ false)
      at false false e = (refl, refl)
      at false true e = absurd (cc)
      at true b e = absurd (cc)

  -- where some element of a list ties with y, y does not stand before the first
  first_low : (y z : X) (zs : List X) → NoneBefore z zs → (w : X) (ws : List X) → w ∷ ws ≡ filter (ties lt y) zs → lt y z ≡ false
  first_low y z [] h w ws e = absurd (cc)
  first_low y z (x ∷ xs) h w ws e = at (ties lt y x) refl e (first_low y z xs h.1 w ws)
    where
      at : (b : Bool) → ties lt y x ≡ b → w ∷ ws ≡ (if b then x ∷ filter (ties lt y) xs else filter (ties lt y) xs) → (w ∷ ws ≡ filter (ties lt y) xs → lt y z ≡ false) → lt y z ≡ false
      at true f e go = o.chain y x z (not_before y x f).0 h.0
      at false f e go = go e

  low : (y z : X) (zs : List X) → NoneBefore z zs → (ws : List X) → y ∷ ws ≡ filter (ties lt y) (z ∷ zs) → lt y z ≡ false
  low y z zs h ws e = at (ties lt y z) refl e
    where
      at : (b : Bool) → ties lt y z ≡ b → y ∷ ws ≡ (if b then z ∷ filter (ties lt y) zs else filter (ties lt y) zs) → lt y z ≡ false
      at true f e = (not_before y z f).0
      at false f e = first_low y z zs h y ws e

  with_self : (y : X) (ys : List X) → filter (ties lt y) (y ∷ ys) ≡ y ∷ filter (ties lt y) ys
  with_self y ys = rw (tie-self y) refl

  rest_same : (x y : X) (ys zs : List X) → filter (ties lt x) (y ∷ ys) ≡ filter (ties lt x) (y ∷ zs) → filter (ties lt x) ys ≡ filter (ties lt x) zs
  rest_same x y ys zs e = at (ties lt x y) e
    where
      at : (b : Bool) → (if b then y ∷ filter (ties lt x) ys else filter (ties lt x) ys) ≡ (if b then y ∷ filter (ties lt x) zs else filter (ties lt x) zs) → filter (ties lt x) ys ≡ filter (ties lt x) zs
      at true e = cc
      at false e = e

  pub only_one : (ys zs : List X) → Ascends ys → Ascends zs → ((x : X) → filter (ties lt x) ys ≡ filter (ties lt x) zs) → ys ≡ zs
  only_one [] [] h g same = refl
  only_one [] (z ∷ zs) h g same = let e : [] ≡ z ∷ filter (ties lt z) zs = same z ∙ with_self z zs in absurd (cc)
  only_one (y ∷ ys) [] h g same = let e : y ∷ filter (ties lt y) ys ≡ [] = sym (with_self y ys) ∙ same y in absurd (cc)
  only_one (y ∷ ys) (z ∷ zs) h g same =
      let e : y ∷ filter (ties lt y) ys ≡ filter (ties lt y) (z ∷ zs) = sym (with_self y ys) ∙ same y in
      let f : z ∷ filter (ties lt z) zs ≡ filter (ties lt z) (y ∷ ys) = sym (with_self z zs) ∙ sym (same z) in
      let tie : ties lt y z ≡ true = tied y z (low y z zs g.0 (filter (ties lt y) ys) e) (low z y ys h.0 (filter (ties lt z) zs) f) in
      let k : filter (ties lt y) (z ∷ zs) ≡ z ∷ filter (ties lt y) zs = ap (λ b. if b then z ∷ filter (ties lt y) zs else filter (ties lt y) zs) tie in
      let heads : y ∷ filter (ties lt y) ys ≡ z ∷ filter (ties lt y) zs = e ∙ k in
      let first : y ≡ z = cc in
      at first (only_one ys zs h.1 g.1)
    where
      at : y ≡ z → (((x : X) → filter (ties lt x) ys ≡ filter (ties lt x) zs) → ys ≡ zs) → y ∷ ys ≡ z ∷ zs
      at e go = let rest : ys ≡ zs = go (λ x. rest_same x y ys zs (subst (λ (w : X). filter (ties lt x) (y ∷ ys) ≡ filter (ties lt x) (w ∷ zs)) (sym e) (same x))) in cc

-- ---- what the definition makes

put-ascends : (keys : List OrderKey) (row : Row) (rows : List Row) → Ascends (less_by keys) (keys_rank keys) rows → Ascends (less_by keys) (keys_rank keys) (put_row keys row rows)
put-ascends keys row [] h = (tt, tt)
put-ascends keys row (other ∷ rows) h = at (less_by keys other row) refl (put-ascends keys row rows h.1)
  where
    put_none : (first : Row) (rows : List Row) → less_by keys row first ≡ false → NoneBefore (less_by keys) (keys_rank keys) first rows → NoneBefore (less_by keys) (keys_rank keys) first (put_row keys row rows)
    put_none first [] e g = (e, tt)
    put_none first (x ∷ xs) e g = pick (less_by keys x row) (put_none first xs e g.1)
      where
        pick : (b : Bool) → NoneBefore (less_by keys) (keys_rank keys) first (put_row keys row xs) → NoneBefore (less_by keys) (keys_rank keys) first (if b then x ∷ put_row keys row xs else row ∷ x ∷ xs)
        pick true k = (g.0, k)
        pick false k = (e, (g.0, g.1))

    at : (b : Bool) → less_by keys other row ≡ b → Ascends (less_by keys) (keys_rank keys) (put_row keys row rows) → Ascends (less_by keys) (keys_rank keys) (if b then other ∷ put_row keys row rows else row ∷ other ∷ rows)
    at true e g = (put_none other rows ((keys_rank keys).one_way other row e) h.0, g)
    at false e g = ((e, lower (less_by keys) (keys_rank keys) row other rows e h.0), h)

sorted-ascends : (keys : List OrderKey) (rows : List Row) → Ascends (less_by keys) (keys_rank keys) (sorted keys rows)
sorted-ascends keys [] = tt
sorted-ascends keys (row ∷ rows) = put-ascends keys row (sorted keys rows) (sorted-ascends keys rows)

-- a row that is put passes none that it ties with
put-stable : (keys : List OrderKey) (x row : Row) (rows : List Row) → filter (ties (less_by keys) x) (put_row keys row rows) ≡ filter (ties (less_by keys) x) (row ∷ rows)
put-stable keys x row [] = refl
put-stable keys x row (other ∷ rows) = at (less_by keys other row) refl (put-stable keys x row rows)
  where
    two : (a b : Bool) (rest : List Row) → (a ≡ true → b ≡ true → ⊥)
        → (if a then other ∷ (if b then row ∷ rest else rest) else (if b then row ∷ rest else rest)) ≡ (if b then row ∷ (if a then other ∷ rest else rest) else (if a then other ∷ rest else rest))
    two true true rest h = absurd (h refl refl)
    two true false rest h = refl
    two false b rest h = refl

    apart : less_by keys other row ≡ true → ties (less_by keys) x other ≡ true → ties (less_by keys) x row ≡ true → ⊥
    apart e f g =
        let a = not_before (less_by keys) (keys_rank keys) x other f in
        let b = not_before (less_by keys) (keys_rank keys) x row g in
        let c : less_by keys other row ≡ false = (keys_rank keys).chain other x row a.1 b.0 in cc

    at : (b : Bool) → less_by keys other row ≡ b → filter (ties (less_by keys) x) (put_row keys row rows) ≡ filter (ties (less_by keys) x) (row ∷ rows)
        → filter (ties (less_by keys) x) (if b then other ∷ put_row keys row rows else row ∷ other ∷ rows) ≡ filter (ties (less_by keys) x) (row ∷ other ∷ rows)
    at false e h = refl
    at true e h = ap (λ zs. if ties (less_by keys) x other then other ∷ zs else zs) h
        ∙ two (ties (less_by keys) x other) (ties (less_by keys) x row) (filter (ties (less_by keys) x) rows) (apart e)

sorted-stable : (keys : List OrderKey) (x : Row) (rows : List Row) → filter (ties (less_by keys) x) (sorted keys rows) ≡ filter (ties (less_by keys) x) rows
sorted-stable keys x [] = refl
sorted-stable keys x (row ∷ rows) = put-stable keys x row (sorted keys rows) ∙ ap (λ zs. if ties (less_by keys) x row then row ∷ zs else zs) (sorted-stable keys x rows)

-- what a stable sort by the keys ensures
pub is-sorted : (keys : List OrderKey) (rows found : List Row) → IsSortedBy (less_by keys) found → IsStableBy (less_by keys) rows found → found ≡ sorted keys rows
is-sorted keys rows found up stable =
    only_one (less_by keys) (keys_rank keys) found (sorted keys rows) (ascends-sorted (less_by keys) (keys_rank keys) found up) (sorted-ascends keys rows)
    (λ x. stable x ∙ sym (sorted-stable keys x rows))
