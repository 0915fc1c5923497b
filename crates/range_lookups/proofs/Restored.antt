-- Entries of a table that were put into another order, put back by their numbers.
use Rattle.std.proofs.Common.{◌≡◌, refl, sym, ap, ◌∙◌, subst, ℕ, suc, ◌+◌, ◌<◌, ◌==◌, Bool, true, false, not, ◌&&◌, cond, if◌then◌else◌, List, [], ◌∷◌, length, slice_index_or, map, arith}
use Rattle.std.specs.Prelude.{filter, nat_lt}
use Rattle.std.specs.Cmp.{IsStrictWeakOrder}
use Rattle.std.specs.List.{zip}
use Rattle.std.specs.List.Sorted.{IsSortedBy, IsStableBy, ties}
use Rattle.std.specs.Ordering.{is_gt, is_lt, nat_cmp}
use Rattle.std.specs.declared.cmp.Ordering.{Ordering}
use Rattle.std.specs.declared.cmp.Ordering.TheVariants.{Less, Equal, Greater}
use Rattle.std.proofs.lemmas.Bool.{le-ltb, ltb-false}
use Rattle.std.proofs.lemmas.Cmp.{nat_cmp_total}
use Rattle.std.proofs.lemmas.List.MinMax.{ranks_by}
use Rattle.store.specs.declared.rows.Numbered.{Numbered}
use Rattle.kernels.proofs.StableOrder.{Ascends, NoneBefore, ascends-sorted, only_one}
use Rattle.store.specs.Contents.{Entry, Rises, rows_of}
use Rattle.store.specs.Sorted.{put_by, sorted_by}
use Rattle.store.specs.View.{AreEntries}

-- ---- numbers

abbrev pub lower : Entry → Entry → Bool
lower a b = is_lt (nat_cmp a.0 b.0)

pub lower_rank : IsStrictWeakOrder lower
lower_rank = ranks_by nat_cmp_total (λ (e : Entry). e.0)

lower-is : (m n : ℕ) → is_lt (nat_cmp m n) ≡ nat_lt m n
lower-is m n = at (nat_lt m n) (m == n)
  where
    at : (b c : Bool) → is_lt (cond b Less (cond c Equal Greater)) ≡ b
    at true c = refl
    at false true = refl
    at false false = refl

not_lower : (a b : Entry) → a.0 < b.0 → lower b a ≡ false
not_lower a b less = lower-is b.0 a.0 ∙ le-ltb b.0 a.0 (omega (arith, less))

-- entries that tie have one number
same_number : (x d : Entry) → ties lower x d ≡ true → d.0 ≡ x.0
same_number x d e = at (nat_lt x.0 d.0) (nat_lt d.0 x.0) refl refl
    ((λ i. not (sym (lower-is x.0 d.0) i) && not (sym (lower-is d.0 x.0) i)) ∙ e)
  where
    at : (b c : Bool) → nat_lt x.0 d.0 ≡ b → nat_lt d.0 x.0 ≡ c → (not b && not c) ≡ true → d.0 ≡ x.0
    at true c f g h = absurd (cc (h))
    at false true f g h = absurd (cc (h))
    at false false f g h =
        let one = ltb-false x.0 d.0 f in
        let other = ltb-false d.0 x.0 g in
        omega (arith, one, other)

-- all of these have numbers above this one
abbrev Above : ℕ → List Entry → Type 0
Above n [] = Unit {0}
Above n (e ∷ es) = (n < e.0) × Above n es

abbrev Rising : List Entry → Type 0
Rising [] = Unit {0}
Rising (e ∷ es) = Above e.0 es × Rising es

above_less : (n m : ℕ) (es : List Entry) → n < m → Above m es → Above n es
above_less n m [] below h = tt
above_less n m (e ∷ es) below h =
    let first = h.0 in (omega (arith, below, first), above_less n m es below h.1)

rises_later : (e : Entry) (es : List Entry) → Rises (e ∷ es) → Rises es
rises_later e es h = λ k d below.
    subst (λ (n : ℕ). (slice_index_or (e ∷ es) (suc k) d).0 < (slice_index_or (e ∷ es) n d).0) (one_on k)
    (h (suc k) d (omega (arith, below)))
  where
    one_on : (k : ℕ) → suc k + 1 ≡ suc (k + 1)
    one_on k = omega arith

rising-of : (es : List Entry) → Rises es → Rising es
rising-of [] h = tt
rising-of (e ∷ es) h = (above-first e es h (rising-of es (rises_later e es h)), rising-of es (rises_later e es h))
  where
    above-first : (e : Entry) (es : List Entry) → Rises (e ∷ es) → Rising es → Above e.0 es
    above-first e [] h r = tt
    above-first e (f ∷ es) h r =
        let first : e.0 < f.0 = h 0 e (omega arith) in (first, above_less e.0 f.0 es first r.0)

-- ---- where one number alone passes a test, an order changes nothing

module _ (pass : Entry → Bool) (n : ℕ) (only : (d : Entry) → pass d ≡ true → d.0 ≡ n)
    (order : Entry → Entry → Ordering) where
  none-above : (es : List Entry) → Above n es → filter pass es ≡ []
  none-above [] h = refl
  none-above (e ∷ es) h = at (pass e) refl (none-above es h.1)
    where
      at : (b : Bool) → pass e ≡ b → filter pass es ≡ [] → (if b then e ∷ filter pass es else filter pass es) ≡ []
      at true is none =
          let here = only e is in
          let beyond = h.0 in absurd (omega (arith, here, beyond))
      at false is none = none

  put-other : (e : Entry) (es : List Entry) → pass e ≡ false → filter pass (put_by order e es) ≡ filter pass es
  put-other e [] fails = rw fails refl
  put-other e (d ∷ es) fails = at (is_gt (order e d)) (put-other e es fails)
    where
      at : (b : Bool) → filter pass (put_by order e es) ≡ filter pass es
          → filter pass (if b then d ∷ put_by order e es else e ∷ d ∷ es) ≡ filter pass (d ∷ es)
      at true same = ap (λ (zs : List Entry). if pass d then d ∷ zs else zs) same
      at false same = rw fails refl

  put-only : (e : Entry) (es : List Entry) → pass e ≡ true → filter pass es ≡ []
      → filter pass (put_by order e es) ≡ e ∷ []
  put-only e [] passes none = rw passes refl
  put-only e (d ∷ es) passes none = at (pass d) (is_gt (order e d)) refl none (put-only e es passes)
    where
      at : (b c : Bool) → pass d ≡ b → (if b then d ∷ filter pass es else filter pass es) ≡ []
          → (filter pass es ≡ [] → filter pass (put_by order e es) ≡ e ∷ [])
          → filter pass (if c then d ∷ put_by order e es else e ∷ d ∷ es) ≡ e ∷ []
      at true c is f go = absurd (cc (f))
      at false true is f go = rw is (go f)
      at false false is f go = rw (passes, is) (ap (λ (zs : List Entry). e ∷ zs) f)

  sorted-picks : (es : List Entry) → Rising es → filter pass (sorted_by order es) ≡ filter pass es
  sorted-picks [] r = refl
  sorted-picks (e ∷ es) r = at (pass e) refl (sorted-picks es r.1)
    where
      at : (b : Bool) → pass e ≡ b → filter pass (sorted_by order es) ≡ filter pass es
          → filter pass (put_by order e (sorted_by order es)) ≡ (if b then e ∷ filter pass es else filter pass es)
      at true is same =
          let none : filter pass es ≡ [] = none-above es (subst (λ (m : ℕ). Above m es) (only e is) r.0) in
          put-only e (sorted_by order es) is (same ∙ none) ∙ ap (λ (zs : List Entry). e ∷ zs) (sym none)
      at false is same = put-other e (sorted_by order es) is ∙ same

filters-turned : (p q : Entry → Bool) (es : List Entry) → filter p (filter q es) ≡ filter q (filter p es)
filters-turned p q [] = refl
filters-turned p q (e ∷ es) = at (p e) (q e) refl refl (filters-turned p q es)
  where
    at : (a b : Bool) → p e ≡ a → q e ≡ b → filter p (filter q es) ≡ filter q (filter p es)
        → filter p (if b then e ∷ filter q es else filter q es) ≡ filter q (if a then e ∷ filter p es else filter p es)
    at true true x y h = rw (x, y) (ap (λ (zs : List Entry). e ∷ zs) h)
    at true false x y h = rw y h
    at false true x y h = rw x h
    at false false x y h = h

-- ---- what a sort by numbers makes

none-before : (test : Entry → Bool) (x : Entry) (es : List Entry) → Above x.0 es
    → NoneBefore lower lower_rank x (filter test es)
none-before test x [] h = tt
none-before test x (e ∷ es) h = at (test e) (none-before test x es h.1)
  where
    at : (b : Bool) → NoneBefore lower lower_rank x (filter test es)
        → NoneBefore lower lower_rank x (if b then e ∷ filter test es else filter test es)
    at true g = (not_lower x e h.0, g)
    at false g = g

ascends : (test : Entry → Bool) (es : List Entry) → Rising es → Ascends lower lower_rank (filter test es)
ascends test [] r = tt
ascends test (e ∷ es) r = at (test e) (none-before test e es r.0) (ascends test es r.1)
  where
    at : (b : Bool) → NoneBefore lower lower_rank e (filter test es) → Ascends lower lower_rank (filter test es)
        → Ascends lower lower_rank (if b then e ∷ filter test es else filter test es)
    at true g h = (g, h)
    at false g h = h

-- those that pass a test, in any order, sorted by their numbers stand as in the table
pub restored : (order : Entry → Entry → Ordering) (test : Entry → Bool) (es found : List Entry) → Rises es
    → IsSortedBy lower found → IsStableBy lower (filter test (sorted_by order es)) found → found ≡ filter test es
restored order test es found rises up stable =
    let r = rising-of es rises in
    only_one lower lower_rank found (filter test es) (ascends-sorted lower lower_rank found up) (ascends test es r)
    (λ x. stable x
    ∙ filters-turned (ties lower x) test (sorted_by order es)
    ∙ ap (filter test) (sorted-picks (ties lower x) x.0 (same_number x) order es r)
    ∙ filters-turned test (ties lower x) es)

-- ---- numbers beside rows

zipped : (es : List Entry) → zip (map (λ (e : Entry). e.0) es) (rows_of es) ≡ es
zipped [] = refl
zipped (e ∷ es) = ap (λ (zs : List Entry). e ∷ zs) (zipped es)

pub paired-entries : (found : Numbered) (es : List Entry) → AreEntries found es → zip found.numbers found.rows ≡ es
paired-entries found es are = (λ i. zip (are.numbers i) (are.rows i)) ∙ zipped es
