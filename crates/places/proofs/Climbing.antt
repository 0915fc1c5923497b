-- Rows of a table in the order of an index, a block at a time.
use Rattle.std.proofs.Common.{◌≡◌, ◌<◌, ℕ, zero, suc, Bool, true, false, List, [], ◌∷◌, ◌++◌, Option, Some, None, refl, sym, ap, ◌∙◌, arith, subst, take, inl, inr}
use Rattle.std.specs.Prelude.{filter, slice_index_or, if◌then◌else◌}
use Rattle.std.specs.Cmp.{IsTotalOrder}
use Rattle.std.specs.Cmp.Lexicographic.{slice_cmp}
use Rattle.std.specs.Ordering.{is_gt, nat_cmp, ordering_reverse, ordering_then}
use Rattle.std.specs.declared.cmp.Ordering.{Ordering}
use Rattle.std.specs.declared.cmp.Ordering.TheVariants.{Less, Equal, Greater}
use Rattle.std.proofs.lemmas.Bool.{lt-ltb, cases_Bool}
use Rattle.std.proofs.lemmas.Cmp.{lists_total, nat_cmp_total, then_total}
use Rattle.sqlval.specs.Comparison.{value_order}
use Rattle.sqlval.specs.Matching.{key_of}
use Rattle.sqlval.proofs.ValueOrderLaws.{value_order_total}
use Rattle.store.specs.Contents.{Entry}
use Rattle.store.specs.Indexes.{Position, beyond, by_columns, is_beyond}
use Rattle.store.specs.Sorted.{put_by, sorted_by}
use Rattle.places.proofs.Begun.{all_beyond}
use Rattle.places.proofs.Rising.{Above, Rising, rising-tail}

-- ---- places in an index

abbrev pub place_order : Position → Position → Ordering
place_order p q = ordering_then (slice_cmp value_order p.0 q.0) (nat_cmp p.1 q.1)

keys_total : IsTotalOrder (λ (p q : Position). slice_cmp value_order p.0 q.0)
keys_total = record {
  antisymm = λ p q. (lists_total value_order_total).antisymm p.0 q.0;
  trans = λ p q r. (lists_total value_order_total).trans p.0 q.0 r.0;
  congr = λ p q r. (lists_total value_order_total).congr p.0 q.0 r.0;
}

numbers_total : IsTotalOrder (λ (p q : Position). nat_cmp p.1 q.1)
numbers_total = record {
  antisymm = λ p q. nat_cmp_total.antisymm p.1 q.1;
  trans = λ p q r. nat_cmp_total.trans p.1 q.1 r.1;
  congr = λ p q r. nat_cmp_total.congr p.1 q.1 r.1;
}

places_total : IsTotalOrder place_order
places_total = then_total {R = λ (p q : Position). slice_cmp value_order p.0 q.0}
    {S = λ (p q : Position). nat_cmp p.1 q.1} keys_total numbers_total

greater : (p q : Position) → place_order p q ≡ Less → is_gt (place_order q p) ≡ true
greater p q e = ap is_gt (places_total.antisymm q p ∙ ap ordering_reverse e)

not_greater : (p q : Position) → place_order p q ≡ Less → is_gt (place_order p q) ≡ false
not_greater p q e = ap is_gt e

less : (p q : Position) → is_gt (place_order q p) ≡ true → place_order p q ≡ Less
less p q e = places_total.antisymm p q ∙ by (place_order q p) e
  where
    by : (r : Ordering) → is_gt r ≡ true → ordering_reverse r ≡ Less
    by Less h = absurd (cc)
    by Equal h = absurd (cc)
    by Greater h = refl

not_itself : (p : Position) → is_gt (place_order p p) ≡ false
not_itself p = by (place_order p p) (places_total.antisymm p p)
  where
    by : (r : Ordering) → r ≡ ordering_reverse r → is_gt r ≡ false
    by Less h = refl
    by Equal h = refl
    by Greater h = absurd (cc)

-- ---- lists that climb

module _ (columns : List ℕ) where
  -- where an entry stands
  abbrev pub position : Entry → Position
  position e = (key_of columns e.1, e.0)

  -- all of these stand behind a place
  abbrev Behind : Position → List Entry → Type 0
  Behind p [] = Unit {0}
  Behind p (e ∷ es) = (place_order p (position e) ≡ Less) × Behind p es

  abbrev pub Climbing : List Entry → Type 0
  Climbing [] = Unit {0}
  Climbing (e ∷ es) = Behind (position e) es × Climbing es

  further : (p q : Position) (es : List Entry) → place_order p q ≡ Less → Behind q es → Behind p es
  further p q [] e h = tt
  further p q (d ∷ es) e h = (places_total.trans p q (position d) e h.0, further p q es e h.1)

  -- ---- a sorted list climbs

  -- all numbers are above this
  abbrev Higher : ℕ → List Entry → Type 0
  Higher n [] = Unit {0}
  Higher n (e ∷ es) = (n < e.0) × Higher n es

  higher-put : (n : ℕ) (e : Entry) (es : List Entry) → n < e.0 → Higher n es
      → Higher n (put_by (by_columns columns) e es)
  higher-put n e [] lt h = (lt, tt)
  higher-put n e (d ∷ es) lt h = go (is_gt (by_columns columns e d)) (higher-put n e es lt h.1)
    where
      go : (b : Bool) → Higher n (put_by (by_columns columns) e es)
          → Higher n (if b then d ∷ put_by (by_columns columns) e es else e ∷ d ∷ es)
      go true a = (h.0, a)
      go false a = (lt, h)

  higher-sorted : (n : ℕ) (es : List Entry) → Higher n es → Higher n (sorted_by (by_columns columns) es)
  higher-sorted n [] h = tt
  higher-sorted n (e ∷ es) h = higher-put n e (sorted_by (by_columns columns) es) h.0 (higher-sorted n es h.1)

  behind-put : (p : Position) (e : Entry) (es : List Entry) → place_order p (position e) ≡ Less → Behind p es
      → Behind p (put_by (by_columns columns) e es)
  behind-put p e [] lt h = (lt, tt)
  behind-put p e (d ∷ es) lt h = go (is_gt (by_columns columns e d)) (behind-put p e es lt h.1)
    where
      go : (b : Bool) → Behind p (put_by (by_columns columns) e es)
          → Behind p (if b then d ∷ put_by (by_columns columns) e es else e ∷ d ∷ es)
      go true a = (h.0, a)
      go false a = (lt, h)

  -- an entry that is not greater, and of a lower number, stands before
  stands_before : (e d : Entry) → e.0 < d.0 → is_gt (by_columns columns e d) ≡ false
      → place_order (position e) (position d) ≡ Less
  stands_before e d lt h = by (by_columns columns e d) h
    where
      numbers : nat_cmp e.0 d.0 ≡ Less
      numbers = rw (lt-ltb e.0 d.0 lt) refl

      by : (r : Ordering) → is_gt r ≡ false → ordering_then r (nat_cmp e.0 d.0) ≡ Less
      by Less h = refl
      by Equal h = numbers
      by Greater h = absurd (cc)

  stands_behind : (e d : Entry) → is_gt (by_columns columns e d) ≡ true → place_order (position d) (position e) ≡ Less
  stands_behind e d h = less (position d) (position e) (by (by_columns columns e d) h)
    where
      by : (r : Ordering) → is_gt r ≡ true → is_gt (ordering_then r (nat_cmp e.0 d.0)) ≡ true
      by Less h = absurd (cc)
      by Equal h = absurd (cc)
      by Greater h = refl

  climbing-put : (e : Entry) (es : List Entry) → Higher e.0 es → Climbing es
      → Climbing (put_by (by_columns columns) e es)
  climbing-put e [] up h = (tt, tt)
  climbing-put e (d ∷ es) up h = go (is_gt (by_columns columns e d)) refl (climbing-put e es up.1 h.1)
    where
      go : (b : Bool) → is_gt (by_columns columns e d) ≡ b → Climbing (put_by (by_columns columns) e es)
          → Climbing (if b then d ∷ put_by (by_columns columns) e es else e ∷ d ∷ es)
      go true g a = (behind-put (position d) e es (stands_behind e d g) h.0, a)
      go false g a = let lt = stands_before e d up.0 g in ((lt, further (position e) (position d) es lt h.0), h)

  -- each number is below all that come later
  abbrev Lower : List Entry → Type 0
  Lower [] = Unit {0}
  Lower (e ∷ es) = Higher e.0 es × Lower es

  higher-of : (n : ℕ) (es : List Entry) → Above n es → Higher n es
  higher-of n [] h = tt
  higher-of n (e ∷ es) h = (h.0, lower n e.0 es h.0 (higher-of e.0 es h.1))
    where
      lower : (m k : ℕ) (ds : List Entry) → m < k → Higher k ds → Higher m ds
      lower m k [] lt a = tt
      lower m k (d ∷ ds) lt a = (omega (arith, lt, a.0), lower m k ds lt a.1)

  lower-of : (e : Entry) (es : List Entry) → Above e.0 es → Lower (e ∷ es)
  lower-of e [] h = (tt, tt)
  lower-of e (d ∷ es) h = (higher-of e.0 (d ∷ es) h, lower-of d es h.1)

  climbing-lower : (es : List Entry) → Lower es → Climbing (sorted_by (by_columns columns) es)
  climbing-lower [] h = tt
  climbing-lower (e ∷ es) h = climbing-put e (sorted_by (by_columns columns) es) (higher-sorted e.0 es h.0)
      (climbing-lower es h.1)

  -- rows in the order of their numbers, put into the order of an index
  pub climbing-sorted : (es : List Entry) → Rising es → Climbing (sorted_by (by_columns columns) es)
  climbing-sorted [] h = tt
  climbing-sorted (e ∷ es) h = climbing-lower (e ∷ es) (lower-of e es h)

  -- ---- beyond a place

  abbrev pub beyond_place : Option Position → List Entry → List Entry
  beyond_place after es = beyond after (Some columns) es

  keeps : (p : Position) (es : List Entry) → Behind p es → beyond_place (Some p) es ≡ es
  keeps p [] h = refl
  keeps p (e ∷ es) h = rw (greater p (position e) h.0) (ap (λ rest. e ∷ rest) (keeps p es h.1))

  keeps-by : (after : Option Position) (x : Entry) (xs : List Entry) → is_beyond after (key_of columns x.1) x.0 ≡ true
      → Behind (position x) xs
      → beyond_place after xs ≡ xs
  keeps-by None x xs holds h = all_beyond columns xs
  keeps-by (Some p) x xs holds h = keeps p xs (further p (position x) xs (less p (position x) holds) h)

  first-behind : (test : Entry → Bool) (p : Position) (es : List Entry) (e : Entry) (rest : List Entry) → Behind p es
      → filter test es ≡ e ∷ rest
      → place_order p (position e) ≡ Less
  first-behind test p [] e rest h f = absurd (cc)
  first-behind test p (x ∷ xs) e rest h f =
      elim (cases_Bool (test x)) [
        | inl holds ↦ let g : x ∷ filter test xs ≡ e ∷ rest = rw holds at f in
            let same : x ≡ e = ap (λ l. slice_index_or l 0 x) g in subst
            (λ (d : Entry). place_order p (position d) ≡ Less) same h.0
        | inr fails ↦ let g : filter test xs ≡ e ∷ rest = rw fails at f in first-behind test p xs e rest h.1 g
      ]

  abbrev tail : List Entry → List Entry
  tail [] = []
  tail (e ∷ es) = es

  -- behind the first of those beyond a place come those beyond its own
  pub beyond_first : (after : Option Position) (es : List Entry) (e : Entry) (rest : List Entry) → Climbing es
      → beyond_place after es ≡ e ∷ rest
      → beyond_place (Some (position e)) es ≡ rest
  beyond_first after [] e rest r f = absurd (cc)
  beyond_first after (x ∷ xs) e rest r f =
      elim (cases_Bool (is_beyond after (key_of columns x.1) x.0)) [
        | inl holds ↦ let g : x ∷ beyond_place after xs ≡ e ∷ rest = rw holds at f in
            let same : x ≡ e = ap (λ l. slice_index_or l 0 x) g in
            let others : beyond_place after xs ≡ rest = ap tail g in
            let here : beyond_place (Some (position x)) (x ∷ xs) ≡ rest =
            rw (not_itself (position x)) (keeps (position x) xs r.0 ∙ sym (keeps-by after x xs holds r.0) ∙ others) in
            subst (λ (d : Entry). beyond_place (Some (position d)) (x ∷ xs) ≡ rest) same here
        | inr fails ↦ let g : beyond_place after xs ≡ e ∷ rest = rw fails at f in
            let lt = first-behind (λ (d : Entry). is_beyond after (key_of columns d.1) d.0)
            (position x) xs e rest r.0 g in
            rw (not_greater (position x) (position e) lt) (beyond_first after xs e rest r.1 g)
      ]

  -- the place of the last of these, or the one before them
  abbrev pub last_place : Option Position → List Entry → Option Position
  last_place after [] = after
  last_place after (e ∷ es) = last_place (Some (position e)) es

  -- a block of those beyond a place, and then those beyond its last
  pub block_beyond : (most : ℕ) (after : Option Position) (es : List Entry) → Climbing es
      → take most (beyond_place after es) ++ beyond_place (last_place after (take most (beyond_place after es))) es
      ≡ beyond_place after es
  block_beyond zero after es r = refl
  block_beyond (suc most) after es r = go (beyond_place after es) refl (λ p. block_beyond most (Some p) es r)
    where
      go : (found : List Entry) → beyond_place after es ≡ found
          → ((p : Position) → take most (beyond_place (Some p) es) ++ beyond_place
          (last_place (Some p) (take most (beyond_place (Some p) es))) es ≡ beyond_place (Some p) es)
          → take (suc most) found ++ beyond_place (last_place after (take (suc most) found)) es ≡ found
      go [] e next = e
      go (d ∷ found) e next =
          let rest : beyond_place (Some (position d)) es ≡ found = beyond_first after es d found r e in
          ap (λ (zs : List Entry). d ∷ zs)
          (subst (λ zs. take most zs ++ beyond_place (last_place (Some (position d)) (take most zs)) es ≡ zs) rest
          (next (position d)))

  -- ---- a sort and a filter

  -- what is not greater than an entry is not greater than those behind it
  not_greater_behind : (e d x : Entry) → is_gt (by_columns columns e d) ≡ false
      → place_order (position d) (position x) ≡ Less
      → is_gt (by_columns columns e x) ≡ false
  not_greater_behind e d x g lt = at (by_columns columns e x) refl
    where
      columns_total : IsTotalOrder (by_columns columns)
      columns_total = record {
        antisymm = λ a b. (lists_total value_order_total).antisymm (key_of columns a.1) (key_of columns b.1);
        trans = λ a b c. (lists_total value_order_total).trans (key_of columns a.1) (key_of columns b.1)
            (key_of columns c.1);
        congr = λ a b c. (lists_total value_order_total).congr (key_of columns a.1) (key_of columns b.1)
            (key_of columns c.1);
      }

      -- were e greater than x, x would stand before d
      before_it : by_columns columns x e ≡ Less → (r : Ordering) → by_columns columns e d ≡ r → is_gt r ≡ false
          → by_columns columns x d ≡ Less
      before_it k Less h n = columns_total.trans x e d k h
      before_it k Equal h n =
          columns_total.antisymm x d
          ∙ ap ordering_reverse (sym (columns_total.congr e d x h))
          ∙ sym (columns_total.antisymm x e)
          ∙ k
      before_it k Greater h n = absurd (cc)

      ahead : (r : Ordering) → by_columns columns d x ≡ r → ordering_then r (nat_cmp d.0 x.0) ≡ Less
          → by_columns columns x d ≡ Less → ⊥
      ahead Less h l k = let c : Less ≡ Greater = sym k ∙ columns_total.antisymm x d
          ∙ ap ordering_reverse h in absurd (cc)
      ahead Equal h l k = let c : Less ≡ Equal = sym k ∙ columns_total.antisymm x d
          ∙ ap ordering_reverse h in absurd (cc)
      ahead Greater h l k = absurd (cc)

      at : (r : Ordering) → by_columns columns e x ≡ r → is_gt r ≡ false
      at Less h = refl
      at Equal h = refl
      at Greater h =
          let k : by_columns columns x e ≡ Less = columns_total.antisymm x e ∙ ap ordering_reverse h in
          absurd (ahead (by_columns columns d x) refl lt (before_it k (by_columns columns e d) refl g))

  -- put before the first of a list that climbs and has no lesser entry
  put-front : (e : Entry) (es : List Entry) (d : Entry) → is_gt (by_columns columns e d) ≡ false
      → Behind (position d) es
      → put_by (by_columns columns) e es ≡ e ∷ es
  put-front e [] d g h = refl
  put-front e (x ∷ es) d g h = rw (not_greater_behind e d x g h.0) refl

  behind-filter : (test : Entry → Bool) (p : Position) (es : List Entry) → Behind p es → Behind p (filter test es)
  behind-filter test p [] h = tt
  behind-filter test p (e ∷ es) h = go (test e) (behind-filter test p es h.1)
    where
      go : (b : Bool) → Behind p (filter test es) → Behind p (if b then e ∷ filter test es else filter test es)
      go true a = (h.0, a)
      go false a = a

  put-filter : (test : Entry → Bool) (e : Entry) (es : List Entry) → Climbing es
      → filter test (put_by (by_columns columns) e es)
      ≡ (if test e then put_by (by_columns columns) e (filter test es) else filter test es)
  put-filter test e [] h = refl
  put-filter test e (d ∷ es) h = go (is_gt (by_columns columns e d)) (test d) (test e) refl refl refl
      (put-filter test e es h.1)
    where
      go : (b t u : Bool) → is_gt (by_columns columns e d) ≡ b → test d ≡ t → test e ≡ u
          → filter test (put_by (by_columns columns) e es)
          ≡ (if test e then put_by (by_columns columns) e (filter test es) else filter test es)
          → filter test (if b then d ∷ put_by (by_columns columns) e es else e ∷ d ∷ es)
          ≡ (if u then put_by (by_columns columns) e (if t then d ∷ filter test es else filter test es) else
          (if t then d ∷ filter test es else filter test es))
      go true true true x y z k = rw (y, x) (ap (λ zs. d ∷ zs) (rw z at k))
      go true true false x y z k = rw y (ap (λ zs. d ∷ zs) (rw z at k))
      go true false true x y z k = rw y (rw z at k)
      go true false false x y z k = rw y (rw z at k)
      go false true true x y z k = rw (z, y, x) refl
      go false true false x y z k = rw (z, y) refl
      go false false true x y z k =
          rw (z, y) (sym (put-front e (filter test es) d x (behind-filter test (position d) es h.0)))
      go false false false x y z k = rw (z, y) refl

  -- sorted and then filtered, as filtered and then sorted
  pub sorted-filter : (test : Entry → Bool) (es : List Entry) → Rising es
      → filter test (sorted_by (by_columns columns) es) ≡ sorted_by (by_columns columns) (filter test es)
  sorted-filter test [] r = refl
  sorted-filter test (e ∷ es) r =
      put-filter test e (sorted_by (by_columns columns) es) (climbing-sorted es (rising-tail e es r))
      ∙ go (test e) (sorted-filter test es (rising-tail e es r))
    where
      go : (b : Bool) → filter test (sorted_by (by_columns columns) es) ≡ sorted_by (by_columns columns)
          (filter test es)
          → (if b then put_by (by_columns columns) e (filter test (sorted_by (by_columns columns) es)) else filter test
          (sorted_by (by_columns columns) es))
          ≡ sorted_by (by_columns columns) (if b then e ∷ filter test es else filter test es)
      go true k = ap (put_by (by_columns columns) e) k
      go false k = k
