-- The entries of an index's tree are those of its rows as the definitions walk them.
use Rattle.std.proofs.Common.{◌≡◌, ◌∙◌, refl, sym, ap, subst, ℕ, ◌<◌, Bool, true, false, List, [], ◌∷◌, map, ◌⊎◌, inl, inr, Ordering}
use Rattle.std.specs.Prelude.{if◌then◌else◌}
use Rattle.std.specs.List.{AllByRecursion}
use Rattle.std.specs.Ordering.{ordering_reverse, is_gt}
use Rattle.std.specs.Cmp.{nat_cmp_is}
use Rattle.std.specs.declared.cmp.Ordering.TheVariants.{Less, Equal, Greater}
use Rattle.std.proofs.lemmas.Cmp.{lists_total}
use Rattle.sqlval.specs.Matching.{key_of}
use Rattle.sqlval.proofs.ValueOrderLaws.{value_order_total}
use Rattle.store.specs.Contents as stored
use Rattle.store.specs.Indexes.{by_columns}
use Rattle.store.specs.Sorted.{put_by, sorted_by}
use Rattle.page_space.specs.Space.{PageMap}
use Rattle.btree_read.specs.declared.entry.Entry.{Entry}
use Rattle.btree_read.specs.Nodes.{precedes}
use Rattle.btree_read.specs.Sorted.{Ascends}
use Rattle.btree_read.proofs.ListLemmas.{each_map}
use Rattle.btree_read.proofs.OrderLemmas.{lt_trans, not_self, not_both}
use Rattle.btree_read.proofs.AscendLemmas.{root_ascends}
use Rattle.tablestore.specs.Held.{IsKept, AreKept}
use Rattle.index_trees.specs.Indexed.{index_entry, Stands, IsRow, IsOfRow, HoldsIndex}
use Rattle.database_trees.proofs.NumberLemmas.{AreRising}
use Rattle.index_lookups.proofs.CodeOrder.{code_of, before_by_values, before_by_numbers}

-- ---- what a sort keeps

module _ {A : Type 0} (order : A → A → Ordering) (P : A → Type 0) where
  pub put_all : (x : A) (ys : List A) → P x → AllByRecursion P ys → AllByRecursion P (put_by order x ys)
  put_all x [] h g = (h, tt)
  put_all x (y ∷ ys) h g = by (is_gt (order x y)) (put_all x ys h g.1)
    where
      by : (b : Bool) → AllByRecursion P (put_by order x ys) → AllByRecursion P (if b then y ∷ put_by order x ys else x ∷ y ∷ ys)
      by true again = (g.0, again)
      by false again = (h, g)

  pub sorted_all : (xs : List A) → AllByRecursion P xs → AllByRecursion P (sorted_by order xs)
  sorted_all [] h = tt
  sorted_all (x ∷ xs) h = put_all x (sorted_by order xs) h.0 (sorted_all xs h.1)

module _ (order : stored.Entry → stored.Entry → Ordering) where
  put_has : (r x : stored.Entry) (ys : List stored.Entry) → IsRow r (put_by order x ys) → (r ≡ x) ⊎ IsRow r ys
  put_has r x [] h = h
  put_has r x (y ∷ ys) h = by (is_gt (order x y)) h (put_has r x ys)
    where
      later : (r ≡ x) ⊎ IsRow r ys → (r ≡ x) ⊎ ((r ≡ y) ⊎ IsRow r ys)
      later (inl e) = inl e
      later (inr g) = inr (inr g)

      by : (b : Bool) → IsRow r (if b then y ∷ put_by order x ys else x ∷ y ∷ ys) → (IsRow r (put_by order x ys) → (r ≡ x) ⊎ IsRow r ys) → (r ≡ x) ⊎ ((r ≡ y) ⊎ IsRow r ys)
      by true (inl e) again = inr (inl e)
      by true (inr g) again = later (again g)
      by false (inl e) again = inl e
      by false (inr g) again = inr g

  put_there : (r x : stored.Entry) (ys : List stored.Entry) → (r ≡ x) ⊎ IsRow r ys → IsRow r (put_by order x ys)
  put_there r x [] h = h
  put_there r x (y ∷ ys) h = by (is_gt (order x y)) h (put_there r x ys)
    where
      by : (b : Bool) → (r ≡ x) ⊎ ((r ≡ y) ⊎ IsRow r ys) → ((r ≡ x) ⊎ IsRow r ys → IsRow r (put_by order x ys)) → IsRow r (if b then y ∷ put_by order x ys else x ∷ y ∷ ys)
      by true (inl e) again = inr (again (inl e))
      by true (inr (inl e)) again = inl e
      by true (inr (inr g)) again = inr (again (inr g))
      by false h again = h

  pub sorted_has : (r : stored.Entry) (xs : List stored.Entry) → IsRow r (sorted_by order xs) → IsRow r xs
  sorted_has r [] h = h
  sorted_has r (x ∷ xs) h = by (put_has r x (sorted_by order xs) h) (sorted_has r xs)
    where
      by : (r ≡ x) ⊎ IsRow r (sorted_by order xs) → (IsRow r (sorted_by order xs) → IsRow r xs) → (r ≡ x) ⊎ IsRow r xs
      by (inl e) again = inl e
      by (inr g) again = inr (again g)

  pub sorted_there : (r : stored.Entry) (xs : List stored.Entry) → IsRow r xs → IsRow r (sorted_by order xs)
  sorted_there r [] h = h
  sorted_there r (x ∷ xs) h = put_there r x (sorted_by order xs) (by h (sorted_there r xs))
    where
      by : (r ≡ x) ⊎ IsRow r xs → (IsRow r xs → IsRow r (sorted_by order xs)) → (r ≡ x) ⊎ IsRow r (sorted_by order xs)
      by (inl e) again = inl e
      by (inr g) again = inr (again g)

-- ---- rows in the order of their codes

module _ (columns : List ℕ) where
  -- codes strictly rise
  abbrev pub AreCoded : List stored.Entry → Type 0
  AreCoded [] = Unit {0}
  AreCoded (x ∷ rows) = AllByRecursion (λ (y : stored.Entry). precedes (code_of columns x) (code_of columns y) ≡ true) rows × AreCoded rows

  greater_turned : (x y : stored.Entry) (r : Ordering) → by_columns columns x y ≡ r → is_gt r ≡ true → by_columns columns y x ≡ Less
  greater_turned x y Less e h = absurd (cc)
  greater_turned x y Equal e h = absurd (cc)
  greater_turned x y Greater e h = (lists_total value_order_total).antisymm (key_of columns y.1) (key_of columns x.1) ∙ ap ordering_reverse e

  before : (x y : stored.Entry) (r : Ordering) → IsKept x → IsKept y → x.0 < y.0 → by_columns columns x y ≡ r → is_gt r ≡ false → precedes (code_of columns x) (code_of columns y) ≡ true
  before x y Less h g less e f = before_by_values columns x y h g e
  before x y Equal h g less e f = before_by_numbers columns x y h g e (sym (nat_cmp_is x.0 y.0 Less less))
  before x y Greater h g less e f = absurd (cc)

  put_coded : (x : stored.Entry) (rows : List stored.Entry) → IsKept x → AreKept rows → AllByRecursion (λ (y : stored.Entry). x.0 < y.0) rows → AreCoded rows → AreCoded (put_by (by_columns columns) x rows)
  put_coded x [] h g less c = (tt, tt)
  put_coded x (y ∷ rows) h g less c = by (is_gt (by_columns columns x y)) refl (put_coded x rows h g.1 less.1 c.1)
    where
      by : (b : Bool) → is_gt (by_columns columns x y) ≡ b → AreCoded (put_by (by_columns columns) x rows) → AreCoded (if b then y ∷ put_by (by_columns columns) x rows else x ∷ y ∷ rows)
      by true e again = (
        put_all (by_columns columns) (λ (z : stored.Entry). precedes (code_of columns y) (code_of columns z) ≡ true) x rows
            (before_by_values columns y x g.0 h (greater_turned x y (by_columns columns x y) refl e)) c.0,
        again,
      )
      by false e again =
          let first = before x y (by_columns columns x y) h g.0 less.0 refl e in (
            (
              first,
              each_map (λ (z : stored.Entry). precedes (code_of columns y) (code_of columns z) ≡ true) (λ (z : stored.Entry). precedes (code_of columns x) (code_of columns z) ≡ true) rows
                  (λ z later. lt_trans (code_of columns x) (code_of columns y) (code_of columns z) first later) c.0,
            ),
            c,
          )

  pub sorted_coded : (rows : List stored.Entry) → AreKept rows → AreRising rows → AreCoded (sorted_by (by_columns columns) rows)
  sorted_coded [] h rise = tt
  sorted_coded (x ∷ rows) h rise =
      put_coded x (sorted_by (by_columns columns) rows) h.0 (sorted_all (by_columns columns) IsKept rows h.1) (sorted_all (by_columns columns) (λ (y : stored.Entry). x.0 < y.0) rows rise.0)
      (sorted_coded rows h.1 rise.1)

  mapped_all : (x : stored.Entry) (rows : List stored.Entry) → AllByRecursion (λ (y : stored.Entry). precedes (code_of columns x) (code_of columns y) ≡ true) rows
      → AllByRecursion (λ (y : Entry). precedes (index_entry columns x).key y.key ≡ true) (map (index_entry columns) rows)
  mapped_all x [] h = tt
  mapped_all x (y ∷ rows) h = (h.0, mapped_all x rows h.1)

  coded_ascend : (rows : List stored.Entry) → AreCoded rows → Ascends (map (index_entry columns) rows)
  coded_ascend [] h = tt
  coded_ascend (x ∷ rows) h = (mapped_all x rows h.0, coded_ascend rows h.1)

  pub row_stands : (r : stored.Entry) (rows : List stored.Entry) → IsRow r rows → Stands (index_entry columns r) (map (index_entry columns) rows)
  row_stands r [] h = h
  row_stands r (x ∷ rows) (inl e) = inl (ap (index_entry columns) e)
  row_stands r (x ∷ rows) (inr h) = inr (row_stands r rows h)

  stands_row : (x : Entry) (rows : List stored.Entry) → Stands x (map (index_entry columns) rows) → IsOfRow columns rows x
  stands_row x [] h = absurd h
  stands_row x (r ∷ rows) (inl e) = record { row = r; among = inl refl; is = e }
  stands_row x (r ∷ rows) (inr h) = let w = stands_row x rows h in record { row = w.row; among = inr w.among; is = w.is }

-- ---- two lists that ascend and have the same entries

all_of : (P : Entry → Type 0) (es : List Entry) (x : Entry) → AllByRecursion P es → Stands x es → P x
all_of P [] x h g = absurd g
all_of P (e ∷ es) x h (inl g) = subst P (sym g) h.0
all_of P (e ∷ es) x h (inr g) = all_of P es x h.1 g

pub same_entries : (xs ys : List Entry) → Ascends xs → Ascends ys → ((z : Entry) → Stands z xs → Stands z ys) → ((z : Entry) → Stands z ys → Stands z xs) → xs ≡ ys
same_entries [] [] h g to back = refl
same_entries [] (y ∷ ys) h g to back = absurd (back y (inl refl))
same_entries (x ∷ xs) [] h g to back = absurd (to x (inl refl))
same_entries (x ∷ xs) (y ∷ ys) h g to back = at (first (to x (inl refl)) (back y (inl refl))) (same_entries xs ys h.1 g.1)
  where
    first : Stands x (y ∷ ys) → Stands y (x ∷ xs) → x ≡ y
    first (inl e) q = e
    first (inr p) (inl e) = sym e
    first (inr p) (inr q) =
        let less = all_of (λ (z : Entry). precedes y.key z.key ≡ true) ys x g.0 p in
        let more = all_of (λ (z : Entry). precedes x.key z.key ≡ true) xs y h.0 q in
        let none = not_both x.key y.key more in absurd (cc)

    onward : x ≡ y → (z : Entry) → Stands z xs → Stands z (y ∷ ys) → Stands z ys
    onward e z p (inr q) = q
    onward e z p (inl q) =
        let more = all_of (λ (w : Entry). precedes x.key w.key ≡ true) xs z h.0 p in
        let same : z ≡ x = q ∙ sym e in
        let self : precedes x.key x.key ≡ true = subst (λ (w : Entry). precedes x.key w.key ≡ true) same more in
        let none = not_self x.key in absurd (cc)

    backward : x ≡ y → (z : Entry) → Stands z ys → Stands z (x ∷ xs) → Stands z xs
    backward e z p (inr q) = q
    backward e z p (inl q) =
        let more = all_of (λ (w : Entry). precedes y.key w.key ≡ true) ys z g.0 p in
        let same : z ≡ y = q ∙ e in
        let self : precedes y.key y.key ≡ true = subst (λ (w : Entry). precedes y.key w.key ≡ true) same more in
        let none = not_self y.key in absurd (cc)

    at : x ≡ y → (((z : Entry) → Stands z xs → Stands z ys) → ((z : Entry) → Stands z ys → Stands z xs) → xs ≡ ys) → x ∷ xs ≡ y ∷ ys
    at e again =
        let rest : xs ≡ ys = again (λ z p. onward e z p (to z (inr p))) (λ z p. backward e z p (back z (inr p))) in
        ap (λ (w : Entry). w ∷ xs) e ∙ ap (λ (ws : List Entry). y ∷ ws) rest

-- ---- the walk

pub walk_is : (pages : PageMap) (root : ℕ) (owned columns : List ℕ) (rows : List stored.Entry) → (h : HoldsIndex pages root owned columns rows) → AreKept rows → AreRising rows
    → h.entries ≡ map (index_entry columns) (sorted_by (by_columns columns) rows)
walk_is pages root owned columns rows h kept rise =
    same_entries h.entries (map (index_entry columns) (sorted_by (by_columns columns) rows)) (root_ascends pages root owned h.entries h.tree) (coded_ascend columns (sorted_by (by_columns columns) rows) (sorted_coded columns rows kept rise))
    (λ z p. let w = h.only z p in subst (λ (e : Entry). Stands e (map (index_entry columns) (sorted_by (by_columns columns) rows))) (sym w.is)
    (row_stands columns w.row (sorted_by (by_columns columns) rows) (sorted_there (by_columns columns) w.row rows w.among)))
    (λ z p. let w = stands_row columns z (sorted_by (by_columns columns) rows) p in subst (λ (e : Entry). Stands e h.entries) (sym w.is)
    (h.each w.row (sorted_has (by_columns columns) w.row rows w.among)))
