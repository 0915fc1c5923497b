-- The codes of an index's entries stand in the order of the values of the columns, and then of the
-- row numbers.
use Rattle.std.proofs.Common.{◌≡◌, ◌∙◌, refl, sym, ap, ℕ, zero, suc, ◌^◌, ◌<◌, true, false, List, [], ◌∷◌, length, drop, drop-cons, Ordering, arith}
use Rattle.std.specs.Prelude.{slice_index_or}
use Rattle.std.specs.Ordering.{nat_cmp, ordering_then, ordering_reverse, is_lt, is_gt}
use Rattle.std.specs.declared.cmp.Ordering.TheVariants.{Less, Equal, Greater}
use Rattle.std.specs.Cmp.Lexicographic.{slice_cmp}
use Rattle.std.proofs.lemmas.Cmp.{lists_total, nat_cmp_total}
use Rattle.sqlval.specs.declared.value.Value.{Value}
use Rattle.sqlval.specs.declared.value.Value.TheVariants.{Null}
use Rattle.sqlval.specs.Comparison.{value_order}
use Rattle.sqlval.specs.Matching.{key_of}
use Rattle.sqlval.specs.Value.{Row}
use Rattle.sqlval.proofs.ValueOrderLaws.{value_order_total}
use Rattle.store.specs.Contents.{Entry}
use Rattle.store.specs.Indexes.{by_columns}
use Rattle.sqlrecord.specs.Storable.{IsStorable, AllStorable}
use Rattle.sqlrecord.specs.Key.{index_key_code, byte_order, key_order}
use Rattle.sqlrecord.proofs.OrderLemmas.{index_keys}
use Rattle.btree_read.specs.Nodes.{precedes}
use Rattle.tablestore.specs.Held.{IsKept}

-- a row's code in an index
abbrev pub code_of : List ℕ → Entry → List ℕ
code_of columns e = index_key_code (key_of columns e.1) e.0

pub order_is : (a b : List Value) → key_order a b ≡ slice_cmp value_order a b
order_is [] [] = refl
order_is [] (y ∷ ys) = refl
order_is (x ∷ xs) [] = refl
order_is (x ∷ xs) (y ∷ ys) = ap (ordering_then (value_order x y)) (order_is xs ys)

pub cell_storable : (row : Row) (n : ℕ) → AllStorable row → IsStorable (slice_index_or row n Null)
cell_storable [] n h = tt
cell_storable (x ∷ row) zero h = h.0
cell_storable (x ∷ row) (suc n) h = cell_storable row n h.1

pub key_storable : (columns : List ℕ) (row : Row) → AllStorable row → AllStorable (key_of columns row)
key_storable [] row h = tt
key_storable (c ∷ columns) row h = (cell_storable row c h, key_storable columns row h)

pub key_long : (columns : List ℕ) (row : Row) → length (key_of columns row) ≡ length columns
key_long [] row = refl
key_long (c ∷ columns) row = ap suc (key_long columns row)

pub kept_number : (e : Entry) → IsKept e → e.0 < 2 ^ 64
kept_number e h = let p = h.number in omega (arith, p)

pub coded : (columns : List ℕ) (a b : Entry) → IsKept a → IsKept b → byte_order (code_of columns a) (code_of columns b) ≡ ordering_then (by_columns columns a b) (nat_cmp a.0 b.0)
coded columns a b h g =
    index_keys (key_of columns a.1) (key_of columns b.1) a.0 b.0 (key_storable columns a.1 h.storable) (key_storable columns b.1 g.storable) (key_long columns a.1 ∙ sym (key_long columns b.1))
    (kept_number a h) (kept_number b g)
    ∙ ap (λ o. ordering_then o (nat_cmp a.0 b.0)) (order_is (key_of columns a.1) (key_of columns b.1))

-- ---- what it is for a code to stand before another

first_less : (r s : Ordering) → r ≡ Less → is_lt (ordering_then r s) ≡ true
first_less r s e = ap (λ o. is_lt (ordering_then o s)) e

second_less : (r s : Ordering) → r ≡ Equal → s ≡ Less → is_lt (ordering_then r s) ≡ true
second_less r s e f = ap (λ o. is_lt (ordering_then o s)) e ∙ ap is_lt f

not_greater : (r s : Ordering) → is_lt (ordering_then r s) ≡ true → is_gt r ≡ false
not_greater Less s e = refl
not_greater Equal s e = refl
not_greater Greater s e = absurd (cc)

pub before_by_values : (columns : List ℕ) (a b : Entry) → IsKept a → IsKept b → by_columns columns a b ≡ Less → precedes (code_of columns a) (code_of columns b) ≡ true
unfolding precedes
before_by_values columns a b h g e = ap is_lt (coded columns a b h g) ∙ first_less (by_columns columns a b) (nat_cmp a.0 b.0) e

pub before_by_numbers : (columns : List ℕ) (a b : Entry) → IsKept a → IsKept b → by_columns columns a b ≡ Equal → nat_cmp a.0 b.0 ≡ Less → precedes (code_of columns a) (code_of columns b) ≡ true
unfolding precedes
before_by_numbers columns a b h g e f = ap is_lt (coded columns a b h g) ∙ second_less (by_columns columns a b) (nat_cmp a.0 b.0) e f

-- the values of a row whose code stands before another's are not greater
pub values_not_greater : (columns : List ℕ) (a b : Entry) → IsKept a → IsKept b → precedes (code_of columns a) (code_of columns b) ≡ true → is_gt (by_columns columns a b) ≡ false
unfolding precedes
values_not_greater columns a b h g e = not_greater (by_columns columns a b) (nat_cmp a.0 b.0) (ap is_lt (sym (coded columns a b h g)) ∙ e)

-- ---- a place in an index

turned : (r s : Ordering) → is_lt (ordering_then (ordering_reverse r) (ordering_reverse s)) ≡ is_gt (ordering_then r s)
turned Less s = refl
turned Equal Less = refl
turned Equal Equal = refl
turned Equal Greater = refl
turned Greater s = refl

-- a row's code stands behind that of a place just where the row is beyond it
pub beyond_place : (columns : List ℕ) (key : List Value) (number : ℕ) (e : Entry) → AllStorable key → length key ≡ length columns → number < 2 ^ 64 → IsKept e
    → precedes (index_key_code key number) (code_of columns e) ≡ is_gt (ordering_then (slice_cmp value_order (key_of columns e.1) key) (nat_cmp e.0 number))
unfolding precedes
beyond_place columns key number e storable long small h =
    ap is_lt (index_keys key (key_of columns e.1) number e.0 storable (key_storable columns e.1 h.storable) (long ∙ sym (key_long columns e.1)) small (kept_number e h))
    ∙ ap (λ o. is_lt (ordering_then o (nat_cmp number e.0))) (order_is key (key_of columns e.1) ∙ (lists_total value_order_total).antisymm key (key_of columns e.1))
    ∙ ap (λ o. is_lt (ordering_then (ordering_reverse (slice_cmp value_order (key_of columns e.1) key)) o)) (nat_cmp_total.antisymm number e.0)
    ∙ turned (slice_cmp value_order (key_of columns e.1) key) (nat_cmp e.0 number)

-- a key that ends before the columns do
pub past_key : (columns : List ℕ) (row : Row) (i : ℕ) → i < length columns → slice_cmp value_order (key_of (drop i columns) row) [] ≡ Greater
past_key columns row i below = ap (λ (left : List ℕ). slice_cmp value_order (key_of left row) []) (drop-cons columns i 0 below)
