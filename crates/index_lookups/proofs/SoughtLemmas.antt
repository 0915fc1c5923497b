-- Which rows a walk along an index may pass over.
use Rattle.std.proofs.Common.{◌≡◌, ◌∙◌, refl, sym, ap, subst, ℕ, Bool, true, false, List, [], ◌∷◌, ◌++◌, append_assoc, ◌⊎◌, inl, inr, Ordering}
use Rattle.std.specs.Prelude.{◌&&◌, Some, filter, nat_lt, if◌then◌else◌, slice_index_or}
use Rattle.std.specs.Ordering.{nat_cmp, ordering_then, is_lt, is_gt, is_eq, is_le, is_ge, int_cmp}
use Rattle.std.specs.Cmp.Lexicographic.{slice_cmp, pointwise}
use Rattle.std.specs.declared.cmp.Ordering.TheVariants.{Less, Equal, Greater}
use Rattle.std.specs.declared.ops.Bound.{Bound}
use Rattle.std.specs.declared.ops.Bound.TheVariants.{Included, Excluded, Unbounded}
use Rattle.std.specs.Cmp.{nat_cmp_is}
use Rattle.std.proofs.lemmas.Bool.{ltb-true}
use Rattle.std.proofs.lemmas.Cmp.{lists_total, nat_cmp_total, tied_itself, upto}
use Rattle.std.proofs.lemmas.List.{append-nil as append_nil}
use Rattle.sqlval.specs.declared.value.Value.{Value}
use Rattle.sqlval.specs.declared.value.Value.TheVariants.{Null, Int, Text}
use Rattle.sqlval.specs.declared.truth.Truth.TheVariants.{True}
use Rattle.sqlval.specs.declared.comparison.CompOp.TheVariants as op
use Rattle.sqlval.specs.Comparison.{comparison, value_order, text_order}
use Rattle.sqlval.specs.Matching.{is_equal, key_of, matches}
use Rattle.sqlval.specs.Truth.{same_truth, truth_of}
use Rattle.sqlval.proofs.ValueOrderLaws.{value_order_total, value_order-level}
use Rattle.store.specs.Contents.{Entry}
use Rattle.store.specs.Indexes.{by_columns, first_of, is_above, is_below, is_beyond}
use Rattle.store.specs.Sorted.{put_by, sorted_by}
use Rattle.sqlrecord.specs.Storable.{AllStorable}
use Rattle.sqlrecord.specs.Key.{value_key, key_code, number_code, byte_order}
use Rattle.sqlrecord.proofs.OrderLemmas.{keys_first}
use Rattle.btree_read.specs.Nodes.{precedes}
use Rattle.btree_read.proofs.OrderLemmas.{empty_lowest}
use Rattle.tablestore.specs.Held.{IsKept}
use Rattle.index_lookups.proofs.CodeOrder.{code_of, cell_storable, values_not_greater}

-- ---- a key

level : (r : Ordering) → same_truth (truth_of (is_eq r)) True ≡ true → r ≡ Equal
level Less e = absurd (cc)
level Equal e = refl
level Greater e = absurd (cc)

equal_one : (x y : Value) → is_equal x y ≡ true → x ≡ y
equal_one Null Null e = refl
equal_one Null (Int y) e = absurd (cc)
equal_one Null (Text y) e = absurd (cc)
equal_one (Int x) Null e = absurd (cc)
equal_one (Int x) (Int y) e = value_order-level (Int x) (Int y) (level (int_cmp x y) e)
equal_one (Int x) (Text y) e = absurd (cc)
equal_one (Text x) Null e = absurd (cc)
equal_one (Text x) (Int y) e = absurd (cc)
equal_one (Text x) (Text y) e = value_order-level (Text x) (Text y) (level (text_order x y) e)

both_true : (a b : Bool) → (a && b) ≡ true → (a ≡ true) × (b ≡ true)
both_true true true e = (refl, refl)
both_true true false e = absurd (cc)
both_true false b e = absurd (cc)

-- a row that matches a key has just its values
equal_keys : (xs ys : List Value) → pointwise is_equal xs ys ≡ true → xs ≡ ys
equal_keys [] [] e = refl
equal_keys [] (y ∷ ys) e = absurd (cc)
equal_keys (x ∷ xs) [] e = absurd (cc)
equal_keys (x ∷ xs) (y ∷ ys) e =
    let both = both_true (is_equal x y) (pointwise is_equal xs ys) e in
    let head = equal_one x y both.0 in
    let tail = equal_keys xs ys both.1 in
    cc

-- it is not so where it leads to nothing
refuted : (b : Bool) → (b ≡ true → ⊥) → b ≡ false
refuted true h = absurd (h refl)
refuted false h = refl

never : false ≡ true → ⊥
never e = cc

longer_not_before : (p s : List ℕ) → precedes (p ++ s) p ≡ false
unfolding precedes
longer_not_before [] [] = refl
longer_not_before [] (x ∷ s) = refl
longer_not_before (x ∷ p) s = ap (λ o. is_lt (ordering_then o (byte_order (p ++ s) p))) (tied_itself nat_cmp_total x) ∙ longer_not_before p s

-- no row before a key's code matches the key
pub key_skipped : (columns : List ℕ) (key : List Value) (code : List ℕ) (e : Entry) → (code ≡ []) ⊎ (code ≡ key_code key) → precedes (code_of columns e) code ≡ true → matches columns key e.1 ≡ false
key_skipped columns key code e (inl none) before =
    absurd (never (sym (empty_lowest (code_of columns e)) ∙ subst (λ (c : List ℕ). precedes (code_of columns e) c ≡ true) none before))
key_skipped columns key code e (inr is) before = refuted (matches columns key e.1) (λ m.
    let same : key_of columns e.1 ≡ key = equal_keys (key_of columns e.1) key m in
    let here : precedes (key_code key ++ number_code e.0) (key_code key) ≡ true =
    subst (λ (c : List ℕ). precedes (key_code key ++ number_code e.0) c ≡ true) is (subst (λ (k : List Value). precedes (key_code k ++ number_code e.0) code ≡ true) same before) in
    never (sym (longer_not_before (key_code key) (number_code e.0)) ∙ here))

-- nor does one whose values are greater, or one behind it
pub key_past_itself : (columns : List ℕ) (key : List Value) (e : Entry) → is_gt (slice_cmp value_order (key_of columns e.1) key) ≡ true → matches columns key e.1 ≡ false
key_past_itself columns key e greater = refuted (matches columns key e.1) (λ m.
    let same : key_of columns e.1 ≡ key = equal_keys (key_of columns e.1) key m in
    never (sym (ap is_gt (tied_itself (lists_total value_order_total) key)) ∙ subst (λ (k : List Value). is_gt (slice_cmp value_order k key) ≡ true) same greater))

pub key_past : (columns : List ℕ) (key : List Value) (e f : Entry) → IsKept e → IsKept f → is_gt (slice_cmp value_order (key_of columns e.1) key) ≡ true → precedes (code_of columns e) (code_of columns f) ≡ true
    → matches columns key f.1 ≡ false
key_past columns key e f h g greater before = refuted (matches columns key f.1) (λ m.
    let same : key_of columns f.1 ≡ key = equal_keys (key_of columns f.1) key m in
    let less : is_gt (slice_cmp value_order (key_of columns e.1) key) ≡ false = subst (λ (k : List Value). is_gt (slice_cmp value_order (key_of columns e.1) k) ≡ false) same (values_not_greater columns e f h g before) in
    never (sym less ∙ greater))

-- one that matches a key, and is not beyond it with a number, has no greater number
pub key_not_above : (columns : List ℕ) (key : List Value) (number : ℕ) (e : Entry) → is_beyond (Some (key, number)) (key_of columns e.1) e.0 ≡ false → (matches columns key e.1 && nat_lt number e.0) ≡ false
key_not_above columns key number e before = refuted (matches columns key e.1 && nat_lt number e.0) (λ m.
    let both = both_true (matches columns key e.1) (nat_lt number e.0) m in
    let tied : slice_cmp value_order (key_of columns e.1) key ≡ Equal =
    ap (λ (k : List Value). slice_cmp value_order k key) (equal_keys (key_of columns e.1) key both.0) ∙ tied_itself (lists_total value_order_total) key in
    let greater : nat_cmp e.0 number ≡ Greater = sym (nat_cmp_is e.0 number Greater (ltb-true number e.0 both.1)) in
    never (sym before ∙ ap (λ o. is_gt (ordering_then o (nat_cmp e.0 number))) tied ∙ ap is_gt greater))

-- rows that match one key tie
pub matching_tie : (columns : List ℕ) (key : List Value) (e f : Entry) → matches columns key e.1 ≡ true → matches columns key f.1 ≡ true → is_gt (by_columns columns e f) ≡ false
matching_tie columns key e f m n =
    ap is_gt (ap (λ (k : List Value). slice_cmp value_order k (key_of columns f.1)) (equal_keys (key_of columns e.1) key m ∙ sym (equal_keys (key_of columns f.1) key n)) ∙ tied_itself (lists_total value_order_total) (key_of columns f.1))

-- ---- rows that tie, in an order

module _ {A : Type 0} (order : A → A → Ordering) (is_one : A → Bool) (tie : (x y : A) → is_one x ≡ true → is_one y ≡ true → is_gt (order x y) ≡ false) where
  two : (x y : A) (a b : Bool) (rest : List A) → (a ≡ true → b ≡ true → ⊥)
      → (if a then y ∷ (if b then x ∷ rest else rest) else (if b then x ∷ rest else rest)) ≡ (if b then x ∷ (if a then y ∷ rest else rest) else (if a then y ∷ rest else rest))
  two x y true true rest h = absurd (h refl refl)
  two x y true false rest h = refl
  two x y false b rest h = refl

  put_filtered : (x : A) (ys : List A) → filter is_one (put_by order x ys) ≡ filter is_one (x ∷ ys)
  put_filtered x [] = refl
  put_filtered x (y ∷ ys) = by (is_gt (order x y)) refl (put_filtered x ys)
    where
      by : (b : Bool) → is_gt (order x y) ≡ b → filter is_one (put_by order x ys) ≡ filter is_one (x ∷ ys) → filter is_one (if b then y ∷ put_by order x ys else x ∷ y ∷ ys) ≡ filter is_one (x ∷ y ∷ ys)
      by false e again = refl
      by true e again = ap (λ zs. if is_one y then y ∷ zs else zs) again ∙ two x y (is_one y) (is_one x) (filter is_one ys) (λ p q. never (sym (tie x y q p) ∙ e))

  -- those that tie stay in the order in which they stood
  pub sorted_filtered : (xs : List A) → filter is_one (sorted_by order xs) ≡ filter is_one xs
  sorted_filtered [] = refl
  sorted_filtered (x ∷ xs) = put_filtered x (sorted_by order xs) ∙ ap (λ zs. if is_one x then x ∷ zs else zs) (sorted_filtered xs)

-- ---- bounds

le_by : (r : Ordering) → is_gt r ≡ true → same_truth (truth_of (is_le r)) True ≡ false
le_by Less e = absurd (cc)
le_by Equal e = absurd (cc)
le_by Greater e = refl

lt_by : (r : Ordering) → is_gt r ≡ true → same_truth (truth_of (is_lt r)) True ≡ false
lt_by Less e = absurd (cc)
lt_by Equal e = absurd (cc)
lt_by Greater e = refl

not_at_most : (x y : Value) → is_gt (value_order x y) ≡ true → same_truth (comparison op.LessOrEqual x y) True ≡ false
not_at_most Null Null e = refl
not_at_most Null (Int y) e = refl
not_at_most Null (Text y) e = refl
not_at_most (Int x) Null e = refl
not_at_most (Int x) (Int y) e = le_by (int_cmp x y) e
not_at_most (Int x) (Text y) e = refl
not_at_most (Text x) Null e = refl
not_at_most (Text x) (Int y) e = refl
not_at_most (Text x) (Text y) e = le_by (text_order x y) e

not_less : (x y : Value) → is_gt (value_order x y) ≡ true → same_truth (comparison op.Less x y) True ≡ false
not_less Null Null e = refl
not_less Null (Int y) e = refl
not_less Null (Text y) e = refl
not_less (Int x) Null e = refl
not_less (Int x) (Int y) e = lt_by (int_cmp x y) e
not_less (Int x) (Text y) e = refl
not_less (Text x) Null e = refl
not_less (Text x) (Int y) e = refl
not_less (Text x) (Text y) e = lt_by (text_order x y) e

not_at_least : (x y : Value) → value_order x y ≡ Less → same_truth (comparison op.GreaterOrEqual x y) True ≡ false
not_at_least Null Null e = refl
not_at_least Null (Int y) e = refl
not_at_least Null (Text y) e = refl
not_at_least (Int x) Null e = refl
not_at_least (Int x) (Int y) e = ap (λ r. same_truth (truth_of (is_ge r)) True) e
not_at_least (Int x) (Text y) e = refl
not_at_least (Text x) Null e = refl
not_at_least (Text x) (Int y) e = refl
not_at_least (Text x) (Text y) e = ap (λ r. same_truth (truth_of (is_ge r)) True) e

not_greater : (x y : Value) → value_order x y ≡ Less → same_truth (comparison op.Greater x y) True ≡ false
not_greater Null Null e = refl
not_greater Null (Int y) e = refl
not_greater Null (Text y) e = refl
not_greater (Int x) Null e = refl
not_greater (Int x) (Int y) e = ap (λ r. same_truth (truth_of (is_gt r)) True) e
not_greater (Int x) (Text y) e = refl
not_greater (Text x) Null e = refl
not_greater (Text x) (Int y) e = refl
not_greater (Text x) (Text y) e = ap (λ r. same_truth (truth_of (is_gt r)) True) e

-- a value above an upper bound in the order of the index does not meet it
abbrev is_over : Bound Value → Value → Bool
is_over Unbounded x = false
is_over (Included high) x = is_gt (value_order x high)
is_over (Excluded high) x = is_gt (value_order x high)

pub over_not_below : (high : Bound Value) (x : Value) → is_over high x ≡ true → is_below high x ≡ false
over_not_below Unbounded x e = absurd (never e)
over_not_below (Included high) x e = not_at_most x high e
over_not_below (Excluded high) x e = not_less x high e

greater_on : (x y z : Value) → is_gt (value_order x z) ≡ true → is_gt (value_order x y) ≡ false → is_gt (value_order y z) ≡ true
greater_on x y z above less = by (is_gt (value_order y z)) refl
  where
    by : (b : Bool) → is_gt (value_order y z) ≡ b → b ≡ true
    by true e = refl
    by false e = absurd (never (sym (upto value_order_total x y z less e) ∙ above))

-- nor does one that is not less
pub over_on : (high : Bound Value) (x y : Value) → is_over high x ≡ true → is_gt (value_order x y) ≡ false → is_over high y ≡ true
over_on Unbounded x y e less = e
over_on (Included high) x y e less = greater_on x y high e less
over_on (Excluded high) x y e less = greater_on x y high e less

first_by : (r s : Ordering) → is_gt (ordering_then r s) ≡ false → is_gt r ≡ false
first_by Less s e = refl
first_by Equal s e = refl
first_by Greater s e = absurd (cc)

-- the first value of a row is not greater than that of one behind it
pub first_not_greater : (columns : List ℕ) (e f : Entry) → IsKept e → IsKept f → precedes (code_of columns e) (code_of columns f) ≡ true
    → is_gt (value_order (first_of (key_of columns e.1)) (first_of (key_of columns f.1))) ≡ false
first_not_greater [] e f h g before = refl
first_not_greater (c ∷ columns) e f h g before = first_by (value_order (slice_index_or e.1 c Null) (slice_index_or f.1 c Null)) (slice_cmp value_order (key_of columns e.1) (key_of columns f.1)) (values_not_greater (c ∷ columns) e f h g before)

-- ---- where a walk from a lower bound begins

nothing_not_behind : (s : List ℕ) → is_lt (byte_order s []) ≡ false
nothing_not_behind [] = refl
nothing_not_behind (x ∷ s) = refl

first_is_less : (r s : Ordering) → is_lt s ≡ false → is_lt (ordering_then (ordering_then r Equal) s) ≡ true → r ≡ Less
first_is_less Less s h e = refl
first_is_less Equal s h e = absurd (never (sym h ∙ e))
first_is_less Greater s h e = absurd (cc)

value_less : (c : ℕ) (columns : List ℕ) (v : Value) (e : Entry) → IsKept e → AllStorable (v ∷ []) → precedes (code_of (c ∷ columns) e) (key_code (v ∷ [])) ≡ true → value_order (slice_index_or e.1 c Null) v ≡ Less
unfolding precedes
value_less c columns v e h g before =
    let x = slice_index_or e.1 c Null in
    let rest = key_code (key_of columns e.1) ++ number_code e.0 in
    let left : code_of (c ∷ columns) e ≡ key_code (x ∷ []) ++ rest =
    append_assoc (value_key x) (key_code (key_of columns e.1)) (number_code e.0) ∙ ap (λ (k : List ℕ). k ++ rest) (sym (append_nil (value_key x))) in
    let right : key_code (v ∷ []) ≡ key_code (v ∷ []) ++ [] = sym (append_nil (key_code (v ∷ []))) in
    let order = keys_first (x ∷ []) (v ∷ []) rest [] (cell_storable e.1 c h.storable, tt) g refl in
    first_is_less (value_order x v) (byte_order rest []) (nothing_not_behind rest)
    (ap is_lt (sym (ap (λ (k : List ℕ). byte_order k (key_code (v ∷ []))) left ∙ ap (byte_order (key_code (x ∷ []) ++ rest)) right ∙ order)) ∙ before)

-- no row before the code of a lower bound meets it
pub low_skipped : (columns : List ℕ) (v : Value) (code : List ℕ) (e : Entry) → IsKept e → (code ≡ []) ⊎ ((code ≡ key_code (v ∷ [])) × AllStorable (v ∷ [])) → precedes (code_of columns e) code ≡ true
    → (is_above (Included v) (first_of (key_of columns e.1)) ≡ false) × (is_above (Excluded v) (first_of (key_of columns e.1)) ≡ false)
low_skipped columns v code e h (inl none) before =
    absurd (never (sym (empty_lowest (code_of columns e)) ∙ subst (λ (c : List ℕ). precedes (code_of columns e) c ≡ true) none before))
low_skipped [] Null code e h (inr is) before = (refl, refl)
low_skipped [] (Int v) code e h (inr is) before = (refl, refl)
low_skipped [] (Text v) code e h (inr is) before = (refl, refl)
low_skipped (c ∷ columns) v code e h (inr is) before =
    let less = value_less c columns v e h is.1 (subst (λ (k : List ℕ). precedes (code_of (c ∷ columns) e) k ≡ true) is.0 before) in
    (not_at_least (slice_index_or e.1 c Null) v less, not_greater (slice_index_or e.1 c Null) v less)
