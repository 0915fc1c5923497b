-- Entries of indexes, put in and taken out.
use Rattle.std.proofs.Common.{◌≡◌, ◌≢◌, ℕ, ◌+◌, ◌^◌, ◌<◌, Bool, true, false, List, [], ◌∷◌, ◌++◌, length, ◌⊎◌, inl, inr, Option, Some, None, IsSome, refl, sym, ap, ◌∙◌, subst, arith}
use Rattle.std.proofs.Common.{zero, suc, nat_lt, ◌≤◌, take, get_or}
use Rattle.std.specs.Prelude.{slice_index_or, slice_get}
use Rattle.sqlval.specs.declared.value.Value.TheVariants.{Null}
use Rattle.sqlval.specs.Value.{Row}
use Rattle.std.proofs.lemmas.Bool.{ltb-true, ltb-false}
use Rattle.std.proofs.lemmas.List.{length-append, map-append, take_more}
use Rattle.sqlval.specs.declared.value.Value.{Value}
use Rattle.sqlval.specs.CodedLength.{key_length}
use Rattle.sqlrecord.proofs.OrderLemmas.{length_index_key}
use Rattle.std.specs.Prelude.{if◌then◌else◌}
use Rattle.std.specs.List.{AllByRecursion}
use Rattle.sqlval.specs.Matching.{key_of}
use Rattle.store.specs.Contents as stored
use Rattle.sqlrecord.specs.Key.{key_code, number_code, index_key_code}
use Rattle.sqlrecord.proofs.ByteLemmas.{append_same, length_be, be_same_8}
use Rattle.page_space.specs.Space.{PageMap}
use Rattle.btree_read.specs.declared.entry.Entry.{Entry}
use Rattle.btree_read.specs.Lists.{Has}
use Rattle.btree_read.specs.Nodes.{Key, precedes}
use Rattle.btree_read.specs.Sorted.{Ascends, put, get_of}
use Rattle.btree_read.specs.Tree.{IsTree}
use Rattle.btree_read.proofs.OrderLemmas.{not_self}
use Rattle.btree.specs.Written.{IsWritten}
use Rattle.btree.proofs.LawLemmas.{tree_stays, tree_used}
use Rattle.btree_remove.specs.Removed.{IsRemoved}
use Rattle.btree_remove.proofs.LawLemmas.{comes_first, own_key, beside_used}
use Rattle.btree_remove.proofs.LeafLemmas.{same_key}
use Rattle.btree.specs.Kept.{LosesNoPage}
use Rattle.btree_read.proofs.AscendLemmas.{root_ascends}
use Rattle.btree.proofs.PageLossLemmas.{loses_left}
use Rattle.index_trees.specs.Indexed.{index_entry, Stands, IsRow, IsOfRow, HoldsIndex, AreWith, IndexWritten}

-- ---- keys

ends_same : (xs ys s t : List ℕ) → length s ≡ length t → xs ++ s ≡ ys ++ t → s ≡ t
ends_same xs ys s t l e =
    let a = length-append xs s in
    let b = length-append ys t in
    (append_same xs ys s t (omega (arith, a, b, l, ap length e)) e).1

-- rows of other numbers have other keys
other_keys : (columns : List ℕ) (r s : stored.Entry) → r.0 < 2 ^ 63 → s.0 < 2 ^ 63 → (r.0 ≡ s.0 → ⊥) → (index_entry columns r).key ≡ (index_entry columns s).key → ⊥
other_keys columns r s h g ne e =
    let ends = ends_same (key_code (key_of columns r.1)) (key_code (key_of columns s.1)) (number_code r.0) (number_code s.0) (length_be 8 r.0 ∙ sym (length_be 8 s.0)) e in
    ne (be_same_8 r.0 s.0 (omega (arith, h)) (omega (arith, g)) ends)

-- ---- an entry put in

put_has : (k : Key) (v : List ℕ) (es : List Entry) (x : Entry) → Stands x (put k v es) → (x ≡ record { key = k; value = v }) ⊎ Stands x es
put_has k v [] x (inl e) = inl e
put_has k v [] x (inr h) = absurd h
put_has k v (e ∷ es) x h = by (precedes e.key k) (precedes k e.key) h (put_has k v es x)
  where
    later : (x ≡ record { key = k; value = v }) ⊎ Stands x es → (x ≡ record { key = k; value = v }) ⊎ ((x ≡ e) ⊎ Stands x es)
    later (inl q) = inl q
    later (inr q) = inr (inr q)

    by : (p q : Bool) → Stands x (if p then e ∷ put k v es else if q then record { key = k; value = v } ∷ e ∷ es else record { key = k; value = v } ∷ es)
        → (Stands x (put k v es) → (x ≡ record { key = k; value = v }) ⊎ Stands x es) → (x ≡ record { key = k; value = v }) ⊎ ((x ≡ e) ⊎ Stands x es)
    by true q (inl g) again = inr (inl g)
    by true q (inr g) again = later (again g)
    by false true (inl g) again = inl g
    by false true (inr g) again = inr g
    by false false (inl g) again = inl g
    by false false (inr g) again = inr (inr g)

put_there : (k : Key) (v : List ℕ) (es : List Entry) → Stands (record { key = k; value = v }) (put k v es)
put_there k v [] = inl refl
put_there k v (e ∷ es) = by (precedes e.key k) (precedes k e.key) (put_there k v es)
  where
    by : (p q : Bool) → Stands (record { key = k; value = v }) (put k v es)
        → Stands (record { key = k; value = v }) (if p then e ∷ put k v es else if q then record { key = k; value = v } ∷ e ∷ es else record { key = k; value = v } ∷ es)
    by true q again = inr again
    by false true again = inl refl
    by false false again = inl refl

put_keeps : (k : Key) (v : List ℕ) (es : List Entry) (x : Entry) → (x.key ≡ k → ⊥) → Stands x es → Stands x (put k v es)
put_keeps k v [] x ne h = absurd h
put_keeps k v (e ∷ es) x ne h = by (precedes e.key k) refl (precedes k e.key) refl h (put_keeps k v es x ne)
  where
    by : (p : Bool) → precedes e.key k ≡ p → (q : Bool) → precedes k e.key ≡ q → (x ≡ e) ⊎ Stands x es → (Stands x es → Stands x (put k v es))
        → Stands x (if p then e ∷ put k v es else if q then record { key = k; value = v } ∷ e ∷ es else record { key = k; value = v } ∷ es)
    by true a q b (inl g) again = inl g
    by true a q b (inr g) again = inr (again g)
    by false a true b g again = inr g
    by false a false b (inl g) again = absurd (ne (ap (λ (y : Entry). y.key) g ∙ same_key e.key k a b))
    by false a false b (inr g) again = inr g

-- ---- an entry taken out

all_of : (P : Entry → Type 0) (es : List Entry) (x : Entry) → AllByRecursion P es → Stands x es → P x
all_of P [] x h g = absurd g
all_of P (e ∷ es) x h (inl g) = subst P (sym g) h.0
all_of P (e ∷ es) x h (inr g) = all_of P es x h.1 g

less_has : (before after : List Entry) (y x : Entry) → Stands x (before ++ after) → Stands x (before ++ y ∷ after)
less_has [] after y x h = inr h
less_has (e ∷ before) after y x (inl h) = inl h
less_has (e ∷ before) after y x (inr h) = inr (less_has before after y x h)

less_keeps : (before after : List Entry) (y x : Entry) → (x ≡ y → ⊥) → Stands x (before ++ y ∷ after) → Stands x (before ++ after)
less_keeps [] after y x ne (inl h) = absurd (ne h)
less_keeps [] after y x ne (inr h) = h
less_keeps (e ∷ before) after y x ne (inl h) = inl h
less_keeps (e ∷ before) after y x ne (inr h) = inr (less_keeps before after y x ne h)

key_is_gone : (k : Key) (v : List ℕ) (before after : List Entry) (x : Entry) → Ascends (before ++ record { key = k; value = v } ∷ after) → Stands x (before ++ after) → x.key ≡ k → ⊥
key_is_gone k v [] after x h g e = own_key k (subst (λ j. precedes k j ≡ true) e (all_of (λ (y : Entry). precedes k y.key ≡ true) after x h.0 g))
key_is_gone k v (y ∷ before) after x h (inl g) e = own_key k (subst (λ j. precedes j k ≡ true) (ap (λ (z : Entry). z.key) (sym g) ∙ e) (comes_first k v y before after h.0))
key_is_gone k v (y ∷ before) after x h (inr g) e = key_is_gone k v before after x h.1 g e

stands_found : (es : List Entry) (x : Entry) → Ascends es → Stands x es → get_of x.key es ≡ Some x.value
stands_found [] x h g = absurd g
stands_found (e ∷ es) x h (inl g) = subst (λ (y : Entry). get_of y.key (e ∷ es) ≡ Some y.value) (sym g) (here e)
  where
    here : (y : Entry) → get_of y.key (y ∷ es) ≡ Some y.value
    here y = rw (not_self y.key) refl
stands_found (e ∷ es) x h (inr g) = rw (all_of (λ (y : Entry). precedes e.key y.key ≡ true) es x h.0 g) (stands_found es x h.1 g)

-- ---- the index

pub index_added : (old new : PageMap) (root top : ℕ) (owned columns : List ℕ) (one : stored.Entry) (others rows : List stored.Entry) (key : Key) → key ≡ (index_entry columns one).key
    → (held : HoldsIndex old root owned columns others) → AreWith one others rows → IsWritten old new owned (put key [] held.entries) top → IndexWritten old new owned columns rows top
index_added old new root top owned columns one others rows key is held more w = record {
  now_owned = w.now_owned;
  holds = record {
    entries = put key [] held.entries;
    tree = w.stored;
    each = λ row h. each row (more.all row h);
    only = λ x h. only x (put_has key [] held.entries x h);
  };
  own = w.own;
  others = w.others;
}
  where
    each : (row : stored.Entry) → IsRow row others ⊎ (row ≡ one) → Stands (index_entry columns row) (put key [] held.entries)
    each row (inl h) =
        put_keeps key [] held.entries (index_entry columns row) (λ e. other_keys columns row one (more.numbers row (more.kept row h)) (more.numbers one more.there) (more.apart row h) (e ∙ is)) (held.each row h)
    each row (inr e) =
        let same : record { key = key; value = [] } ≡ index_entry columns row = λ i. record { key = (is ∙ ap (λ r. (index_entry columns r).key) (sym e)) i; value = [] } in
        subst (λ x. Stands x (put key [] held.entries)) same (put_there key [] held.entries)

    only : (x : Entry) → (x ≡ record { key = key; value = [] }) ⊎ Stands x held.entries → IsOfRow columns rows x
    only x (inl e) = record { row = one; among = more.there; is = e ∙ (λ i. record { key = is i; value = [] }) }
    only x (inr h) = let r = held.only x h in record { row = r.row; among = more.kept r.row r.among; is = r.is }

pub index_removed : (old new : PageMap) (root top : ℕ) (owned columns : List ℕ) (one : stored.Entry) (others rows : List stored.Entry) (key : Key) → key ≡ (index_entry columns one).key
    → (held : HoldsIndex old root owned columns rows) → AreWith one others rows → IsRemoved old new owned held.entries key top → IndexWritten old new owned columns others top
index_removed old new root top owned columns one others rows key is held more w = record {
  now_owned = w.now_owned;
  holds = record {
    entries = w.now_entries;
    tree = w.stored;
    each = λ row h. each row h;
    only = λ x h. only x h;
  };
  own = w.own;
  others = λ n h u. w.others n h (λ g. beside_used old new owned held.entries key top w n u h g);
}
  where
    each : (row : stored.Entry) → IsRow row others → Stands (index_entry columns row) w.now_entries
    each row h =
        let there : Stands (index_entry columns row) (w.less.before ++ record { key = key; value = w.less.value } ∷ w.less.after) = subst (Stands (index_entry columns row)) w.less.parts (held.each row (more.kept row h)) in
        subst (Stands (index_entry columns row)) (sym w.less.left)
        (less_keeps w.less.before w.less.after (record { key = key; value = w.less.value }) (index_entry columns row)
        (λ e. other_keys columns row one (more.numbers row (more.kept row h)) (more.numbers one more.there) (more.apart row h) (ap (λ (y : Entry). y.key) e ∙ is)) there)

    only : (x : Entry) → Stands x w.now_entries → IsOfRow columns others x
    only x h =
        let left : Stands x (w.less.before ++ w.less.after) = subst (Stands x) w.less.left h in
        let r = held.only x (subst (Stands x) (sym w.less.parts) (less_has w.less.before w.less.after (record { key = key; value = w.less.value }) x left)) in
        let rising : Ascends (w.less.before ++ record { key = key; value = w.less.value } ∷ w.less.after) = subst Ascends w.less.parts (root_ascends old root owned held.entries held.tree) in
        by left rising r.row r.is (more.all r.row r.among)
      where
        by : Stands x (w.less.before ++ w.less.after) → Ascends (w.less.before ++ record { key = key; value = w.less.value } ∷ w.less.after) → (row : stored.Entry) → x ≡ index_entry columns row
            → IsRow row others ⊎ (row ≡ one) → IsOfRow columns others x
        by left rising row of (inl g) = record { row = row; among = g; is = of }
        by left rising row of (inr e) =
            absurd (key_is_gone key w.less.value w.less.before w.less.after x rising left (ap (λ (y : Entry). y.key) of ∙ ap (λ r. (index_entry columns r).key) e ∙ sym is))

-- the row's entry is there
pub index_absent : (old : PageMap) (root : ℕ) (owned columns : List ℕ) (one : stored.Entry) (others rows : List stored.Entry) (key : Key) {A : Type 0} → key ≡ (index_entry columns one).key
    → (held : HoldsIndex old root owned columns rows) → AreWith one others rows → get_of key held.entries ≡ None → A
index_absent old root owned columns one others rows key is held more none =
    let there = stands_found held.entries (index_entry columns one) (root_ascends old root owned held.entries held.tree) (held.each one more.there) in
    let bad : Some [] ≡ None = sym there ∙ ap (λ k. get_of k held.entries) (sym is) ∙ none in absurd (cc)

stands_between : (before after : List Entry) (x : Entry) → Stands x (before ++ x ∷ after)
stands_between [] after x = inl refl
stands_between (e ∷ before) after x = inr (stands_between before after x)

-- what was taken out was there
pub entry_was : (old new : PageMap) (root top : ℕ) (owned : List ℕ) (entries : List Entry) (key : Key) → IsTree old root owned entries → IsRemoved old new owned entries key top → IsSome (get_of key entries)
entry_was old new root top owned entries key tree w =
    let x : Entry = record { key = key; value = w.less.value } in
    let at : Stands x entries = subst (Stands x) (sym w.less.parts) (stands_between w.less.before w.less.after x) in
    rw (stands_found entries x (root_ascends old root owned entries tree) at) refl

-- ---- laws

pub index_of_rows : (pages : PageMap) (root : ℕ) (owned columns : List ℕ) (rows others : List stored.Entry) → ((row : stored.Entry) → IsRow row rows → IsRow row others) → ((row : stored.Entry) → IsRow row others → IsRow row rows)
    → HoldsIndex pages root owned columns rows → HoldsIndex pages root owned columns others
index_of_rows pages root owned columns rows others to back held = record {
  entries = held.entries;
  tree = held.tree;
  each = λ row h. held.each row (back row h);
  only = λ x h. let r = held.only x h in record { row = r.row; among = to r.row r.among; is = r.is };
}

pub index_stays : (old new : PageMap) (root : ℕ) (owned columns : List ℕ) (rows : List stored.Entry) → ((n : ℕ) → Has n owned → new n ≡ old n) → HoldsIndex old root owned columns rows → HoldsIndex new root owned columns rows
index_stays old new root owned columns rows same held = record { entries = held.entries; tree = tree_stays old new root owned held.entries same held.tree; each = held.each; only = held.only }

pub index_used : (pages : PageMap) (root : ℕ) (owned columns : List ℕ) (rows : List stored.Entry) → HoldsIndex pages root owned columns rows → (n : ℕ) → Has n owned → IsSome (pages n)
index_used pages root owned columns rows held = tree_used pages root owned held.entries held.tree

-- ---- codes

pub short_code : (key : List Value) (n : ℕ) (code : List ℕ) → (600 < key_length key + 8 → ⊥) → code ≡ index_key_code key n → length code ≤ 600
short_code key n code f e = by (nat_lt 600 (key_length key + 8)) refl
  where
    by : (b : Bool) → b ≡ nat_lt 600 (key_length key + 8) → length code ≤ 600
    by true h = absurd (f (ltb-true 600 (key_length key + 8) (sym h)))
    by false h =
        let least = ltb-false 600 (key_length key + 8) (sym h) in
        omega (arith, least, ap length e, length_index_key key n)

pub none_at : (row : Row) (n : ℕ) → None ≡ slice_get row n → Null ≡ slice_index_or row n Null
none_at [] n e = refl
none_at (x ∷ row) zero e = cc
none_at (x ∷ row) (suc n) e = none_at row n e

pub key_more : (columns : List ℕ) (row : Row) (i : ℕ) (value : Value) (key : List Value) → i < length columns → value ≡ slice_index_or row (get_or columns i 0) Null
    → key ≡ key_of (take i columns) row → key ++ value ∷ [] ≡ key_of (take (i + 1) columns) row
key_more columns row i value key below v e =
    ap (λ k. k ++ value ∷ []) e ∙ ap (λ x. key_of (take i columns) row ++ x ∷ []) v
    ∙ sym (map-append (λ c. slice_index_or row c Null) (take i columns) (get_or columns i 0 ∷ [])) ∙ ap (λ cs. key_of cs row) (sym (take_more columns i 0 below))

pub no_page_lost_by_removal : (old new : PageMap) (k : Key) (root top : ℕ) → ((owned : List ℕ) (entries : List Entry) → IsTree old root owned entries → IsRemoved old new owned entries k top) → LosesNoPage old new root top
no_page_lost_by_removal old new k root top removes owned entries t =
    let w = removes owned entries t in record { now_owned = w.now_owned; entries = w.now_entries; tree = w.stored; loses = loses_left old new owned w.now_owned w.gone w.others }
