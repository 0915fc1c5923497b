-- Lists of declarations, and the maps that they are.
use Rattle.std.proofs.Common.{◌≡◌, ◌≢◌, ◌⊎◌, ◌<◌, ℕ, zero, suc, ◌+◌, Bool, true, false, cond, ◌&&◌, ◌||◌, List, [], ◌∷◌, ◌++◌, length, Option, Some, None, Result, Ok, Err, refl, sym, ap, subst, ◌∙◌, inl, inr, is_some, arith, lt-ltb}
use Rattle.std.proofs.lemmas.Bool.{cases_eq}
use Rattle.std.proofs.lemmas.Cmp.{nat_list_cmp_total, tied_itself}
use Rattle.std.proofs.lemmas.Map.Text.{is_eq-slice_cmp}
use Rattle.std.specs.declared.cmp.Ordering.{Ordering}
use Rattle.std.specs.declared.cmp.Ordering.TheVariants.{Less, Equal, Greater}
use Rattle.std.specs.Prelude.{OnErr, OnOk, is_none, nat_lt, slice_get, slice_set}
use Rattle.std.specs.List.{list_any, position_from}
use Rattle.std.specs.Ordering.{eq_by_cmp, is_eq}
use Rattle.std.specs.FinMap.{FinMap, contains_key, empty, get, get-empty, get-insert, get-remove, insert, len, len-empty, len-insert, len-remove, nat_cmp-IsAntisymmetric, remove, same_map, slice_cmp-IsAntisymmetric}
use Rattle.sqlval.specs.Comparison.{text_order}
use Rattle.sqlval.specs.Schema.{same_name}
use Rattle.ast.specs.declared.statement.OrderedQuery.{OrderedQuery}
use Rattle.denote.specs.Database.{Name}
use Rattle.session_definitions.specs.World.{Cursor}
use Rattle.store.specs.Contents.{Contents}
use Rattle.cursors.specs.declared.held.Declared.{Declared}
use Rattle.cursors.specs.declared.cursor.OpenCursor.{OpenCursor}
use Rattle.cursors.specs.Apart.{are_apart, place_named}
use Rattle.cursors.specs.ByName.{AllFit, AllShut, FitsIf, built, changed_at, closed_upto, cursor_if, cursor_in, is_open, cursor_at, put_if, query_in, with_cursor, with_query}

-- ---- names

tied : (a b : Name) → eq_by_cmp text_order a b ≡ same_name a b
tied a b = is_eq-slice_cmp a b

is_equal : (r : Ordering) → is_eq r ≡ true → r ≡ Equal
is_equal Less e = cc
is_equal Equal e = refl
is_equal Greater e = cc

from_tie : (a b : Name) → eq_by_cmp text_order a b ≡ true → a ≡ b
from_tie a b e = slice_cmp-IsAntisymmetric nat_cmp-IsAntisymmetric a b (is_equal (text_order a b) e)

same_is : (a b : Name) → same_name a b ≡ true → a ≡ b
same_is a b e = from_tie a b (tied a b ∙ e)

tied_here : (a b : Name) → a ≡ b → eq_by_cmp text_order a b ≡ true
tied_here a b e = ap (eq_by_cmp text_order a) (sym e) ∙ ap is_eq (tied_itself nat_list_cmp_total a)

apart_there : (a b : Name) → a ≢ b → eq_by_cmp text_order a b ≡ false
apart_there a b ne = by (eq_by_cmp text_order a b) refl
  where
    by : (t : Bool) → eq_by_cmp text_order a b ≡ t → t ≡ false
    by true e = absurd (ne (from_tie a b e))
    by false e = refl

same_maps : {X : Type 0} (m n : FinMap text_order X) → ((q : Name) → get m q ≡ get n q) → m ≡ n
same_maps m n is = same_map nat_list_cmp_total (slice_cmp-IsAntisymmetric nat_cmp-IsAntisymmetric) m n is

-- ---- the first declaration of a name

abbrev pub IsFirst : Name → ℕ → List Declared → Type 0
IsFirst name at [] = ⊥
IsFirst name zero (d ∷ ds) = d.name ≡ name
IsFirst name (suc at) (d ∷ ds) = (d.name ≢ name) × IsFirst name at ds

abbrev pub HasNone : Name → List Declared → Type 0
HasNone name [] = Unit {0}
HasNone name (d ∷ ds) = (d.name ≢ name) × HasNone name ds

differs : (a b : Name) → same_name a b ≡ false → a ≢ b
differs a b e same = let here : same_name a b ≡ true = sym (tied a b) ∙ tied_here a b same in let bad : true ≡ false = sym here ∙ e in cc

first_from : (name : Name) (ds : List Declared) (from at : ℕ) → position_from (λ (d : Declared). same_name d.name name) from ds ≡ Some at
    → (k : ℕ) × (at ≡ from + k) × IsFirst name k ds
first_from name [] from at e = absurd (cc e)
first_from name (d ∷ ds) from at e = by (same_name d.name name) refl (first_from name ds (from + 1) at) e
  where
    by : (b : Bool) → same_name d.name name ≡ b
        → (position_from (λ (x : Declared). same_name x.name name) (from + 1) ds ≡ Some at → (k : ℕ) × (at ≡ (from + 1) + k) × IsFirst name k ds)
        → cond b (Some from) (position_from (λ (x : Declared). same_name x.name name) (from + 1) ds) ≡ Some at
        → (k : ℕ) × (at ≡ from + k) × IsFirst name k (d ∷ ds)
    by true is others e = let same : from ≡ at = cc in (zero, omega (arith, same), same_is d.name name is)
    by false is others e =
        let rest = others e in
        let there = rest.1 in (suc rest.0, omega (arith, there), (differs d.name name is, rest.2))

pub place_first : (name : Name) (ds : List Declared) (at : ℕ) → place_named name ds ≡ Some at → IsFirst name at ds
place_first name ds at e =
    let found = first_from name ds 0 at e in
    let there = found.1 in
    let is : found.0 ≡ at = omega (arith, there) in
    subst (λ k. IsFirst name k ds) is found.2

none_from : (name : Name) (ds : List Declared) (from : ℕ) → position_from (λ (d : Declared). same_name d.name name) from ds ≡ None → HasNone name ds
none_from name [] from e = tt
none_from name (d ∷ ds) from e = by (same_name d.name name) refl (none_from name ds (from + 1)) e
  where
    by : (b : Bool) → same_name d.name name ≡ b
        → (position_from (λ (x : Declared). same_name x.name name) (from + 1) ds ≡ None → HasNone name ds)
        → cond b (Some from) (position_from (λ (x : Declared). same_name x.name name) (from + 1) ds) ≡ None
        → HasNone name (d ∷ ds)
    by true is others e = absurd (cc)
    by false is others e = (differs d.name name is, others e)

pub place_none : (name : Name) (ds : List Declared) → place_named name ds ≡ None → HasNone name ds
place_none name ds e = none_from name ds 0 e

-- and back
none_at : (name : Name) (ds : List Declared) (from : ℕ) → HasNone name ds → position_from (λ (d : Declared). same_name d.name name) from ds ≡ None
none_at name [] from h = refl
none_at name (d ∷ ds) from h = by (same_name d.name name) refl (none_at name ds (from + 1) h.1)
  where
    by : (b : Bool) → same_name d.name name ≡ b
        → position_from (λ (x : Declared). same_name x.name name) (from + 1) ds ≡ None
        → cond b (Some from) (position_from (λ (x : Declared). same_name x.name name) (from + 1) ds) ≡ None
    by true is others = absurd (h.0 (same_is d.name name is))
    by false is others = others

-- ---- what a list is as a map

-- what is found of the first declaration of a name
abbrev looked : {X : Type 0} → (Declared → Option X) → Name → List Declared → Option X
looked f q [] = None
looked f q (d ∷ ds) = cond (eq_by_cmp text_order q d.name) (f d) (looked f q ds)

get_put : {X : Type 0} (m : FinMap text_order X) (name : Name) (o : Option X) (q : Name) → get (put_if m name o) q ≡ cond (eq_by_cmp text_order q name) o (get m q)
get_put m name None q = get-remove nat_list_cmp_total m name q
get_put m name (Some x) q = get-insert nat_list_cmp_total m name x q

pub get_built : {X : Type 0} (f : Declared → Option X) (ds : List Declared) (q : Name) → get (built f ds) q ≡ looked f q ds
get_built f [] q = get-empty text_order q
get_built f (d ∷ ds) q = get_put (built f ds) d.name (f d) q ∙ ap (cond (eq_by_cmp text_order q d.name) (f d)) (get_built f ds q)

-- what is found at a place
abbrev pub found_at : {X : Type 0} → (Declared → Option X) → ℕ → List Declared → Option X
found_at f at [] = None
found_at f zero (d ∷ ds) = f d
found_at f (suc at) (d ∷ ds) = found_at f at ds

looked_here : {X : Type 0} (f : Declared → Option X) (name : Name) (at : ℕ) (ds : List Declared) → IsFirst name at ds → looked f name ds ≡ found_at f at ds
looked_here f name at [] h = absurd h
looked_here f name zero (d ∷ ds) h = ap (λ b. cond b (f d) (looked f name ds)) (tied_here name d.name (sym h))
looked_here f name (suc at) (d ∷ ds) h =
    ap (λ b. cond b (f d) (looked f name ds)) (apart_there name d.name (λ e. h.0 (sym e))) ∙ looked_here f name at ds h.1

looked_none : {X : Type 0} (f : Declared → Option X) (name : Name) (ds : List Declared) → HasNone name ds → looked f name ds ≡ None
looked_none f name [] h = refl
looked_none f name (d ∷ ds) h =
    ap (λ b. cond b (f d) (looked f name ds)) (apart_there name d.name (λ e. h.0 (sym e))) ∙ looked_none f name ds h.1

pub get_first : {X : Type 0} (f : Declared → Option X) (name : Name) (ds : List Declared) (at : ℕ) → place_named name ds ≡ Some at → get (built f ds) name ≡ found_at f at ds
get_first f name ds at e = get_built f ds name ∙ looked_here f name at ds (place_first name ds at e)

pub get_none : {X : Type 0} (f : Declared → Option X) (name : Name) (ds : List Declared) → place_named name ds ≡ None → get (built f ds) name ≡ None
get_none f name ds e = get_built f ds name ∙ looked_none f name ds (place_none name ds e)

-- ---- a declaration is changed

module _ (change : Declared → Declared) (keeps : (d : Declared) → (change d).name ≡ d.name) where
  looked_changed : {X : Type 0} (f : Declared → Option X) (name q : Name) (at : ℕ) (ds : List Declared) → IsFirst name at ds
      → looked f q (changed_at change at ds) ≡ cond (eq_by_cmp text_order q name) (found_at (λ d. f (change d)) at ds) (looked f q ds)
  looked_changed f name q at [] h = absurd h
  looked_changed f name q zero (d ∷ ds) h =
      ap (λ n. cond (eq_by_cmp text_order q n) (f (change d)) (looked f q ds)) (keeps d ∙ h)
      ∙ by (eq_by_cmp text_order q name) (f (change d)) (f d) (looked f q ds)
      ∙ ap (λ n. cond (eq_by_cmp text_order q name) (f (change d)) (cond (eq_by_cmp text_order q n) (f d) (looked f q ds))) (sym h)
    where
      by : {Y : Type 0} (b : Bool) (x y z : Y) → cond b x z ≡ cond b x (cond b y z)
      by true x y z = refl
      by false x y z = refl
  looked_changed f name q (suc at) (d ∷ ds) h =
      ap (cond (eq_by_cmp text_order q d.name) (f d)) (looked_changed f name q at ds h.1)
      ∙ by (eq_by_cmp text_order q name) (eq_by_cmp text_order q d.name) refl refl
    where
      by : (a b : Bool) → eq_by_cmp text_order q name ≡ a → eq_by_cmp text_order q d.name ≡ b
          → cond b (f d) (cond a (found_at (λ x. f (change x)) at ds) (looked f q ds)) ≡ cond a (found_at (λ x. f (change x)) at ds) (cond b (f d) (looked f q ds))
      by true true x y = absurd (h.0 (sym (from_tie q d.name y) ∙ from_tie q name x))
      by true false x y = refl
      by false b x y = refl

  -- and so is what the list is
  pub built_changed : {X : Type 0} (f : Declared → Option X) (name : Name) (at : ℕ) (ds : List Declared) → place_named name ds ≡ Some at
      → built f (changed_at change at ds) ≡ put_if (built f ds) name (found_at (λ d. f (change d)) at ds)
  built_changed f name at ds e = same_maps _ _ (λ q.
      get_built f (changed_at change at ds) q ∙ looked_changed f name q at ds (place_first name ds at e)
      ∙ ap (cond (eq_by_cmp text_order q name) (found_at (λ d. f (change d)) at ds)) (sym (get_built f ds q))
      ∙ sym (get_put (built f ds) name (found_at (λ d. f (change d)) at ds) q))

  -- what does not look at the change finds what it found
  pub built_kept : {X : Type 0} (f : Declared → Option X) → ((d : Declared) → f (change d) ≡ f d) → (at : ℕ) (ds : List Declared) → built f (changed_at change at ds) ≡ built f ds
  built_kept f alike at [] = refl
  built_kept f alike zero (d ∷ ds) = (λ i. put_if (built f ds) (keeps d i) (alike d i))
  built_kept f alike (suc at) (d ∷ ds) = ap (λ m. put_if m d.name (f d)) (built_kept f alike at ds)

  position_kept : (name : Name) (from at : ℕ) (ds : List Declared)
      → position_from (λ (d : Declared). same_name d.name name) from (changed_at change at ds) ≡ position_from (λ (d : Declared). same_name d.name name) from ds
  position_kept name from at [] = refl
  position_kept name from zero (d ∷ ds) =
      ap (λ n. cond (same_name n name) (Some from) (position_from (λ (x : Declared). same_name x.name name) (from + 1) ds)) (keeps d)
  position_kept name from (suc at) (d ∷ ds) = ap (cond (same_name d.name name) (Some from)) (position_kept name (from + 1) at ds)

  pub apart_changed : (at : ℕ) (ds : List Declared) → are_apart (changed_at change at ds) ≡ are_apart ds
  apart_changed at [] = refl
  apart_changed zero (d ∷ ds) = ap (λ n. is_none (place_named n ds) && are_apart ds) (keeps d)
  apart_changed (suc at) (d ∷ ds) =
      ap (λ o. is_none o && are_apart (changed_at change at ds)) (position_kept d.name 0 at ds)
      ∙ ap (λ b. is_none (place_named d.name ds) && b) (apart_changed at ds)

-- ---- one declaration more

looked_pushed : {X : Type 0} (f : Declared → Option X) (q : Name) (d : Declared) (ds : List Declared) → HasNone d.name ds
    → looked f q (ds ++ d ∷ []) ≡ cond (eq_by_cmp text_order q d.name) (f d) (looked f q ds)
looked_pushed f q d [] h = refl
looked_pushed f q d (x ∷ ds) h =
    ap (cond (eq_by_cmp text_order q x.name) (f x)) (looked_pushed f q d ds h.1)
    ∙ by (eq_by_cmp text_order q d.name) (eq_by_cmp text_order q x.name) refl refl
  where
    by : (a b : Bool) → eq_by_cmp text_order q d.name ≡ a → eq_by_cmp text_order q x.name ≡ b
        → cond b (f x) (cond a (f d) (looked f q ds)) ≡ cond a (f d) (cond b (f x) (looked f q ds))
    by true true y z = absurd (h.0 (sym (from_tie q x.name z) ∙ from_tie q d.name y))
    by true false y z = refl
    by false b y z = refl

pub built_pushed : {X : Type 0} (f : Declared → Option X) (d : Declared) (ds : List Declared) → place_named d.name ds ≡ None
    → built f (ds ++ d ∷ []) ≡ put_if (built f ds) d.name (f d)
built_pushed f d ds none = same_maps _ _ (λ q.
    get_built f (ds ++ d ∷ []) q ∙ looked_pushed f q d ds (place_none d.name ds none)
    ∙ ap (cond (eq_by_cmp text_order q d.name) (f d)) (sym (get_built f ds q))
    ∙ sym (get_put (built f ds) d.name (f d) q))

-- taking away what is not there
pub removed_none : {X : Type 0} (m : FinMap text_order X) (name : Name) → get m name ≡ None → remove m name ≡ m
removed_none m name none = same_maps _ _ (λ q. get-remove nat_list_cmp_total m name q ∙ by q (eq_by_cmp text_order q name) refl)
  where
    by : (q : Name) (b : Bool) → eq_by_cmp text_order q name ≡ b → cond b None (get m q) ≡ get m q
    by q true e = sym none ∙ ap (get m) (sym (from_tie q name e))
    by q false e = refl

none_pushed : (name : Name) (d : Declared) (ds : List Declared) → HasNone name ds → d.name ≢ name → HasNone name (ds ++ d ∷ [])
none_pushed name d [] h ne = (ne, tt)
none_pushed name d (x ∷ ds) h ne = (h.0, none_pushed name d ds h.1 ne)

both : (a b : Bool) → (a && b) ≡ true → (a ≡ true) × (b ≡ true)
both true b e = (refl, e)
both false b e = cc

nothing_there : (o : Option ℕ) → is_none o ≡ true → o ≡ None
nothing_there None e = refl
nothing_there (Some x) e = cc

pub apart_pushed : (d : Declared) (ds : List Declared) → are_apart ds ≡ true → place_named d.name ds ≡ None → are_apart (ds ++ d ∷ []) ≡ true
apart_pushed d ds apart none = go ds apart (place_none d.name ds none)
  where
    go : (ds : List Declared) → are_apart ds ≡ true → HasNone d.name ds → are_apart (ds ++ d ∷ []) ≡ true
    go [] apart h = refl
    go (x ∷ ds) apart h =
        let parts = both (is_none (place_named x.name ds)) (are_apart ds) apart in
        let none = none_at x.name (ds ++ d ∷ []) 0 (none_pushed x.name d ds (place_none x.name ds (nothing_there (place_named x.name ds) parts.0)) (λ e. h.0 (sym e))) in
        ap (λ o. is_none o && are_apart (ds ++ d ∷ [])) none ∙ go ds parts.1 h.1

-- ---- how many there are

abbrev has : {X : Type 0} → (Declared → Option X) → Declared → Bool
has f d = is_some (f d)

len_put : {X : Type 0} (m : FinMap text_order X) (name : Name) (o : Option X) → get m name ≡ None → len (put_if m name o) ≡ cond (is_some o) 1 0 + len m
len_put m name None none = let one = ap len (removed_none m name none) in omega (arith, one)
len_put m name (Some x) none =
    let one : len (insert m name x) ≡ len m + 1 = len-insert nat_list_cmp_total m name x ∙ ap (λ o. cond (is_some o) (len m) (len m + 1)) none in
    omega (arith, one)

-- how many declarations have one
abbrev pub number_of : {X : Type 0} → (Declared → Option X) → List Declared → ℕ
number_of f [] = 0
number_of f (d ∷ ds) = cond (is_some (f d)) 1 0 + number_of f ds

pub len_built : {X : Type 0} (f : Declared → Option X) (ds : List Declared) → are_apart ds ≡ true → len (built f ds) ≡ number_of f ds
len_built {X} f [] apart = len-empty text_order X
len_built f (d ∷ ds) apart =
    let parts = both (is_none (place_named d.name ds)) (are_apart ds) apart in
    len_put (built f ds) d.name (f d) (get_none f d.name ds (nothing_there (place_named d.name ds) parts.0))
    ∙ ap (λ n. cond (is_some (f d)) 1 0 + n) (len_built f ds parts.1)

all_have : (ds : List Declared) → number_of query_in ds ≡ length ds
all_have [] = refl
all_have (d ∷ ds) = let rest = all_have ds in omega (arith, rest)

pub len_declared : (ds : List Declared) → are_apart ds ≡ true → len (built query_in ds) ≡ length ds
len_declared ds apart = len_built query_in ds apart ∙ all_have ds

pub some_cursor : (held : Option OpenCursor) (contents : Contents) → is_some (cursor_if held contents) ≡ is_some held
some_cursor None contents = refl
some_cursor (Some cursor) contents = refl

some_have : (contents : Contents) (ds : List Declared) → nat_lt 0 (number_of (cursor_in contents) ds) ≡ list_any is_open ds
some_have contents [] = refl
some_have contents (d ∷ ds) = by d.cursor (number_of (cursor_in contents) ds) (list_any is_open ds) (some_have contents ds)
  where
    none_more : (n : ℕ) → 0 + n ≡ n
    none_more n = omega arith

    one_more : (n : ℕ) → nat_lt 0 (1 + n) ≡ true
    one_more n = lt-ltb 0 (1 + n) (omega arith)

    by : (held : Option OpenCursor) (n : ℕ) (b : Bool) → nat_lt 0 n ≡ b → nat_lt 0 (cond (is_some (cursor_if held contents)) 1 0 + n) ≡ (is_some held || b)
    by None n b same = ap (nat_lt 0) (none_more n) ∙ same
    by (Some cursor) n b same = one_more n

pub any_open : (contents : Contents) (ds : List Declared) → are_apart ds ≡ true → nat_lt 0 (len (built (cursor_in contents) ds)) ≡ list_any is_open ds
any_open contents ds apart = ap (nat_lt 0) (len_built (cursor_in contents) ds apart) ∙ some_have contents ds

-- ---- all are closed

pub closes_one : (count : ℕ) (ds : List Declared) → changed_at (with_cursor None) count (closed_upto count ds) ≡ closed_upto (suc count) ds
closes_one zero [] = refl
closes_one zero (d ∷ ds) = refl
closes_one (suc count) [] = refl
closes_one (suc count) (d ∷ ds) = ap (λ rest. with_cursor None d ∷ rest) (closes_one count ds)

pub closed_declared : (count : ℕ) (ds : List Declared) → built query_in (closed_upto count ds) ≡ built query_in ds
closed_declared zero ds = refl
closed_declared (suc count) [] = refl
closed_declared (suc count) (d ∷ ds) = ap (λ m. insert m d.name d.query) (closed_declared count ds)

pub closed_opened : (contents : Contents) (ds : List Declared) → built (cursor_in contents) (closed_upto (length ds) ds) ≡ empty
closed_opened contents [] = refl
closed_opened contents (d ∷ ds) =
    ap (λ m. remove m d.name) (closed_opened contents ds) ∙ removed_none empty d.name (get-empty text_order d.name)

position_closed : (name : Name) (from count : ℕ) (ds : List Declared)
    → position_from (λ (d : Declared). same_name d.name name) from (closed_upto count ds) ≡ position_from (λ (d : Declared). same_name d.name name) from ds
position_closed name from zero ds = refl
position_closed name from (suc count) [] = refl
position_closed name from (suc count) (d ∷ ds) = ap (cond (same_name d.name name) (Some from)) (position_closed name (from + 1) count ds)

pub apart_closed : (count : ℕ) (ds : List Declared) → are_apart (closed_upto count ds) ≡ are_apart ds
apart_closed zero ds = refl
apart_closed (suc count) [] = refl
apart_closed (suc count) (d ∷ ds) =
    ap (λ o. is_none o && are_apart (closed_upto count ds)) (position_closed d.name 0 count ds)
    ∙ ap (λ b. is_none (place_named d.name ds) && b) (apart_closed count ds)

-- ---- what fits

pub fit_changed : (change : Declared → Declared) (contents : Contents) → ((d : Declared) → FitsIf d.cursor contents → FitsIf (change d).cursor contents) → (at : ℕ) (ds : List Declared)
    → AllFit ds contents → AllFit (changed_at change at ds) contents
fit_changed change contents on at [] h = tt
fit_changed change contents on zero (d ∷ ds) h = (on d h.0, h.1)
fit_changed change contents on (suc at) (d ∷ ds) h = (h.0, fit_changed change contents on at ds h.1)

pub fit_pushed : (d : Declared) (contents : Contents) (ds : List Declared) → FitsIf d.cursor contents → AllFit ds contents → AllFit (ds ++ d ∷ []) contents
fit_pushed d contents [] one h = (one, tt)
fit_pushed d contents (x ∷ ds) one h = (h.0, fit_pushed d contents ds one h.1)

pub fit_at : (contents : Contents) (at : ℕ) (ds : List Declared) → AllFit ds contents → FitsIf (cursor_at at ds) contents
fit_at contents at [] h = tt
fit_at contents zero (d ∷ ds) h = h.0
fit_at contents (suc at) (d ∷ ds) h = fit_at contents at ds h.1

-- the cursor at a place
pub found_cursor : (contents : Contents) (at : ℕ) (ds : List Declared) → found_at (cursor_in contents) at ds ≡ cursor_if (cursor_at at ds) contents
found_cursor contents at [] = refl
found_cursor contents zero (d ∷ ds) = refl
found_cursor contents (suc at) (d ∷ ds) = found_cursor contents at ds

-- at a place that there is, what is put is found
pub put_found : {X : Type 0} (f : Declared → Option X) (x : Option X) (name : Name) (at : ℕ) (ds : List Declared) → IsFirst name at ds → ((d : Declared) → f d ≡ x) → found_at f at ds ≡ x
put_found f x name at [] h is = absurd h
put_found f x name zero (d ∷ ds) h is = is d
put_found f x name (suc at) (d ∷ ds) h is = put_found f x name at ds h.1 is

-- ---- where none is held

pub shut_opened : (contents : Contents) (ds : List Declared) → AllShut ds → built (cursor_in contents) ds ≡ empty
shut_opened contents [] h = refl
shut_opened contents (d ∷ ds) h =
    (λ i. put_if (shut_opened contents ds h.1 i) d.name (cursor_if (h.0 i) contents)) ∙ removed_none empty d.name (get-empty text_order d.name)

pub shut_fit : (contents : Contents) (ds : List Declared) → AllShut ds → AllFit ds contents
shut_fit contents [] h = tt
shut_fit contents (d ∷ ds) h = (subst (λ (held : Option OpenCursor). FitsIf held contents) (sym h.0) tt, shut_fit contents ds h.1)

pub shut_changed : (change : Declared → Declared) → ((d : Declared) → d.cursor ≡ None → (change d).cursor ≡ None) → (at : ℕ) (ds : List Declared) → AllShut ds → AllShut (changed_at change at ds)
shut_changed change on at [] h = tt
shut_changed change on zero (d ∷ ds) h = (on d h.0, h.1)
shut_changed change on (suc at) (d ∷ ds) h = (h.0, shut_changed change on at ds h.1)

pub shut_pushed : (d : Declared) (ds : List Declared) → d.cursor ≡ None → AllShut ds → AllShut (ds ++ d ∷ [])
shut_pushed d [] one h = (one, tt)
shut_pushed d (x ∷ ds) one h = (h.0, shut_pushed d ds one h.1)

pub shut_at : (at : ℕ) (ds : List Declared) → AllShut ds → cursor_at at ds ≡ None
shut_at at [] h = refl
shut_at zero (d ∷ ds) h = h.0
shut_at (suc at) (d ∷ ds) h = shut_at at ds h.1

pub closed_shut : (ds : List Declared) → AllShut (closed_upto (length ds) ds)
closed_shut [] = tt
closed_shut (d ∷ ds) = (refl, closed_shut ds)

pub none_some : (held : Option OpenCursor) → is_some held ≡ false → held ≡ None
none_some None e = refl
none_some (Some cursor) e = cc

pub none_open_shut : (ds : List Declared) → list_any is_open ds ≡ false → AllShut ds
none_open_shut [] e = tt
none_open_shut (d ∷ ds) e = by (is_some d.cursor) refl (none_open_shut ds) e
  where
    by : (b : Bool) → is_some d.cursor ≡ b → (list_any is_open ds ≡ false → AllShut ds) → (b || list_any is_open ds) ≡ false → AllShut (d ∷ ds)
    by true is others e = absurd (cc)
    by false is others e = (none_some d.cursor is, others e)

-- ---- what is set at a place

pub changed_set : (change : Declared → Declared) (at : ℕ) (ds : List Declared) (d : Declared) → slice_get ds at ≡ Some d → slice_set ds at (change d) ≡ changed_at change at ds
changed_set change at [] d e = refl
changed_set change zero (x ∷ ds) d e = let same : d ≡ x = cc in ap (λ (y : Declared). change y ∷ ds) same
changed_set change (suc at) (x ∷ ds) d e = ap (λ rest. x ∷ rest) (changed_set change at ds d e)

pub changed_none : (change : Declared → Declared) (at : ℕ) (ds : List Declared) → slice_get ds at ≡ None → changed_at change at ds ≡ ds
changed_none change at [] e = refl
changed_none change zero (x ∷ ds) e = cc
changed_none change (suc at) (x ∷ ds) e = ap (λ rest. x ∷ rest) (changed_none change at ds e)

pub cursor_got : (at : ℕ) (ds : List Declared) (d : Declared) → slice_get ds at ≡ Some d → cursor_at at ds ≡ d.cursor
cursor_got at [] d e = cc
cursor_got zero (x ∷ ds) d e = let same : x ≡ d = cc in ap (λ (y : Declared). y.cursor) same
cursor_got (suc at) (x ∷ ds) d e = cursor_got at ds d e

pub cursor_none : (at : ℕ) (ds : List Declared) → slice_get ds at ≡ None → cursor_at at ds ≡ None
cursor_none at [] e = refl
cursor_none zero (x ∷ ds) e = cc
cursor_none (suc at) (x ∷ ds) e = cursor_none at ds e

-- ---- what is found at a place

pub found_none : {X : Type 0} (f : Declared → Option X) (at : ℕ) (ds : List Declared) → slice_get ds at ≡ None → found_at f at ds ≡ None
found_none f at [] e = refl
found_none f zero (x ∷ ds) e = absurd (cc)
found_none f (suc at) (x ∷ ds) e = found_none f at ds e

pub found_got : {X : Type 0} (f : Declared → Option X) (at : ℕ) (ds : List Declared) (d : Declared) → slice_get ds at ≡ Some d → found_at f at ds ≡ f d
found_got f at [] d e = absurd (cc)
found_got f zero (x ∷ ds) d e = let same : x ≡ d = cc in ap (λ (y : Declared). f y) same
found_got f (suc at) (x ∷ ds) d e = found_got f at ds d e

-- the cursor of a name
pub got_cursor : (contents : Contents) (name : Name) (at : ℕ) (ds : List Declared) → place_named name ds ≡ Some at
    → get (built (cursor_in contents) ds) name ≡ cursor_if (cursor_at at ds) contents
got_cursor contents name at ds e = get_first (cursor_in contents) name ds at e ∙ found_cursor contents at ds

has_query : (name : Name) (at : ℕ) (ds : List Declared) → IsFirst name at ds → is_some (found_at query_in at ds) ≡ true
has_query name at [] h = absurd h
has_query name zero (d ∷ ds) h = refl
has_query name (suc at) (d ∷ ds) h = has_query name at ds h.1

-- a name that has a place is declared, and one that has none is not
pub declared_there : (name : Name) (at : ℕ) (ds : List Declared) → place_named name ds ≡ Some at → contains_key (built query_in ds) name ≡ true
declared_there name at ds e = ap is_some (get_first query_in name ds at e) ∙ has_query name at ds (place_first name ds at e)

pub declared_nowhere : (name : Name) (ds : List Declared) → place_named name ds ≡ None → contains_key (built query_in ds) name ≡ false
declared_nowhere name ds e = ap is_some (get_none query_in name ds e)

-- ---- one more, where there was memory

pub apart_if_pushed : {T E : Type 0} (result : Result T E) (d : Declared) (old new : List Declared) → OnOk result (new ≡ old ++ d ∷ []) → OnErr result (new ≡ old)
    → are_apart old ≡ true → place_named d.name old ≡ None → are_apart new ≡ true
apart_if_pushed (Ok x) d old new put same apart none = ap are_apart put ∙ apart_pushed d old apart none
apart_if_pushed (Err e) d old new put same apart none = ap are_apart same ∙ apart
