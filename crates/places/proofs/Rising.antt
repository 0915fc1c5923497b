-- Rows of a table in the order of their numbers, a block at a time.
use Rattle.std.proofs.Common.{◌≡◌, ◌<◌, ◌≤◌, ◌+◌, ℕ, zero, suc, Bool, true, false, List, [], ◌∷◌, ◌++◌, Option, Some, None, refl, sym, ap, ◌∙◌, arith, subst, take, inl, inr}
use Rattle.std.specs.Prelude.{filter, slice_index_or, nat_lt, if◌then◌else◌}
use Rattle.std.proofs.lemmas.Bool.{lt-ltb, le-ltb, ltb-true, cases_Bool}
use Rattle.sqlval.specs.declared.value.Value.{Value}
use Rattle.sqlval.specs.Matching.{matches, rows_matching}
use Rattle.store.specs.Contents.{Entry, StoredTable, Rises, rows_of}
use Rattle.store.specs.Indexes.{entries_of, is_after}
use Rattle.places.proofs.Begun.{rows_filtered}

-- all numbers are above this, and rise
abbrev pub Above : ℕ → List Entry → Type 0
Above n [] = Unit {0}
Above n (e ∷ es) = (n < e.0) × Above e.0 es

abbrev pub Rising : List Entry → Type 0
Rising [] = Unit {0}
Rising (e ∷ es) = Above e.0 es

above-of : (e : Entry) (es : List Entry) → Rises (e ∷ es) → Above e.0 es
above-of e [] r = tt
above-of e (d ∷ es) r = (
  r 0 e (omega arith),
  above-of d es (λ k x lt.
      let next : suc k + 1 ≡ suc (k + 1) = omega arith in
      subst (λ n. (slice_index_or (e ∷ d ∷ es) (suc k) x).0 < (slice_index_or (e ∷ d ∷ es) n x).0) next
      (r (suc k) x (omega (arith, lt)))),
)

pub rising-of : (table : Option StoredTable) → ((t : StoredTable) → table ≡ Some t → Rises t.entries)
    → Rising (entries_of table)
rising-of None h = tt
rising-of (Some t) h = go t.entries (h t refl)
  where
    go : (es : List Entry) → Rises es → Rising es
    go [] r = tt
    go (e ∷ es) r = above-of e es r

pub rising-tail : (x : Entry) (xs : List Entry) → Above x.0 xs → Rising xs
rising-tail x [] h = tt
rising-tail x (y ∷ ys) h = h.1

-- ---- above a number

abbrev pub after_number : Option ℕ → List Entry → List Entry
after_number after es = filter (λ (e : Entry). is_after after e.0) es

keeps : (n m : ℕ) (es : List Entry) → n ≤ m → Above m es → after_number (Some n) es ≡ es
keeps n m [] le h = refl
keeps n m (e ∷ es) le h =
    let t : nat_lt n e.0 ≡ true = lt-ltb n e.0 (omega (arith, le, h.0)) in
    rw t (ap (λ rest. e ∷ rest) (keeps n e.0 es (omega (arith, le, h.0)) h.1))

all : (es : List Entry) → after_number None es ≡ es
all [] = refl
all (e ∷ es) = ap (λ rest. e ∷ rest) (all es)

keeps-by : (after : Option ℕ) (x : Entry) (xs : List Entry) → is_after after x.0 ≡ true → Above x.0 xs
    → after_number after xs ≡ xs
keeps-by None x xs holds h = all xs
keeps-by (Some n) x xs holds h = let lt : n < x.0 = ltb-true n x.0 holds in keeps n x.0 xs (omega (arith, lt)) h

first-above : (p : Entry → Bool) (m : ℕ) (es : List Entry) (e : Entry) (rest : List Entry) → Above m es
    → filter p es ≡ e ∷ rest → m < e.0
first-above p m [] e rest h f = absurd (cc)
first-above p m (x ∷ xs) e rest h f =
    elim (cases_Bool (p x)) [
      | inl holds ↦ let g : x ∷ filter p xs ≡ e ∷ rest = rw holds at f in
          let same : x.0 ≡ e.0 = ap (λ l. (slice_index_or l 0 x).0) g in omega (arith, same, h.0)
      | inr fails ↦ let g : filter p xs ≡ e ∷ rest = rw fails at f in
          let later : x.0 < e.0 = first-above p x.0 xs e rest h.1 g in omega (arith, later, h.0)
    ]

abbrev tail : List Entry → List Entry
tail [] = []
tail (e ∷ es) = es

-- behind the first of those above a number come those above its own
pub after_first : (after : Option ℕ) (es : List Entry) (e : Entry) (rest : List Entry) → Rising es
    → after_number after es ≡ e ∷ rest
    → after_number (Some e.0) es ≡ rest
after_first after [] e rest r f = absurd (cc)
after_first after (x ∷ xs) e rest r f =
    elim (cases_Bool (is_after after x.0)) [
      | inl holds ↦ let g : x ∷ after_number after xs ≡ e ∷ rest = rw holds at f in
          let same : x.0 ≡ e.0 = ap (λ l. (slice_index_or l 0 x).0) g in
          let others : after_number after xs ≡ rest = ap tail g in
          let not_itself : nat_lt x.0 x.0 ≡ false = le-ltb x.0 x.0 (omega arith) in
          let here : after_number (Some x.0) (x ∷ xs) ≡ rest =
          rw not_itself (keeps x.0 x.0 xs (omega arith) r ∙ sym (keeps-by after x xs holds r) ∙ others) in
          subst (λ n. after_number (Some n) (x ∷ xs) ≡ rest) same here
      | inr fails ↦ let g : after_number after xs ≡ e ∷ rest = rw fails at f in
          let later : x.0 < e.0 = first-above (λ (d : Entry). is_after after d.0) x.0 xs e rest r g in
          let before_it : nat_lt e.0 x.0 ≡ false = le-ltb e.0 x.0 (omega (arith, later)) in
          rw before_it (after_first after xs e rest (rising-tail x xs r) g)
    ]

-- the number of the last of these, or the one before them
abbrev pub last_of : Option ℕ → List Entry → Option ℕ
last_of after [] = after
last_of after (e ∷ es) = last_of (Some e.0) es

-- a block of those above a number, and then those above its last
pub block_after : (most : ℕ) (after : Option ℕ) (es : List Entry) → Rising es
    → take most (after_number after es) ++ after_number (last_of after (take most (after_number after es))) es
    ≡ after_number after es
block_after zero after es r = refl
block_after (suc most) after es r = go (after_number after es) refl (λ n. block_after most (Some n) es r)
  where
    go : (found : List Entry) → after_number after es ≡ found
        → ((n : ℕ) → take most (after_number (Some n) es) ++ after_number
        (last_of (Some n) (take most (after_number (Some n) es))) es ≡ after_number (Some n) es)
        → take (suc most) found ++ after_number (last_of after (take (suc most) found)) es ≡ found
    go [] e next = e
    go (d ∷ found) e next =
        let rest : after_number (Some d.0) es ≡ found = after_first after es d found r e in
        ap (λ (zs : List Entry). d ∷ zs)
        (subst (λ zs. take most zs ++ after_number (last_of (Some d.0) (take most zs)) es ≡ zs) rest (next d.0))

-- ---- of the entries that match a key

rising-kept : (p : Entry → Bool) (m : ℕ) (es : List Entry) → Above m es → Above m (filter p es)
rising-kept p m [] h = tt
rising-kept p m (e ∷ es) h = go (p e) (rising-kept p e.0 es h.1) (rising-kept p m es (lower m e.0 es h.0 h.1))
  where
    lower : (n k : ℕ) (ds : List Entry) → n < k → Above k ds → Above n ds
    lower n k [] lt a = tt
    lower n k (d ∷ ds) lt a = (omega (arith, lt, a.0), a.1)

    go : (b : Bool) → Above e.0 (filter p es) → Above m (filter p es)
        → Above m (if b then e ∷ filter p es else filter p es)
    go true a c = (h.0, a)
    go false a c = c

pub rising-filter : (p : Entry → Bool) (es : List Entry) → Rising es → Rising (filter p es)
rising-filter p [] r = tt
rising-filter p (e ∷ es) r = go (p e) (rising-kept p e.0 es r)
  where
    go : (b : Bool) → Above e.0 (filter p es) → Rising (if b then e ∷ filter p es else filter p es)
    go true a = a
    go false a = rising-tail e (filter p es) a

filters-turned : (p q : Entry → Bool) (es : List Entry) → filter p (filter q es) ≡ filter q (filter p es)
filters-turned p q [] = refl
filters-turned p q (e ∷ es) = go (p e) (q e) refl refl (filters-turned p q es)
  where
    go : (a b : Bool) → p e ≡ a → q e ≡ b → filter p (filter q es) ≡ filter q (filter p es)
        → filter p (if b then e ∷ filter q es else filter q es) ≡ filter q (if a then e ∷ filter p es else filter p es)
    go true true x y h = rw (x, y) (ap (λ zs. e ∷ zs) h)
    go true false x y h = rw y h
    go false true x y h = rw x h
    go false false x y h = h

-- the rows above a number that match, as the entries that match are above it
pub matching_after : (columns : List ℕ) (key : List Value) (after : Option ℕ) (es : List Entry)
    → rows_matching columns key (rows_of (after_number after es))
    ≡ rows_of (after_number after (filter (λ (e : Entry). matches columns key e.1) es))
matching_after columns key after es =
    sym (rows_filtered (matches columns key) (after_number after es))
    ∙ ap rows_of (filters-turned (λ (e : Entry). matches columns key e.1) (λ (e : Entry). is_after after e.0) es)
