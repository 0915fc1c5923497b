-- Row numbers in a tree.
use Rattle.std.proofs.Common.{◌≡◌, ℕ, ◌^◌, ◌+◌, ◌<◌, ◌≤◌, Bool, true, false, List, [], ◌∷◌, Option, Some, None, refl, sym, ap, ◌∙◌, subst, arith, nat_lt}
use Rattle.std.specs.Prelude.{filter, slice_get, if◌then◌else◌, IfSome, IsSome}
use Rattle.std.specs.List.{AllByRecursion}
use Rattle.std.specs.Option.{option_map}
use Rattle.std.specs.Ordering.{is_lt, nat_cmp}
use Rattle.std.specs.Bool.{◌==◌}
use Rattle.std.specs.declared.cmp.Ordering.TheVariants as order
use Rattle.std.proofs.lemmas.Bool.{ltb-true, ltb-false, lt-ltb}
use Rattle.store.specs.Contents as stored
use Rattle.store.specs.Indexes.{is_after, entry_after}
use Rattle.sqlrecord.specs.Key.{number_code}
use Rattle.sqlrecord.proofs.OrderLemmas.{index_keys}
use Rattle.btree_read.specs.declared.entry.Entry.{Entry}
use Rattle.btree_read.specs.declared.entry.Start.TheVariants.{At, Behind}
use Rattle.btree_read.specs.Nodes.{Key, precedes}
use Rattle.btree_read.specs.Sorted.{Ascends, is_from, first_from, last_key}
use Rattle.btree_read.proofs.OrderLemmas.{lt_trans, not_self}
use Rattle.btree.proofs.WalkLemmas.{first_of, from_least}
use Rattle.sqlval.specs.declared.schema.Column.{Column}
use Rattle.tablestore.specs.Held.{row_entry, entries_of, IsKept, AreKept, ArePast, Fits, AreFitting}

less_is : (m n : ℕ) (b : Bool) → b ≡ nat_lt m n → is_lt (nat_cmp m n) ≡ b
less_is m n true e = rw (sym e) refl
less_is m n false e = rw (sym e) (by (m == n))
  where
    by : (b : Bool) → is_lt (if b then order.Equal else order.Greater) ≡ false
    by true = refl
    by false = refl

-- numbers as keys have their own order
pub number_order : (m n : ℕ) → m < 2 ^ 64 → n < 2 ^ 64 → precedes (number_code m) (number_code n) ≡ nat_lt m n
unfolding precedes
number_order m n h g = ap is_lt (index_keys [] [] m n tt tt refl h g) ∙ less_is m n (nat_lt m n) refl

-- ---- the first behind a number

behind_number : (n : ℕ) (rows : List stored.Entry) → n < 2 ^ 64 → AreKept rows → first_from Behind (number_code n) (entries_of rows) ≡ option_map row_entry (slice_get (filter (λ (e : stored.Entry). nat_lt n e.0) rows) 0)
behind_number n [] h kept = refl
behind_number n (e ∷ rows) h kept =
    let order : precedes (number_code n) (number_code e.0) ≡ nat_lt n e.0 = number_order n e.0 h (omega (arith, kept.0.number)) in
    by (nat_lt n e.0) order (behind_number n rows h kept.1)
  where
    by : (b : Bool) → precedes (number_code n) (number_code e.0) ≡ b
        → first_from Behind (number_code n) (entries_of rows) ≡ option_map row_entry (slice_get (filter (λ (x : stored.Entry). nat_lt n x.0) rows) 0)
        → first_from Behind (number_code n) (row_entry e ∷ entries_of rows) ≡ option_map row_entry (slice_get (if b then e ∷ filter (λ (x : stored.Entry). nat_lt n x.0) rows else filter (λ (x : stored.Entry). nat_lt n x.0) rows) 0)
    by true order again = rw order refl
    by false order again = rw order again

all_after : (rows : List stored.Entry) → filter (λ (e : stored.Entry). is_after None e.0) rows ≡ rows
all_after [] = refl
all_after (e ∷ rows) = ap (λ es. e ∷ es) (all_after rows)

first_row : (rows : List stored.Entry) → first_of (entries_of rows) ≡ option_map row_entry (slice_get rows 0)
first_row [] = refl
first_row (e ∷ rows) = refl

-- what is found behind a number, or first
pub found_after : (n : ℕ) (rows : List stored.Entry) → n < 2 ^ 64 → AreKept rows → first_from Behind (number_code n) (entries_of rows) ≡ option_map row_entry (entry_after (Some n) rows)
found_after n rows h kept = behind_number n rows h kept

pub found_first : (rows : List stored.Entry) → first_from At [] (entries_of rows) ≡ option_map row_entry (entry_after None rows)
found_first rows = from_least (entries_of rows) ∙ first_row rows ∙ ap (λ es. option_map row_entry (slice_get es 0)) (sym (all_after rows))

pub kept_after : (after : Option ℕ) (rows : List stored.Entry) → AreKept rows → IfSome (entry_after after rows) IsKept
kept_after after [] kept = tt
kept_after after (e ∷ rows) kept = by (is_after after e.0) (kept_after after rows kept.1)
  where
    by : (b : Bool) → IfSome (entry_after after rows) IsKept → IfSome (slice_get (if b then e ∷ filter (λ (x : stored.Entry). is_after after x.0) rows else filter (λ (x : stored.Entry). is_after after x.0) rows) 0) IsKept
    by true again = kept.0
    by false again = again

pub fitting_after : (columns : List Column) (after : Option ℕ) (rows : List stored.Entry) → AreFitting columns rows → IfSome (entry_after after rows) (Fits columns)
fitting_after columns after [] fitting = tt
fitting_after columns after (e ∷ rows) fitting = by (is_after after e.0) (fitting_after columns after rows fitting.1)
  where
    by : (b : Bool) → IfSome (entry_after after rows) (Fits columns)
        → IfSome (slice_get (if b then e ∷ filter (λ (x : stored.Entry). is_after after x.0) rows else filter (λ (x : stored.Entry). is_after after x.0) rows) 0) (Fits columns)
    by true again = fitting.0
    by false again = again

-- ---- the next number

-- none is found from a number on
none_from : (n : ℕ) (rows : List stored.Entry) → n < 2 ^ 64 → AreKept rows → first_from At (number_code n) (entries_of rows) ≡ None → stored.next_number rows ≤ n
none_from n [] h kept none = omega arith
none_from n (e ∷ rows) h kept none =
    let order : precedes (number_code e.0) (number_code n) ≡ nat_lt e.0 n = number_order e.0 n (omega (arith, kept.0.number)) h in
    by (nat_lt e.0 n) refl order none (none_from n rows h kept.1)
  where
    by : (b : Bool) → b ≡ nat_lt e.0 n → precedes (number_code e.0) (number_code n) ≡ b → first_from At (number_code n) (row_entry e ∷ entries_of rows) ≡ None
        → (first_from At (number_code n) (entries_of rows) ≡ None → stored.next_number rows ≤ n) → stored.next_number (e ∷ rows) ≤ n
    by true is order none again = let others = again (rw order at none) in let below = ltb-true e.0 n (sym is) in omega (arith, others, below)
    by false is order none again = let found : Some (row_entry e) ≡ None = rw order at none in absurd (cc)

-- one is
some_from : (n : ℕ) (rows : List stored.Entry) → n < 2 ^ 64 → AreKept rows → IsSome (first_from At (number_code n) (entries_of rows)) → n < stored.next_number rows
some_from n [] h kept is = absurd (let bad : false ≡ true = is in cc)
some_from n (e ∷ rows) h kept is =
    let order : precedes (number_code e.0) (number_code n) ≡ nat_lt e.0 n = number_order e.0 n (omega (arith, kept.0.number)) h in
    by (nat_lt e.0 n) refl order is (some_from n rows h kept.1)
  where
    by : (b : Bool) → b ≡ nat_lt e.0 n → precedes (number_code e.0) (number_code n) ≡ b → IsSome (first_from At (number_code n) (row_entry e ∷ entries_of rows))
        → (IsSome (first_from At (number_code n) (entries_of rows)) → n < stored.next_number rows) → n < stored.next_number (e ∷ rows)
    by true less order is again = let others = again (rw order at is) in omega (arith, others)
    by false less order is again = let above = ltb-false e.0 n (sym less) in omega (arith, above)

-- what all keys are, the last one is
last_is : (P : Key → Type 0) (e : Entry) (es : List Entry) (k : Key) → AllByRecursion (λ x. P x.key) (e ∷ es) → last_key (e ∷ es) ≡ Some k → P k
last_is P e [] k each is = let same : e.key ≡ k = cc in subst P same each.0
last_is P e (f ∷ es) k each is = last_is P f es k each.1 is

-- behind the last key there is none
none_behind : (es : List Entry) (k next : Key) → Ascends es → last_key es ≡ Some k → precedes k next ≡ true → first_from At next es ≡ None
none_behind [] k next rises is less = refl
none_behind (e ∷ []) k next rises is less =
    let same : e.key ≡ k = cc in
    let below : precedes e.key next ≡ true = subst (λ x. precedes x next ≡ true) (sym same) less in rw below refl
none_behind (e ∷ f ∷ es) k next rises is less =
    let below : precedes e.key next ≡ true = lt_trans e.key k next (last_is (λ x. precedes e.key x ≡ true) f es k rises.0 is) less in
    rw below (none_behind (f ∷ es) k next rises.1 is less)

-- from the last key on there is one
one_at_last : (es : List Entry) (k : Key) → last_key es ≡ Some k → IsSome (first_from At k es)
one_at_last [] k is = absurd (cc)
one_at_last (e ∷ []) k is =
    let same : e.key ≡ k = cc in
    let other : precedes e.key k ≡ false = subst (λ x. precedes e.key x ≡ false) same (not_self e.key) in rw other refl
one_at_last (e ∷ f ∷ es) k is = by (is_from At k e.key) (one_at_last (f ∷ es) k is)
  where
    by : (b : Bool) → IsSome (first_from At k (f ∷ es)) → IsSome (if b then Some e else first_from At k (f ∷ es))
    by true again = refl
    by false again = again

one_more_behind : (n : ℕ) → n < 2 ^ 63 → precedes (number_code n) (number_code (n + 1)) ≡ true
one_more_behind n h = number_order n (n + 1) (omega (arith, h)) (omega (arith, h)) ∙ lt-ltb n (n + 1) (omega arith)

pub past_last : (es : List Entry) (n : ℕ) → n < 2 ^ 63 → Ascends es → last_key es ≡ Some (number_code n) → ArePast es (n + 1)
past_last es n h rises is = none_behind es (number_code n) (number_code (n + 1)) rises is (one_more_behind n h)

pub next_of_last : (rows : List stored.Entry) (n : ℕ) → n < 2 ^ 63 → AreKept rows → Ascends (entries_of rows) → last_key (entries_of rows) ≡ Some (number_code n) → n + 1 ≡ stored.next_number rows
next_of_last rows n h kept rises is =
    let most = none_from (n + 1) rows (omega (arith, h)) kept (past_last (entries_of rows) n h rises is) in
    let least = some_from n rows (omega (arith, h)) kept (one_at_last (entries_of rows) (number_code n) is) in
    omega (arith, most, least)

pub none_last : (es : List Entry) → last_key es ≡ None → es ≡ []
none_last [] is = refl
none_last (e ∷ []) is = absurd (cc)
none_last (e ∷ f ∷ es) is = let bad : f ∷ es ≡ [] = none_last (f ∷ es) is in absurd (cc)

pub next_of_none : (rows : List stored.Entry) → last_key (entries_of rows) ≡ None → 0 ≡ stored.next_number rows
next_of_none [] is = refl
next_of_none (e ∷ rows) is = let bad : row_entry e ∷ entries_of rows ≡ [] = none_last (row_entry e ∷ entries_of rows) is in absurd (cc)

pub past_none : (es : List Entry) → last_key es ≡ None → ArePast es 0
past_none es is = ap (λ (all : List Entry). first_from At (number_code 0) all) (none_last es is)

-- the last key of rows is the code of a number that a row may have
pub record IsLast (k : Key) : Type 0 where
  pub number : ℕ
  pub below : number < 2 ^ 63
  pub code : k ≡ number_code number

pub last_of_rows : (rows : List stored.Entry) (k : Key) → AreKept rows → last_key (entries_of rows) ≡ Some k → IsLast k
last_of_rows [] k kept is = absurd (cc)
last_of_rows (e ∷ []) k kept is = record { number = e.0; below = kept.0.number; code = let same : number_code e.0 ≡ k = cc in sym same }
last_of_rows (e ∷ f ∷ rows) k kept is = last_of_rows (f ∷ rows) k kept.1 is
