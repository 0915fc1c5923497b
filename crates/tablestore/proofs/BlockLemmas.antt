-- Rows behind a number, as entries of a tree.
use Rattle.std.proofs.Common.{◌≡◌, ℕ, ◌^◌, ◌<◌, Bool, true, false, List, [], ◌∷◌, Option, Some, None, zero, suc, refl, sym, ap, ◌∙◌, take, map, filter, arith, nat_lt, not, if◌then◌else◌}
use Rattle.std.specs.List.{AllByRecursion}
use Rattle.store.specs.Contents as stored
use Rattle.store.specs.Indexes.{is_after, some_after}
use Rattle.sqlrecord.specs.Key.{number_code}
use Rattle.btree_read.specs.declared.entry.Entry.{Entry}
use Rattle.btree_read.specs.declared.entry.Start.TheVariants.{At, Behind}
use Rattle.btree_read.specs.Nodes.{precedes}
use Rattle.btree_read.specs.Sorted.{from_on}
use Rattle.btree_read.proofs.OrderLemmas.{empty_lowest}
use Rattle.tablestore.specs.Held.{row_entry, entries_of, AreKept}
use Rattle.tablestore.proofs.NumberLemmas.{number_order}

rows_behind : (n : ℕ) (rows : List stored.Entry) → n < 2 ^ 64 → AreKept rows
    → from_on Behind (number_code n) (entries_of rows) ≡ entries_of (filter (λ (e : stored.Entry). nat_lt n e.0) rows)
rows_behind n [] h kept = refl
rows_behind n (e ∷ rows) h kept = by (nat_lt n e.0) (number_order n e.0 h (omega (arith, kept.0.number))) (rows_behind n rows h kept.1)
  where
    by : (b : Bool) → precedes (number_code n) (number_code e.0) ≡ b
        → from_on Behind (number_code n) (entries_of rows) ≡ entries_of (filter (λ (x : stored.Entry). nat_lt n x.0) rows)
        → from_on Behind (number_code n) (row_entry e ∷ entries_of rows)
        ≡ entries_of (if b then e ∷ filter (λ (x : stored.Entry). nat_lt n x.0) rows else filter (λ (x : stored.Entry). nat_lt n x.0) rows)
    by true order again = rw order (ap (λ es. row_entry e ∷ es) again)
    by false order again = rw order again

all_from_least : (es : List Entry) → from_on At [] es ≡ es
all_from_least [] = refl
all_from_least (e ∷ es) = rw (empty_lowest e.key) (ap (λ xs. e ∷ xs) (all_from_least es))

all_rows : (rows : List stored.Entry) → filter (λ (e : stored.Entry). is_after None e.0) rows ≡ rows
all_rows [] = refl
all_rows (e ∷ rows) = ap (λ es. e ∷ es) (all_rows rows)

taken_rows : (most : ℕ) (rows : List stored.Entry) → take most (entries_of rows) ≡ entries_of (take most rows)
taken_rows zero rows = refl
taken_rows (suc most) [] = refl
taken_rows (suc most) (e ∷ rows) = ap (λ es. row_entry e ∷ es) (taken_rows most rows)

pub some_behind : (n most : ℕ) (rows : List stored.Entry) → n < 2 ^ 64 → AreKept rows
    → take most (from_on Behind (number_code n) (entries_of rows)) ≡ entries_of (some_after (Some n) most rows)
some_behind n most rows h kept = ap (take most) (rows_behind n rows h kept) ∙ taken_rows most (filter (λ (e : stored.Entry). nat_lt n e.0) rows)

pub some_first : (most : ℕ) (rows : List stored.Entry) → take most (from_on At [] (entries_of rows)) ≡ entries_of (some_after None most rows)
some_first most rows =
    ap (take most) (all_from_least (entries_of rows)) ∙ taken_rows most rows
    ∙ ap (λ es. entries_of (take most es)) (sym (all_rows rows))

first_all : (P : stored.Entry → Type 0) (n : ℕ) (es : List stored.Entry) → AllByRecursion P es → AllByRecursion P (take n es)
first_all P zero es h = tt
first_all P (suc n) [] h = tt
first_all P (suc n) (e ∷ es) h = (h.0, first_all P n es h.1)

behind_all : (P : stored.Entry → Type 0) (after : Option ℕ) (es : List stored.Entry) → AllByRecursion P es → AllByRecursion P (filter (λ (e : stored.Entry). is_after after e.0) es)
behind_all P after [] h = tt
behind_all P after (e ∷ es) h = by (is_after after e.0) (behind_all P after es h.1)
  where
    by : (b : Bool) → AllByRecursion P (filter (λ (x : stored.Entry). is_after after x.0) es)
        → AllByRecursion P (if b then e ∷ filter (λ (x : stored.Entry). is_after after x.0) es else filter (λ (x : stored.Entry). is_after after x.0) es)
    by true more = (h.0, more)
    by false more = more

-- what holds of each row holds of those behind a number, so many of them
pub some_all : (P : stored.Entry → Type 0) (after : Option ℕ) (most : ℕ) (rows : List stored.Entry) → AllByRecursion P rows → AllByRecursion P (some_after after most rows)
some_all P after most rows h = first_all P most (filter (λ (e : stored.Entry). is_after after e.0) rows) (behind_all P after rows h)
