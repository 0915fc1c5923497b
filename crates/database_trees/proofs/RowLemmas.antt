-- Rows of a table by their numbers: with more, without one, with one exchanged.
use Rattle.std.proofs.Common.{◌≡◌, ℕ, zero, suc, ◌+◌, ◌^◌, ◌<◌, ◌≤◌, Bool, true, false, cond, List, [], ◌∷◌, ◌++◌, length, map, take, ◌⊎◌, inl, inr, Option, Some, None, refl, sym, ap, subst, ◌∙◌, arith, append_assoc, add-one}
use Rattle.std.specs.Prelude.{not, if◌then◌else◌, slice_index_or}
use Rattle.std.specs.Bool.{◌==◌}
use Rattle.std.proofs.lemmas.Bool.{eqb-true, eq-eqb}
use Rattle.std.proofs.lemmas.List.{append-nil as append_nil}
use Rattle.std.proofs.Math.Seq.{take-length}
use Rattle.std.specs.List.{AllByRecursion, enumerate_from}
use Rattle.sqlval.specs.Value.{Row}
use Rattle.store.specs.Contents.{Entry, rows_of}
use Rattle.store.specs.View.{AreEntries, entry_of}
use Rattle.store.specs.declared.rows.NumberedRow.{NumberedRow}
use Rattle.store.specs.declared.rows.Numbered.{Numbered}
use Rattle.sqlrecord.specs.Key.{number_code}
use Rattle.page_space.specs.Space.{PageMap}
use Rattle.btree_read.specs.declared.entry.Entry as tree
use Rattle.btree_read.specs.Nodes.{precedes}
use Rattle.btree_read.specs.Sorted.{Ascends}
use Rattle.btree_read.proofs.ListLemmas.{each_left, each_right}
use Rattle.btree_read.proofs.OrderLemmas.{not_self}
use Rattle.btree_read.proofs.AscendLemmas.{root_ascends}
use Rattle.tablestore.specs.Held.{row_entry, entries_of, IsKept, AreKept, HoldsRows}
use Rattle.tablestore.specs.Rows.{without_number, with_number}
use Rattle.index_trees.specs.Indexed.{IsRow, AreWith}
use Rattle.database_trees.specs.declared.exchange.Exchange.{Exchange}
use Rattle.database_trees.specs.Named.{row_numbered}
use Rattle.database_trees.specs.Exchanged.{IsLeft, AreMore, Exchanges, AreSameRows}

-- ---- one of some rows

pub row_left : (row : Entry) (xs ys : List Entry) → IsRow row xs → IsRow row (xs ++ ys)
row_left row [] ys h = absurd h
row_left row (x ∷ xs) ys (inl e) = inl e
row_left row (x ∷ xs) ys (inr h) = inr (row_left row xs ys h)

pub row_right : (row : Entry) (xs ys : List Entry) → IsRow row ys → IsRow row (xs ++ ys)
row_right row [] ys h = h
row_right row (x ∷ xs) ys h = inr (row_right row xs ys h)

pub row_either : (row : Entry) (xs ys : List Entry) → IsRow row (xs ++ ys) → IsRow row xs ⊎ IsRow row ys
row_either row [] ys h = inr h
row_either row (x ∷ xs) ys (inl e) = inl (inl e)
row_either row (x ∷ xs) ys (inr h) = by (row_either row xs ys h)
  where
    by : IsRow row xs ⊎ IsRow row ys → ((row ≡ x) ⊎ IsRow row xs) ⊎ IsRow row ys
    by (inl g) = inl (inr g)
    by (inr g) = inr g

pub each_row : (P : Entry → Type 0) (row : Entry) (rows : List Entry) → AllByRecursion P rows → IsRow row rows → P row
each_row P row [] h g = absurd g
each_row P row (x ∷ rows) h (inl e) = subst P (sym e) h.0
each_row P row (x ∷ rows) h (inr g) = each_row P row rows h.1 g

-- ---- numbers that stand once

-- each number differs from those behind it
abbrev pub AreNumbered : List Entry → Type 0
AreNumbered [] = Unit {0}
AreNumbered (e ∷ rows) = AllByRecursion (λ (f : Entry). e.0 ≡ f.0 → ⊥) rows × AreNumbered rows

differ : (m n : ℕ) → precedes (number_code m) (number_code n) ≡ true → m ≡ n → ⊥
differ m n less e =
    let itself : precedes (number_code m) (number_code m) ≡ true = subst (λ k. precedes (number_code m) (number_code k) ≡ true) (sym e) less in
    let bad : true ≡ false = sym itself ∙ not_self (number_code m) in absurd (cc)

each_differs : (e : Entry) (rows : List Entry) → AllByRecursion (λ (x : tree.Entry). precedes (row_entry e).key x.key ≡ true) (entries_of rows) → AllByRecursion (λ (f : Entry). e.0 ≡ f.0 → ⊥) rows
each_differs e [] h = tt
each_differs e (f ∷ rows) h = (differ e.0 f.0 h.0, each_differs e rows h.1)

numbered_by : (rows : List Entry) → Ascends (entries_of rows) → AreNumbered rows
numbered_by [] h = tt
numbered_by (e ∷ rows) h = (each_differs e rows h.0, numbered_by rows h.1)

pub numbered : (pages : PageMap) (root : ℕ) (owned : List ℕ) (rows : List Entry) → HoldsRows pages root owned rows → AreNumbered rows
numbered pages root owned rows h = numbered_by rows (root_ascends pages root owned (entries_of rows) h.tree)

differs_before : (xs ys : List Entry) (e row : Entry) → AreNumbered (xs ++ e ∷ ys) → IsRow row xs → row.0 ≡ e.0 → ⊥
differs_before [] ys e row h g same = g
differs_before (x ∷ xs) ys e row h (inl is) same =
    (each_right (λ (f : Entry). x.0 ≡ f.0 → ⊥) xs (e ∷ ys) h.0).0 (ap (λ (r : Entry). r.0) (sym is) ∙ same)
differs_before (x ∷ xs) ys e row h (inr g) same = differs_before xs ys e row h.1 g same

pub one_with : (rows : List Entry) (e : Entry) → AreKept (rows ++ e ∷ []) → ((row : Entry) → IsRow row rows → row.0 ≡ e.0 → ⊥) → AreWith e rows (rows ++ e ∷ [])
one_with rows e kept apart = record {
  there = row_right e rows (e ∷ []) (inl refl);
  kept = λ row h. row_left row rows (e ∷ []) h;
  all = λ row h. by row (row_either row rows (e ∷ []) h);
  apart = apart;
  numbers = λ row h. (each_row IsKept row (rows ++ e ∷ []) kept h).number;
}
  where
    by : (row : Entry) → IsRow row rows ⊎ IsRow row (e ∷ []) → IsRow row rows ⊎ (row ≡ e)
    by row (inl h) = inl h
    by row (inr (inl q)) = inr q
    by row (inr (inr q)) = absurd q

pub more_apart : (more rows : List Entry) → AreKept (rows ++ more) → AreNumbered (rows ++ more) → AreMore more rows
more_apart [] rows kept h = tt
more_apart (e ∷ more) rows kept h =
    let joined : rows ++ e ∷ more ≡ (rows ++ e ∷ []) ++ more = sym (append_assoc rows (e ∷ []) more) in
    let all : AreKept ((rows ++ e ∷ []) ++ more) = subst AreKept joined kept in (
      one_with rows e (each_left IsKept (rows ++ e ∷ []) more all) (λ row g same. differs_before rows more e row h g same),
      more_apart more (rows ++ e ∷ []) all (subst AreNumbered joined h),
    )

-- ---- rows numbered on

pub numbers_more : (first : ℕ) (rows : List Row) (i : ℕ) (d : Row) → i < length rows → map (λ (e : Entry). e.0) (enumerate_from first (take (i + 1) rows)) ≡ map (λ (e : Entry). e.0) (enumerate_from first (take i rows)) ++ (first + i) ∷ []
numbers_more first rows i d below = ap (λ k. map (λ (e : Entry). e.0) (enumerate_from first (take k rows))) (add-one i) ∙ go rows first i below
  where
    go : (rows : List Row) (first i : ℕ) → i < length rows → map (λ (e : Entry). e.0) (enumerate_from first (take (suc i) rows)) ≡ map (λ (e : Entry). e.0) (enumerate_from first (take i rows)) ++ (first + i) ∷ []
    go [] first i below = absurd (omega (arith, below))
    go (r ∷ rows) first zero below = let e : first ≡ first + 0 = omega arith in ap (λ n. n ∷ []) e
    go (r ∷ rows) first (suc i) below =
        let e : (first + 1) + i ≡ first + suc i = omega arith in
        ap (λ ns. first ∷ ns) (go rows (first + 1) i (omega (arith, below)) ∙ ap (λ n. map (λ (e : Entry). e.0) (enumerate_from (first + 1) (take i rows)) ++ n ∷ []) e)

pub rows_enumerated : (rows : List Row) (first : ℕ) → rows ≡ rows_of (enumerate_from first rows)
rows_enumerated [] first = refl
rows_enumerated (r ∷ rows) first = ap (λ rs. r ∷ rs) (rows_enumerated rows (first + 1))

-- ---- one row by its number

pub same_number : (m n : ℕ) → m ≡ n → (m == n) ≡ true
same_number m n e = eq-eqb m n e

other_number : (m n : ℕ) → (m ≡ n → ⊥) → (m == n) ≡ false
other_number m n f = by (m == n) refl
  where
    by : (b : Bool) → b ≡ (m == n) → b ≡ false
    by true e = absurd (f (eqb-true m n (sym e)))
    by false e = refl

-- rows without the one of a number are among them, and all but this one
pub without_among : (number : ℕ) (row : Entry) (rows : List Entry) → IsRow row (without_number number rows) → IsRow row rows
without_among number row [] h = h
without_among number row (e ∷ rows) h = by (e.0 == number) h (without_among number row rows)
  where
    by : (b : Bool) → IsRow row (if not b then e ∷ without_number number rows else without_number number rows) → (IsRow row (without_number number rows) → IsRow row rows) → (row ≡ e) ⊎ IsRow row rows
    by true g again = inr (again g)
    by false (inl g) again = inl g
    by false (inr g) again = inr (again g)

pub without_other : (number : ℕ) (row : Entry) (rows : List Entry) → IsRow row (without_number number rows) → row.0 ≡ number → ⊥
without_other number row [] h same = h
without_other number row (e ∷ rows) h same = by (e.0 == number) refl h (λ g. without_other number row rows g same)
  where
    by : (b : Bool) → (e.0 == number) ≡ b → IsRow row (if not b then e ∷ without_number number rows else without_number number rows) → (IsRow row (without_number number rows) → ⊥) → ⊥
    by true q g again = again g
    by false q (inl g) again = let bad : true ≡ false = sym (same_number e.0 number (ap (λ (r : Entry). r.0) (sym g) ∙ same)) ∙ q in absurd (cc)
    by false q (inr g) again = again g

without_or : (number : ℕ) (row : Entry) (rows : List Entry) → IsRow row rows → (row.0 ≡ number) ⊎ IsRow row (without_number number rows)
without_or number row [] h = absurd h
without_or number row (e ∷ rows) h = by (e.0 == number) refl h (without_or number row rows)
  where
    keep : (row.0 ≡ number) ⊎ IsRow row (without_number number rows) → (row.0 ≡ number) ⊎ ((row ≡ e) ⊎ IsRow row (without_number number rows))
    keep (inl g) = inl g
    keep (inr g) = inr (inr g)

    by : (b : Bool) → (e.0 == number) ≡ b → (row ≡ e) ⊎ IsRow row rows → (IsRow row rows → (row.0 ≡ number) ⊎ IsRow row (without_number number rows))
        → (row.0 ≡ number) ⊎ IsRow row (if not b then e ∷ without_number number rows else without_number number rows)
    by true q (inl g) again = inl (ap (λ (r : Entry). r.0) g ∙ eqb-true e.0 number q)
    by true q (inr g) again = again g
    by false q (inl g) again = inr (inl g)
    by false q (inr g) again = keep (again g)

-- the row of a number is one of the rows
pub numbered_is : (number : ℕ) (rows : List Entry) (e : Entry) → row_numbered number rows ≡ Some e → IsRow e rows × (e.0 ≡ number)
numbered_is number [] e h = absurd (cc)
numbered_is number (x ∷ rows) e h = by (x.0 == number) refl h (numbered_is number rows e)
  where
    same : (a b : Entry) → Some a ≡ Some b → a ≡ b
    same a b q = cc

    by : (b : Bool) → (x.0 == number) ≡ b → cond b (Some x) (row_numbered number rows) ≡ Some e → (row_numbered number rows ≡ Some e → IsRow e rows × (e.0 ≡ number)) → ((e ≡ x) ⊎ IsRow e rows) × (e.0 ≡ number)
    by true q found again = let w = same x e found in (inl (sym w), ap (λ (r : Entry). r.0) (sym w) ∙ eqb-true x.0 number q)
    by false q found again = let w = again found in (inr w.0, w.1)

-- no other row has it
one_numbered : (rows : List Entry) (e row : Entry) → AreNumbered rows → IsRow e rows → IsRow row rows → row.0 ≡ e.0 → row ≡ e
one_numbered [] e row h a b same = absurd a
one_numbered (x ∷ rows) e row h (inl a) (inl b) same = b ∙ sym a
one_numbered (x ∷ rows) e row h (inl a) (inr b) same =
    absurd (each_row (λ (f : Entry). x.0 ≡ f.0 → ⊥) row rows h.0 b (ap (λ (r : Entry). r.0) (sym a) ∙ sym same))
one_numbered (x ∷ rows) e row h (inr a) (inl b) same =
    absurd (each_row (λ (f : Entry). x.0 ≡ f.0 → ⊥) e rows h.0 a (ap (λ (r : Entry). r.0) (sym b) ∙ same))
one_numbered (x ∷ rows) e row h (inr a) (inr b) same = one_numbered rows e row h.1 a b same

pub taken_from : (number : ℕ) (rows : List Entry) (e : Entry) → AreKept rows → AreNumbered rows → row_numbered number rows ≡ Some e → AreWith e (without_number number rows) rows
taken_from number rows e kept h found =
    let w = numbered_is number rows e found in
    record {
      there = w.0;
      kept = λ row g. without_among number row rows g;
      all = λ row g. by w row g (without_or number row rows g);
      apart = λ row g same. without_other number row rows g (same ∙ w.1);
      numbers = λ row g. (each_row IsKept row rows kept g).number;
    }
  where
    by : IsRow e rows × (e.0 ≡ number) → (row : Entry) → IsRow row rows → (row.0 ≡ number) ⊎ IsRow row (without_number number rows) → IsRow row (without_number number rows) ⊎ (row ≡ e)
    by w row g (inl same) = inr (one_numbered rows e row h w.0 g (same ∙ sym w.1))
    by w row g (inr k) = inl k

-- where no row has it
pub without_none : (number : ℕ) (rows : List Entry) → row_numbered number rows ≡ None → without_number number rows ≡ rows
without_none number [] h = refl
without_none number (x ∷ rows) h = by (x.0 == number) h (without_none number rows)
  where
    by : (b : Bool) → cond b (Some x) (row_numbered number rows) ≡ None → (row_numbered number rows ≡ None → without_number number rows ≡ rows)
        → (if not b then x ∷ without_number number rows else without_number number rows) ≡ x ∷ rows
    by true none again = absurd (cc)
    by false none again = ap (λ xs. x ∷ xs) (again none)

pub with_none : (number : ℕ) (new : Row) (rows : List Entry) → row_numbered number rows ≡ None → with_number number new rows ≡ rows
with_none number new [] h = refl
with_none number new (x ∷ rows) h = by (x.0 == number) h (with_none number new rows)
  where
    by : (b : Bool) → cond b (Some x) (row_numbered number rows) ≡ None → (row_numbered number rows ≡ None → with_number number new rows ≡ rows)
        → (if b then (number, new) else x) ∷ with_number number new rows ≡ x ∷ rows
    by true none again = absurd (cc)
    by false none again = ap (λ xs. x ∷ xs) (again none)

-- one exchanged for another of its number: the same rows as those without it and the other one
with_among : (number : ℕ) (new : Row) (row : Entry) (rows : List Entry) → IsRow row (with_number number new rows) → IsRow row (without_number number rows) ⊎ (row ≡ (number, new))
with_among number new row [] h = inl h
with_among number new row (x ∷ rows) h = by (x.0 == number) h (with_among number new row rows)
  where
    keep : IsRow row (without_number number rows) ⊎ (row ≡ (number, new)) → ((row ≡ x) ⊎ IsRow row (without_number number rows)) ⊎ (row ≡ (number, new))
    keep (inl g) = inl (inr g)
    keep (inr g) = inr g

    by : (b : Bool) → (row ≡ (if b then (number, new) else x)) ⊎ IsRow row (with_number number new rows) → (IsRow row (with_number number new rows) → IsRow row (without_number number rows) ⊎ (row ≡ (number, new)))
        → IsRow row (if not b then x ∷ without_number number rows else without_number number rows) ⊎ (row ≡ (number, new))
    by true (inl g) again = inr g
    by true (inr g) again = again g
    by false (inl g) again = inl (inl g)
    by false (inr g) again = keep (again g)

with_keeps : (number : ℕ) (new : Row) (row : Entry) (rows : List Entry) → IsRow row (without_number number rows) → IsRow row (with_number number new rows)
with_keeps number new row [] h = h
with_keeps number new row (x ∷ rows) h = by (x.0 == number) h (with_keeps number new row rows)
  where
    by : (b : Bool) → IsRow row (if not b then x ∷ without_number number rows else without_number number rows) → (IsRow row (without_number number rows) → IsRow row (with_number number new rows))
        → (row ≡ (if b then (number, new) else x)) ⊎ IsRow row (with_number number new rows)
    by true g again = inr (again g)
    by false (inl g) again = inl g
    by false (inr g) again = inr (again g)

pub with_there : (number : ℕ) (new : Row) (rows : List Entry) (e : Entry) → row_numbered number rows ≡ Some e → IsRow (number, new) (with_number number new rows)
with_there number new [] e h = absurd (cc)
with_there number new (x ∷ rows) e h = by (x.0 == number) h (with_there number new rows e)
  where
    by : (b : Bool) → cond b (Some x) (row_numbered number rows) ≡ Some e → (row_numbered number rows ≡ Some e → IsRow (number, new) (with_number number new rows))
        → ((number, new) ≡ (if b then (number, new) else x)) ⊎ IsRow (number, new) (with_number number new rows)
    by true found again = inl refl
    by false found again = inr (again found)

pub exchanged_same : (number : ℕ) (new : Row) (rows : List Entry) (e : Entry) → row_numbered number rows ≡ Some e → AreSameRows (without_number number rows ++ (number, new) ∷ []) (with_number number new rows)
exchanged_same number new rows e found = record {
  to = λ row h. to row (row_either row (without_number number rows) ((number, new) ∷ []) h);
  back = λ row h. back row (with_among number new row rows h);
}
  where
    to : (row : Entry) → IsRow row (without_number number rows) ⊎ IsRow row ((number, new) ∷ []) → IsRow row (with_number number new rows)
    to row (inl h) = with_keeps number new row rows h
    to row (inr (inl q)) = subst (λ (r : Entry). IsRow r (with_number number new rows)) (sym q) (with_there number new rows e found)
    to row (inr (inr q)) = absurd q

    back : (row : Entry) → IsRow row (without_number number rows) ⊎ (row ≡ (number, new)) → IsRow row (without_number number rows ++ (number, new) ∷ [])
    back row (inl h) = row_left row (without_number number rows) ((number, new) ∷ []) h
    back row (inr q) = row_right row (without_number number rows) ((number, new) ∷ []) (inl q)

pub same_rows : (rows : List Entry) → AreSameRows (rows ++ []) rows
same_rows rows = subst (λ (xs : List Entry). AreSameRows xs rows) (sym (append_nil rows)) (record { to = λ row h. h; back = λ row h. h })
