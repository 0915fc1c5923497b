-- The beginning of lists, as their nodes give them: what a place says of none of its rows.
use Rattle.std.proofs.Common.{◌≡◌, refl, sym, ap, ◌∙◌, ℕ, Bool, true, false, List, [], ◌∷◌, Option, Some, None}
use Rattle.std.specs.Prelude.{filter, if◌then◌else◌}
use Rattle.std.specs.Ordering.{is_lt, is_gt, ordering_reverse, ordering_then}
use Rattle.std.specs.declared.cmp.Ordering.{Ordering}
use Rattle.std.specs.declared.cmp.Ordering.TheVariants.{Less, Equal, Greater}
use Rattle.std.specs.Cmp.Lexicographic.{slice_cmp}
use Rattle.std.proofs.lemmas.Cmp.{lists_total}
use Rattle.sqlval.specs.Comparison.{value_order}
use Rattle.sqlval.specs.Matching.{key_of}
use Rattle.sqlval.specs.Value.{Row}
use Rattle.sqlval.proofs.ValueOrderLaws.{value_order_total}
use Rattle.algebra.specs.declared.tree.Bound.{Bound}
use Rattle.algebra.specs.Bounds.{is_within, rows_within}
use Rattle.algebra.specs.Sorted.{ascending, put_row, sorted}
use Rattle.denote.specs.Answer.{by_keys}
use Rattle.denote.specs.Bag.{distinct}
use Rattle.denote.specs.Expression.{cell}
use Rattle.store.specs.Contents.{Entry, rows_of}
use Rattle.store.specs.Indexes.{beyond, by_columns, is_after}
use Rattle.store.specs.Sorted.{put_by, sorted_by}
use Rattle.places.specs.Left.{entries_within, rows_beyond, unseen}

-- ---- by numbers

pub all_after : (found : List Entry) → filter (λ (e : Entry). is_after None e.0) found ≡ found
all_after [] = refl
all_after (e ∷ found) = ap (λ rest. e ∷ rest) (all_after found)

-- ---- in the order of an index

-- the order of keys is that of the columns, one after another
same_order : (columns : List ℕ) (a b : Row) → by_keys (ascending columns) a b ≡ slice_cmp value_order (key_of columns a)
    (key_of columns b)
same_order [] a b = refl
same_order (column ∷ columns) a b = ap (λ o. ordering_then (value_order (cell a column) (cell b column)) o)
    (same_order columns a b)

-- less the one way is greater the other
turned : (columns : List ℕ) (e d : Entry) → is_lt (by_keys (ascending columns) d.1 e.1) ≡ is_gt (by_columns columns e d)
turned columns e d =
    ap is_lt (same_order columns d.1 e.1)
    ∙ ap is_lt ((lists_total value_order_total).antisymm (key_of columns d.1) (key_of columns e.1))
    ∙ by (by_columns columns e d)
  where
    by : (r : Ordering) → is_lt (ordering_reverse r) ≡ is_gt r
    by Less = refl
    by Equal = refl
    by Greater = refl

rows_put : (columns : List ℕ) (e : Entry) (found : List Entry) → rows_of (put_by (by_columns columns) e found)
    ≡ put_row (ascending columns) e.1 (rows_of found)
rows_put columns e [] = refl
rows_put columns e (d ∷ found) =
    rw (turned columns e d) (at (is_gt (by_columns columns e d)) (rows_put columns e found))
  where
    at : (b : Bool) → rows_of (put_by (by_columns columns) e found) ≡ put_row (ascending columns) e.1 (rows_of found)
        → rows_of (if b then d ∷ put_by (by_columns columns) e found else e ∷ d ∷ found)
        ≡ (if b then d.1 ∷ put_row (ascending columns) e.1 (rows_of found) else e.1 ∷ d.1 ∷ rows_of found)
    at true h = ap (λ rows. d.1 ∷ rows) h
    at false h = refl

-- the rows of sorted entries are the sorted rows
pub rows_sorted : (columns : List ℕ) (found : List Entry) → rows_of (sorted_by (by_columns columns) found)
    ≡ sorted (ascending columns) (rows_of found)
rows_sorted columns [] = refl
rows_sorted columns (e ∷ found) = rows_put columns e (sorted_by (by_columns columns) found)
    ∙ ap (put_row (ascending columns) e.1) (rows_sorted columns found)

pub rows_filtered : (test : Row → Bool) (found : List Entry) → rows_of (filter (λ (e : Entry). test e.1) found)
    ≡ filter test (rows_of found)
rows_filtered test [] = refl
rows_filtered test (e ∷ found) = at (test e.1) (rows_filtered test found)
  where
    at : (b : Bool) → rows_of (filter (λ (d : Entry). test d.1) found) ≡ filter test (rows_of found)
        → rows_of (if b then e ∷ filter (λ (d : Entry). test d.1) found else filter (λ (d : Entry). test d.1) found)
        ≡ (if b then e.1 ∷ filter test (rows_of found) else filter test (rows_of found))
    at true h = ap (λ rows. e.1 ∷ rows) h
    at false h = h

pub all_beyond : (columns : List ℕ) (found : List Entry) → beyond None (Some columns) found ≡ found
all_beyond columns [] = refl
all_beyond columns (e ∷ found) = ap (λ rest. e ∷ rest) (all_beyond columns found)

pub range_begins : (columns : List ℕ) (low high : Option Bound) (found : List Entry)
    → sorted (ascending columns) (rows_within columns low high (rows_of found))
    ≡ rows_beyond columns low high None found
range_begins columns low high found =
    ap (sorted (ascending columns)) (sym (rows_filtered (is_within columns low high) found))
    ∙ sym (rows_sorted columns (filter (λ (e : Entry). is_within columns low high e.1) found))
    ∙ ap rows_of (sym (all_beyond columns (entries_within columns low high found)))

-- ---- one of each alike rows

all_kept : (rows : List Row) → filter (λ (row : Row). true) rows ≡ rows
all_kept [] = refl
all_kept (row ∷ rows) = ap (λ rest. row ∷ rest) (all_kept rows)

pub none_seen : (rows : List Row) → distinct rows ≡ unseen [] rows
none_seen rows = sym (all_kept (distinct rows))
