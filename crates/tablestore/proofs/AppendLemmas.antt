-- Rows put behind others.
use Rattle.std.proofs.Common.{◌≡◌, ℕ, ◌+◌, ◌^◌, ◌<◌, ◌≤◌, max, true, List, [], ◌∷◌, ◌++◌, length, get_or, take, refl, sym, ap, ◌∙◌, subst, arith, append_assoc}
use Rattle.std.specs.List.{AllByRecursion, enumerate_from}
use Rattle.std.proofs.lemmas.Bool.{lt-ltb}
use Rattle.std.proofs.lemmas.List.{append-nil, take_more, length-take-le}
use Rattle.sqlval.specs.Value.{Row}
use Rattle.store.specs.Contents as stored
use Rattle.sqlrecord.specs.Key.{number_code}
use Rattle.sqlrecord.specs.Row.{row_code, IsCodeOf}
use Rattle.sqlrecord.proofs.ByteLemmas.{length_be}
use Rattle.page_space.specs.Space.{PageMap}
use Rattle.btree_read.specs.declared.entry.Entry.{Entry}
use Rattle.btree_read.specs.Nodes.{precedes, IsSmall}
use Rattle.btree_read.specs.Sorted.{put}
use Rattle.btree_read.specs.Tree.{IsTree}
use Rattle.btree_read.proofs.ListLemmas.{each_append}
use Rattle.btree.specs.Written.{IsWritten, put_all}
use Rattle.btree.proofs.ChangeLemmas.{put_past}
use Rattle.tablestore.specs.Held.{row_entry, entries_of, IsKept, AreKept, HoldsRows}
use Rattle.tablestore.specs.Appended.{RowsWritten}
use Rattle.tablestore.proofs.NumberLemmas.{number_order}

-- ---- numbers

next_append : (xs ys : List stored.Entry) → stored.next_number (xs ++ ys) ≡ max (stored.next_number xs) (stored.next_number ys)
next_append [] ys = omega arith
next_append (x ∷ xs) ys = let rest = next_append xs ys in omega (arith, rest)

next_more : (rows : List stored.Entry) (m : ℕ) (r : Row) → stored.next_number rows ≡ m → stored.next_number (rows ++ (m, r) ∷ []) ≡ m + 1
next_more rows m r is = let parts = next_append rows ((m, r) ∷ []) in omega (arith, parts, is)

before_number : (rows : List stored.Entry) (m : ℕ) → m < 2 ^ 64 → AreKept rows → stored.next_number rows ≤ m → AllByRecursion (λ e. precedes e.key (number_code m) ≡ true) (entries_of rows)
before_number [] m fits kept next = tt
before_number (e ∷ rows) m fits kept next =
    let below : e.0 < m = omega (arith, next) in
    (number_order e.0 m (omega (arith, kept.0.number)) fits ∙ lt-ltb e.0 m below, before_number rows m fits kept.1 (omega (arith, next)))

entries_more : (rows : List stored.Entry) (e : stored.Entry) → entries_of rows ++ row_entry e ∷ [] ≡ entries_of (rows ++ e ∷ [])
entries_more [] e = refl
entries_more (x ∷ rows) e = ap (λ es. row_entry x ∷ es) (entries_more rows e)

-- a row with the next number comes last
put_last : (rows : List stored.Entry) (m : ℕ) (r : Row) → m < 2 ^ 64 → AreKept rows → stored.next_number rows ≡ m → put (number_code m) (row_code r) (entries_of rows) ≡ entries_of (rows ++ (m, r) ∷ [])
put_last rows m r fits kept next =
    ap (put (number_code m) (row_code r)) (sym (append-nil (entries_of rows)))
    ∙ put_past (number_code m) (row_code r) (entries_of rows) [] (before_number rows m fits kept (omega (arith, next))) ∙ entries_more rows (m, r)

enumerate_more : (n : ℕ) (xs : List Row) (x : Row) → enumerate_from n (xs ++ x ∷ []) ≡ enumerate_from n xs ++ (n + length xs, x) ∷ []
enumerate_more n [] x = let same : n ≡ n + 0 = omega arith in ap (λ m. (m, x) ∷ []) same
enumerate_more n (y ∷ xs) x =
    let same : n + 1 + length xs ≡ n + length (y ∷ xs) = omega arith in
    ap (λ es. (n, y) ∷ es) (enumerate_more (n + 1) xs x ∙ ap (λ m. enumerate_from (n + 1) xs ++ (m, x) ∷ []) same)

-- ---- the entries of some rows, one after another

pub entries_step : (first i : ℕ) (rows : List Row) (d r : Row) (number : ℕ) (old now : List Entry) (e : Entry) → i < length rows → r ≡ get_or rows i d → number ≡ first + i → e ≡ row_entry (number, r)
    → now ≡ old ++ e ∷ [] → old ≡ entries_of (enumerate_from first (take i rows)) → now ≡ entries_of (enumerate_from first (take (i + 1) rows))
entries_step first i rows d r number old now e l is n w p h =
    let more : take (i + 1) rows ≡ take i rows ++ r ∷ [] = take_more rows i d l ∙ ap (λ x. take i rows ++ x ∷ []) (sym is) in
    let long : length (take i rows) ≡ i = length-take-le i rows (omega (arith, l)) in
    let at : number ≡ first + length (take i rows) = omega (arith, n, long) in
    p ∙ ap (λ es. es ++ e ∷ []) h ∙ ap (λ x. entries_of (enumerate_from first (take i rows)) ++ x ∷ []) (w ∙ ap (λ m. row_entry (m, r)) at)
    ∙ entries_more (enumerate_from first (take i rows)) (first + length (take i rows), r) ∙ ap entries_of (sym (enumerate_more first (take i rows) r)) ∙ ap (λ xs. entries_of (enumerate_from first xs)) (sym more)

pub kept_step : (first i : ℕ) (rows : List Row) (d r : Row) (number : ℕ) → i < length rows → r ≡ get_or rows i d → number ≡ first + i → number < 2 ^ 63 → IsCodeOf (row_code r) r
    → AreKept (enumerate_from first (take i rows)) → AreKept (enumerate_from first (take (i + 1) rows))
kept_step first i rows d r number l is n small code h =
    let more : take (i + 1) rows ≡ take i rows ++ r ∷ [] = take_more rows i d l ∙ ap (λ x. take i rows ++ x ∷ []) (sym is) in
    let long : length (take i rows) ≡ i = length-take-le i rows (omega (arith, l)) in
    subst (λ xs. AreKept (enumerate_from first xs)) (sym more) (subst AreKept (sym (enumerate_more first (take i rows) r))
    (each_append IsKept (enumerate_from first (take i rows)) ((first + length (take i rows), r) ∷ []) h (record { number = omega (arith, small, n, long); storable = code.storable; short = code.short }, tt)))

pub all_small : (rows : List stored.Entry) → AreKept rows → AllByRecursion IsSmall (entries_of rows)
all_small [] h = tt
all_small (e ∷ rows) h = (let long = length_be 8 e.0 in record { key = omega (arith, long); cell = omega (arith, long, h.0.short) }, all_small rows h.1)

-- ---- all of them put behind those that are held

put_rows : (new : List Row) (rows : List stored.Entry) → AreKept rows → AreKept (enumerate_from (stored.next_number rows) new)
    → put_all (entries_of (enumerate_from (stored.next_number rows) new)) (entries_of rows) ≡ entries_of (rows ++ enumerate_from (stored.next_number rows) new)
put_rows [] rows k h = ap entries_of (sym (append-nil rows))
put_rows (r ∷ new) rows k h =
    let m : ℕ = stored.next_number rows in
    let last : stored.next_number (rows ++ (m, r) ∷ []) ≡ m + 1 = next_more rows m r refl in
    let one = put_last rows m r (omega (arith, h.0.number)) k refl in
    let kept : AreKept (rows ++ (m, r) ∷ []) = each_append IsKept rows ((m, r) ∷ []) k (h.0, tt) in
    let rest = put_rows new (rows ++ (m, r) ∷ []) kept (subst (λ n. AreKept (enumerate_from n new)) (sym last) h.1) in
    ap (put_all (entries_of (enumerate_from (m + 1) new))) one
    ∙ subst (λ n. put_all (entries_of (enumerate_from n new)) (entries_of (rows ++ (m, r) ∷ [])) ≡ entries_of ((rows ++ (m, r) ∷ []) ++ enumerate_from n new)) last rest
    ∙ ap entries_of (append_assoc rows ((m, r) ∷ []) (enumerate_from (m + 1) new))

-- so the tree has them behind those that it had
pub rows_appended : (old mid new : PageMap) (root now first : ℕ) (new_rows : List Row) (more : List Entry) → mid ≡ old → more ≡ entries_of (enumerate_from first new_rows) → AreKept (enumerate_from first new_rows)
    → ((owned : List ℕ) (entries : List Entry) → IsTree mid root owned entries → IsWritten mid new owned (put_all more entries) now)
    → (owned : List ℕ) (held : List stored.Entry) → first ≡ stored.next_number held → HoldsRows old root owned held → RowsWritten old new owned (held ++ enumerate_from (stored.next_number held) new_rows) now
rows_appended old mid new root now first new_rows more same e kept f owned held n h =
    let behind : AreKept (enumerate_from (stored.next_number held) new_rows) = subst (λ m. AreKept (enumerate_from m new_rows)) n kept in
    let w : IsWritten old new owned (put_all more (entries_of held)) now =
    subst (λ m. IsWritten m new owned (put_all more (entries_of held)) now) same (f owned (entries_of held) (subst (λ m. IsTree m root owned (entries_of held)) (sym same) h.tree)) in
    let all : put_all more (entries_of held) ≡ entries_of (held ++ enumerate_from (stored.next_number held) new_rows) =
    ap (λ es. put_all es (entries_of held)) (e ∙ ap (λ m. entries_of (enumerate_from m new_rows)) n) ∙ put_rows new_rows held h.kept behind in
    record {
      now_owned = w.now_owned;
      holds = record {
        tree = subst (IsTree new now w.now_owned) all w.stored;
        kept = each_append IsKept held (enumerate_from (stored.next_number held) new_rows) h.kept behind;
      };
      own = w.own;
      others = w.others;
    }
