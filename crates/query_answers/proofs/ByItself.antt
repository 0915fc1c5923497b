-- What plans list and read that read their tables themselves.
use Rattle.std.proofs.Common.{if◌then◌else◌, filter, ◌≡◌, refl, sym, ap, subst, ◌∙◌, ℕ, zero, suc, Bool, true, false, ◌||◌, ◌&&◌, not, List, [], ◌∷◌, length, ◌+◌, ◌≤◌, Contains, arith, Result, Ok, Err, IfOk}
use Rattle.std.specs.FinMap.{get}
use Rattle.std.specs.List.{list_any, sum_by}
use Rattle.std.specs.Cmp.Lexicographic.{bytes_decides}
use Rattle.std.proofs.lemmas.List.Sums.{sum_by-cons}
use Rattle.sqlval.specs.Schema.{same_name}
use Rattle.algebra.specs.declared.tree.StoredTable.{StoredTable}
use Rattle.algebra.specs.declared.tree.Tree.{Tree}
use Rattle.algebra.specs.Listing.{tree_listing}
use Rattle.denote.specs.Meaning.{Tables}
use Rattle.store.specs.Contents.{Entry, rows_of}
use Rattle.store.specs.Indexes.{entries_of}
use Rattle.store.specs.View.{Shown}
use Rattle.places.specs.Indexes.{HasIndexes}
use Rattle.places.specs.Left.{entries_in, rows_by}
use Rattle.streams.specs.Parts.{CanRun, names_in_parts}
use Rattle.streams.specs.Reads.{to_begin}
use Rattle.tree_tables.specs.TablesRead.{Names, tables_in_tree}
use Rattle.query_answers.specs.Answered.{rows_found}
use Rattle.query_answers.specs.Itself.{ReadsItself, are_distinct}
use Rattle.query_answers.specs.Lent.{once, rows_under}
use Rattle.query_answers.proofs.Lending.{scanned}

-- ---- it can be run

pub runs : (plan : Tree) (shown : Shown) → ReadsItself plan → CanRun (λ _. []) shown plan
runs plan shown goes = record {
  lent = λ name among. absurd (none name (subst (λ (names : Names). Contains names name) goes.parts among));
  indexed = λ table among. absurd (nothing table (subst (λ (tables : List StoredTable). Contains tables table) goes.scans.unsought among));
}
  where
    none : (name : List ℕ) → Contains [] name → ⊥
    none name h = absurd (omega (arith, h.1))

    nothing : (table : StoredTable) → Contains [] table → ⊥
    nothing table h = absurd (omega (arith, h.1))

same_rows : (shown : Shown) → rows_by (entries_in shown) ≡ rows_found shown.contents
same_rows shown = λ i name. scanned shown.contents name (rows_of (entries_of (get shown.contents name))) refl i

pub lists_plan : (shown : Shown) (plan : Tree)
    → tree_listing (rows_by (entries_in shown)) plan [] ≡ tree_listing (rows_found shown.contents) plan []
lists_plan shown plan = ap (λ tables. tree_listing tables plan []) (same_rows shown)

-- ---- what it reads

-- a list of names without one of them
taken_out : (f : List ℕ → ℕ) (names : Names) (name : List ℕ) → Contains names name
    → (others : Names) × ((sum_by f names ≡ f name + sum_by f others)
    × ((other : List ℕ) → Contains names other → (same_name other name ≡ false) → Contains others other))
taken_out f [] name h = absurd (omega (arith, h.1))
taken_out f (x ∷ xs) name (zero, below, is) = (xs, (sum_by-cons f x xs ∙ ap (λ n. f n + sum_by f xs) is, kept))
  where
    kept : (other : List ℕ) → Contains (x ∷ xs) other → same_name other name ≡ false → Contains xs other
    kept other (zero, b, e) differs = absurd (cc (sym differs ∙ (bytes_decides other name).1 (sym e ∙ is)))
    kept other (suc k, b, e) differs = (k, omega (arith, b), e)
taken_out f (x ∷ xs) name (suc k, below, is) =
    let rest = taken_out f xs name (k, omega (arith, below), is) in
    (x ∷ rest.0, (sum_by-cons f x xs ∙ omega (arith, rest.1.0, sum_by-cons f x rest.0), kept rest.0 rest.1.1))
  where
    kept : (others : Names) → ((other : List ℕ) → Contains xs other → same_name other name ≡ false → Contains others other)
        → (other : List ℕ) → Contains (x ∷ xs) other → same_name other name ≡ false → Contains (x ∷ others) other
    kept others more other (zero, b, e) differs = (zero, omega arith, e)
    kept others more other (suc n, b, e) differs = let there = more other (n, omega (arith, b), e) differs in (suc there.0, omega (arith, there.1), there.2)

second : (a b : Bool) → (a && b) ≡ true → b ≡ true
second true b h = h
second false b h = absurd (cc)

first : (a b : Bool) → (not a && b) ≡ true → a ≡ false
first true b h = absurd (cc)
first false b h = refl

-- none of these names is this one
none_alike : (name : List ℕ) (names : Names) → list_any (λ other. same_name other name) names ≡ false
    → (other : List ℕ) → Contains names other → same_name other name ≡ false
none_alike name [] h other among = absurd (omega (arith, among.1))
none_alike name (x ∷ xs) h other (zero, below, is) = ap (λ n. same_name n name) (sym is) ∙ left_false (same_name x name) _ h
  where
    left_false : (a b : Bool) → (a || b) ≡ false → a ≡ false
    left_false true b e = absurd (cc)
    left_false false b e = refl
none_alike name (x ∷ xs) h other (suc k, below, is) = none_alike name xs (right_false (same_name x name) _ h) other (k, omega (arith, below), is)
  where
    right_false : (a b : Bool) → (a || b) ≡ false → b ≡ false
    right_false true b e = absurd (cc)
    right_false false b e = e

fewer : (f : List ℕ → ℕ) (names others : Names) → are_distinct names ≡ true
    → ((name : List ℕ) → Contains names name → Contains others name)
    → sum_by f names ≤ sum_by f others
fewer f [] others d among = omega arith
fewer f (x ∷ xs) others d among =
    let out = taken_out f others x (among x (zero, omega arith, refl)) in
    let alone = none_alike x xs (first (list_any (λ other. same_name other x) xs) (are_distinct xs) d) in
    let rest = fewer f xs out.0 (second (not (list_any (λ other. same_name other x) xs)) (are_distinct xs) d)
    (λ name h. out.1.1 name (among name (suc h.0, omega (arith, h.1), h.2)) (alone name h)) in
    omega (arith, rest, out.1.0, sum_by-cons f x xs)

-- each name is among those of which one of each is kept
kept_once : (names : Names) (name : List ℕ) → Contains names name → Contains (once names) name
kept_once [] name h = absurd (omega (arith, h.1))
kept_once (x ∷ xs) name (zero, below, is) = (zero, omega arith, is)
kept_once (x ∷ xs) name (suc k, below, is) = go (same_name x name) refl (kept_once xs name (k, omega (arith, below), is))
  where
    kept : (ns : Names) → Contains ns name → same_name x name ≡ false → Contains (filter (λ y. not (same_name x y)) ns) name
    kept [] h e = absurd (omega (arith, h.1))
    kept (n ∷ ns) (zero, b, i) e = rw (ap (same_name x) i ∙ e) (zero, omega arith, i)
    kept (n ∷ ns) (suc m, b, i) e = by (not (same_name x n)) (kept ns (m, omega (arith, b), i) e)
      where
        by : (t : Bool) → Contains (filter (λ y. not (same_name x y)) ns) name
            → Contains (if t then n ∷ filter (λ y. not (same_name x y)) ns else filter (λ y. not (same_name x y)) ns) name
        by true h = (suc h.0, omega (arith, h.1), h.2)
        by false h = h

    go : (b : Bool) → same_name x name ≡ b → Contains (once xs) name → Contains (x ∷ filter (λ y. not (same_name x y)) (once xs)) name
    go true e h = (zero, omega arith, (bytes_decides x name).0 e)
    go false e h = let there = kept (once xs) h e in (suc there.0, omega (arith, there.1), there.2)

-- a plan that scans each of its tables once reads no more rows than they have
reads_plan : (shown : Shown) (plan : Tree) (goes : ReadsItself plan) (was count : ℕ)
    → count ≤ was + to_begin (entries_in shown) plan
    → count ≤ was + rows_under (rows_found shown.contents) (tables_in_tree plan)
reads_plan shown plan goes was count le =
    let f : List ℕ → ℕ = λ name. length (entries_in shown name) in
    let begins = goes.scans.counts (entries_in shown) in
    let some = fewer f goes.names (once (tables_in_tree plan)) goes.distinct
    (λ name among. kept_once (tables_in_tree plan) name (goes.scans.named name among)) in
    let same : sum_by f (once (tables_in_tree plan)) ≡ rows_under (rows_found shown.contents) (tables_in_tree plan) =
    ap (λ (g : List ℕ → ℕ). sum_by g (once (tables_in_tree plan))) counts in
    omega (arith, le, begins, some, same)
  where
    map_length : (es : List Entry) → length es ≡ length (rows_of es)
    map_length [] = refl
    map_length (e ∷ es) = ap (λ n. suc n) (map_length es)

    counts : ◌≡◌ {A = List ℕ → ℕ} (λ name. length (entries_in shown name)) (λ name. length (rows_found shown.contents name))
    counts = λ i name. (map_length (entries_in shown name) ∙ ap (λ (t : Tables). length (t name)) (same_rows shown)) i

pub fewer_read : {A E : Type 0} (shown : Shown) (plan : Tree) (goes : ReadsItself plan) (was count : ℕ) (result : Result A E)
    → IfOk result (λ _. count ≤ was + to_begin (entries_in shown) plan)
    → IfOk result (λ _. count ≤ was + rows_under (rows_found shown.contents) (tables_in_tree plan))
fewer_read shown plan goes was count (Ok listed) le = reads_plan shown plan goes was count le
fewer_read shown plan goes was count (Err error) le = tt

-- a plan of which no subquery names a table, and whose indexes are those of the tables
pub can-run : (plan : Tree) (shown : Shown) → names_in_parts plan ≡ [] → HasIndexes shown.contents plan
    → CanRun (λ _. []) shown plan
can-run plan shown parts indexed = record {
  lent = λ name among. absurd (none name (subst (λ (names : Names). Contains names name) parts among));
  indexed = indexed;
}
  where
    none : (name : List ℕ) → Contains [] name → ⊥
    none name h = absurd (omega (arith, h.1))
