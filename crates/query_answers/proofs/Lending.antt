-- Tables that are lent one after another, each with the rows under its name.
use Rattle.std.proofs.Common.{◌≡◌, refl, sym, ap, subst, ◌∙◌, ℕ, Bool, true, false, ◌||◌, cond, if◌then◌else◌, suc, min, ◌^◌, ◌-◌, List, [], ◌∷◌, ◌++◌, length, take, get_or, filter, not, ◌+◌, ◌<◌, ◌≤◌, Option, Some, None, inl, inr, ◌⊎◌, Contains, arith}
use Rattle.std.specs.FinMap.{get}
use Rattle.std.specs.List.{list_any}
use Rattle.std.specs.Option.{option_map}
use Rattle.std.specs.Cmp.Lexicographic.{bytes_decides}
use Rattle.std.proofs.lemmas.List.Elements.{Contains-push_cases}
use Rattle.std.proofs.lemmas.List.Sums.{sum_by-append}
use Rattle.std.proofs.Math.Nat.{min-le_left}
use Rattle.std.proofs.Math.Numerals.{add-one}
use Rattle.std.proofs.Math.Seq.{take-suc}
use Rattle.sqlval.specs.Schema.{same_name}
use Rattle.sqlval.specs.Value.{Row}
use Rattle.denote.specs.Database.{rows_of as rows_of_table}
use Rattle.denote.specs.Meaning.{Tables}
use Rattle.store.specs.View.{counted_on}
use Rattle.store.specs.Contents.{Contents, StoredTable, table_of, rows_of}
use Rattle.store.specs.Indexes.{entries_of}
use Rattle.store.proofs.Databases.{database-get}
use Rattle.tree_tables.specs.TablesRead.{Agree}
use Rattle.query_answers.specs.declared.lent.LentTable.{LentTable}
use Rattle.query_answers.specs.Answered.{rows_found}
use Rattle.query_answers.specs.Lent.{rows_lent, is_lent, IsLending, once, rows_under, newly_read}

-- what a scan finds are the rows under the name
pub scanned : (c : Contents) (name : List ℕ) (rows : List Row) → rows ≡ rows_of (entries_of (get c name)) → rows ≡ rows_found c name
scanned c name rows e = e ∙ by (get c name) ∙ sym (ap rows_of_table (database-get c name))
  where
    by : (o : Option StoredTable) → rows_of (entries_of o) ≡ rows_of_table (option_map table_of o)
    by None = refl
    by (Some t) = refl

-- ---- one more table

lent_before : (tables : List LentTable) (t : LentTable) (name : List ℕ) → is_lent tables name ≡ true → rows_lent (tables ++ t ∷ []) name ≡ rows_lent tables name
lent_before [] t name h = absurd (cc h)
lent_before (x ∷ xs) t name h = by (same_name x.name name) (lent_before xs t name) h
  where
    by : (b : Bool) → (is_lent xs name ≡ true → rows_lent (xs ++ t ∷ []) name ≡ rows_lent xs name) → (b || is_lent xs name) ≡ true
        → cond b x.rows (rows_lent (xs ++ t ∷ []) name) ≡ cond b x.rows (rows_lent xs name)
    by true later h = refl
    by false later h = later h

lent_last : (tables : List LentTable) (t : LentTable) (name : List ℕ) → is_lent tables name ≡ false → same_name t.name name ≡ true → rows_lent (tables ++ t ∷ []) name ≡ t.rows
lent_last [] t name h same = ap (λ b. cond b t.rows []) same
lent_last (x ∷ xs) t name h same = by (same_name x.name name) (λ g. lent_last xs t name g same) h
  where
    by : (b : Bool) → (is_lent xs name ≡ false → rows_lent (xs ++ t ∷ []) name ≡ t.rows) → (b || is_lent xs name) ≡ false → cond b x.rows (rows_lent (xs ++ t ∷ []) name) ≡ t.rows
    by true later h = absurd (cc h)
    by false later h = later h

one_more : (tables : List LentTable) (t : LentTable) (name : List ℕ) → is_lent (tables ++ t ∷ []) name ≡ (is_lent tables name || same_name t.name name)
one_more [] t name = or_false (same_name t.name name)
  where
    or_false : (b : Bool) → (b || false) ≡ b
    or_false true = refl
    or_false false = refl
one_more (x ∷ xs) t name = by (same_name x.name name) (one_more xs t name)
  where
    by : (b : Bool) → is_lent (xs ++ t ∷ []) name ≡ (is_lent xs name || same_name t.name name) → (b || is_lent (xs ++ t ∷ []) name) ≡ ((b || is_lent xs name) || same_name t.name name)
    by true later = refl
    by false later = later

itself : (name : List ℕ) → same_name name name ≡ true
itself name = (bytes_decides name name).1 refl

-- ---- the tables of some names

pub nothing_lent : (rows : Tables) → IsLending [] rows []
nothing_lent rows = record { right = λ name h. absurd (cc h); all = λ name among. none name among }
  where
    none : (name : List ℕ) → Contains [] name → is_lent [] name ≡ true
    none name among = absurd (omega (arith, among.1))

-- a name that is there already
pub lent_already : (tables : List LentTable) (rows : Tables) (names : List (List ℕ)) (name : List ℕ) → IsLending tables rows names → is_lent tables name ≡ true → IsLending tables rows (names ++ name ∷ [])
lent_already tables rows names name h there = record { right = h.right; all = λ other among. by other (Contains-push_cases names name other among) }
  where
    by : (other : List ℕ) → Contains names other ⊎ (name ≡ other) → is_lent tables other ≡ true
    by other (inl before) = h.all other before
    by other (inr same) = ap (is_lent tables) (sym same) ∙ there

-- a name that is read
pub lent_newly : (tables : List LentTable) (rows : Tables) (names : List (List ℕ)) (name : List ℕ) (t : LentTable) → IsLending tables rows names → is_lent tables name ≡ false
    → t.name ≡ name → t.rows ≡ rows name → IsLending (tables ++ t ∷ []) rows (names ++ name ∷ [])
lent_newly tables rows names name t h absent named found =
    record { right = λ other there. by other (is_lent tables other) refl (sym (one_more tables t other) ∙ there); all = λ other among. has other (Contains-push_cases names name other among) }
  where
    own : (other : List ℕ) → same_name t.name other ≡ true → t.rows ≡ rows other
    own other same = found ∙ ap rows (sym named ∙ (bytes_decides t.name other).0 same)

    by : (other : List ℕ) (b : Bool) → is_lent tables other ≡ b → (is_lent tables other || same_name t.name other) ≡ true → rows_lent (tables ++ t ∷ []) other ≡ rows other
    by other true is there = lent_before tables t other is ∙ h.right other is
    by other false is there =
        let same : same_name t.name other ≡ true = subst (λ b. (b || same_name t.name other) ≡ true) is there in
        lent_last tables t other is same ∙ own other same

    or_true : (b : Bool) → (b || true) ≡ true
    or_true true = refl
    or_true false = refl

    has : (other : List ℕ) → Contains names other ⊎ (name ≡ other) → is_lent (tables ++ t ∷ []) other ≡ true
    has other (inl before) = one_more tables t other ∙ ap (λ b. b || same_name t.name other) (h.all other before)
    has other (inr same) =
        let there : same_name t.name other ≡ true = ap (λ n. same_name n other) (named ∙ same) ∙ itself other in
        one_more tables t other ∙ ap (λ b. is_lent tables other || b) there ∙ or_true (is_lent tables other)

pub all_lent : (tables : List LentTable) (rows : Tables) (names : List (List ℕ)) → IsLending tables rows names → Agree (rows_lent tables) rows names
all_lent tables rows names h = λ name among. h.right name (h.all name among)

-- ---- how many rows are read

-- a scan counts no more than the rows that it gives
pub counted : (before now : ℕ) (rows found : List Row) → now ≡ counted_on before (length rows) → rows ≡ found → now ≤ before + length found
counted before now rows found is same = rw (is, same) (min_first (before + length found) (2 ^ 64 - 1))
  where
    min_first : (a b : ℕ) → min a b ≤ a
    min_first a b = min-le_left a b

-- one more name: it is one of each alike already, or it comes last
once_more : (names : List (List ℕ)) (name : List ℕ) → once (names ++ name ∷ []) ≡ (if list_any (λ n. same_name n name) names then once names else once names ++ name ∷ [])
once_more [] name = refl
once_more (n ∷ names) name =
    ap (λ (ns : List (List ℕ)). n ∷ filter (λ m. not (same_name n m)) ns) (once_more names name) ∙ by (same_name n name) (list_any (λ m. same_name m name) names) refl
  where
    kept : (b : Bool) → same_name n name ≡ b → (ns : List (List ℕ)) → filter (λ m. not (same_name n m)) (ns ++ name ∷ []) ≡ (if b then filter (λ m. not (same_name n m)) ns else filter (λ m. not (same_name n m)) ns ++ name ∷ [])
    kept true is [] = rw is refl
    kept false is [] = rw is refl
    kept b is (x ∷ ns) = step (not (same_name n x)) b (kept b is ns)
      where
        step : (k b : Bool) → filter (λ m. not (same_name n m)) (ns ++ name ∷ []) ≡ (if b then filter (λ m. not (same_name n m)) ns else filter (λ m. not (same_name n m)) ns ++ name ∷ [])
            → (if k then x ∷ filter (λ m. not (same_name n m)) (ns ++ name ∷ []) else filter (λ m. not (same_name n m)) (ns ++ name ∷ []))
            ≡ (if b then (if k then x ∷ filter (λ m. not (same_name n m)) ns else filter (λ m. not (same_name n m)) ns) else (if k then x ∷ filter (λ m. not (same_name n m)) ns else filter (λ m. not (same_name n m)) ns) ++ name ∷ [])
        step true true e = ap (λ zs. x ∷ zs) e
        step true false e = ap (λ zs. x ∷ zs) e
        step false true e = e
        step false false e = e

    by : (a b : Bool) → same_name n name ≡ a
        → n ∷ filter (λ m. not (same_name n m)) (if b then once names else once names ++ name ∷ [])
        ≡ (if a || b then n ∷ filter (λ m. not (same_name n m)) (once names) else (n ∷ filter (λ m. not (same_name n m)) (once names)) ++ name ∷ [])
    by true true is = refl
    by false true is = refl
    by true false is = ap (λ zs. n ∷ zs) (kept true is (once names))
    by false false is = ap (λ zs. n ∷ zs) (kept false is (once names))

-- a name that is alike to one of these is one of these
among_them : (names : List (List ℕ)) (name : List ℕ) → list_any (λ n. same_name n name) names ≡ true → Contains names name
among_them [] name h = absurd (cc h)
among_them (n ∷ names) name h = by (same_name n name) refl (λ there. among_them names name there) h
  where
    first_of : (x : List ℕ) (xs : List (List ℕ)) → Contains (x ∷ xs) x
    first_of x xs = (0, omega arith, refl)

    later_of : (x : List ℕ) (xs : List (List ℕ)) (y : List ℕ) → Contains xs y → Contains (x ∷ xs) y
    later_of x xs y h = (suc h.0, omega (arith, h.1), h.2)

    by : (b : Bool) → same_name n name ≡ b → (list_any (λ m. same_name m name) names ≡ true → Contains names name) → (b || list_any (λ m. same_name m name) names) ≡ true
        → Contains (n ∷ names) name
    by true is later there = subst (Contains (n ∷ names)) ((bytes_decides n name).0 is) (first_of n names)
    by false is later there = later_of n names name (later there)

-- what is read of one more name
pub read_more : (tables : List LentTable) (rows : Tables) (names : List (List ℕ)) (name : List ℕ) → IsLending tables rows names → (from before now : ℕ) → before ≤ from + rows_under rows names
    → now ≤ before + newly_read tables rows name → now ≤ from + rows_under rows (names ++ name ∷ [])
read_more tables rows names name h from before now some more = by (list_any (λ n. same_name n name) names) refl (is_lent tables name) refl
  where
    by : (b : Bool) → list_any (λ n. same_name n name) names ≡ b → (l : Bool) → is_lent tables name ≡ l → now ≤ from + rows_under rows (names ++ name ∷ [])
    by true among true lent = rw (once_more names name, among) (omega (arith, some, rw lent at more))
    by true among false lent = absurd (cc (sym lent ∙ h.all name (among_them names name among)))
    by false among true lent = rw (once_more names name, among, sum_by-append (λ n. length (rows n)) (once names) (name ∷ [])) (omega (arith, some, rw lent at more))
    by false among false lent = rw (once_more names name, among, sum_by-append (λ n. length (rows n)) (once names) (name ∷ [])) (omega (arith, some, rw lent at more))

pub read_already : (tables : List LentTable) (rows : Tables) (name : List ℕ) (before : ℕ) → before ≤ before + newly_read tables rows name
read_already tables rows name before = omega arith

pub read_newly : (tables : List LentTable) (rows : Tables) (name : List ℕ) (before now : ℕ) → is_lent tables name ≡ false → now ≤ before + length (rows name) → now ≤ before + newly_read tables rows name
read_newly tables rows name before now lent more = rw lent more

-- ---- one turn of the loop over the names; the reading's tables are those from which it began

next_names : (names : List (List ℕ)) (at : ℕ) (name : List ℕ) → at < length names → name ≡ get_or names at name → take at names ++ name ∷ [] ≡ take (at + 1) names
next_names names at name below is = rw (add-one, take-suc names at name, ← is) refl

pub lent_next : (c d : Contents) (tables new : List LentTable) (names : List (List ℕ)) (at : ℕ) (name : List ℕ) → d ≡ c → at < length names → name ≡ get_or names at name
    → ((before : List (List ℕ)) → IsLending tables (rows_found d) before → IsLending new (rows_found d) (before ++ name ∷ []))
    → IsLending tables (rows_found c) (take at names) → IsLending new (rows_found c) (take (at + 1) names)
lent_next c d tables new names at name same below is more h =
    let there : IsLending tables (rows_found d) (take at names) = subst (λ x. IsLending tables (rows_found x) (take at names)) (sym same) h in
    let all : IsLending new (rows_found d) (take (at + 1) names) = subst (IsLending new (rows_found d)) (next_names names at name below is) (more (take at names) there) in
    subst (λ x. IsLending new (rows_found x) (take (at + 1) names)) same all

pub read_next : (c d : Contents) (tables : List LentTable) (names : List (List ℕ)) (at : ℕ) (name : List ℕ) → d ≡ c → at < length names → name ≡ get_or names at name
    → IsLending tables (rows_found c) (take at names) → (from before now : ℕ) → before ≤ from + rows_under (rows_found c) (take at names)
    → now ≤ before + newly_read tables (rows_found d) name → now ≤ from + rows_under (rows_found c) (take (at + 1) names)
read_next c d tables names at name same below is h from before now some more =
    let read : now ≤ before + newly_read tables (rows_found c) name = subst (λ x. now ≤ before + newly_read tables (rows_found x) name) same more in
    subst (λ ns. now ≤ from + rows_under (rows_found c) ns) (next_names names at name below is) (read_more tables (rows_found c) (take at names) name h from before now some read)
