-- How many rows are read by a plan over a look-up, and by one over a join.
use Rattle.std.proofs.Common.{◌≡◌, ◌≤◌, ◌+◌, refl, sym, ap, ◌∙◌, subst, ℕ, Bool, true, false, List, [], ◌∷◌, Option, Some, None, length, arith, ◌⊎◌, inl, inr}
use Rattle.std.specs.Prelude.{Contains, filter, if◌then◌else◌}
use Rattle.std.specs.Cmp.Lexicographic.{bytes_decides}
use Rattle.std.specs.List.{position_from}
use Rattle.std.specs.Ordering.{is_gt}
use Rattle.std.specs.declared.cmp.Ordering.{Ordering}
use Rattle.std.proofs.lemmas.List.Sums.{count_by-le-length, length-filter}
use Rattle.sqlval.specs.declared.value.Value.{Value}
use Rattle.sqlval.specs.Matching.{matches}
use Rattle.algebra.specs.Bounds.{is_within}
use Rattle.algebra.specs.declared.tree.Bound.{Bound}
use Rattle.algebra.specs.declared.tree.Condition.{Condition}
use Rattle.algebra.specs.declared.tree.StoredTable.{StoredTable}
use Rattle.algebra.specs.declared.tree.Tree.{Tree}
use Rattle.algebra.specs.declared.tree.Tree.TheVariants as t
use Rattle.places.specs.Indexes.{index_place, same_columns}
use Rattle.places.specs.Left.{Entries}
use Rattle.plan_laws.specs.Matches.{ReadsMatches}
use Rattle.plan_listings.proofs.LoopNodes.{looped_distinct, looped_filter, looped_group, looped_loop, looped_project, looped_seek, looped_sort}
use Rattle.plan_listings.specs.Loops.{loops_by_no_index}
use Rattle.planner.specs.Joins.{ByKeys, JoinsByKeys, OneTable, hashed, looped, ranged, scanned, sifted, sought}
use Rattle.planner.specs.Looks.{LooksUp, Over, alone, distinct, filter as over_filter, group, project, sort}
use Rattle.rewrite_laws.proofs.CertainCases.{cons-cases}
use Rattle.rewrite_laws.proofs.Conditions.{none-there}
use Rattle.rules.specs.JoinKeys.{left_places, right_places}
use Rattle.store.specs.Contents.{Entry}
use Rattle.store.specs.Indexes.{by_columns}
use Rattle.store.specs.Sorted.{put_by, sorted_by}
use Rattle.streams.proofs.ReadNodes.{begin_distinct, begin_filter, begin_group, begin_hash, begin_project, begin_range, begin_scan, begin_seek, begin_sort}
use Rattle.streams.specs.Reads.{entries_ranged, entries_sought, to_begin}

-- ---- nodes of one child read nothing themselves

pub over-counts : (entries : Entries) (base plan : Tree) → Over base plan → to_begin entries plan ≡ to_begin entries base
over-counts entries base plan alone = refl
over-counts entries base plan (over_filter condition rows bare over) =
    begin_filter entries condition rows ∙ over-counts entries base rows over
over-counts entries base plan (group columns functions rows bare over) =
    begin_group entries columns functions rows ∙ over-counts entries base rows over
over-counts entries base plan (project items rows bare over) =
    begin_project entries items rows ∙ over-counts entries base rows over
over-counts entries base plan (distinct rows over) = begin_distinct entries rows ∙ over-counts entries base rows over
over-counts entries base plan (sort keys rows over) = begin_sort entries keys rows ∙ over-counts entries base rows over

pub over-loops : (base plan : Tree) → Over base plan → loops_by_no_index plan ≡ loops_by_no_index base
over-loops base plan alone = refl
over-loops base plan (over_filter condition rows bare over) = looped_filter condition rows ∙ over-loops base rows over
over-loops base plan (group columns functions rows bare over) = looped_group columns functions rows ∙ over-loops base rows over
over-loops base plan (project items rows bare over) = looped_project items rows ∙ over-loops base rows over
over-loops base plan (distinct rows over) = looped_distinct rows ∙ over-loops base rows over
over-loops base plan (sort keys rows over) = looped_sort keys rows ∙ over-loops base rows over

-- ---- the index is found by its columns

place-from : (indexes : List (List ℕ)) (columns : List ℕ) (at : ℕ) → Contains indexes columns
    → (place : ℕ) × (position_from (λ index. same_columns index columns) at indexes ≡ Some place)
place-from [] columns at h = absurd (none-there columns h)
place-from (index ∷ indexes) columns at h =
    go (same_columns index columns) refl (cons-cases index indexes columns h) (λ k. place-from indexes columns (at + 1) k)
  where
    go : (b : Bool) → same_columns index columns ≡ b → (index ≡ columns) ⊎ Contains indexes columns
        → (Contains indexes columns → (place : ℕ)
        × (position_from (λ other. same_columns other columns) (at + 1) indexes ≡ Some place))
        → (place : ℕ)
        × ((if b then Some at else position_from (λ other. same_columns other columns) (at + 1) indexes) ≡ Some place)
    go true same h next = (at, refl)
    go false same (inl e) next =
        let yes : same_columns index columns ≡ true = (bytes_decides index columns).1 e in absurd (cc (sym same ∙ yes))
    go false same (inr k) next = next k

pub matches-read : (condition : Condition) (table : StoredTable) (plan : Tree) (looks : LooksUp condition table plan)
    → ReadsMatches table looks.columns looks.key plan
matches-read condition table plan looks =
    let seek = t.Seek table looks.columns looks.key in
    let found = place-from table.indexes looks.columns 0 looks.index in
    record {
      once = over-loops seek plan looks.over ∙ looped_seek table looks.columns looks.key;
      counts = λ entries. over-counts entries seek plan looks.over ∙ begin_seek entries table looks.columns looks.key
          ∙ ap (λ (place : Option ℕ). length (entries_sought place looks.columns looks.key (entries table.name))) found.1;
    }

-- ---- one table under plain filters

fewer : (test : Entry → Bool) (found : List Entry) → length (filter test found) ≤ length found
fewer test found = omega (arith, length-filter test found, count_by-le-length test found)

sought-fewer : (place : Option ℕ) (columns : List ℕ) (key : List Value) (found : List Entry)
    → length (entries_sought place columns key found) ≤ length found
sought-fewer None columns key found = omega arith
sought-fewer (Some index) columns key found = fewer (λ (e : Entry). matches columns key e.1) found

put-length : (order : Entry → Entry → Ordering) (x : Entry) (ys : List Entry) → length (put_by order x ys) ≡ length (x ∷ ys)
put-length order x [] = refl
put-length order x (y ∷ ys) = go (is_gt (order x y)) (put-length order x ys)
  where
    go : (b : Bool) → length (put_by order x ys) ≡ length (x ∷ ys)
        → length (if b then y ∷ put_by order x ys else x ∷ y ∷ ys) ≡ length (x ∷ y ∷ ys)
    go true e = omega (arith, e)
    go false e = refl

sorted-length : (order : Entry → Entry → Ordering) (found : List Entry) → length (sorted_by order found) ≡ length found
sorted-length order [] = refl
sorted-length order (x ∷ found) = put-length order x (sorted_by order found) ∙ omega (arith, sorted-length order found)

ranged-fewer : (place : Option ℕ) (columns : List ℕ) (low high : Option Bound) (found : List Entry)
    → length (entries_ranged place columns low high found) ≤ length found
ranged-fewer None columns low high found = omega arith
ranged-fewer (Some index) columns low high found =
    let within = filter (λ (e : Entry). is_within columns low high e.1) found in
    omega (arith, sorted-length (by_columns columns) within, fewer (λ (e : Entry). is_within columns low high e.1) found)

table-read : (entries : Entries) (table : StoredTable) (tree : Tree) → OneTable table tree
    → to_begin entries tree ≤ length (entries table.name)
table-read entries table tree scanned = omega (arith, begin_scan entries table)
table-read entries table tree (sought columns key) =
    omega (arith, begin_seek entries table columns key, sought-fewer (index_place table columns) columns key (entries table.name))
table-read entries table tree (ranged columns low high) = omega (
  arith,
  begin_range entries table columns low high,
  ranged-fewer (index_place table columns) columns low high (entries table.name),
)
table-read entries table tree (sifted condition rows plain below) =
    omega (arith, begin_filter entries condition rows, table-read entries table rows below)

-- ---- both tables

keyed-read : (entries : Entries) (left right : StoredTable) (join : Tree) → ByKeys left right join
    → loops_by_no_index join ≡ true → to_begin entries join ≤ length (entries left.name) + length (entries right.name)
keyed-read entries left right join (hashed on l r pair pairs first second) e =
    omega (
      arith,
      begin_hash entries on l r (left_places (pair ∷ pairs)) (right_places (pair ∷ pairs)),
      table-read entries left l first,
      table-read entries right r second,
    )
keyed-read entries left right join (looped on l places columns first index) e =
    absurd (cc (sym (looped_loop on l places right columns) ∙ e))

pub joins-read : (entries : Entries) (left right : StoredTable) (plan : Tree) → JoinsByKeys left right plan
    → loops_by_no_index plan ≡ true → to_begin entries plan ≤ length (entries left.name) + length (entries right.name)
joins-read entries left right plan joins e = subst (λ (n : ℕ). n ≤ length (entries left.name) + length (entries right.name))
    (sym (over-counts entries joins.join plan joins.over))
    (keyed-read entries left right joins.join joins.keyed (sym (over-loops joins.join plan joins.over) ∙ e))
