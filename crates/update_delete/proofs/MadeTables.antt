-- The database after all changes of the rows of a table.
use Rattle.std.proofs.Common.{◌≡◌, ◌∙◌, refl, sym, ap, ℕ, ◌+◌, ◌≤◌, max, Bool, true, false, cond, not, List, [], ◌∷◌, map, Option, Some, None, arith}
use Rattle.std.specs.Prelude.{filter, if◌then◌else◌, ◌==◌}
use Rattle.std.proofs.lemmas.Bool.{eqb-true}
use Rattle.std.proofs.lemmas.Cmp.{nat_list_cmp_total, tied_itself}
use Rattle.std.specs.Option.{option_map}
use Rattle.std.specs.Ordering.{eq_by_cmp, is_eq}
use Rattle.std.specs.FinMap.{get, insert, get-insert}
use Rattle.sqlval.specs.Comparison.{text_order}
use Rattle.sqlval.specs.Value.{Row}
use Rattle.denote.specs.Database.{Name, Table, Database}
use Rattle.store.specs.Contents.{Entry, StoredTable, Contents, Rises, table_of, database_of, next_number, put_back, changed, with_row, without_row}
use Rattle.store.specs.Errors.{indexes_of}
use Rattle.store.specs.Indexes.{entries_of}
use Rattle.store.proofs.Databases.{same_tables, database-get}
use Rattle.constraints.proofs.Declared.{tied}
use Rattle.constraints.proofs.Held.{held_as, changed-database}
use Rattle.update_delete.specs.declared.change.RowChange.{RowChange}
use Rattle.update_delete.specs.declared.change.RowChange.TheVariants.{Stays, Goes, Becomes}
use Rattle.update_delete.specs.RowChanges.{rows_left}
use Rattle.update_delete.specs.Made.{made_one, all_made}
use Rattle.update_delete.proofs.Entries.{changed_one, changed_all, all_changed, rows-left}

-- a table that is there, put there again
insert_same : (db : Database) (name : Name) (t : Table) → get db name ≡ Some t → db ≡ insert db name t
insert_same db name t there = same_tables db (insert db name t) (λ q. by q (eq_by_cmp text_order q name) refl ∙ sym (get-insert nat_list_cmp_total db name t q))
  where
    by : (q : Name) (b : Bool) → eq_by_cmp text_order q name ≡ b → get db q ≡ cond (eq_by_cmp text_order q name) (Some t) (get db q)
    by q true is = ap (get db) (tied q name is) ∙ there ∙ sym (ap (λ (b : Bool). cond b (Some t) (get db q)) is)
    by q false is = sym (ap (λ (b : Bool). cond b (Some t) (get db q)) is)

insert_twice : (db : Database) (name : Name) (a b : Table) → insert (insert db name a) name b ≡ insert db name b
insert_twice db name a b = same_tables (insert (insert db name a) name b) (insert db name b)
    (λ q. get-insert nat_list_cmp_total (insert db name a) name b q
    ∙ ap (cond (eq_by_cmp text_order q name) (Some b)) (get-insert nat_list_cmp_total db name a q)
    ∙ by (eq_by_cmp text_order q name) (get db q)
    ∙ sym (get-insert nat_list_cmp_total db name b q))
  where
    by : (same : Bool) (o : Option Table) → cond same (Some b) (cond same (Some a) o) ≡ cond same (Some b) o
    by true o = refl
    by false o = refl

-- the table after a change of it
get-changed : (change : StoredTable → StoredTable) (c : Contents) (name : Name) (t : StoredTable) → get c name ≡ Some t → get (changed change c name) name ≡ Some (change t)
get-changed change c name t is =
    ap (λ o. get (put_back c name (option_map change o)) name) is
    ∙ get-insert nat_list_cmp_total c name (change t) name
    ∙ ap (λ b. cond b (Some (change t)) (get c name)) (ap is_eq (tied_itself nat_list_cmp_total name))

get-made : (name : Name) (number : ℕ) (change : RowChange) (c : Contents) (t : StoredTable) → get c name ≡ Some t → get (made_one name number change c) name ≡ Some (changed_one number change t)
get-made name number Stays c t is = is
get-made name number Goes c t is = get-changed (without_row number) c name t is
get-made name number (Becomes row) c t is = get-changed (with_row number row) c name t is

made-database : (name : Name) (number : ℕ) (change : RowChange) (c : Contents) (t : StoredTable) (u : Table) → get c name ≡ Some t
    → insert (database_of (made_one name number change c)) name u ≡ insert (database_of c) name u
made-database name number Stays c t u is = refl
made-database name number Goes c t u is =
    ap (λ (db : Database). insert db name u) (changed-database (without_row number) c name t is) ∙ insert_twice (database_of c) name (table_of (without_row number t)) u
made-database name number (Becomes row) c t u is =
    ap (λ (db : Database). insert db name u) (changed-database (with_row number row) c name t is) ∙ insert_twice (database_of c) name (table_of (with_row number row t)) u

there : (c : Contents) (name : Name) (t : StoredTable) → get c name ≡ Some t → get (database_of c) name ≡ Some (table_of t)
there c name t is = database-get c name ∙ ap (option_map table_of) is

all_made-database : (name : Name) (numbers : List ℕ) (changes : List RowChange) (c : Contents) (t : StoredTable) → get c name ≡ Some t
    → database_of (all_made name numbers changes c) ≡ insert (database_of c) name (table_of (changed_all numbers changes t))
all_made-database name [] changes c t is = insert_same (database_of c) name (table_of t) (there c name t is)
all_made-database name (number ∷ numbers) [] c t is = insert_same (database_of c) name (table_of t) (there c name t is)
all_made-database name (number ∷ numbers) (change ∷ changes) c t is =
    all_made-database name numbers changes (made_one name number change c) (changed_one number change t) (get-made name number change c t is)
    ∙ made-database name number change c t (table_of (changed_all numbers changes (changed_one number change t))) is

-- the table has the rows that are left
pub made-all : (c : Contents) (name : Name) (table : Table) (numbers : List ℕ) (changes : List RowChange) → get (database_of c) name ≡ Some table
    → numbers ≡ map (λ (e : Entry). e.0) (entries_of (get c name)) → ((t : StoredTable) → get c name ≡ Some t → Rises t.entries)
    → database_of (all_made name numbers changes c) ≡ insert (database_of c) name (record table { rows = rows_left table.rows changes })
made-all c name table numbers changes is all rises =
    let held = held_as c name table is in
    let t = held.0 in
    let numbered : numbers ≡ map (λ (e : Entry). e.0) t.entries = all ∙ ap (λ o. map (λ (e : Entry). e.0) (entries_of o)) held.1 in
    let left : table_of (changed_all numbers changes t) ≡ record (table_of t) { rows = rows_left (table_of t).rows changes } =
    ap (λ ns. table_of (changed_all ns changes t)) numbered ∙ ap table_of (all_changed t changes (rises t held.1))
    ∙ ap (λ (rows : List Row). record (table_of t) { rows = rows }) (rows-left t.entries changes) in
    all_made-database name numbers changes c t held.1
    ∙ ap (insert (database_of c) name) (left ∙ ap (λ (u : Table). record u { rows = rows_left u.rows changes }) held.2)

none-made : (name : Name) (number : ℕ) (change : RowChange) (c : Contents) → get c name ≡ None → get (made_one name number change c) name ≡ None
none-made name number Stays c is = is
none-made name number Goes c is = ap (λ o. get (put_back c name (option_map (without_row number) o)) name) is ∙ is
none-made name number (Becomes row) c is = ap (λ o. get (put_back c name (option_map (with_row number row) o)) name) is ∙ is

-- and the indexes that it had
pub same-indexes : (name : Name) (number : ℕ) (change : RowChange) (c : Contents) → indexes_of (get (made_one name number change c) name) ≡ indexes_of (get c name)
same-indexes name number change c = by (get c name) refl
  where
    one : (change : RowChange) (t : StoredTable) → (changed_one number change t).indexes ≡ t.indexes
    one Stays t = refl
    one Goes t = refl
    one (Becomes row) t = refl

    by : (o : Option StoredTable) → get c name ≡ o → indexes_of (get (made_one name number change c) name) ≡ indexes_of (get c name)
    by None is = ap indexes_of (none-made name number change c is) ∙ ap indexes_of (sym is)
    by (Some t) is = ap indexes_of (get-made name number change c t is) ∙ one change t ∙ ap indexes_of (sym is)

-- ---- the number that a next row would get

fewer-numbers : (number : ℕ) (found : List Entry) → next_number (filter (λ (e : Entry). not (e.0 == number)) found) ≤ next_number found
fewer-numbers number [] = omega arith
fewer-numbers number (e ∷ found) = by (not (e.0 == number)) (fewer-numbers number found)
  where
    by : (stays : Bool) → next_number (filter (λ (e : Entry). not (e.0 == number)) found) ≤ next_number found
        → next_number (if stays then e ∷ filter (λ (e : Entry). not (e.0 == number)) found else filter (λ (e : Entry). not (e.0 == number)) found) ≤ max (e.0 + 1) (next_number found)
    by true h = omega (arith, h)
    by false h = omega (arith, h)

same-numbers : (number : ℕ) (row : Row) (found : List Entry) → next_number (map (λ (e : Entry). if e.0 == number then (number, row) else e) found) ≤ next_number found
same-numbers number row [] = omega arith
same-numbers number row (e ∷ found) = by (e.0 == number) refl (same-numbers number row found)
  where
    by : (same : Bool) → (e.0 == number) ≡ same → next_number (map (λ (e : Entry). if e.0 == number then (number, row) else e) found) ≤ next_number found
        → max ((if same then (number, row) else e).0 + 1) (next_number (map (λ (e : Entry). if e.0 == number then (number, row) else e) found)) ≤ max (e.0 + 1) (next_number found)
    by true is h = let one : e.0 ≡ number = eqb-true e.0 number is in omega (arith, one, h)
    by false is h = omega (arith, h)

-- no change of a row makes it greater
pub numbers-below : (name : Name) (number : ℕ) (change : RowChange) (c : Contents) → next_number (entries_of (get (made_one name number change c) name)) ≤ next_number (entries_of (get c name))
numbers-below name number change c = by (get c name) refl
  where
    one : (change : RowChange) (t : StoredTable) → next_number (changed_one number change t).entries ≤ next_number t.entries
    one Stays t = omega arith
    one Goes t = fewer-numbers number t.entries
    one (Becomes row) t = same-numbers number row t.entries

    by : (o : Option StoredTable) → get c name ≡ o → next_number (entries_of (get (made_one name number change c) name)) ≤ next_number (entries_of (get c name))
    by None is =
        let made : next_number (entries_of (get (made_one name number change c) name)) ≡ 0 = ap (λ o. next_number (entries_of o)) (none-made name number change c is) in
        omega (arith, made)
    by (Some t) is =
        let made : next_number (entries_of (get (made_one name number change c) name)) ≡ next_number (changed_one number change t).entries = ap (λ o. next_number (entries_of o)) (get-made name number change c t is) in
        let was : next_number (entries_of (get c name)) ≡ next_number t.entries = ap (λ o. next_number (entries_of o)) is in
        let below = one change t in
        omega (arith, made, was, below)
