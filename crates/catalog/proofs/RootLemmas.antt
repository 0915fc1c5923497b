-- Another root of a table's rows.
use Rattle.std.proofs.Common.{◌≡◌, ℕ, ◌^◌, ◌<◌, true, false, List, [], ◌∷◌, ◌++◌, refl, sym, ap, ◌∙◌, subst, append_assoc}
use Rattle.std.specs.Prelude.{Result, Ok, Err, OnOk, IfOk}
use Rattle.std.specs.List.{AllByRecursion}
use Rattle.sqlval.specs.declared.schema.Table.{Table}
use Rattle.catalog_records.specs.declared.record.Record.{Record}
use Rattle.catalog_records.specs.Records.{table_record, column_records, constraint_records, index_records, table_records, schema_records}
use Rattle.catalog_records.specs.Keepable.{IsTable}
use Rattle.catalog_records.proofs.ReferenceLemmas.{references_around}
use Rattle.sqlrecord.specs.Key.{key_code}
use Rattle.sqlrecord.specs.Row.{row_code}
use Rattle.page_space.specs.Space.{PageMap}
use Rattle.btree_read.specs.declared.entry.Entry.{Entry}
use Rattle.btree_read.specs.Nodes.{Key, precedes}
use Rattle.btree_read.specs.Sorted.{Ascends, put}
use Rattle.btree_read.specs.Tree.{IsTree}
use Rattle.btree_read.proofs.ListLemmas.{each_right}
use Rattle.btree_read.proofs.OrderLemmas.{not_self}
use Rattle.btree.specs.Written.{IsWritten}
use Rattle.btree_read.proofs.AscendLemmas.{root_ascends}
use Rattle.catalog.specs.Held.{entry_of, entries_of, IsCoded, AreCoded, HoldsSchema}
use Rattle.catalog.specs.Changed.{with_root, SchemaWritten}
use Rattle.catalog.proofs.PutLemmas.{entries_append}

-- a value in place of that of a key
put_again : (k : Key) (v : List ℕ) (xs ys : List Entry) (e : Entry) → Ascends (xs ++ e ∷ ys) → e.key ≡ k → put k v (xs ++ e ∷ ys) ≡ xs ++ record { key = k; value = v } ∷ ys
put_again k v [] ys e h own = let same : precedes e.key k ≡ false = subst (λ (j : Key). precedes e.key j ≡ false) own (not_self e.key) in
    let other : precedes k e.key ≡ false = subst (λ (j : Key). precedes j e.key ≡ false) own (not_self e.key) in rw (same, other) refl
put_again k v (x ∷ xs) ys e h own =
    let less : precedes x.key k ≡ true = subst (λ (j : Key). precedes x.key j ≡ true) own (each_right (λ y. precedes x.key y.key ≡ true) xs (e ∷ ys) h.0).0 in
    rw less (ap (λ es. x ∷ es) (put_again k v xs ys e h.1 own))

schema_append : (xs ys : List Table) → schema_records (xs ++ ys) ≡ schema_records xs ++ schema_records ys
schema_append [] ys = refl
schema_append (x ∷ xs) ys = ap (λ rs. table_records x ++ rs) (schema_append xs ys) ∙ sym (append_assoc (table_records x) (schema_records xs) (schema_records ys))

-- the records behind that of a table's name and root
abbrev others_of : Table → List Table → List Record
others_of t behind = (column_records t.name 0 t.columns ++ (constraint_records t.name 1 t.constraints ++ index_records t.name 1 t.indexes)) ++ schema_records behind

schema_around : (before behind : List Table) (t : Table) → schema_records (before ++ t ∷ behind) ≡ schema_records before ++ table_record t.name t.root ∷ others_of t behind
schema_around before behind t = schema_append before (t ∷ behind)

entries_around : (before behind : List Table) (t : Table) → entries_of (schema_records (before ++ t ∷ behind)) ≡ entries_of (schema_records before) ++ entry_of (table_record t.name t.root) ∷ entries_of (others_of t behind)
entries_around before behind t = ap entries_of (schema_around before behind t) ∙ entries_append (schema_records before) (table_record t.name t.root ∷ others_of t behind)

root_put : (pages : PageMap) (top : ℕ) (owned : List ℕ) (before behind : List Table) (t : Table) (root : ℕ) → IsTree pages top owned (entries_of (schema_records (before ++ t ∷ behind)))
    → put (key_code (table_record t.name root).key) (row_code (table_record t.name root).row) (entries_of (schema_records (before ++ t ∷ behind))) ≡ entries_of (schema_records (before ++ with_root root t ∷ behind))
root_put pages top owned before behind t root tree =
    let rising : Ascends (entries_of (schema_records before) ++ entry_of (table_record t.name t.root) ∷ entries_of (others_of t behind)) =
    subst Ascends (entries_around before behind t) (root_ascends pages top owned _ tree) in
    ap (put (key_code (table_record t.name root).key) (row_code (table_record t.name root).row)) (entries_around before behind t)
    ∙ put_again _ _ (entries_of (schema_records before)) (entries_of (others_of t behind)) (entry_of (table_record t.name t.root)) rising refl
    ∙ sym (entries_around before behind (with_root root t))

each_around : {X : Type 0} (P : X → Type 0) (xs ys : List X) (x y : X) → (P x → P y) → AllByRecursion P (xs ++ x ∷ ys) → AllByRecursion P (xs ++ y ∷ ys)
each_around P [] ys x y f h = (f h.0, h.1)
each_around P (z ∷ xs) ys x y f h = (h.0, each_around P xs ys x y f h.1)

-- the schema with the root
pub root_written : {E : Type 0} (result : Result ℕ E) (a b : PageMap) (owned : List ℕ) (before behind : List Table) (t : Table) (top root : ℕ) (name : List ℕ) (r : Record) → root < 2 ^ 32
    → t.name ≡ name → r ≡ table_record name root → HoldsSchema a top owned (before ++ t ∷ behind) → OnOk result (IsCoded r)
    → IfOk result (IsWritten a b owned (put (key_code r.key) (row_code r.row) (entries_of (schema_records (before ++ t ∷ behind)))))
    → IfOk result (SchemaWritten a b owned (before ++ with_root root t ∷ behind))
root_written (Err e) a b owned before behind t top root name r small named is held coded w = tt
root_written (Ok next) a b owned before behind t top root name r small named is held coded w =
    let one : r ≡ table_record t.name root = is ∙ ap (λ n. table_record n root) (sym named) in
    let stored : IsTree b next w.now_owned (put (key_code (table_record t.name root).key) (row_code (table_record t.name root).row) (entries_of (schema_records (before ++ t ∷ behind)))) =
    subst (λ (x : Record). IsTree b next w.now_owned (put (key_code x.key) (row_code x.row) (entries_of (schema_records (before ++ t ∷ behind))))) one w.stored in
    record {
      now_owned = w.now_owned;
      holds = record {
        tree = subst (IsTree b next w.now_owned) (root_put a top owned before behind t root held.tree) stored;
        range = each_around IsTable before behind t (with_root root t) (λ h. record { root = small; columns = h.columns; constraints = h.constraints; indexes = h.indexes; constraints_over = h.constraints_over; indexes_over = h.indexes_over }) held.range;
        coded = subst AreCoded (sym (schema_around before behind (with_root root t)))
            (each_around IsCoded (schema_records before) (others_of t behind) (table_record t.name t.root) (table_record t.name root) (λ h. subst IsCoded one coded) (subst AreCoded (schema_around before behind t) held.coded));
        references = references_around before behind t (with_root root t) refl refl refl held.references;
      };
      own = w.own;
      others = w.others;
    }
