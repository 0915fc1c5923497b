-- The schema that pages hold is that of the database.
use Rattle.std.proofs.Common.{◌≡◌, ℕ, zero, suc, ◌<◌, Bool, true, false, cond, List, [], ◌∷◌, ◌++◌, map, Some, None, inl, inr, refl, sym, ap, subst, ◌∙◌, arith}
use Rattle.std.proofs.lemmas.Cmp.{nat_list_cmp_total}
use Rattle.std.proofs.lemmas.List.{map-append}
use Rattle.std.proofs.lemmas.List.Elements.{Contains-append_cases}
use Rattle.std.specs.Prelude.{Contains, slice_index_or, length}
use Rattle.std.specs.List.{AllByRecursion}
use Rattle.std.specs.Option.{option_map}
use Rattle.std.specs.declared.cmp.Ordering.{Ordering}
use Rattle.std.specs.declared.cmp.Ordering.TheVariants.{Less, Equal, Greater}
use Rattle.std.specs.Ordering.{eq_by_cmp, is_eq}
use Rattle.std.specs.FinMap.{get, insert, keys, entries, find, put, get-insert, get-entries, entries-insert, len-empty, len-entries, empty, get-empty}
use Rattle.sqlval.specs.declared.schema.Table.{Table}
use Rattle.sqlval.specs.declared.schema.Schema.{Schema}
use Rattle.sqlval.specs.Comparison.{text_order}
use Rattle.denote.specs.Bag.{Permutes}
use Rattle.denote.specs.Bag.Permutes.{nothing, keeps, exchanges, goes_on}
use Rattle.denote.specs.Database.{Name, Database}
use Rattle.denote.specs.Database.{Table as Held}
use Rattle.denote.specs.SchemaOf.{Declares, IsSchemaOf}
use Rattle.store.specs.Contents.{table_of, database_of}
use Rattle.store.proofs.Databases.{same_tables, database-get, database-insert, database-empty}
use Rattle.catalog_records.specs.declared.record.Record.{Record}
use Rattle.catalog_records.specs.Records.{key_of, column_records, constraint_records, index_records, schema_records}
use Rattle.sqlrecord.specs.Key.{key_code}
use Rattle.page_space.specs.Space.{PageMap}
use Rattle.btree_read.specs.declared.entry.Entry.{Entry}
use Rattle.btree_read.specs.Nodes.{Key, precedes}
use Rattle.btree_read.specs.Sorted.{Ascends}
use Rattle.btree_read.proofs.ListLemmas.{each_right}
use Rattle.btree_read.proofs.OrderLemmas.{not_self}
use Rattle.btree_read.proofs.AscendLemmas.{root_ascends}
use Rattle.catalog.specs.Held.{entry_of, entries_of, HoldsSchema}
use Rattle.stored_tables.specs.Held.{TableAt, declared_of, stored_of, entry_at, contents_of}
use Rattle.stored_tables.proofs.NameLemmas.{name_from_tie, tie_itself, contents-get}

-- ---- the names of a schema are different

ascends_right : (xs ys : List Entry) → Ascends (xs ++ ys) → Ascends ys
ascends_right [] ys h = h
ascends_right (x ∷ xs) ys h = ascends_right xs ys h.1

-- the records of a table behind that of its name and root
abbrev others_of : Table → List Record
others_of t = column_records t.name 0 t.columns ++ (constraint_records t.name 1 t.constraints ++ index_records t.name 1 t.indexes)

first_key : Table → Key
first_key t = key_code (key_of t.name 0 0)

each_table : (P : Key → Type 0) (ts : List Table) → AllByRecursion (λ (e : Entry). P e.key) (entries_of (schema_records ts)) → AllByRecursion (λ (u : Table). P (key_code (key_of u.name 0 0))) ts
each_table P [] h = tt
each_table P (u ∷ ts) h = (
  h.0,
  each_table P ts (each_right (λ (e : Entry). P e.key) (entries_of (others_of u)) (entries_of (schema_records ts))
      (subst (AllByRecursion (λ (e : Entry). P e.key)) (map-append entry_of (others_of u) (schema_records ts)) h.1)),
)

differs : (t u : Table) → precedes (key_code (key_of t.name 0 0)) (key_code (key_of u.name 0 0)) ≡ true → eq_by_cmp text_order t.name u.name ≡ false
differs t u less = by (eq_by_cmp text_order t.name u.name) refl
  where
    by : (b : Bool) → eq_by_cmp text_order t.name u.name ≡ b → b ≡ false
    by true e = let same = name_from_tie t.name u.name e in
        let itself : precedes (key_code (key_of t.name 0 0)) (key_code (key_of t.name 0 0)) ≡ true =
        subst (λ (n : Name). precedes (key_code (key_of t.name 0 0)) (key_code (key_of n 0 0)) ≡ true) (sym same) less in
        let bad : true ≡ false = sym itself ∙ not_self (key_code (key_of t.name 0 0)) in cc
    by false e = refl

each_differs : (t : Table) (ts : List Table) → AllByRecursion (λ (u : Table). precedes (key_code (key_of t.name 0 0)) (key_code (key_of u.name 0 0)) ≡ true) ts → AllByRecursion (λ (u : Table). eq_by_cmp text_order t.name u.name ≡ false) ts
each_differs t [] h = tt
each_differs t (u ∷ ts) h = (differs t u h.0, each_differs t ts h.1)

-- each name differs from those behind it
abbrev pub AreDifferent : List Table → Type 0
AreDifferent [] = Unit {0}
AreDifferent (t ∷ ts) = AllByRecursion (λ (u : Table). eq_by_cmp text_order t.name u.name ≡ false) ts × AreDifferent ts

different : (ts : List Table) → Ascends (entries_of (schema_records ts)) → AreDifferent ts
different [] h = tt
different (t ∷ ts) h =
    let parts = map-append entry_of (others_of t) (schema_records ts) in (
      each_differs t ts (each_table (λ (k : Key). precedes (key_code (key_of t.name 0 0)) k ≡ true) ts
          (each_right (λ (e : Entry). precedes (key_code (key_of t.name 0 0)) e.key ≡ true) (entries_of (others_of t)) (entries_of (schema_records ts))
          (subst (AllByRecursion (λ (e : Entry). precedes (key_code (key_of t.name 0 0)) e.key ≡ true)) parts h.0))),
      different ts (ascends_right (entries_of (others_of t)) (entries_of (schema_records ts)) (subst Ascends parts h.1)),
    )

pub names_differ : (pages : PageMap) (root : ℕ) (owned : List ℕ) (ts : List Table) → HoldsSchema pages root owned ts → AreDifferent ts
names_differ pages root owned ts h = different ts (root_ascends pages root owned (entries_of (schema_records ts)) h.tree)

-- ---- keys of maps

permutes_same : {X : Type 0} (xs : List X) → Permutes xs xs
permutes_same [] = nothing
permutes_same (x ∷ xs) = keeps x (permutes_same xs)

abbrev names_of : {X : Type 0} → List (Name × X) → List Name
names_of {X} es = map (λ (e : Name × X). e.0) es

put_permutes : {X : Type 0} (k : Name) (v : X) (es : List (Name × X)) → find text_order k es ≡ None
    → Permutes (k ∷ names_of es) (names_of (put text_order k v es))
put_permutes k v [] none = permutes_same _
put_permutes {X = X} k v (e ∷ es) none = at (text_order k e.0) refl none (put_permutes k v es)
  where
    at : (r : Ordering) → text_order k e.0 ≡ r → cond (is_eq r) (Some e.1) (find text_order k es) ≡ None
        → (find text_order k es ≡ None → Permutes (k ∷ names_of es) (names_of (put text_order k v es)))
        → Permutes (k ∷ e.0 ∷ names_of es) (names_of (put text_order k v (e ∷ es)))
    at Less h n rest = rw h (permutes_same (k ∷ e.0 ∷ names_of es))
    at Equal h n rest = cc
    at Greater h n rest = rw h (goes_on (exchanges k e.0 (names_of es)) (keeps e.0 (rest n)))

keys_empty : (X : Type 0) → keys (empty {X = X} {R = text_order}) ≡ []
keys_empty X = at (entries (empty {X = X} {R = text_order})) (sym (len-entries (empty {X = X} {R = text_order})) ∙ len-empty text_order X)
  where
    at : (es : List (Name × X)) → length es ≡ 0 → names_of es ≡ []
    at [] e = refl
    at (x ∷ es) e = absurd (omega arith)

get_same : (db : Database) (k : Name) (v : Held) → get (insert db k v) k ≡ Some v
get_same db k v = get-insert nat_list_cmp_total db k v k ∙ ap (λ b. cond b (Some v) (get db k)) (tie_itself k)

get_other : (db : Database) (k q : Name) (new table : Held) → get db k ≡ None → get db q ≡ Some table → get (insert db k new) q ≡ Some table
get_other db k q new table none found = get-insert nat_list_cmp_total db k new q ∙ at (eq_by_cmp text_order q k) refl
  where
    at : (b : Bool) → eq_by_cmp text_order q k ≡ b → cond b (Some new) (get db q) ≡ Some table
    at true e = let same : get db q ≡ get db k = ap (get db) (name_from_tie q k e) in cc
    at false e = found

-- ---- table by table

pub contents_first : (t : TableAt) (tables : List TableAt) → contents_of (t ∷ tables) ≡ insert (contents_of tables) t.declared.name (stored_of t)
contents_first t tables = same_tables (contents_of (t ∷ tables)) (insert (contents_of tables) t.declared.name (stored_of t))
    (λ q. contents-get (t ∷ tables) q ∙ ap (cond (eq_by_cmp text_order q t.declared.name) (Some (stored_of t))) (sym (contents-get tables q))
    ∙ sym (get-insert nat_list_cmp_total (contents_of tables) t.declared.name (stored_of t) q))

none_named : (name : Name) (tables : List TableAt) → AllByRecursion (λ (u : Table). eq_by_cmp text_order name u.name ≡ false) (declared_of tables) → find text_order name (map entry_at tables) ≡ None
none_named name [] h = refl
none_named name (t ∷ tables) h = ap (λ b. cond b (Some (stored_of t)) (find text_order name (map entry_at tables))) h.0 ∙ none_named name tables h.1

only_one : (t d : Table) → Contains (t ∷ []) d → t ≡ d
only_one t d inside = at inside.0 inside.1 inside.2
  where
    at : (k : ℕ) → k < 1 → slice_index_or (t ∷ []) k d ≡ d → t ≡ d
    at zero below is = is
    at (suc k) below is = absurd (omega arith)

none_in : (d : Table) → Contains {X = Table} [] d → ⊥
none_in d inside = let less = inside.1 in omega (arith, less)

abbrev schema_with : List Table → Schema
schema_with tables = record { tables = tables }

with_first : (t : TableAt) (tables : List TableAt) (db : Database) → get db t.declared.name ≡ None → IsSchemaOf (schema_with (declared_of tables)) db
    → IsSchemaOf (schema_with (t.declared ∷ declared_of tables)) (insert db t.declared.name (table_of (stored_of t)))
with_first t tables db none h = record {
  names = rw (entries-insert nat_list_cmp_total db t.declared.name (table_of (stored_of t)))
      (goes_on (keeps t.declared.name h.names) (put_permutes t.declared.name (table_of (stored_of t)) (entries db) (sym (get-entries db t.declared.name) ∙ none)));
  tables = λ d inside. elim (Contains-append_cases (t.declared ∷ []) (declared_of tables) d inside) [
    | inl one ↦ subst (λ (x : Table). (table : Held) × (get (insert db t.declared.name (table_of (stored_of t))) x.name ≡ Some table) × Declares x table) (only_one t.declared d one)
        (table_of (stored_of t), get_same db t.declared.name (table_of (stored_of t)), record { columns = refl; constraints = refl; indexes = refl })
    | inr old ↦ let found = h.tables d old in (found.0, get_other db t.declared.name d.name (table_of (stored_of t)) found.0 none found.1, found.2)
  ];
}

schema_by : (tables : List TableAt) → AreDifferent (declared_of tables) → IsSchemaOf (schema_with (declared_of tables)) (database_of (contents_of tables))
schema_by [] h = subst (λ (db : Database). IsSchemaOf (schema_with []) db) (sym database-empty)
    (record { names = subst (λ (ks : List Name). Permutes [] ks) (sym (keys_empty Held)) nothing; tables = λ d inside. absurd (none_in d inside) })
schema_by (t ∷ tables) h =
    subst (λ (db : Database). IsSchemaOf (schema_with (t.declared ∷ declared_of tables)) db)
    (sym (ap database_of (contents_first t tables) ∙ database-insert (contents_of tables) t.declared.name (stored_of t)))
    (with_first t tables (database_of (contents_of tables))
    (database-get (contents_of tables) t.declared.name ∙ ap (option_map table_of) (contents-get tables t.declared.name ∙ none_named t.declared.name tables h.0)) (schema_by tables h.1))

pub is_schema : (pages : PageMap) (root : ℕ) (owned : List ℕ) (tables : List TableAt) (schema : Schema) → HoldsSchema pages root owned (declared_of tables) → schema.tables ≡ declared_of tables
    → IsSchemaOf schema (database_of (contents_of tables))
is_schema pages root owned tables schema h is =
    subst (λ (ts : List Table). IsSchemaOf (schema_with ts) (database_of (contents_of tables))) (sym is) (schema_by tables (names_differ pages root owned (declared_of tables) h))

pub none_at_first : contents_of [] ≡ empty
none_at_first = same_tables (contents_of []) empty (λ q. contents-get [] q ∙ sym (get-empty text_order q))
