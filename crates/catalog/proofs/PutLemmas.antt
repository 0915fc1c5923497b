-- Records put into a tree's entries.
use Rattle.std.proofs.Common.{◌≡◌, ℕ, ◌+◌, ◌<◌, Bool, true, false, List, [], ◌∷◌, ◌++◌, length, get_or, take, refl, sym, ap, ◌∙◌, subst, append_assoc}
use Rattle.std.specs.Prelude.{Result, Ok, Err, OnOk, IfOk}
use Rattle.std.specs.List.{AllByRecursion}
use Rattle.std.specs.Ordering.{is_lt}
use Rattle.std.specs.Prelude.{if◌then◌else◌}
use Rattle.std.proofs.lemmas.List.{take_more}
use Rattle.sqlval.specs.declared.schema.Table.{Table}
use Rattle.sqlval.specs.Comparison.{text_order}
use Rattle.catalog_records.specs.declared.record.Record.{Record}
use Rattle.catalog_records.specs.Records.{table_record, column_records, constraint_records, index_records, table_records, schema_records}
use Rattle.sqlrecord.specs.Key.{key_code}
use Rattle.sqlrecord.specs.Row.{row_code}
use Rattle.btree_read.specs.declared.entry.Entry.{Entry}
use Rattle.btree_read.specs.Nodes.{Key, precedes}
use Rattle.page_space.specs.Space.{PageMap}
use Rattle.btree_read.specs.Tree.{IsTree}
use Rattle.btree_read.specs.Sorted.{put}
use Rattle.btree.proofs.ChangeLemmas.{put_past}
use Rattle.btree.specs.Written.{IsWritten}
use Rattle.catalog_records.specs.Keepable.{IsTable}
use Rattle.catalog_records.specs.References.{AreReferencesWith}
use Rattle.btree_read.proofs.ListLemmas.{each_append, each_left, each_right}
use Rattle.btree_read.proofs.OrderLemmas.{not_both}
use Rattle.catalog.specs.Held.{entry_of, entries_of, IsCoded, AreCoded, HoldsSchema}
use Rattle.catalog.specs.Changed.{with_table, IsFree, put_all, SchemaWritten}
use Rattle.catalog.proofs.ReferenceLemmas.{references_with}
use Rattle.catalog.proofs.OrderLemmas.{IsLess, less_bytes, Rises, IsNamed, table_rises, table_named, named_less, name_greater}

-- the key is less than the first
abbrev IsBefore : Key → List Entry → Type 0
IsBefore k [] = Unit {0}
IsBefore k (e ∷ es) = precedes k e.key ≡ true

put_here : (k : Key) (v : List ℕ) (es : List Entry) → IsBefore k es → put k v es ≡ record { key = k; value = v } ∷ es
put_here k v [] h = refl
put_here k v (e ∷ es) h = rw (not_both k e.key h, h) refl

each_both : {X : Type 0} (P Q R : X → Type 0) (xs : List X) → ((x : X) → P x → Q x → R x) → AllByRecursion P xs → AllByRecursion Q xs → AllByRecursion R xs
each_both P Q R [] f h g = tt
each_both P Q R (x ∷ xs) f h g = (f x h.0 g.0, each_both P Q R xs f h.1 g.1)

-- an entry before records, and records before entries
abbrev IsBeforeAll : List Record → Entry → Type 0
IsBeforeAll records e = AllByRecursion (λ r. precedes e.key (key_code r.key) ≡ true) records

abbrev AreBefore : List Record → List Entry → Type 0
AreBefore records es = AllByRecursion (λ r. IsBefore (key_code r.key) es) records

without_first : (r : Record) (records : List Record) (es : List Entry) → AllByRecursion (IsBeforeAll (r ∷ records)) es → AllByRecursion (IsBeforeAll records) es
without_first r records [] h = tt
without_first r records (e ∷ es) h = (h.0.1, without_first r records es h.1)

only_first : (r : Record) (records : List Record) (es : List Entry) → AllByRecursion (IsBeforeAll (r ∷ records)) es → AllByRecursion (λ e. precedes e.key (key_code r.key) ≡ true) es
only_first r records [] h = tt
only_first r records (e ∷ es) h = (h.0.0, only_first r records es h.1)

-- rising records between what is less and what is greater
put_between : (records : List Record) (done behind : List Entry) → AreCoded records → Rises records → AllByRecursion (IsBeforeAll records) done → AreBefore records behind
    → put_all records (done ++ behind) ≡ done ++ (entries_of records ++ behind)
put_between [] done behind coded rising before after = refl
put_between (r ∷ records) done behind coded rising before after =
    let one : put (key_code r.key) (row_code r.row) (done ++ behind) ≡ (done ++ entry_of r ∷ []) ++ behind =
    put_past (key_code r.key) (row_code r.row) done behind (only_first r records done before)
    ∙ ap (λ xs. done ++ xs) (put_here (key_code r.key) (row_code r.row) behind after.0) ∙ sym (append_assoc done (entry_of r ∷ []) behind) in
    let less : IsBeforeAll records (entry_of r) =
    each_both (IsLess r) IsCoded (λ s. precedes (key_code r.key) (key_code s.key) ≡ true) records (λ s l c. less_bytes r s coded.0 c l) rising.0 coded.1 in
    ap (put_all records) one
    ∙ put_between records (done ++ entry_of r ∷ []) behind coded.1 rising.1 (each_append (IsBeforeAll records) done (entry_of r ∷ []) (without_first r records done before) (less, tt)) after.1
    ∙ append_assoc done (entry_of r ∷ []) (entries_of records ++ behind)

pub entries_append : (xs ys : List Record) → entries_of (xs ++ ys) ≡ entries_of xs ++ entries_of ys
entries_append [] ys = refl
entries_append (x ∷ xs) ys = ap (λ es. entry_of x ∷ es) (entries_append xs ys)

-- the records of a table before another come before its records
before_table : (u t : Table) → is_lt (text_order u.name t.name) ≡ true → AreCoded (table_records u) → AreCoded (table_records t) → AllByRecursion (IsBeforeAll (table_records t)) (entries_of (table_records u))
before_table u t less coded_u coded_t = go (table_records u) (table_named u) coded_u
  where
    one : (r : Record) → IsNamed u.name r → IsCoded r → IsBeforeAll (table_records t) (entry_of r)
    one r named coded = each_both (IsNamed t.name) IsCoded (λ s. precedes (key_code r.key) (key_code s.key) ≡ true) (table_records t)
        (λ s p c. less_bytes r s coded c (named_less u.name t.name r s less named p)) (table_named t) coded_t

    go : (rs : List Record) → AllByRecursion (IsNamed u.name) rs → AreCoded rs → AllByRecursion (IsBeforeAll (table_records t)) (entries_of rs)
    go [] named coded = tt
    go (r ∷ rs) named coded = (one r named.0 coded.0, go rs named.1 coded.1)

-- a table's records come before those of a table behind it
table_before : (t u : Table) (es : List Entry) → is_lt (text_order t.name u.name) ≡ true → AreCoded (table_records t) → IsCoded (table_record u.name u.root)
    → AreBefore (table_records t) (entry_of (table_record u.name u.root) ∷ es)
table_before t u es less coded first = each_both (IsNamed t.name) IsCoded (λ r. precedes (key_code r.key) (key_code (table_record u.name u.root).key) ≡ true) (table_records t)
    (λ r p c. less_bytes r (table_record u.name u.root) c first (named_less t.name u.name r (table_record u.name u.root) less p (record { kind = 0; number = 0; is = refl }))) (table_named t) coded

no_entries : (records : List Record) → AreBefore records []
no_entries [] = tt
no_entries (r ∷ records) = (tt, no_entries records)

-- the entries with a table's records put in are those of the tables with this one
table_put : (t : Table) (tables : List Table) (done : List Entry) → AreCoded (table_records t) → AreCoded (schema_records tables) → IsFree t.name tables → AllByRecursion (IsBeforeAll (table_records t)) done
    → put_all (table_records t) (done ++ entries_of (schema_records tables)) ≡ done ++ entries_of (schema_records (with_table t tables))
table_put t [] done coded others free before =
    put_between (table_records t) done [] coded (table_rises t) before (no_entries (table_records t))
    ∙ ap (λ es. done ++ es) (sym (entries_append (table_records t) []))
table_put t (u ∷ tables) done coded others free before =
    by (is_lt (text_order u.name t.name)) refl (λ d h. table_put t tables d coded (each_right IsCoded (table_records u) (schema_records tables) others) free.1 h)
  where
    by : (b : Bool) → b ≡ is_lt (text_order u.name t.name)
        → ((d : List Entry) → AllByRecursion (IsBeforeAll (table_records t)) d → put_all (table_records t) (d ++ entries_of (schema_records tables)) ≡ d ++ entries_of (schema_records (with_table t tables)))
        → put_all (table_records t) (done ++ entries_of (table_records u ++ schema_records tables)) ≡ done ++ entries_of (schema_records (if b then u ∷ with_table t tables else t ∷ u ∷ tables))
    by true e again =
        let coded_u : AreCoded (table_records u) = each_left IsCoded (table_records u) (schema_records tables) others in
        let joined : done ++ entries_of (table_records u ++ schema_records tables) ≡ (done ++ entries_of (table_records u)) ++ entries_of (schema_records tables) =
        ap (λ es. done ++ es) (entries_append (table_records u) (schema_records tables)) ∙ sym (append_assoc done (entries_of (table_records u)) (entries_of (schema_records tables))) in
        ap (put_all (table_records t)) joined
        ∙ again (done ++ entries_of (table_records u))
        (each_append (IsBeforeAll (table_records t)) done (entries_of (table_records u)) before (before_table u t (sym e) coded_u coded))
        ∙ append_assoc done (entries_of (table_records u)) (entries_of (schema_records (with_table t tables)))
        ∙ ap (λ es. done ++ es) (sym (entries_append (table_records u) (schema_records (with_table t tables))))
    by false e again =
        put_between (table_records t) done (entries_of (table_records u ++ schema_records tables)) coded (table_rises t) before
        (table_before t u (entries_of ((column_records u.name 0 u.columns ++ (constraint_records u.name 1 u.constraints ++ index_records u.name 1 u.indexes)) ++ schema_records tables)) (name_greater u.name t.name (sym e) free.0) coded others.0)
        ∙ ap (λ es. done ++ es) (sym (entries_append (table_records t) (table_records u ++ schema_records tables)))

-- in whole
pub schema_put : (t : Table) (tables : List Table) → AreCoded (table_records t) → AreCoded (schema_records tables) → IsFree t.name tables
    → put_all (table_records t) (entries_of (schema_records tables)) ≡ entries_of (schema_records (with_table t tables))
schema_put t tables coded others free = table_put t tables [] coded others free tt

-- a fact of the tables and of one more
pub with_each : (P : Table → Type 0) (t : Table) (tables : List Table) → P t → AllByRecursion P tables → AllByRecursion P (with_table t tables)
with_each P t [] p h = (p, tt)
with_each P t (u ∷ tables) p h = by (is_lt (text_order u.name t.name)) (with_each P t tables p h.1)
  where
    by : (b : Bool) → AllByRecursion P (with_table t tables) → AllByRecursion P (if b then u ∷ with_table t tables else t ∷ u ∷ tables)
    by true again = (h.0, again)
    by false again = (p, (h.0, h.1))

pub coded_with : (t : Table) (tables : List Table) → AreCoded (table_records t) → AreCoded (schema_records tables) → AreCoded (schema_records (with_table t tables))
coded_with t [] coded others = each_append IsCoded (table_records t) [] coded tt
coded_with t (u ∷ tables) coded others =
    by (is_lt (text_order u.name t.name)) (coded_with t tables coded (each_right IsCoded (table_records u) (schema_records tables) others))
  where
    by : (b : Bool) → AreCoded (schema_records (with_table t tables)) → AreCoded (schema_records (if b then u ∷ with_table t tables else t ∷ u ∷ tables))
    by true again = each_append IsCoded (table_records u) (schema_records (with_table t tables)) (each_left IsCoded (table_records u) (schema_records tables) others) again
    by false again = each_append IsCoded (table_records t) (table_records u ++ schema_records tables) coded others

-- ---- several puts

put_all_append : (xs ys : List Record) (es : List Entry) → put_all (xs ++ ys) es ≡ put_all ys (put_all xs es)
put_all_append [] ys es = refl
put_all_append (x ∷ xs) ys es = put_all_append xs ys (put (key_code x.key) (row_code x.row) es)

pub put_all_more : (records : List Record) (i : ℕ) (r : Record) (es : List Entry) → i < length records → r ≡ get_or records i r
    → put_all (take (i + 1) records) es ≡ put (key_code r.key) (row_code r.row) (put_all (take i records) es)
put_all_more records i r es below is =
    ap (λ rs. put_all rs es) (take_more records i r below ∙ ap (λ x. take i records ++ x ∷ []) (sym is)) ∙ put_all_append (take i records) (r ∷ []) es

pub coded_more : (records : List Record) (i : ℕ) (r : Record) → i < length records → r ≡ get_or records i r → AreCoded (take i records) → IsCoded r → AreCoded (take (i + 1) records)
coded_more records i r below is all one =
    subst AreCoded (sym (take_more records i r below ∙ ap (λ x. take i records ++ x ∷ []) (sym is))) (each_append IsCoded (take i records) (r ∷ []) all (one, tt))

-- the schema with one more table
pub schema_written : (a b : PageMap) (owned : List ℕ) (t : Table) (tables : List Table) (root next : ℕ) → HoldsSchema a root owned tables → IsTable t → IsFree t.name tables → AreReferencesWith t tables → AreCoded (table_records t)
    → IsWritten a b owned (put_all (table_records t) (entries_of (schema_records tables))) next → SchemaWritten a b owned (with_table t tables) next
schema_written a b owned t tables root next held good free own coded w = record {
  now_owned = w.now_owned;
  holds = record {
    tree = subst (IsTree b next w.now_owned) (schema_put t tables coded held.coded free) w.stored;
    range = with_each IsTable t tables good held.range;
    coded = coded_with t tables coded held.coded;
    references = references_with t tables held.references own;
  };
  own = w.own;
  others = w.others;
}

pub schema_added : {E : Type 0} (result : Result ℕ E) (a b : PageMap) (owned : List ℕ) (t : Table) (tables : List Table) (root : ℕ) (records : List Record) → records ≡ table_records t
    → HoldsSchema a root owned tables → IsTable t → IsFree t.name tables → AreReferencesWith t tables → OnOk result (AreCoded records)
    → IfOk result (IsWritten a b owned (put_all records (entries_of (schema_records tables)))) → IfOk result (SchemaWritten a b owned (with_table t tables))
schema_added (Ok next) a b owned t tables root records is held good free own coded w =
    schema_written a b owned t tables root next held good free own (subst AreCoded is coded) (subst (λ (rs : List Record). IsWritten a b owned (put_all rs (entries_of (schema_records tables))) next) is w)
schema_added (Err e) a b owned t tables root records is held good free own coded w = tt
