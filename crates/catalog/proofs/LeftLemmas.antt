-- Records taken out, one after another.
use Rattle.std.proofs.Common.{◌≡◌, ℕ, zero, suc, ◌+◌, ◌<◌, ◌≤◌, arith, add-one, drop-cons, List, [], ◌∷◌, ◌++◌, ◌⊎◌, inl, inr, Option, Some, None, length, get_or, drop, refl, sym, ap, ◌∙◌, subst, append_assoc, Result, Ok, Err, IfOk}
use Rattle.std.specs.List.{AllByRecursion}
use Rattle.page_space.specs.Space.{PageMap}
use Rattle.sqlval.specs.declared.schema.Table.{Table}
use Rattle.catalog_records.specs.declared.record.Record.{Record}
use Rattle.catalog_records.specs.Records.{table_records, schema_records}
use Rattle.sqlrecord.specs.Key.{key_code}
use Rattle.sqlrecord.specs.Row.{row_code}
use Rattle.btree_read.specs.declared.entry.Entry.{Entry}
use Rattle.btree_read.specs.Lists.{Has}
use Rattle.btree_read.specs.Nodes.{Key}
use Rattle.btree_read.specs.Sorted.{Ascends, get_of}
use Rattle.btree_read.specs.Tree.{IsTree}
use Rattle.btree_read.proofs.ListLemmas.{each_append, each_left, each_right}
use Rattle.btree_read.proofs.NodeLemmas.{not_fresh}
use Rattle.btree.proofs.GrowLemmas.{has_or_not}
use Rattle.btree.proofs.LawLemmas.{tree_used}
use Rattle.btree_remove.specs.Removed.{IsRemoved, IsLess}
use Rattle.btree_remove.proofs.LawLemmas.{less_is_one, found_there}
use Rattle.btree.specs.Kept.{LosesNoPage}
use Rattle.btree_read.proofs.AscendLemmas.{root_ascends}
use Rattle.btree.proofs.PageLossLemmas.{loses_left}
use Rattle.catalog_records.specs.Keepable.{IsTable}
use Rattle.catalog_records.specs.References.{AreReferencesOver}
use Rattle.catalog.specs.Held.{entry_of, entries_of, IsCoded, AreCoded, HoldsSchema}
use Rattle.catalog.proofs.PutLemmas.{entries_append}
use Rattle.catalog.specs.Left.{EntriesLeft, HasTree, SchemaLeft}

-- ---- two changes, one after the other

pub left_none : (old : PageMap) (root : ℕ) (owned : List ℕ) (entries : List Entry) → IsTree old root owned entries → EntriesLeft old old owned entries root
left_none old root owned entries t = record { now_owned = owned; stored = t; own = λ n h. inl h; gone = λ n h g. absurd (g h); others = λ n h g. refl }

pub left_on : (old mid new : PageMap) (owned : List ℕ) (first second : List Entry) (root next : ℕ) (w : EntriesLeft old mid owned first root) → EntriesLeft mid new w.now_owned second next
    → EntriesLeft old new owned second next
left_on old mid new owned first second root next w v = record {
  now_owned = v.now_owned;
  stored = v.stored;
  own = λ n h. own n (v.own n h);
  gone = λ n h g. gone n h g (has_or_not n w.now_owned);
  others = λ n h g. others n h g (has_or_not n w.now_owned);
}
  where
    free_by : (n : ℕ) → mid n ≡ None → (Has n owned → ⊥) → Has n w.now_owned ⊎ (Has n w.now_owned → ⊥) → old n ≡ None
    free_by n m h (inl g) = absurd (not_fresh mid n (tree_used mid root w.now_owned first w.stored n g) m)
    free_by n m h (inr g) = sym (w.others n h g) ∙ m

    free : (n : ℕ) → mid n ≡ None → Has n owned ⊎ (Has n owned → ⊥) → Has n owned ⊎ (old n ≡ None)
    free n m (inl h) = inl h
    free n m (inr h) = inr (free_by n m h (has_or_not n w.now_owned))

    own : (n : ℕ) → Has n w.now_owned ⊎ (mid n ≡ None) → Has n owned ⊎ (old n ≡ None)
    own n (inl h) = w.own n h
    own n (inr m) = free n m (has_or_not n owned)

    gone : (n : ℕ) → Has n owned → (Has n v.now_owned → ⊥) → Has n w.now_owned ⊎ (Has n w.now_owned → ⊥) → new n ≡ None
    gone n h g (inl k) = v.gone n k g
    gone n h g (inr k) = v.others n k g ∙ w.gone n h k

    was_free : (n : ℕ) → (Has n owned → ⊥) → Has n owned ⊎ (old n ≡ None) → old n ≡ None
    was_free n h (inl g) = absurd (h g)
    was_free n h (inr g) = g

    others : (n : ℕ) → (Has n owned → ⊥) → (Has n v.now_owned → ⊥) → Has n w.now_owned ⊎ (Has n w.now_owned → ⊥) → new n ≡ old n
    others n h g (inl k) = v.gone n k g ∙ sym (was_free n h (w.own n k))
    others n h g (inr k) = v.others n k g ∙ w.others n h k

-- ---- one record

pub one_left : (old new : PageMap) (root top : ℕ) (owned : List ℕ) (k key : Key) (v : List ℕ) (before behind : List Entry) → key ≡ k → IsTree old root owned (before ++ record { key = k; value = v } ∷ behind)
    → IsRemoved old new owned (before ++ record { key = k; value = v } ∷ behind) key top → EntriesLeft old new owned (before ++ behind) top
one_left old new root top owned k key v before behind e t w =
    let less : IsLess k (before ++ record { key = k; value = v } ∷ behind) w.now_entries = subst (λ j. IsLess j (before ++ record { key = k; value = v } ∷ behind) w.now_entries) e w.less in
    let is : w.now_entries ≡ before ++ behind = less_is_one k v before behind w.now_entries (root_ascends old root owned _ t) less in
    record { now_owned = w.now_owned; stored = subst (IsTree new top w.now_owned) is w.stored; own = w.own; gone = w.gone; others = w.others }

pub not_absent : (old : PageMap) (root : ℕ) (owned : List ℕ) (k key : Key) (v : List ℕ) (before behind : List Entry) {A : Type 0} → key ≡ k → IsTree old root owned (before ++ record { key = k; value = v } ∷ behind)
    → get_of key (before ++ record { key = k; value = v } ∷ behind) ≡ None → A
not_absent old root owned k key v before behind e t none =
    let there = found_there k v before behind (root_ascends old root owned _ t) in
    let bad : Some v ≡ None = sym there ∙ ap (λ j. get_of j (before ++ record { key = k; value = v } ∷ behind)) (sym e) ∙ none in absurd (cc)

pub tree_removed : (old new : PageMap) (owned : List ℕ) (entries : List Entry) (k : Key) (top : ℕ) → IsRemoved old new owned entries k top → HasTree new top
tree_removed old new owned entries k top w = record { owned = w.now_owned; entries = w.now_entries; tree = w.stored }

pub no_page_lost_by_removal : (old new : PageMap) (k : Key) (root top : ℕ) → ((owned : List ℕ) (entries : List Entry) → IsTree old root owned entries → IsRemoved old new owned entries k top) → LosesNoPage old new root top
no_page_lost_by_removal old new k root top removes owned entries t =
    let w = removes owned entries t in record { now_owned = w.now_owned; entries = w.now_entries; tree = w.stored; loses = loses_left old new owned w.now_owned w.gone w.others }

-- ---- several

drop_one : (records : List Record) (i : ℕ) (r : Record) → i < length records → r ≡ get_or records i r → drop i records ≡ r ∷ drop (i + 1) records
drop_one records i r below is = drop-cons records i r below ∙ ap (λ x. x ∷ drop (suc i) records) (sym is) ∙ ap (λ n. r ∷ drop n records) (sym (add-one i))

drop_past : (records : List Record) (n : ℕ) → length records ≤ n → drop n records ≡ []
drop_past [] zero l = refl
drop_past [] (suc n) l = refl
drop_past (r ∷ records) zero l = absurd (omega arith)
drop_past (r ∷ records) (suc n) l = drop_past records n (omega arith)

-- of these records the first ones have been taken out
abbrev pub Takes : PageMap → PageMap → ℕ → ℕ → List Record → ℕ → Type 0
Takes old now root top records i =
    (owned : List ℕ) (before behind : List Entry) → IsTree old root owned (before ++ (entries_of records ++ behind)) → EntriesLeft old now owned (before ++ (entries_of (drop i records) ++ behind)) top

pub takes_next : (old mid new : PageMap) (root top next i : ℕ) (records : List Record) (r : Record) → i < length records → r ≡ get_or records i r → Takes old mid root top records i
    → ((owned : List ℕ) (before behind : List Entry) (value : List ℕ) → IsTree mid top owned (before ++ record { key = key_code r.key; value = value } ∷ behind) → EntriesLeft mid new owned (before ++ behind) next)
    → Takes old new root next records (i + 1)
takes_next old mid new root top next i records r below is known one owned before behind t =
    let w = known owned before behind t in
    let here : before ++ (entries_of (drop i records) ++ behind) ≡ before ++ entry_of r ∷ (entries_of (drop (i + 1) records) ++ behind) =
    ap (λ rs. before ++ (entries_of rs ++ behind)) (drop_one records i r below is) in
    left_on old mid new owned _ _ top next w
    (one w.now_owned before (entries_of (drop (i + 1) records) ++ behind) (row_code r.row) (subst (IsTree mid top w.now_owned) here w.stored))

pub takes_first : (old : PageMap) (root : ℕ) (records : List Record) → Takes old old root root records 0
takes_first old root records owned before behind t = left_none old root owned _ t

pub takes_all : (old new : PageMap) (root top : ℕ) (records : List Record) (n : ℕ) → length records ≤ n → Takes old new root top records n
    → (owned : List ℕ) (before behind : List Entry) → IsTree old root owned (before ++ (entries_of records ++ behind)) → EntriesLeft old new owned (before ++ behind) top
takes_all old new root top records n l w owned before behind t =
    subst (λ (rs : List Record). EntriesLeft old new owned (before ++ (entries_of rs ++ behind)) top) (drop_past records n l) (w owned before behind t)

-- ---- the schema

schema_append : (xs ys : List Table) → schema_records (xs ++ ys) ≡ schema_records xs ++ schema_records ys
schema_append [] ys = refl
schema_append (x ∷ xs) ys = ap (λ rs. table_records x ++ rs) (schema_append xs ys) ∙ sym (append_assoc (table_records x) (schema_records xs) (schema_records ys))

pub entries_with : (before behind : List Table) (t : Table) → entries_of (schema_records (before ++ t ∷ behind)) ≡ entries_of (schema_records before) ++ (entries_of (table_records t) ++ entries_of (schema_records behind))
entries_with before behind t =
    ap entries_of (schema_append before (t ∷ behind)) ∙ entries_append (schema_records before) (table_records t ++ schema_records behind)
    ∙ ap (λ es. entries_of (schema_records before) ++ es) (entries_append (table_records t) (schema_records behind))

pub entries_without : (before behind : List Table) → entries_of (schema_records before) ++ entries_of (schema_records behind) ≡ entries_of (schema_records (before ++ behind))
entries_without before behind = sym (ap entries_of (schema_append before behind) ∙ entries_append (schema_records before) (schema_records behind))

pub coded_without : (before behind : List Table) (t : Table) → AreCoded (schema_records (before ++ t ∷ behind)) → AreCoded (schema_records (before ++ behind))
coded_without before behind t h =
    let all : AreCoded (schema_records before ++ (table_records t ++ schema_records behind)) = subst AreCoded (schema_append before (t ∷ behind)) h in
    let first = each_left IsCoded (schema_records before) (table_records t ++ schema_records behind) all in
    let later = each_right IsCoded (table_records t) (schema_records behind) (each_right IsCoded (schema_records before) (table_records t ++ schema_records behind) all) in
    subst AreCoded (sym (schema_append before behind)) (each_append IsCoded (schema_records before) (schema_records behind) first later)

pub range_without : (before behind : List Table) (t : Table) → AllByRecursion IsTable (before ++ t ∷ behind) → AllByRecursion IsTable (before ++ behind)
range_without before behind t h = each_append IsTable before behind (each_left IsTable before (t ∷ behind) h) (each_right IsTable before (t ∷ behind) h).1

pub schema_left : {E : Type 0} (result : Result ℕ E) (old new : PageMap) (root : ℕ) (owned : List ℕ) (before behind : List Table) (t : Table) (records : List Record) → records ≡ table_records t
    → HoldsSchema old root owned (before ++ t ∷ behind) → AreReferencesOver (before ++ behind)
    → ((owned : List ℕ) (b a : List Entry) → IsTree old root owned (b ++ (entries_of records ++ a)) → IfOk result (EntriesLeft old new owned (b ++ a)))
    → IfOk result (SchemaLeft old new owned (before ++ behind))
schema_left (Err e) old new root owned before behind t records is held references f = tt
schema_left (Ok top) old new root owned before behind t records is held references f =
    let tree : IsTree old root owned (entries_of (schema_records before) ++ (entries_of records ++ entries_of (schema_records behind))) =
    subst (λ (rs : List Record). IsTree old root owned (entries_of (schema_records before) ++ (entries_of rs ++ entries_of (schema_records behind)))) (sym is) (subst (IsTree old root owned) (entries_with before behind t) held.tree) in
    let w : EntriesLeft old new owned (entries_of (schema_records before) ++ entries_of (schema_records behind)) top = f owned (entries_of (schema_records before)) (entries_of (schema_records behind)) tree in
    record {
      now_owned = w.now_owned;
      holds = record {
        tree = subst (IsTree new top w.now_owned) (entries_without before behind) w.stored;
        range = range_without before behind t held.range;
        coded = coded_without before behind t held.coded;
        references = references;
      };
      own = w.own;
      gone = w.gone;
      others = w.others;
    }

pub same_tree : (old new : PageMap) (root : ℕ) → new ≡ old → HasTree old root → HasTree new root
same_tree old new root e h = subst (λ p. HasTree p root) (sym e) h
