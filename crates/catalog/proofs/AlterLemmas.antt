-- Tables by their names, and one exchanged for another of its name.
use Rattle.std.proofs.Common.{◌≡◌, ◌≢◌, ℕ, Bool, true, false, List, [], ◌∷◌, ◌++◌, ◌⊎◌, inl, inr, None, IsSome, refl, sym, ap, ◌∙◌, subst, ◌≤◌, Result, Ok, Err, IfOk, IfErr}
use Rattle.std.specs.List.{AllByRecursion}
use Rattle.std.specs.declared.cmp.Ordering.{Ordering}
use Rattle.std.specs.declared.cmp.Ordering.TheVariants.{Less, Equal, Greater}
use Rattle.std.specs.Ordering.{is_lt, ordering_reverse}
use Rattle.std.proofs.lemmas.Cmp.{tied_itself, nat_list_cmp_total}
use Rattle.sqlval.specs.declared.schema.Table.{Table}
use Rattle.sqlval.specs.Comparison.{text_order}
use Rattle.catalog_records.specs.declared.record.Record as catalogued
use Rattle.catalog_records.specs.Records.{table_record, column_records, constraint_records, index_records, table_records, schema_records}
use Rattle.sqlrecord.specs.Key.{key_code}
use Rattle.page_space.specs.Space.{PageMap}
use Rattle.btree_read.specs.declared.entry.Entry.{Entry}
use Rattle.btree_read.specs.Lists.{Has}
use Rattle.btree_read.specs.Nodes.{Key, precedes}
use Rattle.btree_read.specs.Sorted.{Ascends}
use Rattle.btree_read.proofs.ListLemmas.{each_append, each_left, each_right}
use Rattle.btree_read.proofs.NodeLemmas.{not_fresh}
use Rattle.btree_read.proofs.OrderLemmas.{not_both}
use Rattle.btree.proofs.GrowLemmas.{has_or_not}
use Rattle.btree.proofs.LawLemmas.{tree_used}
use Rattle.btree_remove.proofs.LawLemmas.{own_key}
use Rattle.btree_read.proofs.AscendLemmas.{root_ascends}
use Rattle.catalog_records.specs.Keepable.{IsTable}
use Rattle.catalog_records.specs.References.{AreReferencesOver, is_referenced}
use Rattle.catalog_records.proofs.ReferenceLemmas.{references_left}
use Rattle.catalog.specs.Held.{entry_of, entries_of, IsCoded, AreCoded, HoldsSchema}
use Rattle.catalog.specs.Changed.{with_table, IsFree, put_all, SchemaWritten, MayRefuse}
use Rattle.catalog.specs.declared.error.ChangeError.{ChangeError}
use Rattle.catalog.specs.declared.error.ChangeError.TheVariants.{Space, Record, Key as LongKey}
use Rattle.page_space.specs.declared.error.SpaceError.{SpaceError}
use Rattle.btree.proofs.RefusalLemmas.{change_refused}
use Rattle.catalog.proofs.OrderLemmas.{less_bytes, named_less, name_greater}
use Rattle.catalog.proofs.PutLemmas.{entries_append, schema_put, with_each, coded_with}
use Rattle.catalog.proofs.LeftLemmas.{entries_with, entries_without, coded_without, range_without}
use Rattle.catalog.specs.Left.{EntriesLeft}
use Rattle.btree_read.specs.Tree.{IsTree}
use Rattle.btree.specs.Written.{IsWritten}
use Rattle.std.specs.Cmp.Lexicographic.{same_text}
use Rattle.std.specs.Prelude.{OnOk}
use Rattle.sqlval.specs.Schema.{same_name}

-- ---- names

not_back : (a b : List ℕ) → is_lt (text_order a b) ≡ true → is_lt (text_order b a) ≡ false
not_back a b h = ap is_lt (nat_list_cmp_total.antisymm b a) ∙ by (text_order a b) h
  where
    by : (o : Ordering) → is_lt o ≡ true → is_lt (ordering_reverse o) ≡ false
    by Less h = refl
    by Equal h = cc
    by Greater h = cc

differ : (a b : List ℕ) → is_lt (text_order a b) ≡ true → a ≡ b → ⊥
differ a b h e =
    let same : is_lt (text_order a a) ≡ true = subst (λ c. is_lt (text_order a c) ≡ true) (sym e) h in
    let tied : is_lt (text_order a a) ≡ false = ap is_lt (tied_itself nat_list_cmp_total a) in
    let bad : true ≡ false = sym same ∙ tied in absurd (cc)

abbrev first_of : Table → catalogued.Record
first_of t = table_record t.name t.root

name_before : (t u : Table) → IsCoded (first_of t) → IsCoded (first_of u) → precedes (key_code (first_of t).key) (key_code (first_of u).key) ≡ true → is_lt (text_order t.name u.name) ≡ true
name_before t u h g p = by (is_lt (text_order t.name u.name)) refl
  where
    apart : t.name ≡ u.name → ⊥
    apart e = own_key (key_code (first_of u).key) (subst (λ n. precedes (key_code (table_record n t.root).key) (key_code (first_of u).key) ≡ true) e p)

    by : (b : Bool) → b ≡ is_lt (text_order t.name u.name) → is_lt (text_order t.name u.name) ≡ true
    by true e = sym e
    by false e =
        let less : is_lt (text_order u.name t.name) ≡ true = name_greater t.name u.name (sym e) apart in
        let back = less_bytes (first_of u) (first_of t) g h (named_less u.name t.name (first_of u) (first_of t) less (record { kind = 0; number = 0; is = refl }) (record { kind = 0; number = 0; is = refl })) in
        let other = not_both (key_code (first_of u).key) (key_code (first_of t).key) back in
        let bad : true ≡ false = sym p ∙ other in absurd (cc)

-- each name is less than those behind it
abbrev pub NamesRise : List Table → Type 0
NamesRise [] = Unit {0}
NamesRise (t ∷ tables) = AllByRecursion (λ (u : Table). is_lt (text_order t.name u.name) ≡ true) tables × NamesRise tables

ascends_right : (xs ys : List Entry) → Ascends (xs ++ ys) → Ascends ys
ascends_right [] ys h = h
ascends_right (x ∷ xs) ys h = ascends_right xs ys h.1

abbrev others_of : Table → List catalogued.Record
others_of t = column_records t.name 0 t.columns ++ (constraint_records t.name 1 t.constraints ++ index_records t.name 1 t.indexes)

names_behind : (t : Table) (tables : List Table) → IsCoded (first_of t) → AreCoded (schema_records tables)
    → AllByRecursion (λ e. precedes (key_code (first_of t).key) e.key ≡ true) (entries_of (schema_records tables)) → AllByRecursion (λ (u : Table). is_lt (text_order t.name u.name) ≡ true) tables
names_behind t [] h coded p = tt
names_behind t (u ∷ tables) h coded p = (
  name_before t u h coded.0 p.0,
  names_behind t tables h (each_right IsCoded (table_records u) (schema_records tables) coded)
      (each_right (λ (e : Entry). precedes (key_code (first_of t).key) e.key ≡ true) (entries_of (table_records u)) (entries_of (schema_records tables))
      (subst (AllByRecursion (λ (e : Entry). precedes (key_code (first_of t).key) e.key ≡ true)) (entries_append (table_records u) (schema_records tables)) p)),
)

names_rise : (tables : List Table) → AreCoded (schema_records tables) → Ascends (entries_of (schema_records tables)) → NamesRise tables
names_rise [] coded h = tt
names_rise (t ∷ tables) coded h =
    let later = each_right IsCoded (table_records t) (schema_records tables) coded in
    let behind = each_right (λ (e : Entry). precedes (key_code (first_of t).key) e.key ≡ true) (entries_of (others_of t)) (entries_of (schema_records tables))
    (subst (AllByRecursion (λ (e : Entry). precedes (key_code (first_of t).key) e.key ≡ true)) (entries_append (others_of t) (schema_records tables)) h.0) in (
      names_behind t tables coded.0 later behind,
      names_rise tables later (ascends_right (entries_of (table_records t)) (entries_of (schema_records tables)) (subst Ascends (entries_append (table_records t) (schema_records tables)) h)),
    )

-- ---- one table in place of another of its name

in_place : (before behind : List Table) (was now : Table) → NamesRise (before ++ was ∷ behind) → now.name ≡ was.name → with_table now (before ++ behind) ≡ before ++ now ∷ behind
in_place [] [] was now h e = refl
in_place [] (u ∷ behind) was now h e =
    let back : is_lt (text_order u.name now.name) ≡ false = subst (λ n. is_lt (text_order u.name n) ≡ false) (sym e) (not_back was.name u.name h.0.0) in
    rw back refl
in_place (t ∷ before) behind was now h e =
    let less : is_lt (text_order t.name now.name) ≡ true =
    subst (λ n. is_lt (text_order t.name n) ≡ true) (sym e) (each_right (λ (u : Table). is_lt (text_order t.name u.name) ≡ true) before (was ∷ behind) h.0).0 in
    rw less (ap (λ ts. t ∷ ts) (in_place before behind was now h.1 e))

free_behind : (was now : Table) (behind : List Table) → now.name ≡ was.name → AllByRecursion (λ (u : Table). is_lt (text_order was.name u.name) ≡ true) behind → IsFree now.name behind
free_behind was now [] e h = tt
free_behind was now (u ∷ behind) e h = (λ q. differ was.name u.name h.0 (sym e ∙ sym q), free_behind was now behind e h.1)

name_is_free : (before behind : List Table) (was now : Table) → NamesRise (before ++ was ∷ behind) → now.name ≡ was.name → IsFree now.name (before ++ behind)
name_is_free [] behind was now h e = free_behind was now behind e h.0
name_is_free (t ∷ before) behind was now h e = (
  λ q. differ t.name was.name (each_right (λ (u : Table). is_lt (text_order t.name u.name) ≡ true) before (was ∷ behind) h.0).0 (q ∙ e),
  name_is_free before behind was now h.1 e,
)

names_held : (pages : PageMap) (root : ℕ) (owned : List ℕ) (tables : List Table) → HoldsSchema pages root owned tables → NamesRise tables
names_held pages root owned tables h = names_rise tables h.coded (root_ascends pages root owned _ h.tree)

-- ---- two changes, one after the other

written_behind : (old mid new : PageMap) (owned : List ℕ) (left all : List Entry) (root next : ℕ) (w : EntriesLeft old mid owned left root) → IsWritten mid new w.now_owned all next → IsWritten old new owned all next
written_behind old mid new owned left all root next w v = record {
  now_owned = v.now_owned;
  stored = v.stored;
  own = λ n h. own n (v.own n h);
  others = λ n h u. v.others n (λ g. foreign n h u (w.own n g)) (subst IsSome (sym (same n h u)) u) ∙ same n h u;
}
  where
    foreign : (n : ℕ) → (Has n owned → ⊥) → IsSome (old n) → Has n owned ⊎ (old n ≡ None) → ⊥
    foreign n h u (inl g) = h g
    foreign n h u (inr g) = not_fresh old n u g

    same : (n : ℕ) → (Has n owned → ⊥) → IsSome (old n) → mid n ≡ old n
    same n h u = w.others n h (λ g. foreign n h u (w.own n g))

    free_by : (n : ℕ) → mid n ≡ None → (Has n owned → ⊥) → Has n w.now_owned ⊎ (Has n w.now_owned → ⊥) → old n ≡ None
    free_by n m h (inl g) = absurd (not_fresh mid n (tree_used mid root w.now_owned left w.stored n g) m)
    free_by n m h (inr g) = sym (w.others n h g) ∙ m

    free : (n : ℕ) → mid n ≡ None → Has n owned ⊎ (Has n owned → ⊥) → Has n owned ⊎ (old n ≡ None)
    free n m (inl h) = inl h
    free n m (inr h) = inr (free_by n m h (has_or_not n w.now_owned))

    own : (n : ℕ) → Has n w.now_owned ⊎ (mid n ≡ None) → Has n owned ⊎ (old n ≡ None)
    own n (inl h) = w.own n h
    own n (inr m) = free n m (has_or_not n owned)

pub altered : {E : Type 0} (result : Result ℕ E) (old mid new : PageMap) (root top : ℕ) (owned : List ℕ) (before behind : List Table) (was now : Table) → now.name ≡ was.name → AreReferencesOver (before ++ now ∷ behind) → IsTable now
    → HoldsSchema old root owned (before ++ was ∷ behind)
    → ((owned : List ℕ) (b a : List Entry) → IsTree old root owned (b ++ (entries_of (table_records was) ++ a)) → EntriesLeft old mid owned (b ++ a) top)
    → OnOk result (AreCoded (table_records now))
    → ((owned : List ℕ) (entries : List Entry) → IsTree mid top owned entries → IfOk result (IsWritten mid new owned (put_all (table_records now) entries)))
    → IfOk result (SchemaWritten old new owned (before ++ now ∷ behind))
altered (Err e) old mid new root top owned before behind was now same references good held taken coded put = tt
altered (Ok next) old mid new root top owned before behind was now same references good held taken coded put =
    let rise = names_held old root owned (before ++ was ∷ behind) held in
    let place : with_table now (before ++ behind) ≡ before ++ now ∷ behind = in_place before behind was now rise same in
    let others : AreCoded (schema_records (before ++ behind)) = coded_without before behind was held.coded in
    let w : EntriesLeft old mid owned (entries_of (schema_records before) ++ entries_of (schema_records behind)) top =
    taken owned (entries_of (schema_records before)) (entries_of (schema_records behind)) (subst (IsTree old root owned) (entries_with before behind was) held.tree) in
    let v : IsWritten mid new w.now_owned (put_all (table_records now) (entries_of (schema_records (before ++ behind)))) next =
    put w.now_owned (entries_of (schema_records (before ++ behind))) (subst (IsTree mid top w.now_owned) (entries_without before behind) w.stored) in
    let all : IsWritten old new owned (put_all (table_records now) (entries_of (schema_records (before ++ behind)))) next =
    written_behind old mid new owned (entries_of (schema_records before) ++ entries_of (schema_records behind)) (put_all (table_records now) (entries_of (schema_records (before ++ behind)))) top next w v in
    record {
      now_owned = all.now_owned;
      holds = record {
        tree = subst (IsTree new next all.now_owned) (schema_put now (before ++ behind) coded others (name_is_free before behind was now rise same) ∙ ap (λ (ts : List Table). entries_of (schema_records ts)) place) all.stored;
        range = subst (AllByRecursion IsTable) place (with_each IsTable now (before ++ behind) good (range_without before behind was held.range));
        coded = subst (λ (ts : List Table). AreCoded (schema_records ts)) place (coded_with now (before ++ behind) coded others);
        references = references;
      };
      own = all.own;
      others = all.others;
    }

-- ---- a table that no other one references

apart : (tables : List Table) (name : List ℕ) → IsFree name tables → AllByRecursion (λ (u : Table). same_name u.name name ≡ false) tables
apart [] name free = tt
apart (u ∷ tables) name free = (by (same_name u.name name) refl, apart tables name free.1)
  where
    by : (b : Bool) → b ≡ same_name u.name name → same_name u.name name ≡ false
    by true e = absurd (free.0 (same_text u.name name e))
    by false e = sym e

pub references_without : (pages : PageMap) (root : ℕ) (owned : List ℕ) (before behind : List Table) (t : Table) → HoldsSchema pages root owned (before ++ t ∷ behind) → is_referenced t.name (before ++ t ∷ behind) ≡ false
    → AreReferencesOver (before ++ behind)
references_without pages root owned before behind t held free =
    references_left before behind t (apart (before ++ behind) t.name (name_is_free before behind t t (names_held pages root owned (before ++ t ∷ behind) held) refl)) free held.references

-- ---- refusals

later : (AtLimit : SpaceError → Type 0) (H G : Type 0) (a b c : ℕ) (e : ChangeError) → a ≤ b → (H → G) → MayRefuse AtLimit H b c e → MayRefuse AtLimit G a c e
later AtLimit H G a b c (Space f) h g w = change_refused AtLimit H G a b c f h g w
later AtLimit H G a b c Record h g w = tt
later AtLimit H G a b c LongKey h g w = tt

pub refused_behind : {A : Type 0} (result : Result A ChangeError) (AtLimit : SpaceError → Type 0) (H G : Type 0) (a b c : ℕ) → a ≤ b → (H → G) → IfErr result (MayRefuse AtLimit H b c) → IfErr result (MayRefuse AtLimit G a c)
refused_behind (Ok x) AtLimit H G a b c h g w = tt
refused_behind (Err e) AtLimit H G a b c h g w = later AtLimit H G a b c e h g w
