-- A table made.
use Rattle.std.proofs.Common.{◌≡◌, ◌≢◌, ℕ, Bool, true, false, cond, List, [], ◌∷◌, ◌++◌, map, is_some, Option, Some, None, refl, sym, ap, subst, ◌∙◌, append_assoc, if◌then◌else◌, Result, Ok, Err, IfOk}
use Rattle.std.proofs.lemmas.Cmp.{nat_list_cmp_total}
use Rattle.std.specs.List.{AllByRecursion}
use Rattle.std.specs.Ordering.{eq_by_cmp, is_lt}
use Rattle.std.specs.FinMap.{find, get, insert, get-insert}
use Rattle.sqlval.specs.declared.schema.Index.{Index}
use Rattle.sqlval.specs.declared.schema.Table.{Table}
use Rattle.sqlval.specs.Comparison.{text_order}
use Rattle.denote.specs.Database.{Name}
use Rattle.denote.specs.SchemaOf.{index_of}
use Rattle.store.specs.Contents.{StoredTable, new_table, with_table}
use Rattle.store.proofs.Databases.{same_tables}
use Rattle.page_space.specs.Space.{PageMap}
use Rattle.catalog.specs.Changed as schema
use Rattle.tablestore.specs.Held.{HoldsRows}
use Rattle.index_trees.specs.Indexed.{HoldsIndex}
use Rattle.btree.specs.Kept.{LosesNoPage}
use Rattle.btree.proofs.PageLossLemmas.{loses_known}
use Rattle.stored_tables.specs.Held as plain
use Rattle.stored_tables.proofs.NameLemmas.{name_from_tie, tie_itself, contents-get}
use Rattle.database_trees.specs.Trees.{TreeAt, Lies, IndexOf, pages_of, HoldsTrees}
use Rattle.database_trees.specs.Held.{IndexAt, TableAt, indexes_declared, declared_at, declared_of, trees_of_indexes, rows_tree, table_trees, trees_of, schema_tree, rows_at, rows_of_tables, ItFits, HoldsFor, contents_of}
use Rattle.database_trees.specs.Changed.{WrittenFor}
use Rattle.stored_tables.specs.Named.{table_named}
use Rattle.database_trees.proofs.TreeLemmas.{trees_put, first_changed}
use Rattle.database_trees.proofs.SettleLemmas.{schema_moved}
use Rattle.database_trees.proofs.ContentLemmas.{IsFoundAt, get_found, get_absent}
use Rattle.database_trees.proofs.DropLemmas.{Others, absent_differ}

-- a table as it is declared, without rows
abbrev pub new_index : Index → IndexAt
new_index i = record { declared = i; owned = [] }

abbrev pub new_at : Table → TableAt
new_at t = record { name = t.name; columns = t.columns; constraints = t.constraints; root = t.root; owned = []; rows = []; indexes = map new_index t.indexes }

declared_indexes : (indexes : List Index) → indexes_declared (map new_index indexes) ≡ indexes
declared_indexes [] = refl
declared_indexes (i ∷ indexes) = ap (λ is. i ∷ is) (declared_indexes indexes)

declared_new : (t : Table) → declared_at (new_at t) ≡ t
declared_new t = λ i. record { name = t.name; columns = t.columns; constraints = t.constraints; indexes = declared_indexes t.indexes i; root = t.root }

-- before the first whose name is not less
abbrev with_at : TableAt → List TableAt → List TableAt
with_at t [] = t ∷ []
with_at t (u ∷ tables) = if is_lt (text_order u.name t.name) then u ∷ with_at t tables else t ∷ u ∷ tables

declared_with : (t : TableAt) (tables : List TableAt) → declared_of (with_at t tables) ≡ schema.with_table (declared_at t) (declared_of tables)
declared_with t [] = refl
declared_with t (u ∷ tables) = by (is_lt (text_order u.name t.name)) (declared_with t tables)
  where
    by : (b : Bool) → declared_of (with_at t tables) ≡ schema.with_table (declared_at t) (declared_of tables)
        → declared_of (if b then u ∷ with_at t tables else t ∷ u ∷ tables) ≡ (if b then declared_at u ∷ schema.with_table (declared_at t) (declared_of tables) else declared_at t ∷ declared_at u ∷ declared_of tables)
    by true again = ap (λ ts. declared_at u ∷ ts) again
    by false again = refl

-- ---- trees without pages

indexes_put : {alone : Bool} (pages : PageMap) (front behind : List TreeAt) (indexes : List Index) → AllByRecursion (λ (i : Index). i.root ≡ 0) indexes → HoldsTrees alone pages (front ++ behind)
    → HoldsTrees alone pages (front ++ (trees_of_indexes [] (map new_index indexes) ++ behind))
indexes_put pages front behind [] begins h = h
indexes_put pages front behind (i ∷ indexes) begins h =
    trees_put pages front (trees_of_indexes [] (map new_index indexes) ++ behind) (record { root = i.root; owned = []; content = IndexOf i.columns [] }) (indexes_put pages front behind indexes begins.1 h)
    (subst (λ (k : ℕ). HoldsIndex pages k [] i.columns []) (sym begins.0) (record { entries = []; tree = (refl, refl); each = λ row g. absurd g; only = λ x g. absurd g })) refl

table_put : {alone : Bool} (pages : PageMap) (front behind : List TreeAt) (t : Table) → t.root ≡ 0 → AllByRecursion (λ (i : Index). i.root ≡ 0) t.indexes → HoldsTrees alone pages (front ++ behind) → HoldsTrees alone pages (front ++ (table_trees (new_at t) ++ behind))
table_put pages front behind t begins indexes h =
    trees_put pages front (trees_of_indexes [] (map new_index t.indexes) ++ behind) (rows_tree t.root [] []) (indexes_put pages front behind t.indexes indexes h)
    (subst (λ (k : ℕ). HoldsRows pages k [] []) (sym begins) (record { tree = (refl, refl); kept = tt })) refl

all_put : {alone : Bool} (tables : List TableAt) (pages : PageMap) (front : List TreeAt) (t : Table) → t.root ≡ 0 → AllByRecursion (λ (i : Index). i.root ≡ 0) t.indexes → HoldsTrees alone pages (front ++ trees_of tables) → HoldsTrees alone pages (front ++ trees_of (with_at (new_at t) tables))
all_put [] pages front t begins indexes h = table_put pages front [] t begins indexes h
all_put {alone} (u ∷ tables) pages front t begins indexes h = by (is_lt (text_order u.name t.name)) (all_put tables pages (front ++ table_trees u) t begins indexes (subst (HoldsTrees alone pages) (joined (trees_of tables)) h))
  where
    joined : (ts : List TreeAt) → front ++ (table_trees u ++ ts) ≡ (front ++ table_trees u) ++ ts
    joined ts = sym (append_assoc front (table_trees u) ts)

    by : (b : Bool) → HoldsTrees alone pages ((front ++ table_trees u) ++ trees_of (with_at (new_at t) tables)) → HoldsTrees alone pages (front ++ trees_of (if b then u ∷ with_at (new_at t) tables else new_at t ∷ u ∷ tables))
    by true again = subst (HoldsTrees alone pages) (sym (joined (trees_of (with_at (new_at t) tables)))) again
    by false again = table_put pages front (trees_of (u ∷ tables)) t begins indexes h

each_with : (P : TableAt → Type 0) (t : TableAt) (tables : List TableAt) → P t → AllByRecursion P tables → AllByRecursion P (with_at t tables)
each_with P t [] one h = (one, h)
each_with P t (u ∷ tables) one h = by (is_lt (text_order u.name t.name)) (each_with P t tables one h.1)
  where
    by : (b : Bool) → AllByRecursion P (with_at t tables) → AllByRecursion P (if b then u ∷ with_at t tables else t ∷ u ∷ tables)
    by true again = (h.0, again)
    by false again = (one, h)

-- ---- what a store shows

swapped : {X : Type 0} (b c : Bool) (x y : X) (o p : Option X) → (b ≡ true → c ≡ false) → p ≡ cond b (Some x) o → cond c (Some y) p ≡ cond b (Some x) (cond c (Some y) o)
swapped true true x y o p apart e = let bad : true ≡ false = apart refl in absurd (cc)
swapped true false x y o p apart e = e
swapped false c x y o p apart e = ap (cond c (Some y)) e

find_with : (q : Name) (t : TableAt) (tables : List TableAt) → Others t.name tables
    → find text_order q (map plain.entry_at (rows_of_tables (with_at t tables))) ≡ cond (eq_by_cmp text_order q t.name) (Some (plain.stored_of (rows_at t))) (find text_order q (map plain.entry_at (rows_of_tables tables)))
find_with q t [] h = refl
find_with q t (u ∷ tables) h = by (is_lt (text_order u.name t.name)) (find_with q t tables h.1)
  where
    by : (b : Bool) → find text_order q (map plain.entry_at (rows_of_tables (with_at t tables))) ≡ cond (eq_by_cmp text_order q t.name) (Some (plain.stored_of (rows_at t))) (find text_order q (map plain.entry_at (rows_of_tables tables)))
        → find text_order q (map plain.entry_at (rows_of_tables (if b then u ∷ with_at t tables else t ∷ u ∷ tables)))
        ≡ cond (eq_by_cmp text_order q t.name) (Some (plain.stored_of (rows_at t))) (cond (eq_by_cmp text_order q u.name) (Some (plain.stored_of (rows_at u))) (find text_order q (map plain.entry_at (rows_of_tables tables))))
    by true again = swapped (eq_by_cmp text_order q t.name) (eq_by_cmp text_order q u.name) (plain.stored_of (rows_at t)) (plain.stored_of (rows_at u)) (find text_order q (map plain.entry_at (rows_of_tables tables))) _
        (λ e. ap (λ n. eq_by_cmp text_order n u.name) (name_from_tie q t.name e) ∙ h.0) again
    by false again = refl

stored_new : (t : Table) → plain.stored_of (rows_at (new_at t)) ≡ new_table t
stored_new t = λ i. record { columns = t.columns; constraints = t.constraints; indexes = map index_of (declared_indexes t.indexes i); entries = [] }

contents_with : (t : Table) (tables : List TableAt) → Others t.name tables → contents_of (with_at (new_at t) tables) ≡ insert (contents_of tables) t.name (new_table t)
contents_with t tables h = same_tables (contents_of (with_at (new_at t) tables)) (insert (contents_of tables) t.name (new_table t))
    (λ q. contents-get (rows_of_tables (with_at (new_at t) tables)) q ∙ find_with q (new_at t) tables h
    ∙ ap (λ (s : StoredTable). cond (eq_by_cmp text_order q t.name) (Some s) (find text_order q (map plain.entry_at (rows_of_tables tables)))) (stored_new t)
    ∙ ap (cond (eq_by_cmp text_order q t.name) (Some (new_table t))) (sym (contents-get (rows_of_tables tables) q))
    ∙ sym (get-insert nat_list_cmp_total (contents_of tables) t.name (new_table t) q))

-- ---- the whole

is_free : (name : Name) (tables : List TableAt) → Others name tables → schema.IsFree name (declared_of tables)
is_free name [] h = tt
is_free name (u ∷ tables) h = (λ same. apart u.name h.0 same, is_free name tables h.1)
  where
    apart : (other : Name) → eq_by_cmp text_order name other ≡ false → other ≢ name
    apart other e same = let bad : true ≡ false = sym (tie_itself name) ∙ subst (λ (n : Name). eq_by_cmp text_order name n ≡ false) same e in cc

pub if_ok_both : {A E : Type 0} (P Q R : A → Type 0) (r : Result A E) → ((x : A) → P x → Q x → R x) → IfOk r P → IfOk r Q → IfOk r R
if_ok_both P Q R (Ok x) f p q = f x p q
if_ok_both P Q R (Err e) f p q = tt

pub name_free : (t : Table) (tables : List TableAt) → table_named t.name (declared_of tables) ≡ None → schema.IsFree t.name (declared_of tables)
name_free t tables free = is_free t.name tables (absent_differ t.name tables free)

pub created_new : {alone : Bool} (old new : PageMap) (root now : ℕ) (t : Table) (tables : List TableAt) → t.root ≡ 0 → AllByRecursion (λ (i : Index). i.root ≡ 0) t.indexes → (h : HoldsFor alone old root tables) → table_named t.name (declared_of tables) ≡ None
    → schema.SchemaWritten old new h.owned (schema.with_table t (declared_of tables)) now → LosesNoPage old new root now → WrittenFor alone new (with_table (contents_of tables) t) now
created_new {alone} old new root now t tables begins indexes h free w keeps =
    let differ = absent_differ t.name tables free in
    let ts = all_put tables old (schema_tree root h.owned (declared_of tables) ∷ []) t begins indexes h.trees in
    let moved = first_changed old new (trees_of (with_at (new_at t) tables)) (schema_tree root h.owned (declared_of tables)) (schema_tree now w.now_owned (schema.with_table t (declared_of tables))) ts w.holds
    (schema_moved old new h.owned (schema.with_table t (declared_of tables)) now w) (loses_known _ _ _ _ h.owned w.now_owned _ _ keeps h.trees.each.0.tree w.holds.tree) in
    record {
      tables = with_at (new_at t) tables;
      holds = record {
        owned = w.now_owned;
        trees = subst (λ (ds : List Table). HoldsTrees alone new (schema_tree now w.now_owned ds ∷ trees_of (with_at (new_at t) tables)))
            (ap (λ (d : Table). schema.with_table d (declared_of tables)) (sym (declared_new t)) ∙ sym (declared_with (new_at t) tables)) moved;
        fits = each_with ItFits (new_at t) tables tt h.fits;
      };
      shows = contents_with t tables differ ∙ ap (λ (o : Option StoredTable). cond (is_some o) (contents_of tables) (insert (contents_of tables) t.name (new_table t))) (sym (get_absent t.name tables free));
    }

pub created_before : {alone : Bool} (pages : PageMap) (root : ℕ) (t table : Table) (tables : List TableAt) → HoldsFor alone pages root tables → IsFoundAt t.name tables table → WrittenFor alone pages (with_table (contents_of tables) t) root
created_before pages root t table tables h w = record {
  tables = tables;
  holds = h;
  shows = ap (λ (o : Option StoredTable). cond (is_some o) (contents_of tables) (insert (contents_of tables) t.name (new_table t))) (sym (get_found t.name tables table w));
}
