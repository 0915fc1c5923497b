-- Trees that are given back, and a table that goes.
use Rattle.std.proofs.Common.{◌≡◌, ℕ, zero, suc, ◌+◌, ◌<◌, ◌≤◌, Bool, true, false, cond, List, [], ◌∷◌, ◌++◌, ◌⊎◌, inl, inr, length, map, take, drop, Option, Some, None, IsSome, Result, Ok, Err, IfOk, OnOk, refl, sym, ap, subst, ◌∙◌, arith, append_assoc, add-one}
use Rattle.std.specs.Prelude.{slice_index_or, ⊤}
use Rattle.std.proofs.Math.Seq.{take-length}
use Rattle.std.proofs.lemmas.List.{map-append, append-nil as append_nil}
use Rattle.std.proofs.lemmas.Cmp.{nat_list_cmp_total}
use Rattle.std.specs.List.{AllByRecursion}
use Rattle.std.specs.Ordering.{eq_by_cmp}
use Rattle.std.specs.FinMap.{find, get, remove, get-remove}
use Rattle.sqlval.specs.declared.schema.Index.{Index}
use Rattle.sqlval.specs.declared.schema.Table.{Table}
use Rattle.sqlval.specs.Comparison.{text_order}
use Rattle.sqlval.specs.Schema.{same_name}
use Rattle.denote.specs.Database.{Name}
use Rattle.store.specs.Contents.{Entry, StoredTable, without_table}
use Rattle.store.proofs.Databases.{same_tables}
use Rattle.page_space.specs.Space.{PageMap}
use Rattle.btree_read.specs.declared.entry.Entry as tree
use Rattle.btree_read.specs.Lists.{Has, Apart}
use Rattle.btree_read.specs.Tree.{IsTree}
use Rattle.btree_read.proofs.ListLemmas.{each_append, each_left, each_right, has_left, has_right, has_either, Parted, apart_parts, apart_join}
use Rattle.btree_read.proofs.NodeLemmas.{not_fresh}
use Rattle.btree.proofs.GrowLemmas.{has_or_not}
use Rattle.btree_remove.specs.Dropped.{AreDropped}
use Rattle.tablestore.specs.Held.{entries_of}
use Rattle.index_trees.specs.Indexed.{HoldsIndex}
use Rattle.catalog.specs.Held.{HoldsSchema}
use Rattle.catalog.specs.Left.{SchemaLeft}
use Rattle.btree.proofs.PageLossLemmas.{loses_left}
use Rattle.stored_tables.specs.Held as plain
use Rattle.stored_tables.proofs.NameLemmas.{name_from_tie, tie_itself, contents-get}
use Rattle.stored_tables.proofs.SchemaLemmas.{AreDifferent, names_differ}
use Rattle.database_trees.specs.Trees.{TreeAt, Lies, pages_of, HoldsTrees, IsMoved}
use Rattle.database_trees.specs.Held.{IndexAt, TableAt, indexes_declared, declared_at, declared_of, index_tree, trees_of_indexes, rows_tree, table_trees, trees_of, schema_tree, rows_at, rows_of_tables, HoldsFor, contents_of}
use Rattle.database_trees.specs.Changed.{WrittenFor}
use Rattle.stored_tables.specs.Named.{table_named}
use Rattle.database_trees.specs.Exchanged.{IsTableOf}
use Rattle.database_trees.specs.Dropped.{AreIndexes, AreTreesOf, TableGone, AreFreed}
use Rattle.database_trees.proofs.TreeLemmas.{pages_append, all_stay, all_used, owned_left, first_changed}
use Rattle.database_trees.proofs.FitLemmas.{fits_apart}
use Rattle.database_trees.proofs.DatabaseLemmas.{around_table, declared_middle}
use Rattle.stored_tables.proofs.NameLemmas.{not_tied}
use Rattle.database_trees.proofs.ContentLemmas.{IsFoundAt, rows_middle, get_absent}

-- ---- several trees given back

pub dropped_none : (old : PageMap) → AreDropped old old []
dropped_none old = record { gone = λ n h. absurd h; others = λ n h. refl }

pub dropped_on : (old mid new : PageMap) (one other : List ℕ) → AreDropped old mid one → AreDropped mid new other → AreDropped old new (one ++ other)
dropped_on old mid new one other w v = record {
  gone = λ n h. gone n (has_either n one other h) (has_or n);
  others = λ n h. v.others n (λ g. h (has_right n one other g)) ∙ w.others n (λ g. h (has_left n one other g));
}
  where
    has_or : (n : ℕ) → Has n other ⊎ (Has n other → ⊥)
    has_or n = has_or_not n other

    gone : (n : ℕ) → Has n one ⊎ Has n other → Has n other ⊎ (Has n other → ⊥) → new n ≡ None
    gone n h (inl g) = v.gone n g
    gone n (inl h) (inr g) = v.others n g ∙ w.gone n h
    gone n (inr h) (inr g) = absurd (g h)

pub trees_gone : {alone : Bool} (old new : PageMap) (before trees behind : List TreeAt) → HoldsTrees alone old (before ++ (trees ++ behind)) → AreDropped old new (pages_of trees) → HoldsTrees alone new (before ++ behind)
trees_gone old new before trees behind h dropped = record {
  each = each_append (Lies new) before behind
      (all_stay old new before (λ n i. dropped.others n (λ own. outer.none n i (has_left n (pages_of trees) (pages_of behind) own))) (each_left (Lies old) before (trees ++ behind) h.each))
      (all_stay old new behind (λ n i. dropped.others n (λ own. inner.none n own i)) (each_right (Lies old) trees behind (each_right (Lies old) before (trees ++ behind) h.each)));
  apart = subst Apart (sym (pages_append before behind)) (apart_join (pages_of before) (pages_of behind)
      (record { left = outer.left; right = inner.right; none = λ n i j. outer.none n i (has_right n (pages_of trees) (pages_of behind) j) }));
  all = λ a. owned_left old new (pages_of trees) before behind (λ n u. subst (Has n) parted (h.all a n u)) dropped;
}
  where
    parted : pages_of (before ++ (trees ++ behind)) ≡ pages_of before ++ (pages_of trees ++ pages_of behind)
    parted = pages_append before (trees ++ behind) ∙ ap (λ ns. pages_of before ++ ns) (pages_append trees behind)

    outer : Parted (pages_of before) (pages_of trees ++ pages_of behind)
    outer = apart_parts (pages_of before) (pages_of trees ++ pages_of behind) (subst Apart parted h.apart)

    inner : Parted (pages_of trees) (pages_of behind)
    inner = apart_parts (pages_of trees) (pages_of behind) outer.right

-- ---- the indexes of a table

-- the trees of the first indexes are given back
abbrev pub AreGone : Bool → PageMap → PageMap → List Index → ℕ → Type 0
AreGone alone old now indexes i = (h : AreIndexes alone old indexes) → AreDropped old now (pages_of (trees_of_indexes h.rows (take i h.its)))

pub gone_first : {alone : Bool} (old : PageMap) (indexes : List Index) → AreGone alone old old indexes 0
gone_first old indexes h = dropped_none old

pub record IsAt (its : List IndexAt) (i : ℕ) (x : Index) : Type 0 where
  pub at : IndexAt
  pub left : List IndexAt
  pub named : at.declared ≡ x
  pub first : take (suc i) its ≡ take i its ++ at ∷ []
  pub all : its ≡ take i its ++ at ∷ left

is_at : (its : List IndexAt) (i : ℕ) (x : Index) → i < length (indexes_declared its) → x ≡ slice_index_or (indexes_declared its) i x → IsAt its i x
is_at [] i x below is = absurd (omega (arith, below))
is_at (f ∷ its) zero x below is = record { at = f; left = its; named = sym is; first = refl; all = refl }
is_at (f ∷ its) (suc i) x below is =
    let w = is_at its i x (omega (arith, below)) is in
    record { at = w.at; left = w.left; named = w.named; first = ap (λ fs. f ∷ fs) w.first; all = ap (λ fs. f ∷ fs) w.all }

module _ (old mid : PageMap) (indexes : List Index) (i : ℕ) (x : Index) (below : i < length indexes) (is : x ≡ slice_index_or indexes i x) where
  pub place : {alone : Bool} (h : AreIndexes alone old indexes) → IsAt h.its i x
  place h = is_at h.its i x (subst (λ (ds : List Index). i < length ds) h.declared below) (is ∙ ap (λ (ds : List Index). slice_index_or ds i x) h.declared)

  its_trees : {alone : Bool} (h : AreIndexes alone old indexes) → (w : IsAt h.its i x) → HoldsTrees alone old (h.before ++ (trees_of_indexes h.rows (take i h.its) ++ (index_tree h.rows w.at ∷ (trees_of_indexes h.rows w.left ++ h.behind))))
  its_trees {alone} h w =
      let e : trees_of_indexes h.rows h.its ++ h.behind ≡ trees_of_indexes h.rows (take i h.its) ++ (index_tree h.rows w.at ∷ (trees_of_indexes h.rows w.left ++ h.behind)) =
      ap (λ (js : List IndexAt). trees_of_indexes h.rows js ++ h.behind) w.all ∙ ap (λ ts. ts ++ h.behind) (map-append (index_tree h.rows) (take i h.its) (w.at ∷ w.left))
      ∙ append_assoc (trees_of_indexes h.rows (take i h.its)) (index_tree h.rows w.at ∷ trees_of_indexes h.rows w.left) h.behind in
      subst (λ ts. HoldsTrees alone old (h.before ++ ts)) e h.trees

  -- the tree of the next one is still there
  pub tree_here : {alone : Bool} → AreGone alone old mid indexes i → (h : AreIndexes alone old indexes) → HoldsIndex mid x.root (place h).at.owned x.columns h.rows
  tree_here known h =
      let w = place h in
      let t = trees_gone old mid h.before (trees_of_indexes h.rows (take i h.its)) (index_tree h.rows w.at ∷ (trees_of_indexes h.rows w.left ++ h.behind)) (its_trees h w) (known h) in
      subst (λ (y : Index). HoldsIndex mid y.root w.at.owned y.columns h.rows) w.named (each_right (Lies mid) h.before (index_tree h.rows w.at ∷ (trees_of_indexes h.rows w.left ++ h.behind)) t.each).0

  pub gone_next : {alone : Bool} (new : PageMap) → AreGone alone old mid indexes i → ((owned : List ℕ) (entries : List tree.Entry) → IsTree mid x.root owned entries → AreDropped mid new owned) → AreGone alone old new indexes (i + 1)
  gone_next new known drops h =
      let w = place h in
      let one = drops w.at.owned (tree_here known h).entries (tree_here known h).tree in
      let e : pages_of (trees_of_indexes h.rows (take i h.its)) ++ w.at.owned ≡ pages_of (trees_of_indexes h.rows (take (i + 1) h.its)) =
      ap (λ ns. pages_of (trees_of_indexes h.rows (take i h.its)) ++ ns) (sym (append_nil w.at.owned))
      ∙ sym (pages_append (trees_of_indexes h.rows (take i h.its)) (index_tree h.rows w.at ∷ []))
      ∙ ap pages_of (sym (map-append (index_tree h.rows) (take i h.its) (w.at ∷ [])))
      ∙ ap (λ (js : List IndexAt). pages_of (trees_of_indexes h.rows js)) (sym w.first ∙ ap (λ k. take k h.its) (sym (add-one i))) in
      subst (AreDropped old new) e (dropped_on old mid new (pages_of (trees_of_indexes h.rows (take i h.its))) w.at.owned (known h) one)

declared_length : (its : List IndexAt) → length (indexes_declared its) ≡ length its
declared_length [] = refl
declared_length (f ∷ its) = ap suc (declared_length its)

pub gone_all : {alone : Bool} (old new : PageMap) (indexes : List Index) (i : ℕ) → i ≡ length indexes → AreGone alone old new indexes i → (h : AreIndexes alone old indexes) → AreDropped old new (pages_of (trees_of_indexes h.rows h.its))
gone_all old new indexes i is known h =
    subst (λ (js : List IndexAt). AreDropped old new (pages_of (trees_of_indexes h.rows js)))
    (ap (λ k. take k h.its) (is ∙ ap length h.declared ∙ declared_length h.its) ∙ take-length h.its) (known h)

-- ---- all trees of a table

abbrev pub indexes_then : {alone : Bool} (old mid : PageMap) (table : Table) → (h : AreTreesOf alone old table) → AreDropped old mid h.at.owned → AreIndexes alone mid table.indexes
indexes_then old mid table h dropped = record {
  before = h.before;
  its = h.at.indexes;
  behind = h.behind;
  rows = h.at.rows;
  declared = ap (λ (t : Table). t.indexes) (sym h.declared);
  trees = trees_gone old mid h.before (rows_tree h.at.root h.at.owned h.at.rows ∷ []) (trees_of_indexes h.at.rows h.at.indexes ++ h.behind) h.trees
      (subst (AreDropped old mid) (sym (append_nil h.at.owned)) dropped);
}

pub rows_tree_of : {alone : Bool} (old : PageMap) (table : Table) → (h : AreTreesOf alone old table) → IsTree old table.root h.at.owned (entries_of h.at.rows)
rows_tree_of old table h = subst (λ (t : Table). IsTree old t.root h.at.owned (entries_of h.at.rows)) h.declared (each_right (Lies old) h.before (table_trees h.at ++ h.behind) h.trees.each).0.tree

pub dropped_both : {E : Type 0} (result : Result ⊤ E) (old mid new : PageMap) (t : TableAt) → AreDropped old mid t.owned → OnOk result (AreDropped mid new (pages_of (trees_of_indexes t.rows t.indexes))) → OnOk result (AreDropped old new (pages_of (table_trees t)))
dropped_both (Ok x) old mid new t w h = dropped_on old mid new t.owned (pages_of (trees_of_indexes t.rows t.indexes)) w h
dropped_both (Err e) old mid new t w h = h

-- ---- the schema without it

pub left_moved : (old new : PageMap) (owned : List ℕ) (tables : List Table) (root : ℕ) → (w : SchemaLeft old new owned tables root) → IsMoved old new owned w.now_owned
left_moved old new owned tables root w = record {
  own = w.own;
  others = λ n h u. w.others n h (λ g. foreign n h u (w.own n g));
}
  where
    foreign : (n : ℕ) → (Has n owned → ⊥) → IsSome (old n) → Has n owned ⊎ (old n ≡ None) → ⊥
    foreign n h u (inl g) = h g
    foreign n h u (inr g) = not_fresh old n u g

pub trees_apart : (before behind : List TableAt) (t : TableAt) → trees_of before ++ trees_of behind ≡ trees_of (before ++ behind)
trees_apart [] behind t = refl
trees_apart (b ∷ before) behind t = append_assoc (table_trees b) (trees_of before) (trees_of behind) ∙ ap (λ ts. table_trees b ++ ts) (trees_apart before behind t)

module _ {alone : Bool} (old mid : PageMap) (root top : ℕ) (table : Table) (h : IsTableOf alone old root table) (w : SchemaLeft old mid h.holds.owned (declared_of h.before ++ declared_of h.behind) top) where
  pub left_trees : HoldsTrees alone mid (schema_tree top w.now_owned (declared_of h.before ++ declared_of h.behind) ∷ (trees_of h.before ++ (table_trees h.at ++ trees_of h.behind)))
  left_trees = first_changed old mid (trees_of h.before ++ (table_trees h.at ++ trees_of h.behind)) (schema_tree root h.holds.owned (declared_of h.before ++ table ∷ declared_of h.behind))
      (schema_tree top w.now_owned (declared_of h.before ++ declared_of h.behind)) (around_table old root table h) w.holds (left_moved old mid h.holds.owned (declared_of h.before ++ declared_of h.behind) top w) (loses_left old mid h.holds.owned w.now_owned w.gone w.others)

  abbrev pub trees_then : AreTreesOf alone mid table
  trees_then = record { before = schema_tree top w.now_owned (declared_of h.before ++ declared_of h.behind) ∷ trees_of h.before; at = h.at; behind = trees_of h.behind; declared = h.declared; trees = left_trees }

  pub table_gone : (new : PageMap) → AreDropped mid new (pages_of (table_trees h.at)) → TableGone alone new h.before h.at h.behind top
  table_gone new dropped =
      let t = trees_gone mid new (schema_tree top w.now_owned (declared_of h.before ++ declared_of h.behind) ∷ trees_of h.before) (table_trees h.at) (trees_of h.behind) left_trees dropped in
      record {
        holds = record {
          owned = w.now_owned;
          trees = subst (λ (ds : List Table). HoldsTrees alone new (schema_tree top w.now_owned ds ∷ trees_of (h.before ++ h.behind))) (sym (map-append declared_at h.before h.behind))
              (subst (λ (ts : List TreeAt). HoldsTrees alone new (schema_tree top w.now_owned (declared_of h.before ++ declared_of h.behind) ∷ ts)) (trees_apart h.before h.behind h.at) t);
          fits = fits_apart h.before h.behind h.at h.holds.fits;
        };
        gone = dropped.gone;
      }

-- ---- names

-- each of these tables has another name
abbrev pub Others : Name → List TableAt → Type 0
Others name tables = AllByRecursion (λ (u : TableAt). eq_by_cmp text_order name u.name ≡ false) tables

others_declared : (name : Name) (tables : List TableAt) → AllByRecursion (λ (u : Table). eq_by_cmp text_order name u.name ≡ false) (declared_of tables) → Others name tables
others_declared name [] h = tt
others_declared name (u ∷ tables) h = (h.0, others_declared name tables h.1)

behind_differ : (before behind : List TableAt) (t : TableAt) → AreDifferent (declared_of (before ++ t ∷ behind)) → Others t.name behind
behind_differ [] behind t h = others_declared t.name behind h.0
behind_differ (b ∷ before) behind t h = behind_differ before behind t h.1

pub others_behind : {alone : Bool} (pages : PageMap) (root : ℕ) (name : Name) (tables : List TableAt) (table : Table) → HoldsFor alone pages root tables → (w : IsFoundAt name tables table) → AllByRecursion (λ (u : TableAt). eq_by_cmp text_order name u.name ≡ false) w.behind
others_behind pages root name tables table h w =
    subst (λ (n : Name). Others n w.behind) w.named
    (behind_differ w.before w.behind w.at (subst (λ (ts : List TableAt). AreDifferent (declared_of ts)) w.is (names_differ pages root h.owned (declared_of tables) h.trees.each.0)))

not_named : (new : PageMap) (name : Name) (tables : List TableAt) → Others name tables → AreFreed new name tables
not_named new name [] h = tt
not_named new name (u ∷ tables) h = (λ same. absurd (differ u.name h.0 same), not_named new name tables h.1)
  where
    differ : (other : Name) → eq_by_cmp text_order name other ≡ false → other ≡ name → ⊥
    differ other e same = let bad : true ≡ false = sym (tie_itself name) ∙ subst (λ (n : Name). eq_by_cmp text_order name n ≡ false) same e in cc

pub all_freed : {alone : Bool} (new : PageMap) (name : Name) (tables : List TableAt) (table : Table) (root : ℕ) → (w : IsFoundAt name tables table) → AllByRecursion (λ (u : TableAt). eq_by_cmp text_order name u.name ≡ false) w.behind
    → TableGone alone new w.before w.at w.behind root → AreFreed new name tables
all_freed new name tables table root w behind g =
    subst (AreFreed new name) (sym w.is)
    (each_append (λ (t : TableAt). t.name ≡ name → (n : ℕ) → Has n (pages_of (table_trees t)) → new n ≡ None) w.before (w.at ∷ w.behind)
    (not_named new name w.before w.others) (λ same. g.gone, not_named new name w.behind behind))

pub absent_differ : (name : Name) (tables : List TableAt) → table_named name (declared_of tables) ≡ None → Others name tables
absent_differ name [] e = tt
absent_differ name (t ∷ tables) e = by (same_name t.name name) refl e (absent_differ name tables)
  where
    by : (b : Bool) → same_name t.name name ≡ b → cond b (Some (declared_at t)) (table_named name (declared_of tables)) ≡ None → (table_named name (declared_of tables) ≡ None → Others name tables) → Others name (t ∷ tables)
    by true q none again = absurd (cc)
    by false q none again = (not_tied name t.name q, again none)

pub none_freed : (new : PageMap) (name : Name) (tables : List TableAt) → table_named name (declared_of tables) ≡ None → AreFreed new name tables
none_freed new name tables e = not_named new name tables (absent_differ name tables e)

-- ---- what a store shows

find_none : (q name : Name) (tables : List TableAt) → q ≡ name → Others name tables → find text_order q (map plain.entry_at (rows_of_tables tables)) ≡ None
find_none q name [] same h = refl
find_none q name (u ∷ tables) same h =
    ap (λ b. cond b (Some (plain.stored_of (rows_at u))) (find text_order q (map plain.entry_at (rows_of_tables tables)))) (ap (λ n. eq_by_cmp text_order n u.name) same ∙ h.0) ∙ find_none q name tables same h.1

find_without : (q name : Name) (before behind : List TableAt) (t : TableAt) → t.name ≡ name → Others name before → Others name behind
    → find text_order q (map plain.entry_at (rows_of_tables (before ++ behind))) ≡ cond (eq_by_cmp text_order q name) None (find text_order q (map plain.entry_at (rows_of_tables (before ++ t ∷ behind))))
find_without q name [] behind t is first later = by (eq_by_cmp text_order q name) refl
  where
    by : (b : Bool) → eq_by_cmp text_order q name ≡ b → find text_order q (map plain.entry_at (rows_of_tables behind))
        ≡ cond b None (cond (eq_by_cmp text_order q t.name) (Some (plain.stored_of (rows_at t))) (find text_order q (map plain.entry_at (rows_of_tables behind))))
    by true e = find_none q name behind (name_from_tie q name e) later
    by false e = sym (ap (λ c. cond c (Some (plain.stored_of (rows_at t))) (find text_order q (map plain.entry_at (rows_of_tables behind)))) (ap (eq_by_cmp text_order q) is ∙ e))
find_without q name (b ∷ before) behind t is first later = by (eq_by_cmp text_order q name) refl (find_without q name before behind t is first.1 later)
  where
    by : (c : Bool) → eq_by_cmp text_order q name ≡ c
        → find text_order q (map plain.entry_at (rows_of_tables (before ++ behind))) ≡ cond c None (find text_order q (map plain.entry_at (rows_of_tables (before ++ t ∷ behind))))
        → cond (eq_by_cmp text_order q b.name) (Some (plain.stored_of (rows_at b))) (find text_order q (map plain.entry_at (rows_of_tables (before ++ behind))))
        ≡ cond c None (cond (eq_by_cmp text_order q b.name) (Some (plain.stored_of (rows_at b))) (find text_order q (map plain.entry_at (rows_of_tables (before ++ t ∷ behind)))))
    by true e again = ap (λ d. cond d (Some (plain.stored_of (rows_at b))) (find text_order q (map plain.entry_at (rows_of_tables (before ++ behind))))) (ap (λ n. eq_by_cmp text_order n b.name) (name_from_tie q name e) ∙ first.0) ∙ again
    by false e again = ap (cond (eq_by_cmp text_order q b.name) (Some (plain.stored_of (rows_at b)))) again

pub contents_without : (name : Name) (tables : List TableAt) (table : Table) → (w : IsFoundAt name tables table) → AllByRecursion (λ (u : TableAt). eq_by_cmp text_order name u.name ≡ false) w.behind
    → contents_of (w.before ++ w.behind) ≡ without_table (contents_of tables) name
contents_without name tables table w later = same_tables (contents_of (w.before ++ w.behind)) (remove (contents_of tables) name)
    (λ q. contents-get (rows_of_tables (w.before ++ w.behind)) q ∙ find_without q name w.before w.behind w.at w.named w.others later
    ∙ ap (λ (ts : List TableAt). cond (eq_by_cmp text_order q name) None (find text_order q (map plain.entry_at (rows_of_tables ts)))) (sym w.is)
    ∙ ap (cond (eq_by_cmp text_order q name) None) (sym (contents-get (rows_of_tables tables) q))
    ∙ sym (get-remove nat_list_cmp_total (contents_of tables) name q))

pub contents_absent : (name : Name) (tables : List TableAt) → table_named name (declared_of tables) ≡ None → contents_of tables ≡ without_table (contents_of tables) name
contents_absent name tables e = same_tables (contents_of tables) (remove (contents_of tables) name)
    (λ q. by q (eq_by_cmp text_order q name) refl ∙ sym (get-remove nat_list_cmp_total (contents_of tables) name q))
  where
    by : (q : Name) (b : Bool) → eq_by_cmp text_order q name ≡ b → get (contents_of tables) q ≡ cond (eq_by_cmp text_order q name) None (get (contents_of tables) q)
    by q true h = ap (get (contents_of tables)) (name_from_tie q name h) ∙ get_absent name tables e ∙ sym (ap (λ c. cond c None (get (contents_of tables) q)) h)
    by q false h = sym (ap (λ c. cond c None (get (contents_of tables) q)) h)

pub database_dropped : (alone : Bool) {E : Type 0} (result : Result ℕ E) (new : PageMap) (name : Name) (tables : List TableAt) (table : Table) → (w : IsFoundAt name tables table) → AllByRecursion (λ (u : TableAt). eq_by_cmp text_order name u.name ≡ false) w.behind
    → IfOk result (TableGone alone new w.before w.at w.behind) → IfOk result (WrittenFor alone new (without_table (contents_of tables) name))
database_dropped alone (Err e) new name tables table w later h = tt
database_dropped alone (Ok root) new name tables table w later h = record { tables = w.before ++ w.behind; holds = h.holds; shows = contents_without name tables table w later }

pub freed_by : (alone : Bool) {E : Type 0} (result : Result ℕ E) (new : PageMap) (name : Name) (tables : List TableAt) (table : Table) → (w : IsFoundAt name tables table) → AllByRecursion (λ (u : TableAt). eq_by_cmp text_order name u.name ≡ false) w.behind
    → IfOk result (TableGone alone new w.before w.at w.behind) → OnOk result (AreFreed new name tables)
freed_by alone (Err e) new name tables table w later h = tt
freed_by alone (Ok root) new name tables table w later h = all_freed new name tables table root w later h
