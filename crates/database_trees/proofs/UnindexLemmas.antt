-- Tables that lose the indexes of a name.
use Rattle.std.proofs.Common.{◌≡◌, ℕ, zero, suc, ◌+◌, ◌<◌, ◌≤◌, Bool, true, false, cond, List, [], ◌∷◌, ◌++◌, ◌⊎◌, inl, inr, length, map, take, drop, Option, Some, None, Result, Ok, Err, IfOk, OnOk, refl, sym, ap, subst, ◌∙◌, arith, append_assoc, add-one}
use Rattle.std.specs.Prelude.{slice_index_or, filter, not, if◌then◌else◌, ⊤}
use Rattle.std.proofs.Math.Seq.{take-length}
use Rattle.std.proofs.lemmas.List.{map-append, append-nil as append_nil}
use Rattle.std.proofs.lemmas.Cmp.{nat_list_cmp_total}
use Rattle.std.specs.List.{AllByRecursion, position_from}
use Rattle.std.specs.Option.{option_map}
use Rattle.std.specs.Ordering.{eq_by_cmp}
use Rattle.std.specs.FinMap.{find, get, entries, get-entries, get-from_entries}
use Rattle.sqlval.specs.declared.schema.Index.{Index}
use Rattle.sqlval.specs.declared.schema.Table.{Table}
use Rattle.sqlval.specs.Comparison.{text_order}
use Rattle.sqlval.specs.Schema.{is_named, index_in}
use Rattle.denote.specs.Database.{Name, IndexDeclaration}
use Rattle.denote.specs.SchemaOf.{index_of}
use Rattle.store.specs.Contents.{Entry, StoredTable, without_index, unindexed}
use Rattle.store.proofs.Databases.{same_tables}
use Rattle.page_space.specs.Space.{PageMap, ChangeRefused}
use Rattle.page_space.specs.declared.error.SpaceError.{SpaceError}
use Rattle.std.specs.Result.{IfErr, IsErrAnd}
use Rattle.std.proofs.lemmas.Result.{err_from_is_err_and}
use Rattle.btree.proofs.RefusalLemmas.{change_refused}
use Rattle.btree_read.specs.declared.entry.Entry as tree
use Rattle.btree_read.specs.Lists.{Has}
use Rattle.btree_read.specs.Tree.{IsTree}
use Rattle.btree_read.proofs.ListLemmas.{each_right, has_either}
use Rattle.btree.proofs.GrowLemmas.{has_or_not}
use Rattle.btree_remove.specs.Dropped.{AreDropped}
use Rattle.catalog_records.specs.Keepable.{IsIndex, IsIndexOver, IsTable}
use Rattle.index_trees.specs.Indexed.{HoldsIndex}
use Rattle.stored_tables.specs.Held as plain
use Rattle.stored_tables.proofs.NameLemmas.{contents-get}
use Rattle.database_trees.specs.Trees.{TreeAt, Lies, pages_of, HoldsTrees}
use Rattle.database_trees.specs.Held.{IndexAt, TableAt, indexes_declared, declared_at, declared_of, index_tree, trees_of_indexes, rows_tree, table_trees, trees_of, schema_tree, rows_at, rows_of_tables, HoldsFor, contents_of}
use Rattle.database_trees.specs.Changed.{WrittenFor}
use Rattle.database_trees.specs.Dropped.{AreIndexes}
use Rattle.database_trees.specs.Exchanged.{HasTable, TablePut, IsTableOf}
use Rattle.database_trees.specs.Unindexed.{without_named, table_without, kept_at, named_at, without_at, AreGiven, IndexesLeft, IndexesGone, TablesUnindexed}
use Rattle.database_trees.proofs.TreeLemmas.{pages_append, trees_dropped}
use Rattle.database_trees.proofs.SettleLemmas.{schema_held}
use Rattle.database_trees.proofs.FitLemmas.{its_fits, fits_around}
use Rattle.database_trees.proofs.DatabaseLemmas.{around_table, unzipped}

pub not_both : (b : Bool) → b ≡ true → b ≡ false → ⊥
not_both b e f = let bad : true ≡ false = sym e ∙ f in absurd (cc)

-- a refusal of the space at the exit of a `?`
pub exit_fault : {X : Type 0} (result : Result X SpaceError) (f : SpaceError) (A : SpaceError → Type 0) (H G : Type 0) (k b m : ℕ) → (H → G) → k ≤ b → IsErrAnd result (λ y. y ≡ f) → ChangeRefused A H b m f → IfErr result (ChangeRefused A G k m)
exit_fault result f A H G k b m more rises is h = let p = err_from_is_err_and result is in rw (p.1, p.2) (change_refused A H G k b m f rises more h)

-- ---- what is declared

declared_kept : (name : Name) (its : List IndexAt) → indexes_declared (kept_at name its) ≡ without_named name (indexes_declared its)
declared_kept name [] = refl
declared_kept name (i ∷ its) = by (is_named name i.declared.name) (declared_kept name its)
  where
    by : (b : Bool) → indexes_declared (kept_at name its) ≡ without_named name (indexes_declared its)
        → indexes_declared (if not b then i ∷ kept_at name its else kept_at name its) ≡ (if not b then i.declared ∷ without_named name (indexes_declared its) else without_named name (indexes_declared its))
    by true again = again
    by false again = ap (λ ds. i.declared ∷ ds) again

pub declared_without : (name : Name) (t : TableAt) → declared_at (without_at name t) ≡ table_without name (declared_at t)
declared_without name t = λ i. record { name = t.name; columns = t.columns; constraints = t.constraints; indexes = declared_kept name t.indexes i; root = t.root }

range_kept : (P : Index → Type 0) (name : Name) (indexes : List Index) → AllByRecursion P indexes → AllByRecursion P (without_named name indexes)
range_kept P name [] h = tt
range_kept P name (i ∷ indexes) h = by (is_named name i.name) (range_kept P name indexes h.1)
  where
    by : (b : Bool) → AllByRecursion P (without_named name indexes) → AllByRecursion P (if not b then i ∷ without_named name indexes else without_named name indexes)
    by true again = again
    by false again = (h.0, again)

pub range_without : {alone : Bool} (pages : PageMap) (root : ℕ) (table : Table) (name : Name) → HasTable alone pages root table → IsTable (table_without name table)
range_without pages root table name h =
    let was : IsTable table = (each_right IsTable h.front (table ∷ h.back) (schema_held pages root table h).range).0 in
    record {
      root = was.root;
      columns = was.columns;
      constraints = was.constraints;
      indexes = range_kept IsIndex name table.indexes was.indexes;
      constraints_over = was.constraints_over;
      indexes_over = range_kept (IsIndexOver (length table.columns)) name table.indexes was.indexes_over;
    }

-- no index has the name
none_named : (name : Name) (its : List IndexAt) (from : ℕ) → position_from (λ (i : Index). is_named name i.name) from (indexes_declared its) ≡ None → (kept_at name its ≡ its) × (named_at name its ≡ [])
none_named name [] from e = (refl, refl)
none_named name (i ∷ its) from e = by (is_named name i.declared.name) e (none_named name its (from + 1))
  where
    by : (b : Bool) → cond b (Some from) (position_from (λ (j : Index). is_named name j.name) (from + 1) (indexes_declared its)) ≡ None
        → (position_from (λ (j : Index). is_named name j.name) (from + 1) (indexes_declared its) ≡ None → (kept_at name its ≡ its) × (named_at name its ≡ []))
        → ((if not b then i ∷ kept_at name its else kept_at name its) ≡ i ∷ its) × ((if b then i ∷ named_at name its else named_at name its) ≡ [])
    by true found again = absurd (cc)
    by false none again = let w = again none in (ap (λ js. i ∷ js) w.0, w.1)

-- ---- trees given back, one after another

filter_more : {X : Type 0} (p : X → Bool) (xs : List X) (y : X) → filter p (xs ++ y ∷ []) ≡ filter p xs ++ (if p y then y ∷ [] else [])
filter_more p [] y = refl
filter_more p (x ∷ xs) y = by (p x) (filter_more p xs y)
  where
    by : (b : Bool) → filter p (xs ++ y ∷ []) ≡ filter p xs ++ (if p y then y ∷ [] else []) → (if b then x ∷ filter p (xs ++ y ∷ []) else filter p (xs ++ y ∷ [])) ≡ (if b then x ∷ filter p xs else filter p xs) ++ (if p y then y ∷ [] else [])
    by true again = ap (λ zs. x ∷ zs) again
    by false again = again

-- the first indexes without those of the name, the others as they were
pub record Midway (alone : Bool) (new : PageMap) (name : Name) (before : List TreeAt) (its : List IndexAt) (behind : List TreeAt) (rows : List Entry) (i : ℕ) : Type 0 where
  pub trees : HoldsTrees alone new (before ++ (trees_of_indexes rows (kept_at name (take i its)) ++ (trees_of_indexes rows (drop i its) ++ behind)))
  pub given : AreGiven new name (take i its) rows

abbrev pub MidwayBy : Bool → PageMap → PageMap → Name → List Index → ℕ → Type 0
MidwayBy alone old now name indexes i = (h : AreIndexes alone old indexes) → Midway alone now name h.before h.its h.behind h.rows i

pub midway_first : {alone : Bool} (old : PageMap) (name : Name) (indexes : List Index) → MidwayBy alone old old name indexes 0
midway_first old name indexes h = record { trees = h.trees; given = λ n i. absurd i }

pub record IsHere (its : List IndexAt) (i : ℕ) (x : Index) : Type 0 where
  pub at : IndexAt
  pub named : at.declared ≡ x
  pub first : take (suc i) its ≡ take i its ++ at ∷ []
  pub rest : drop i its ≡ at ∷ drop (suc i) its

pub is_here : (its : List IndexAt) (i : ℕ) (x : Index) → i < length (indexes_declared its) → x ≡ slice_index_or (indexes_declared its) i x → IsHere its i x
is_here [] i x below is = absurd (omega (arith, below))
is_here (f ∷ its) zero x below is = record { at = f; named = sym is; first = refl; rest = refl }
is_here (f ∷ its) (suc i) x below is =
    let w = is_here its i x (omega (arith, below)) is in
    record { at = w.at; named = w.named; first = ap (λ fs. f ∷ fs) w.first; rest = w.rest }

module _ {alone : Bool} (old mid : PageMap) (name : Name) (indexes : List Index) (i : ℕ) (x : Index) (below : i < length indexes) (is : x ≡ slice_index_or indexes i x) (known : MidwayBy alone old mid name indexes i) where
  pub place : (h : AreIndexes alone old indexes) → IsHere h.its i x
  place h = is_here h.its i x (subst (λ (ds : List Index). i < length ds) h.declared below) (is ∙ ap (λ (ds : List Index). slice_index_or ds i x) h.declared)

  around : (h : AreIndexes alone old indexes)
      → HoldsTrees alone mid ((h.before ++ trees_of_indexes h.rows (kept_at name (take i h.its))) ++ index_tree h.rows (place h).at ∷ (trees_of_indexes h.rows (drop (suc i) h.its) ++ h.behind))
  around h =
      let K : List TreeAt = trees_of_indexes h.rows (kept_at name (take i h.its)) in
      let w = place h in
      subst (HoldsTrees alone mid) (sym (append_assoc h.before K (index_tree h.rows w.at ∷ (trees_of_indexes h.rows (drop (suc i) h.its) ++ h.behind))))
      (subst (λ (js : List IndexAt). HoldsTrees alone mid (h.before ++ (K ++ (trees_of_indexes h.rows js ++ h.behind)))) w.rest (known h).trees)

  -- the tree of the next one is still there
  pub tree_here : (h : AreIndexes alone old indexes) → HoldsIndex mid x.root (place h).at.owned x.columns h.rows
  tree_here h =
      let w = place h in
      subst (λ (y : Index). HoldsIndex mid y.root w.at.owned y.columns h.rows) w.named
      (each_right (Lies mid) (h.before ++ trees_of_indexes h.rows (kept_at name (take i h.its))) (index_tree h.rows w.at ∷ (trees_of_indexes h.rows (drop (suc i) h.its) ++ h.behind)) (around h).each).0

  kept_now : (h : AreIndexes alone old indexes) → kept_at name (take (suc i) h.its) ≡ kept_at name (take i h.its) ++ (if not (is_named name (place h).at.declared.name) then (place h).at ∷ [] else [])
  kept_now h = ap (kept_at name) (place h).first ∙ filter_more (λ (j : IndexAt). not (is_named name j.declared.name)) (take i h.its) (place h).at

  named_now : (h : AreIndexes alone old indexes) → named_at name (take (suc i) h.its) ≡ named_at name (take i h.its) ++ (if is_named name (place h).at.declared.name then (place h).at ∷ [] else [])
  named_now h = ap (named_at name) (place h).first ∙ filter_more (λ (j : IndexAt). is_named name j.declared.name) (take i h.its) (place h).at

  is_it : (h : AreIndexes alone old indexes) (b : Bool) → is_named name x.name ≡ b → is_named name (place h).at.declared.name ≡ b
  is_it h b e = ap (λ (y : Index). is_named name y.name) (place h).named ∙ e

  one_gone : (new : PageMap) (h : AreIndexes alone old indexes) → is_named name x.name ≡ true → AreDropped mid new (place h).at.owned → Midway alone new name h.before h.its h.behind h.rows (suc i)
  one_gone new h e dropped =
      let w = place h in
      let K : List TreeAt = trees_of_indexes h.rows (kept_at name (take i h.its)) in
      let R : List TreeAt = trees_of_indexes h.rows (drop (suc i) h.its) ++ h.behind in
      let kept : kept_at name (take (suc i) h.its) ≡ kept_at name (take i h.its) =
      kept_now h ∙ ap (λ (b : Bool). kept_at name (take i h.its) ++ (if not b then w.at ∷ [] else [])) (is_it h true e) ∙ append_nil (kept_at name (take i h.its)) in
      let gone : named_at name (take (suc i) h.its) ≡ named_at name (take i h.its) ++ w.at ∷ [] =
      named_now h ∙ ap (λ (b : Bool). named_at name (take i h.its) ++ (if b then w.at ∷ [] else [])) (is_it h true e) in
      let pages : pages_of (trees_of_indexes h.rows (named_at name (take (suc i) h.its))) ≡ pages_of (trees_of_indexes h.rows (named_at name (take i h.its))) ++ w.at.owned =
      ap (λ (js : List IndexAt). pages_of (trees_of_indexes h.rows js)) gone
      ∙ ap pages_of (map-append (index_tree h.rows) (named_at name (take i h.its)) (w.at ∷ []))
      ∙ pages_append (trees_of_indexes h.rows (named_at name (take i h.its))) (index_tree h.rows w.at ∷ [])
      ∙ ap (λ ns. pages_of (trees_of_indexes h.rows (named_at name (take i h.its))) ++ ns) (append_nil w.at.owned) in
      record {
        trees = subst (λ (js : List IndexAt). HoldsTrees alone new (h.before ++ (trees_of_indexes h.rows js ++ R))) (sym kept)
            (subst (HoldsTrees alone new) (append_assoc h.before K R) (trees_dropped mid new (h.before ++ K) R (index_tree h.rows w.at) (around h) dropped));
        given = λ n j. now n (has_either n (pages_of (trees_of_indexes h.rows (named_at name (take i h.its)))) w.at.owned (subst (Has n) pages j)) (has_or_not n w.at.owned);
      }
    where
      now : (n : ℕ) → Has n (pages_of (trees_of_indexes h.rows (named_at name (take i h.its)))) ⊎ Has n (place h).at.owned → Has n (place h).at.owned ⊎ (Has n (place h).at.owned → ⊥) → new n ≡ None
      now n j (inl own) = dropped.gone n own
      now n (inl was) (inr other) = dropped.others n other ∙ (known h).given n was
      now n (inr own) (inr other) = absurd (other own)

  one_kept : (h : AreIndexes alone old indexes) → is_named name x.name ≡ false → Midway alone mid name h.before h.its h.behind h.rows (suc i)
  one_kept h e =
      let w = place h in
      let K : List TreeAt = trees_of_indexes h.rows (kept_at name (take i h.its)) in
      let R : List TreeAt = trees_of_indexes h.rows (drop (suc i) h.its) ++ h.behind in
      let kept : kept_at name (take (suc i) h.its) ≡ kept_at name (take i h.its) ++ w.at ∷ [] =
      kept_now h ∙ ap (λ (b : Bool). kept_at name (take i h.its) ++ (if not b then w.at ∷ [] else [])) (is_it h false e) in
      let gone : named_at name (take (suc i) h.its) ≡ named_at name (take i h.its) =
      named_now h ∙ ap (λ (b : Bool). named_at name (take i h.its) ++ (if b then w.at ∷ [] else [])) (is_it h false e) ∙ append_nil (named_at name (take i h.its)) in
      let joined : (h.before ++ K) ++ index_tree h.rows w.at ∷ R ≡ h.before ++ (trees_of_indexes h.rows (kept_at name (take (suc i) h.its)) ++ R) =
      append_assoc h.before K (index_tree h.rows w.at ∷ R)
      ∙ ap (λ ts. h.before ++ ts) (sym (append_assoc K (index_tree h.rows w.at ∷ []) R) ∙ ap (λ ts. ts ++ R) (sym (map-append (index_tree h.rows) (kept_at name (take i h.its)) (w.at ∷ []))) ∙ ap (λ (js : List IndexAt). trees_of_indexes h.rows js ++ R) (sym kept)) in
      record {
        trees = subst (HoldsTrees alone mid) joined (around h);
        given = λ n j. (known h).given n (subst (λ (js : List IndexAt). Has n (pages_of (trees_of_indexes h.rows js))) gone j);
      }

  pub midway_next : (new : PageMap) → (is_named name x.name ≡ true → (owned : List ℕ) (entries : List tree.Entry) → IsTree mid x.root owned entries → AreDropped mid new owned) → (is_named name x.name ≡ false → new ≡ mid)
      → MidwayBy alone old new name indexes (i + 1)
  midway_next new drops same h = subst (λ (k : ℕ). Midway alone new name h.before h.its h.behind h.rows k) (sym (add-one i)) (by (is_named name x.name) refl)
    where
      by : (b : Bool) → is_named name x.name ≡ b → Midway alone new name h.before h.its h.behind h.rows (suc i)
      by true e = one_gone new h e (drops e (place h).at.owned (tree_here h).entries (tree_here h).tree)
      by false e = subst (λ (p : PageMap). Midway alone p name h.before h.its h.behind h.rows (suc i)) (sym (same e)) (one_kept h e)

drop_all : {X : Type 0} (xs : List X) → drop (length xs) xs ≡ []
drop_all [] = refl
drop_all (x ∷ xs) = drop_all xs

declared_length : (its : List IndexAt) → length (indexes_declared its) ≡ length its
declared_length [] = refl
declared_length (f ∷ its) = ap suc (declared_length its)

pub midway_end : {alone : Bool} (old new : PageMap) (name : Name) (indexes : List Index) (i : ℕ) → i ≡ length indexes → MidwayBy alone old new name indexes i → (h : AreIndexes alone old indexes) → IndexesLeft alone new name h.before h.its h.behind h.rows
midway_end {alone} old new name indexes i is known h =
    let count : i ≡ length h.its = is ∙ ap length h.declared ∙ declared_length h.its in
    let all : take i h.its ≡ h.its = ap (λ k. take k h.its) count ∙ take-length h.its in
    let none : drop i h.its ≡ [] = ap (λ k. drop k h.its) count ∙ drop_all h.its in
    record {
      trees = subst (λ (js : List IndexAt). HoldsTrees alone new (h.before ++ (trees_of_indexes h.rows (kept_at name h.its) ++ (trees_of_indexes h.rows js ++ h.behind)))) none
          (subst (λ (js : List IndexAt). HoldsTrees alone new (h.before ++ (trees_of_indexes h.rows (kept_at name js) ++ (trees_of_indexes h.rows (drop i h.its) ++ h.behind)))) all (known h).trees);
      given = subst (λ (js : List IndexAt). AreGiven new name js h.rows) all (known h).given;
    }

-- ---- one table

module _ {alone : Bool} (old : PageMap) (root : ℕ) (table : Table) (name : Name) (h : IsTableOf alone old root table) where
  abbrev pub to_put_without : HasTable alone old root table
  to_put_without = record { owned = h.holds.owned; front = declared_of h.before; back = declared_of h.behind; others = trees_of h.before ++ (table_trees h.at ++ trees_of h.behind); trees = around_table old root table h }

  module _ (mid : PageMap) (top : ℕ) (p : TablePut alone mid (declared_of h.before) (table_without name table) (declared_of h.behind) (trees_of h.before ++ (table_trees h.at ++ trees_of h.behind)) top) where
    abbrev pub front_then : List TreeAt
    front_then = schema_tree top p.owned (declared_of h.before ++ table_without name table ∷ declared_of h.behind) ∷ (trees_of h.before ++ rows_tree h.at.root h.at.owned h.at.rows ∷ [])

    pub split : (ts : List TreeAt) → front_then ++ ts ≡ schema_tree top p.owned (declared_of h.before ++ table_without name table ∷ declared_of h.behind) ∷ (trees_of h.before ++ (rows_tree h.at.root h.at.owned h.at.rows ∷ ts))
    split ts = ap (λ us. schema_tree top p.owned (declared_of h.before ++ table_without name table ∷ declared_of h.behind) ∷ us) (append_assoc (trees_of h.before) (rows_tree h.at.root h.at.owned h.at.rows ∷ []) ts)

    abbrev pub to_drop : AreIndexes alone mid table.indexes
    to_drop = record {
      before = front_then;
      its = h.at.indexes;
      behind = trees_of h.behind;
      rows = h.at.rows;
      declared = ap (λ (t : Table). t.indexes) (sym h.declared);
      trees = subst (HoldsTrees alone mid) (sym (split (trees_of_indexes h.at.rows h.at.indexes ++ trees_of h.behind))) p.trees;
    }

    pub table_left : (new : PageMap) → IndexesLeft alone new name front_then h.at.indexes (trees_of h.behind) h.at.rows → IndexesGone alone new name h.before h.at h.behind top
    table_left new w = record {
      holds = unzipped new top p.owned h.before h.behind (without_at name h.at)
          (subst (λ (t : Table). HoldsTrees alone new (schema_tree top p.owned (declared_of h.before ++ t ∷ declared_of h.behind) ∷ (trees_of h.before ++ (table_trees (without_at name h.at) ++ trees_of h.behind))))
          (ap (table_without name) (sym h.declared) ∙ sym (declared_without name h.at))
          (subst (HoldsTrees alone new) (split (trees_of_indexes h.at.rows (kept_at name h.at.indexes) ++ trees_of h.behind)) w.trees))
          (fits_around h.before h.behind h.at (without_at name h.at) h.holds.fits (its_fits h.before h.behind h.at h.holds.fits));
      given = w.given;
    }

  -- where it has none of the name
  pub table_same : index_in name table ≡ None → IndexesGone alone old name h.before h.at h.behind root
  table_same none =
      let w = none_named name h.at.indexes 0 (ap (index_in name) h.declared ∙ none) in
      record {
        holds = subst (λ (js : List IndexAt). HoldsFor alone old root (h.before ++ record h.at { indexes = js } ∷ h.behind)) (sym w.0) h.holds;
        given = λ n j. absurd (subst (λ (js : List IndexAt). Has n (pages_of (trees_of_indexes h.at.rows js))) w.1 j);
      }

-- ---- all tables, one after another

abbrev pub MidwayTables : Bool → PageMap → PageMap → ℕ → Name → List Table → ℕ → ℕ → Type 0
MidwayTables alone old now root name tables i top = (its : List TableAt) → HoldsFor alone old root its → declared_of its ≡ tables → HoldsFor alone now top (map (without_at name) (take i its) ++ drop i its)

pub tables_first : {alone : Bool} (old : PageMap) (root : ℕ) (name : Name) (tables : List Table) → MidwayTables alone old old root name tables 0 root
tables_first old root name tables its h e = h

pub record IsNext (its : List TableAt) (i : ℕ) (x : Table) : Type 0 where
  pub at : TableAt
  pub named : declared_at at ≡ x
  pub first : take (suc i) its ≡ take i its ++ at ∷ []
  pub rest : drop i its ≡ at ∷ drop (suc i) its

pub is_next : (its : List TableAt) (i : ℕ) (x : Table) → i < length (declared_of its) → x ≡ slice_index_or (declared_of its) i x → IsNext its i x
is_next [] i x below is = absurd (omega (arith, below))
is_next (f ∷ its) zero x below is = record { at = f; named = sym is; first = refl; rest = refl }
is_next (f ∷ its) (suc i) x below is =
    let w = is_next its i x (omega (arith, below)) is in
    record { at = w.at; named = w.named; first = ap (λ fs. f ∷ fs) w.first; rest = w.rest }

module _ {alone : Bool} (old mid : PageMap) (root top : ℕ) (name : Name) (tables : List Table) (i : ℕ) (x : Table) (below : i < length tables) (is : x ≡ slice_index_or tables i x) (known : MidwayTables alone old mid root name tables i top) where
  pub next_place : (its : List TableAt) → declared_of its ≡ tables → IsNext its i x
  next_place its e = is_next its i x (subst (λ (ds : List Table). i < length ds) (sym e) below) (is ∙ ap (λ (ds : List Table). slice_index_or ds i x) (sym e))

  abbrev pub next_table : (its : List TableAt) → HoldsFor alone old root its → declared_of its ≡ tables → IsTableOf alone mid top x
  next_table its h e = record {
    before = map (without_at name) (take i its);
    at = (next_place its e).at;
    behind = drop (suc i) its;
    declared = (next_place its e).named;
    holds = subst (λ (ts : List TableAt). HoldsFor alone mid top (map (without_at name) (take i its) ++ ts)) (next_place its e).rest (known its h e);
  }

  pub tables_next : (new : PageMap) (now : ℕ) → ((h : IsTableOf alone mid top x) → IndexesGone alone new name h.before h.at h.behind now) → MidwayTables alone old new root name tables (i + 1) now
  tables_next new now one its h e =
      let w = next_place its e in
      let g = (one (next_table its h e)).holds in
      let joined : map (without_at name) (take i its) ++ without_at name w.at ∷ drop (suc i) its ≡ map (without_at name) (take (i + 1) its) ++ drop (i + 1) its =
      sym (append_assoc (map (without_at name) (take i its)) (without_at name w.at ∷ []) (drop (suc i) its))
      ∙ ap (λ ts. ts ++ drop (suc i) its) (sym (map-append (without_at name) (take i its) (w.at ∷ [])) ∙ ap (map (without_at name)) (sym w.first))
      ∙ ap (λ (k : ℕ). map (without_at name) (take k its) ++ drop k its) (sym (add-one i)) in
      subst (HoldsFor alone new now) joined g

tables_length : (its : List TableAt) → length (declared_of its) ≡ length its
tables_length [] = refl
tables_length (f ∷ its) = ap suc (tables_length its)

pub tables_end : {alone : Bool} (old new : PageMap) (root top : ℕ) (name : Name) (tables : List Table) (i : ℕ) → i ≡ length tables → MidwayTables alone old new root name tables i top
    → (its : List TableAt) → HoldsFor alone old root its → declared_of its ≡ tables → TablesUnindexed alone new name its top
tables_end {alone} old new root top name tables i is known its h e =
    let count : i ≡ length its = is ∙ ap length (sym e) ∙ tables_length its in
    let all : map (without_at name) (take i its) ++ drop i its ≡ map (without_at name) its =
    ap (λ k. map (without_at name) (take k its) ++ drop k its) count ∙ ap (λ ts. map (without_at name) ts ++ drop (length its) its) (take-length its)
    ∙ ap (λ ts. map (without_at name) its ++ ts) (drop_all its) ∙ append_nil (map (without_at name) its) in
    subst (HoldsFor alone new top) all (known its h e)

-- ---- what a store shows

option_map-cond : {X Y : Type 0} (f : X → Y) (b : Bool) (x y : Option X) → option_map f (cond b x y) ≡ cond b (option_map f x) (option_map f y)
option_map-cond f true x y = refl
option_map-cond f false x y = refl

find-mapped : (f : StoredTable → StoredTable) (name : Name) (es : List (Name × StoredTable)) → find text_order name (map (λ (e : Name × StoredTable). (e.0, f e.1)) es) ≡ option_map f (find text_order name es)
find-mapped f name [] = refl
find-mapped f name (e ∷ es) =
    ap (cond (eq_by_cmp text_order name e.0) (Some (f e.1))) (find-mapped f name es)
    ∙ sym (option_map-cond f (eq_by_cmp text_order name e.0) (Some e.1) (find text_order name es))

declared_indexes : (name : Name) (its : List IndexAt)
    → map index_of (indexes_declared (kept_at name its)) ≡ filter (λ (d : IndexDeclaration). not (is_named name d.name)) (map index_of (indexes_declared its))
declared_indexes name [] = refl
declared_indexes name (i ∷ its) = by (is_named name i.declared.name) (declared_indexes name its)
  where
    by : (b : Bool) → map index_of (indexes_declared (kept_at name its)) ≡ filter (λ (d : IndexDeclaration). not (is_named name d.name)) (map index_of (indexes_declared its))
        → map index_of (indexes_declared (if not b then i ∷ kept_at name its else kept_at name its))
        ≡ (if not b then index_of i.declared ∷ filter (λ (d : IndexDeclaration). not (is_named name d.name)) (map index_of (indexes_declared its)) else filter (λ (d : IndexDeclaration). not (is_named name d.name)) (map index_of (indexes_declared its)))
    by true again = again
    by false again = ap (λ ds. index_of i.declared ∷ ds) again

stored_without : (name : Name) (t : TableAt) → plain.stored_of (rows_at (without_at name t)) ≡ without_index name (plain.stored_of (rows_at t))
stored_without name t = λ i. record { columns = t.columns; constraints = t.constraints; indexes = declared_indexes name t.indexes i; entries = t.rows }

find_without : (q name : Name) (its : List TableAt) → find text_order q (map plain.entry_at (rows_of_tables (map (without_at name) its))) ≡ option_map (without_index name) (find text_order q (map plain.entry_at (rows_of_tables its)))
find_without q name [] = refl
find_without q name (t ∷ its) =
    ap (λ (o : Option StoredTable). cond (eq_by_cmp text_order q t.name) (Some (plain.stored_of (rows_at (without_at name t)))) o) (find_without q name its)
    ∙ ap (λ (s : StoredTable). cond (eq_by_cmp text_order q t.name) (Some s) (option_map (without_index name) (find text_order q (map plain.entry_at (rows_of_tables its))))) (stored_without name t)
    ∙ sym (option_map-cond (without_index name) (eq_by_cmp text_order q t.name) (Some (plain.stored_of (rows_at t))) (find text_order q (map plain.entry_at (rows_of_tables its))))

contents_unindexed : (name : Name) (its : List TableAt) → contents_of (map (without_at name) its) ≡ unindexed (contents_of its) name
contents_unindexed name its = same_tables (contents_of (map (without_at name) its)) (unindexed (contents_of its) name)
    (λ q. contents-get (rows_of_tables (map (without_at name) its)) q ∙ find_without q name its
    ∙ ap (option_map (without_index name)) (sym (contents-get (rows_of_tables its) q) ∙ get-entries (contents_of its) q)
    ∙ sym (find-mapped (without_index name) q (entries (contents_of its)))
    ∙ sym (get-from_entries nat_list_cmp_total _ q))

pub database_unindexed : (alone : Bool) {E : Type 0} (result : Result ℕ E) (new : PageMap) (name : Name) (its : List TableAt) → IfOk result (TablesUnindexed alone new name its) → IfOk result (WrittenFor alone new (unindexed (contents_of its) name))
database_unindexed alone (Err e) new name its h = tt
database_unindexed alone (Ok root) new name its h = record { tables = map (without_at name) its; holds = h; shows = contents_unindexed name its }
