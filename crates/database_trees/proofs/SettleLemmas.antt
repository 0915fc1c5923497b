-- The indexes of a table follow its rows, and the schema its roots.
use Rattle.std.proofs.Common.{◌≡◌, ℕ, ◌<◌, ◌^◌, List, [], ◌∷◌, ◌++◌, map, length, Option, Some, None, IsSome, Result, Ok, Err, IfOk, refl, sym, ap, subst, ◌∙◌, append_assoc, Bool}
use Rattle.std.specs.List.{AllByRecursion}
use Rattle.sqlval.specs.declared.schema.Index.{Index}
use Rattle.sqlval.specs.declared.schema.Table.{Table}
use Rattle.denote.specs.SchemaOf.{index_of}
use Rattle.store.specs.Contents.{Entry, StoredTable}
use Rattle.page_space.specs.Space.{PageMap}
use Rattle.btree_read.specs.Lists.{Has, Apart}
use Rattle.btree_read.proofs.ListLemmas.{each_append, each_left, each_right}
use Rattle.catalog_records.specs.Keepable.{IsIndex, IsIndexOver, IsTable}
use Rattle.catalog.specs.Held.{HoldsSchema}
use Rattle.catalog.specs.Changed.{SchemaWritten}
use Rattle.index_trees.specs.Indexed.{HoldsIndex}
use Rattle.index_trees.proofs.EntryLemmas.{index_of_rows}
use Rattle.btree.specs.Kept.{LosesNoPage}
use Rattle.btree.proofs.PageLossLemmas.{loses_known}
use Rattle.stored_tables.specs.Held.{stored_of}
use Rattle.database_trees.specs.declared.exchange.Exchange.{Exchange}
use Rattle.database_trees.specs.Trees.{TreeAt, Lies, pages_of, HoldsTrees, IsMoved}
use Rattle.database_trees.specs.Held.{IndexAt, TableAt, indexes_declared, declared_at, index_tree, trees_of_indexes, rows_tree, table_trees, schema_tree, rows_at}
use Rattle.database_trees.specs.Exchanged.{with_roots, table_with, AreExchangeable, AreExchanged, HasTable, TablePut, AreSameRows, IsUnsettled, IsWithRows, IsSettled}
use Rattle.database_trees.proofs.TreeLemmas.{first_changed, pages_append}
use Rattle.stored_tables.specs.Named.{table_named}
use Rattle.stored_tables.proofs.SchemaLemmas.{names_differ}
use Rattle.database_trees.proofs.NameLemmas.{named_itself}
use Rattle.database_trees.proofs.RootLemmas.{IsBounded, rows_root, range_roots, over_roots, same_declared}

-- ---- the schema

pub schema_moved : (old new : PageMap) (owned : List ℕ) (tables : List Table) (root : ℕ) → (w : SchemaWritten old new owned tables root) → IsMoved old new owned w.now_owned
schema_moved old new owned tables root w = record { own = w.own; others = w.others }

pub schema_held : {alone : Bool} (pages : PageMap) (root : ℕ) (table : Table) → (h : HasTable alone pages root table) → HoldsSchema pages root h.owned (h.front ++ table ∷ h.back)
schema_held pages root table h = h.trees.each.0

pub table_put : {alone : Bool} (old new : PageMap) (root top : ℕ) (table changed : Table) → (h : HasTable alone old root table) → SchemaWritten old new h.owned (h.front ++ changed ∷ h.back) top → LosesNoPage old new root top → TablePut alone new h.front changed h.back h.others top
table_put old new root top table changed h w keeps = record {
  owned = w.now_owned;
  trees = first_changed old new h.others (schema_tree root h.owned (h.front ++ table ∷ h.back)) (schema_tree top w.now_owned (h.front ++ changed ∷ h.back)) h.trees w.holds
      (schema_moved old new h.owned (h.front ++ changed ∷ h.back) top w) (loses_known _ _ _ _ h.owned w.now_owned _ _ keeps (schema_held old root table h).tree w.holds.tree);
}

-- what is there already
pub table_there : {alone : Bool} (pages : PageMap) (root : ℕ) (table changed : Table) → changed ≡ table → (h : HasTable alone pages root table) → TablePut alone pages h.front changed h.back h.others root
table_there {alone} pages root table changed e h =
    record { owned = h.owned; trees = subst (λ (t : Table). HoldsTrees alone pages (schema_tree root h.owned (h.front ++ t ∷ h.back) ∷ h.others)) (sym e) h.trees }

pub roots_there : (rows : ℕ) (roots : List ℕ) (table : Table) → table.root ≡ rows → with_roots roots table.indexes ≡ table.indexes → table_with rows roots table ≡ table
roots_there rows roots table r e = λ i. record { name = table.name; columns = table.columns; constraints = table.constraints; indexes = e i; root = sym r i }

-- ---- the indexes of the same rows

indexes_same : (pages : PageMap) (one other : List Entry) (its : List IndexAt) → AreSameRows one other → AllByRecursion (Lies pages) (trees_of_indexes one its) → AllByRecursion (Lies pages) (trees_of_indexes other its)
indexes_same pages one other [] same h = tt
indexes_same pages one other (i ∷ its) same h =
    (index_of_rows pages i.declared.root i.owned i.declared.columns one other same.to same.back h.0, indexes_same pages one other its same h.1)

pages_same : (one other : List Entry) (its : List IndexAt) → pages_of (trees_of_indexes one its) ≡ pages_of (trees_of_indexes other its)
pages_same one other [] = refl
pages_same one other (i ∷ its) = ap (λ ns. i.owned ++ ns) (pages_same one other its)

pub trees_same : {alone : Bool} (pages : PageMap) (before behind : List TreeAt) (one other : List Entry) (its : List IndexAt) → AreSameRows one other → HoldsTrees alone pages (before ++ (trees_of_indexes one its ++ behind))
    → HoldsTrees alone pages (before ++ (trees_of_indexes other its ++ behind))
trees_same pages before behind one other its same h = record {
  each = each_append (Lies pages) before (trees_of_indexes other its ++ behind) (each_left (Lies pages) before (trees_of_indexes one its ++ behind) h.each)
      (each_append (Lies pages) (trees_of_indexes other its) behind (indexes_same pages one other its same (each_left (Lies pages) (trees_of_indexes one its) behind rest))
      (each_right (Lies pages) (trees_of_indexes one its) behind rest));
  apart = subst Apart pages_then h.apart;
  all = λ a n u. subst (Has n) pages_then (h.all a n u);
}
  where
    pages_then : pages_of (before ++ (trees_of_indexes one its ++ behind)) ≡ pages_of (before ++ (trees_of_indexes other its ++ behind))
    pages_then = pages_append before (trees_of_indexes one its ++ behind) ∙ ap (λ ns. pages_of before ++ ns) (pages_append (trees_of_indexes one its) behind ∙ ap (λ ns. ns ++ pages_of behind) (pages_same one other its)
        ∙ sym (pages_append (trees_of_indexes other its) behind)) ∙ sym (pages_append before (trees_of_indexes other its ++ behind))

    rest : AllByRecursion (Lies pages) (trees_of_indexes one its ++ behind)
    rest = each_right (Lies pages) before (trees_of_indexes one its ++ behind) h.each

-- ---- the whole

module _ {alone : Bool} (old : PageMap) (root : ℕ) (table : Table) (rows_root_at : ℕ) (exchange : Exchange) (h : IsUnsettled alone old root table rows_root_at exchange) where
  abbrev pub schema_then : List TreeAt
  schema_then = schema_tree root h.owned (h.front ++ table ∷ h.back) ∷ (h.before ++ rows_tree rows_root_at h.now_owned h.rows ∷ [])

  pub split : (I : List TreeAt) → schema_then ++ (I ++ h.behind) ≡ schema_tree root h.owned (h.front ++ table ∷ h.back) ∷ (h.before ++ (rows_tree rows_root_at h.now_owned h.rows ∷ (I ++ h.behind)))
  split I = ap (λ ts. schema_tree root h.owned (h.front ++ table ∷ h.back) ∷ ts) (append_assoc h.before (rows_tree rows_root_at h.now_owned h.rows ∷ []) (I ++ h.behind))

  abbrev pub to_exchange : AreExchangeable alone old table.indexes exchange
  to_exchange = record {
    before = schema_then;
    its = h.at.indexes;
    behind = h.behind;
    held = h.at.rows;
    left = h.left;
    more = h.more;
    declared = ap (λ (t : Table). t.indexes) (sym h.declared);
    trees = subst (HoldsTrees alone old) (sym (split (trees_of_indexes h.at.rows h.at.indexes))) h.trees;
    exchanges = h.exchanges;
  }

  module _ (mid : PageMap) (roots : List ℕ) (w : AreExchanged alone mid schema_then table.indexes h.behind (h.left ++ h.more) roots) where
    pub with_rows_trees : HoldsTrees alone mid (schema_tree root h.owned (h.front ++ table ∷ h.back) ∷ (h.before ++ (rows_tree rows_root_at h.now_owned h.rows ∷ (trees_of_indexes h.rows w.its ++ h.behind))))
    with_rows_trees = subst (HoldsTrees alone mid) (split (trees_of_indexes h.rows w.its)) (trees_same mid schema_then h.behind (h.left ++ h.more) h.rows w.its h.same w.trees)

    abbrev pub to_put : HasTable alone mid root table
    to_put = record {
      owned = h.owned;
      front = h.front;
      back = h.back;
      others = h.before ++ (rows_tree rows_root_at h.now_owned h.rows ∷ (trees_of_indexes h.rows w.its ++ h.behind));
      trees = with_rows_trees;
    }

    pub range_then : IsBounded mid → IsTable (table_with rows_root_at roots table)
    range_then bounded =
        let was : IsTable table = (each_right IsTable h.front (table ∷ h.back) (schema_held mid root table to_put).range).0 in
        let its = each_right (Lies mid) h.before (rows_tree rows_root_at h.now_owned h.rows ∷ (trees_of_indexes h.rows w.its ++ h.behind)) with_rows_trees.each.1 in
        record {
          root = rows_root mid rows_root_at h.now_owned _ bounded its.0.tree;
          columns = was.columns;
          constraints = was.constraints;
          indexes = range_roots mid roots table.indexes w.its h.rows bounded w.declared was.indexes (each_left (Lies mid) (trees_of_indexes h.rows w.its) h.behind its.1);
          constraints_over = was.constraints_over;
          indexes_over = over_roots (length table.columns) roots table.indexes was.indexes_over;
        }

    abbrev pub now_at : TableAt
    now_at = record { name = h.at.name; columns = h.at.columns; constraints = h.at.constraints; root = rows_root_at; owned = h.now_owned; rows = h.rows; indexes = w.its }

    declared_now : declared_at now_at ≡ table_with rows_root_at roots table
    declared_now = λ i. record { name = (h.declared i).name; columns = (h.declared i).columns; constraints = (h.declared i).constraints; indexes = w.declared i; root = rows_root_at }

    indexes_kept : map index_of (indexes_declared w.its) ≡ map index_of (indexes_declared h.at.indexes)
    indexes_kept = ap (map index_of) w.declared ∙ same_declared roots table.indexes ∙ ap (λ (t : Table). map index_of t.indexes) (sym h.declared)

    kept_now : IsWithRows h.at h.rows now_at
    kept_now = record { name = refl; stored = λ i. record { columns = h.at.columns; constraints = h.at.constraints; indexes = indexes_kept i; entries = h.rows } }

    pub settled_by : (new : PageMap) (top : ℕ) → TablePut alone new h.front (table_with rows_root_at roots table) h.back (h.before ++ (rows_tree rows_root_at h.now_owned h.rows ∷ (trees_of_indexes h.rows w.its ++ h.behind))) top
        → IsSettled alone new h.front h.back h.before h.behind h.at h.rows top
    settled_by new top p = record {
      now = now_at;
      owned = p.owned;
      kept = kept_now;
      trees = subst (λ (t : Table). HoldsTrees alone new (schema_tree top p.owned (h.front ++ t ∷ h.back) ∷ (h.before ++ (table_trees now_at ++ h.behind)))) (sym declared_now) p.trees;
    }

-- ---- the table, found again by its name

abbrev pub has_table : {alone : Bool} (old mid : PageMap) (root : ℕ) (table : Table) → mid ≡ old → HasTable alone old root table → HasTable alone mid root table
has_table {alone} old mid root table same h = record {
  owned = h.owned;
  front = h.front;
  back = h.back;
  others = h.others;
  trees = subst (λ (p : PageMap). HoldsTrees alone p (schema_tree root h.owned (h.front ++ table ∷ h.back) ∷ h.others)) (sym same) h.trees;
}

itself : {alone : Bool} (pages : PageMap) (root : ℕ) (table : Table) → (h : HasTable alone pages root table) → table_named table.name (h.front ++ table ∷ h.back) ≡ Some table
itself pages root table h = named_itself h.front h.back table (names_differ pages root h.owned (h.front ++ table ∷ h.back) (schema_held pages root table h))

pub itself_found : {alone : Bool} (pages : PageMap) (root : ℕ) (table found : Table) {o : Option Table} → (h : HasTable alone pages root table) → o ≡ table_named table.name (h.front ++ table ∷ h.back) → o ≡ Some found → found ≡ table
itself_found pages root table found h e is = some_is found table (sym is ∙ e ∙ itself pages root table h)
  where
    some_is : (a b : Table) → Some a ≡ Some b → a ≡ b
    some_is a b q = cc

pub itself_absent : {alone : Bool} (pages : PageMap) (root : ℕ) (table : Table) {o : Option Table} → (h : HasTable alone pages root table) → o ≡ table_named table.name (h.front ++ table ∷ h.back) → o ≡ None → ⊥
itself_absent pages root table h e is = let bad : Some table ≡ None = sym (itself pages root table h) ∙ sym e ∙ is in absurd (cc)
