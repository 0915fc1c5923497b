-- An index made over the rows of a table.
use Rattle.std.proofs.Common.{◌≡◌, ℕ, List, [], ◌∷◌, ◌++◌, map, length, Option, None, Result, Ok, Err, IfOk, refl, sym, ap, subst, ◌∙◌, ◌<◌, append_assoc, arith, Bool}
use Rattle.std.proofs.lemmas.List.{map-append}
use Rattle.std.specs.List.{AllByRecursion}
use Rattle.sqlval.specs.declared.schema.Index.{Index}
use Rattle.sqlval.specs.declared.schema.Table.{Table}
use Rattle.denote.specs.SchemaOf.{index_of}
use Rattle.denote.specs.Database.{Name, IndexDeclaration}
use Rattle.store.specs.Contents.{Entry, StoredTable, with_index, changed}
use Rattle.store.specs.Errors.{HasLongKey}
use Rattle.sqlval.specs.Value.{Row}
use Rattle.store.specs.View.{AreEntries}
use Rattle.store.specs.declared.rows.NumberedRow.{NumberedRow}
use Rattle.page_space.specs.Space.{PageMap}
use Rattle.btree_read.specs.Tree.{IsTree}
use Rattle.btree_read.proofs.ListLemmas.{each_append, each_left, each_right}
use Rattle.catalog_records.specs.Keepable.{ArePlaces, AreAmong, IsIndex, IsIndexOver, IsTable}
use Rattle.tablestore.specs.Held.{HoldsRows}
use Rattle.index_trees.specs.Indexed.{HoldsIndex, IndexWritten}
use Rattle.btree.specs.Kept.{LosesNoPage}
use Rattle.btree.proofs.PageLossLemmas.{loses_known}
use Rattle.stored_tables.specs.Held.{stored_of}
use Rattle.database_trees.specs.declared.exchange.Exchange.{Exchange}
use Rattle.database_trees.specs.Trees.{TreeAt, Lies, RowsOf, IndexOf, HoldsTrees}
use Rattle.database_trees.specs.Held.{IndexAt, TableAt, indexes_declared, declared_at, declared_of, index_tree, trees_of_indexes, table_trees, trees_of, schema_tree, rows_at, HoldsFor, contents_of}
use Rattle.database_trees.specs.Changed.{WrittenFor}
use Rattle.database_trees.specs.Exchanged.{IsLeft, HasLongKeyIn, with_root, IsExchangeable, HasTable, TablePut, IsTableOf}
use Rattle.database_trees.specs.Indexed.{table_indexed, IndexMade}
use Rattle.database_trees.proofs.TreeLemmas.{trees_changed, trees_put}
use Rattle.database_trees.proofs.RootLemmas.{IsBounded, small_root}
use Rattle.database_trees.proofs.SettleLemmas.{schema_held}
use Rattle.database_trees.proofs.IndexLemmas.{index_moved}
use Rattle.database_trees.proofs.RowLemmas.{more_apart, numbered}
use Rattle.database_trees.proofs.FitLemmas.{its_fits, fits_around}
use Rattle.database_trees.proofs.DatabaseLemmas.{zipped, unzipped, around_table}
use Rattle.database_trees.proofs.ContentLemmas.{IsFoundAt, changed_by}

pub no_entries : (pages : PageMap) (columns : List ℕ) → HoldsIndex pages 0 [] columns []
no_entries pages columns = record { entries = []; tree = (refl, refl); each = λ row h. absurd h; only = λ x h. absurd h }

-- all rows are to be put into an index of none
abbrev pub from_nothing : (pages mid : PageMap) (rows : ℕ) (columns owned : List ℕ) (held : List Entry) (exchange : Exchange) → exchange.taken ≡ None → AreEntries exchange.put held → HoldsRows pages rows owned held
    → IsExchangeable mid 0 columns exchange
from_nothing pages mid rows columns owned held exchange none are h = record {
  owned = [];
  held = [];
  left = [];
  more = held;
  index = no_entries mid columns;
  exchanges = record { taken = subst (λ (o : Option NumberedRow). IsLeft o [] []) (sym none) refl; put = are; apart = more_apart held [] h.kept (numbered pages rows owned held h) };
}

module _ {alone : Bool} (old mid : PageMap) (root : ℕ) (table : Table) (index : Index) (top : ℕ) (h : IsTableOf alone old root table) (w : IndexWritten old mid [] index.columns h.at.rows top) (keeps : LosesNoPage old mid 0 top) where
  abbrev pub new_index : IndexAt
  new_index = record { declared = with_root top index; owned = w.now_owned }

  abbrev pub its_others : List TreeAt
  its_others = trees_of h.before ++ (table_trees h.at ++ index_tree h.at.rows new_index ∷ trees_of h.behind)

  abbrev pub front_trees : List TreeAt
  front_trees = schema_tree root h.holds.owned (declared_of h.before ++ table ∷ declared_of h.behind) ∷ (trees_of h.before ++ table_trees h.at)

  joined : (ts : List TreeAt) → front_trees ++ ts ≡ schema_tree root h.holds.owned (declared_of h.before ++ table ∷ declared_of h.behind) ∷ (trees_of h.before ++ (table_trees h.at ++ ts))
  joined ts = ap (λ us. schema_tree root h.holds.owned (declared_of h.before ++ table ∷ declared_of h.behind) ∷ us) (append_assoc (trees_of h.before) (table_trees h.at) ts)

  pub with_it : HoldsTrees alone mid (schema_tree root h.holds.owned (declared_of h.before ++ table ∷ declared_of h.behind) ∷ its_others)
  with_it =
      let nothing : TreeAt = record { root = 0; owned = []; content = IndexOf index.columns [] } in
      let empty : IsTree old 0 [] [] = (refl, refl) in
      let was : HoldsTrees alone old (front_trees ++ nothing ∷ trees_of h.behind) =
      trees_put old front_trees (trees_of h.behind) nothing (subst (HoldsTrees alone old) (sym (joined (trees_of h.behind))) (around_table old root table h)) (no_entries old index.columns) refl in
      subst (HoldsTrees alone mid) (joined (index_tree h.at.rows new_index ∷ trees_of h.behind))
      (trees_changed old mid front_trees (trees_of h.behind) nothing (index_tree h.at.rows new_index) was w.holds (index_moved old mid [] index.columns h.at.rows top w) (loses_known old mid 0 top [] w.now_owned [] w.holds.entries keeps empty w.holds.tree))

  abbrev pub to_put_index : HasTable alone mid root table
  to_put_index = record { owned = h.holds.owned; front = declared_of h.before; back = declared_of h.behind; others = its_others; trees = with_it }

  pub range_indexed : IsBounded mid → ArePlaces index.columns → AreAmong (length table.columns) index.columns → IsTable (table_indexed table index top)
  range_indexed bounded places among =
      let was : IsTable table = (each_right IsTable (declared_of h.before) (table ∷ declared_of h.behind) (schema_held mid root table to_put_index).range).0 in
      record {
        root = was.root;
        columns = was.columns;
        constraints = was.constraints;
        indexes = each_append IsIndex table.indexes (with_root top index ∷ []) was.indexes (record { root = small_root mid top w.now_owned w.holds.entries bounded w.holds.tree; columns = places }, tt);
        constraints_over = was.constraints_over;
        indexes_over = each_append (IsIndexOver (length table.columns)) table.indexes (with_root top index ∷ []) was.indexes_over (among, tt);
      }

  abbrev pub now_with : TableAt
  now_with = record { name = h.at.name; columns = h.at.columns; constraints = h.at.constraints; root = h.at.root; owned = h.at.owned; rows = h.at.rows; indexes = h.at.indexes ++ new_index ∷ [] }

  declared_with : declared_at now_with ≡ table_indexed table index top
  declared_with =
      let q : indexes_declared (h.at.indexes ++ new_index ∷ []) ≡ table.indexes ++ with_root top index ∷ [] =
      map-append (λ (i : IndexAt). i.declared) h.at.indexes (new_index ∷ []) ∙ ap (λ (t : Table). t.indexes ++ with_root top index ∷ []) h.declared in
      λ i. record { name = (h.declared i).name; columns = (h.declared i).columns; constraints = (h.declared i).constraints; indexes = q i; root = (h.declared i).root }

  trees_with : table_trees now_with ++ trees_of h.behind ≡ table_trees h.at ++ index_tree h.at.rows new_index ∷ trees_of h.behind
  trees_with =
      ap (λ ts. record { root = h.at.root; owned = h.at.owned; content = RowsOf h.at.rows } ∷ (ts ++ trees_of h.behind)) (map-append (index_tree h.at.rows) h.at.indexes (new_index ∷ []))
      ∙ ap (λ ts. record { root = h.at.root; owned = h.at.owned; content = RowsOf h.at.rows } ∷ ts) (append_assoc (trees_of_indexes h.at.rows h.at.indexes) (index_tree h.at.rows new_index ∷ []) (trees_of h.behind))

  indexes_with : map index_of (indexes_declared (h.at.indexes ++ new_index ∷ [])) ≡ map index_of (indexes_declared h.at.indexes) ++ index_of index ∷ []
  indexes_with = ap (map index_of) (map-append (λ (i : IndexAt). i.declared) h.at.indexes (new_index ∷ [])) ∙ map-append index_of (indexes_declared h.at.indexes) (with_root top index ∷ [])

  pub index_made : (new : PageMap) (now : ℕ) → TablePut alone new (declared_of h.before) (table_indexed table index top) (declared_of h.behind) its_others now → IndexMade alone new h.before h.at h.behind index now
  index_made new now p = record {
    now = now_with;
    name = refl;
    stored = λ i. record { columns = h.at.columns; constraints = h.at.constraints; indexes = indexes_with i; entries = h.at.rows };
    holds = unzipped new now p.owned h.before h.behind now_with
        (subst (λ (t : Table). HoldsTrees alone new (schema_tree now p.owned (declared_of h.before ++ t ∷ declared_of h.behind) ∷ (trees_of h.before ++ (table_trees now_with ++ trees_of h.behind)))) (sym declared_with)
        (subst (λ (ts : List TreeAt). HoldsTrees alone new (schema_tree now p.owned (declared_of h.before ++ table_indexed table index top ∷ declared_of h.behind) ∷ (trees_of h.before ++ ts))) (sym trees_with) p.trees))
        (fits_around h.before h.behind h.at now_with h.holds.fits (its_fits h.before h.behind h.at h.holds.fits));
  }

pub database_indexed : (alone : Bool) {E : Type 0} (result : Result ℕ E) (new : PageMap) (name : Name) (tables : List TableAt) (table : Table) (index : Index) → (w : IsFoundAt name tables table)
    → IfOk result (IndexMade alone new w.before w.at w.behind index) → IfOk result (WrittenFor alone new (changed (with_index index) (contents_of tables) name))
database_indexed alone (Err e) new name tables table index w h = tt
database_indexed alone (Ok root) new name tables table index w h =
    record { tables = w.before ++ h.now ∷ w.behind; holds = h.holds; shows = changed_by name tables table (with_index index) h.now w h.name h.stored }

pub from_old : {E : Type 0} (result : Result ℕ E) (old mid new : PageMap) (columns : List ℕ) (held : List Entry) → mid ≡ old → IfOk result (IndexWritten mid new [] columns held) → IfOk result (IndexWritten old new [] columns held)
from_old result old mid new columns held same h = subst (λ (p : PageMap). IfOk result (IndexWritten p new [] columns held)) same h

pub long_one : (index : Index) (rows : List Row) → HasLongKeyIn index.columns rows → HasLongKey (index_of index ∷ []) rows
long_one index rows h = record { row = h.row; index = index_of index; one = h.one; among = (0, omega arith, refl); long = h.long }
