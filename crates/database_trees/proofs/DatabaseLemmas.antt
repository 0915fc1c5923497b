-- A table of a database, and the others around it.
use Rattle.std.proofs.Common.{◌≡◌, ℕ, ◌⊎◌, inl, inr, List, [], ◌∷◌, ◌++◌, map, Option, Some, None, IsSome, refl, sym, ap, subst, ◌∙◌, append_assoc, Bool, true, false}
use Rattle.std.proofs.lemmas.List.{map-append}
use Rattle.std.specs.List.{AllByRecursion}
use Rattle.sqlval.specs.declared.schema.Table.{Table}
use Rattle.store.specs.Contents.{Entry}
use Rattle.page_space.specs.Space.{PageMap}
use Rattle.btree_read.specs.Lists.{Apart, Has}
use Rattle.btree_read.proofs.ListLemmas.{each_left, each_right, has_left, has_right, has_either, Parted, apart_parts, apart_join}
use Rattle.catalog.specs.Held.{HoldsSchema}
use Rattle.tablestore.specs.Held.{HoldsRows, HoldsFitting, AreFitting}
use Rattle.btree_read.proofs.NodeLemmas.{not_fresh}
use Rattle.btree.specs.Kept.{LosesNone}
use Rattle.stored_tables.specs.Held as plain
use Rattle.database_trees.specs.declared.exchange.Exchange.{Exchange}
use Rattle.database_trees.specs.Trees.{TreeAt, Lies, pages_of, HoldsTrees, IsMoved}
use Rattle.database_trees.specs.Held.{IndexAt, TableAt, declared_at, declared_of, trees_of_indexes, rows_tree, table_trees, trees_of, schema_tree, rows_at, rows_of_tables, ItFits, HoldsFor}
use Rattle.database_trees.specs.Exchanged.{Exchanges, AreSameRows, IsUnsettled, IsWithRows, IsSettled, IsTableOf, RowsExchanged}
use Rattle.database_trees.proofs.FitLemmas.{its_fits, fits_around, fits_now}
use Rattle.database_trees.proofs.TreeLemmas.{trees_changed, all_used, all_stay, pages_append}

pub trees_middle : (before behind : List TableAt) (t : TableAt) → trees_of (before ++ t ∷ behind) ≡ trees_of before ++ (table_trees t ++ trees_of behind)
trees_middle [] behind t = refl
trees_middle (b ∷ before) behind t = ap (λ ts. table_trees b ++ ts) (trees_middle before behind t) ∙ sym (append_assoc (table_trees b) (trees_of before) (table_trees t ++ trees_of behind))

pub declared_middle : (before behind : List TableAt) (t : TableAt) → declared_of (before ++ t ∷ behind) ≡ declared_of before ++ declared_at t ∷ declared_of behind
declared_middle before behind t = map-append declared_at before (t ∷ behind)

-- the trees of a database, around one table
pub zipped : {alone : Bool} (pages : PageMap) (root : ℕ) (owned : List ℕ) (before behind : List TableAt) (t : TableAt) → HoldsTrees alone pages (schema_tree root owned (declared_of (before ++ t ∷ behind)) ∷ trees_of (before ++ t ∷ behind))
    → HoldsTrees alone pages (schema_tree root owned (declared_of before ++ declared_at t ∷ declared_of behind) ∷ (trees_of before ++ (table_trees t ++ trees_of behind)))
zipped {alone} pages root owned before behind t h =
    subst (λ (ds : List Table). HoldsTrees alone pages (schema_tree root owned ds ∷ (trees_of before ++ (table_trees t ++ trees_of behind)))) (declared_middle before behind t)
    (subst (λ (ts : List TreeAt). HoldsTrees alone pages (schema_tree root owned (declared_of (before ++ t ∷ behind)) ∷ ts)) (trees_middle before behind t) h)

pub unzipped : {alone : Bool} (pages : PageMap) (root : ℕ) (owned : List ℕ) (before behind : List TableAt) (t : TableAt) → HoldsTrees alone pages (schema_tree root owned (declared_of before ++ declared_at t ∷ declared_of behind) ∷ (trees_of before ++ (table_trees t ++ trees_of behind)))
    → AllByRecursion ItFits (before ++ t ∷ behind) → HoldsFor alone pages root (before ++ t ∷ behind)
unzipped {alone} pages root owned before behind t h fits = record {
  owned = owned;
  trees = subst (λ (ds : List Table). HoldsTrees alone pages (schema_tree root owned ds ∷ trees_of (before ++ t ∷ behind))) (sym (declared_middle before behind t))
      (subst (λ (ts : List TreeAt). HoldsTrees alone pages (schema_tree root owned (declared_of before ++ declared_at t ∷ declared_of behind) ∷ ts)) (sym (trees_middle before behind t)) h);
  fits = fits;
}

module _ {alone : Bool} (old : PageMap) (root : ℕ) (table : Table) (h : IsTableOf alone old root table) where
  pub around_table : HoldsTrees alone old (schema_tree root h.holds.owned (declared_of h.before ++ table ∷ declared_of h.behind) ∷ (trees_of h.before ++ (table_trees h.at ++ trees_of h.behind)))
  around_table = subst (λ (t : Table). HoldsTrees alone old (schema_tree root h.holds.owned (declared_of h.before ++ t ∷ declared_of h.behind) ∷ (trees_of h.before ++ (table_trees h.at ++ trees_of h.behind)))) h.declared
      (zipped old root h.holds.owned h.before h.behind h.at h.holds.trees)

  pub rows_of_it : HoldsRows old table.root h.at.owned h.at.rows
  rows_of_it = subst (λ (t : Table). HoldsRows old t.root h.at.owned h.at.rows) h.declared
      (each_right (Lies old) (trees_of h.before) (table_trees h.at ++ trees_of h.behind) around_table.each.1).0

  pub fits_of_it : AreFitting table.columns h.at.rows
  fits_of_it = subst (λ (t : Table). AreFitting t.columns h.at.rows) h.declared (its_fits h.before h.behind h.at h.holds.fits)

  pub fitting_of_it : HoldsFitting old table.root h.at.owned table.columns h.at.rows
  fitting_of_it = record { holds = rows_of_it; fits = fits_of_it }

  pub schema_of_it : HoldsSchema old root h.holds.owned (declared_of h.before ++ table ∷ declared_of h.behind)
  schema_of_it = around_table.each.0

  abbrev pub unsettled : (mid : PageMap) (top : ℕ) (now_owned : List ℕ) (rows left more : List Entry) (exchange : Exchange) → HoldsRows mid top now_owned rows → IsMoved old mid h.at.owned now_owned → LosesNone old mid h.at.owned now_owned
      → Exchanges exchange h.at.rows left more → AreSameRows (left ++ more) rows → IsUnsettled alone mid root table top exchange
  unsettled mid top now_owned rows left more exchange held moved loses exchanges same = record {
    owned = h.holds.owned;
    front = declared_of h.before;
    back = declared_of h.behind;
    before = trees_of h.before;
    behind = trees_of h.behind;
    at = h.at;
    now_owned = now_owned;
    rows = rows;
    left = left;
    more = more;
    declared = h.declared;
    trees = trees_changed old mid (schema_tree root h.holds.owned (declared_of h.before ++ table ∷ declared_of h.behind) ∷ trees_of h.before) (trees_of_indexes h.at.rows h.at.indexes ++ trees_of h.behind)
        (rows_tree h.at.root h.at.owned h.at.rows) (rows_tree top now_owned rows) around_table held moved loses;
    exchanges = exchanges;
    same = same;
  }

  pub rows_exchanged : (new : PageMap) (now : ℕ) (rows : List Entry) → AreFitting table.columns rows → IsSettled alone new (declared_of h.before) (declared_of h.behind) (trees_of h.before) (trees_of h.behind) h.at rows now → RowsExchanged alone new h.before h.at h.behind rows now
  rows_exchanged new now rows fits s =
      let here : AreFitting h.at.columns rows = subst (λ (t : Table). AreFitting t.columns rows) (sym h.declared) fits in
      record {
        now = s.now;
        kept = s.kept;
        holds = unzipped new now s.owned h.before h.behind s.now s.trees (fits_around h.before h.behind h.at s.now h.holds.fits (fits_now h.at s.now rows s.kept here));
      }

  pub rows_kept : (new : PageMap) (rows : List Entry) → new ≡ old → rows ≡ h.at.rows → RowsExchanged alone new h.before h.at h.behind rows root
  rows_kept new rows same e = record {
    now = h.at;
    kept = record { name = refl; stored = λ i. record { columns = h.at.columns; constraints = h.at.constraints; indexes = (plain.stored_of (rows_at h.at)).indexes; entries = sym e i } };
    holds = subst (λ (p : PageMap). HoldsFor alone p root (h.before ++ h.at ∷ h.behind)) (sym same) h.holds;
  }

abbrev pub table_in : {alone : Bool} (old mid : PageMap) (root : ℕ) (table : Table) → mid ≡ old → IsTableOf alone old root table → IsTableOf alone mid root table
table_in {alone} old mid root table same h = record { before = h.before; at = h.at; behind = h.behind; declared = h.declared; holds = subst (λ (p : PageMap). HoldsFor alone p root (h.before ++ h.at ∷ h.behind)) (sym same) h.holds }

-- ---- a database stays where no page in use changes

pub stays : (old new : PageMap) (root : ℕ) (tables : List TableAt) → ((n : ℕ) → IsSome (old n) → new n ≡ old n) → HoldsFor false old root tables → HoldsFor false new root tables
stays old new root tables same h =
    let ts : List TreeAt = schema_tree root h.owned (declared_of tables) ∷ trees_of tables in
    record { owned = h.owned; trees = record { each = all_stay old new ts (λ n i. same n (all_used old ts h.trees.each n i)) h.trees.each; apart = h.trees.apart; all = λ a. absurd (cc) }; fits = h.fits }

pub at_first : {alone : Bool} (pages : PageMap) → (alone ≡ true → (n : ℕ) → pages n ≡ None) → HoldsFor alone pages 0 []
at_first pages none = record { owned = []; trees = record { each = (record { tree = (refl, refl); range = tt; coded = tt; references = refl }, tt); apart = tt; all = λ a n u. absurd (not_fresh pages n u (none a n)) }; fits = tt }

-- ---- all pages are owned

pub as_any : (pages : PageMap) (root : ℕ) (tables : List TableAt) → HoldsFor true pages root tables → HoldsFor false pages root tables
as_any pages root tables h = record { owned = h.owned; trees = record { each = h.trees.each; apart = h.trees.apart; all = λ a. absurd (cc) }; fits = h.fits }

pub all_are_owned : (pages : PageMap) (root : ℕ) (tables : List TableAt) → (h : HoldsFor true pages root tables) → (n : ℕ) → IsSome (pages n) → Has n (h.owned ++ pages_of (trees_of tables))
all_are_owned pages root tables h = h.trees.all refl

pub owned_are_used : (pages : PageMap) (root : ℕ) (tables : List TableAt) → (h : HoldsFor true pages root tables) → (n : ℕ) → Has n (h.owned ++ pages_of (trees_of tables)) → IsSome (pages n)
owned_are_used pages root tables h = all_used pages (schema_tree root h.owned (declared_of tables) ∷ trees_of tables) h.trees.each

pub owned_stays : (old new : PageMap) (root : ℕ) (tables : List TableAt) → ((n : ℕ) → new n ≡ old n) → HoldsFor true old root tables → HoldsFor true new root tables
owned_stays old new root tables same h =
    let ts : List TreeAt = schema_tree root h.owned (declared_of tables) ∷ trees_of tables in
    record { owned = h.owned; trees = record { each = all_stay old new ts (λ n i. same n) h.trees.each; apart = h.trees.apart; all = λ a n u. h.trees.all a n (subst IsSome (same n) u) }; fits = h.fits }

-- ---- without its indexes

pub declared_rows : (tables : List TableAt) → declared_of tables ≡ plain.declared_of (rows_of_tables tables)
declared_rows [] = refl
declared_rows (t ∷ tables) = ap (λ ts. declared_at t ∷ ts) (declared_rows tables)

rows_each : (pages : PageMap) (tables : List TableAt) → AllByRecursion (Lies pages) (trees_of tables) → AllByRecursion (plain.HoldsIts pages) (rows_of_tables tables)
rows_each pages [] h = tt
rows_each pages (t ∷ tables) h = (h.0, rows_each pages tables (each_right (Lies pages) (trees_of_indexes t.rows t.indexes) (trees_of tables) h.1))

rows_fit : (tables : List TableAt) → AllByRecursion ItFits tables → AllByRecursion plain.ItFits (rows_of_tables tables)
rows_fit [] h = tt
rows_fit (t ∷ tables) h = (h.0, rows_fit tables h.1)

fewer : (n : ℕ) (tables : List TableAt) → Has n (plain.owned_by (rows_of_tables tables)) → Has n (pages_of (trees_of tables))
fewer n [] h = h
fewer n (t ∷ tables) h = by (has_either n t.owned (plain.owned_by (rows_of_tables tables)) h) (fewer n tables)
  where
    use_right : Has n (pages_of (trees_of tables)) → Has n (pages_of (trees_of_indexes t.rows t.indexes ++ trees_of tables))
    use_right g = subst (Has n) (sym (pages_append (trees_of_indexes t.rows t.indexes) (trees_of tables))) (has_right n (pages_of (trees_of_indexes t.rows t.indexes)) (pages_of (trees_of tables)) g)

    by : Has n t.owned ⊎ Has n (plain.owned_by (rows_of_tables tables)) → (Has n (plain.owned_by (rows_of_tables tables)) → Has n (pages_of (trees_of tables))) → Has n (t.owned ++ pages_of (trees_of_indexes t.rows t.indexes ++ trees_of tables))
    by (inl g) again = has_left n t.owned (pages_of (trees_of_indexes t.rows t.indexes ++ trees_of tables)) g
    by (inr g) again = has_right n t.owned (pages_of (trees_of_indexes t.rows t.indexes ++ trees_of tables)) (use_right (again g))

rows_apart : (tables : List TableAt) → Apart (pages_of (trees_of tables)) → Apart (plain.owned_by (rows_of_tables tables))
rows_apart [] h = tt
rows_apart (t ∷ tables) h =
    let p = apart_parts t.owned (pages_of (trees_of_indexes t.rows t.indexes ++ trees_of tables)) h in
    let q = apart_parts (pages_of (trees_of_indexes t.rows t.indexes)) (pages_of (trees_of tables)) (subst Apart (pages_append (trees_of_indexes t.rows t.indexes) (trees_of tables)) p.right) in
    apart_join t.owned (plain.owned_by (rows_of_tables tables)) (record {
      left = p.left;
      right = rows_apart tables q.right;
      none = λ n i j. p.none n i (subst (Has n) (sym (pages_append (trees_of_indexes t.rows t.indexes) (trees_of tables)))
          (has_right n (pages_of (trees_of_indexes t.rows t.indexes)) (pages_of (trees_of tables)) (fewer n tables j)));
    })

pub as_tables : {alone : Bool} (pages : PageMap) (root : ℕ) (tables : List TableAt) → HoldsFor alone pages root tables → plain.HoldsTables pages root (rows_of_tables tables)
as_tables pages root tables h =
    let p = apart_parts h.owned (pages_of (trees_of tables)) h.trees.apart in
    record {
      owned = h.owned;
      schema = subst (HoldsSchema pages root h.owned) (declared_rows tables) h.trees.each.0;
      rows = rows_each pages tables h.trees.each.1;
      fits = rows_fit tables h.fits;
      apart = apart_join h.owned (plain.owned_by (rows_of_tables tables)) (record { left = p.left; right = rows_apart tables p.right; none = λ n i j. p.none n i (fewer n tables j) });
    }
