-- One step of a call after another, over the same version.
use Rattle.std.proofs.Common.{◌≡◌, ◌∙◌, ℕ, ◌≤◌, List, Some, sym, subst}
use Rattle.denote.specs.Database.{Name}
use Rattle.sqlval.specs.Value.{Row}
use Rattle.store.specs.declared.error.StoreError.{StoreError}
use Rattle.store.specs.declared.error.StoreLimit.{StoreLimit}
use Rattle.store.specs.declared.error.StoreLimit.TheVariants as limit
use Rattle.store.specs.Contents.{Contents}
use Rattle.store.specs.Errors.{MayFail, ChangingReaches}
use Rattle.pagefile.specs.declared.header.FileHeader.{FileHeader}
use Rattle.pagefile.specs.Header.{IsHeader}
use Rattle.page_space.specs.Space.{ReadRefused, ChangeRefused}
use Rattle.page_space.specs.declared.error.SpaceError.{SpaceError}
use Rattle.page_space.specs.declared.error.SpaceError.TheVariants as fault
use Rattle.pool.specs.Pages.{PageMap, over}
use Rattle.pool.specs.Versions.{Versions}
use Rattle.overlay.specs.InUse.{in_use}
use Rattle.overlay.specs.Layers.{size_of}
use Rattle.overlay.specs.Whole.{IsFull, IsWholeOver, AtLimit}
use Rattle.stored_tables.specs.Held as plain
use Rattle.database_trees.specs.declared.error.DatabaseError.{DatabaseError}
use Rattle.database_trees.specs.Held.{TableAt, rows_of_tables, HoldsDatabase, HoldsNoDatabase, IsAllOwned, contents_of}
use Rattle.database_trees.specs.Changed.{DatabaseWritten, DatabaseOwned, HoldsNoDatabaseIn, SpaceRefused, StoringReaches, NumberingReaches}
use Rattle.database_versions.specs.Changed.{IsNow}
use Rattle.database_versions.specs.Databases.{root_of, contents_in, IsDatabase, IsOwned}
use Rattle.database_versions.specs.Refusals.{of_fault, of_rows, of_change, IsReached, IsCounted, RowsReach, NumbersEnd, NewRowsReach}
use Rattle.database_versions.proofs.HeldLemmas.{root_is}
use Rattle.database_versions.proofs.RefusalLemmas.{held_at, tables_held_at, read_fails, tables_fail, rows_refused, row_refused, table_refused, root_refused}

-- an error that is this one
pub fails_as : (sound : Type 0) (k n : ℕ) (reached : StoreLimit → Type 0) (error other : StoreError) → error ≡ other → MayFail sound k n reached other → MayFail sound k n reached error
fails_as sound k n reached error other is h = subst (λ (e : StoreError). MayFail sound k n reached e) (sym is) h

abbrev pub Says : PageMap → PageMap → FileHeader → Type 0
Says version written header = (first : List ℕ) → over written version 0 ≡ Some first → IsHeader first header

-- ---- reads

pub read_of : (P : Contents → Type 0) (version next written : PageMap) (header : FileHeader) → Says version written header → next ≡ version
    → ((tables : List plain.TableAt) → plain.HoldsTables (in_use next written) header.catalog_root tables → P (plain.contents_of tables)) → IsDatabase version written → P (contents_in version written)
read_of P version next written header says same read d =
    subst P (sym d.read) (read (rows_of_tables d.tables) (subst (λ (v : PageMap). plain.HoldsTables (in_use v written) header.catalog_root (rows_of_tables d.tables)) (sym same) (tables_held_at version written header says d)))

pub tables_fail_at : (version next written : PageMap) (header : FileHeader) (reached : StoreLimit → Type 0) (k m n : ℕ) (f : SpaceError) (error : StoreError) → error ≡ of_fault f → Says version written header → next ≡ version → k ≤ m
    → ReadRefused (plain.HoldsNoTables (in_use next written) header.catalog_root) m n f → MayFail (IsDatabase version written) k n reached error
tables_fail_at version next written header reached k m n f error is says same less h =
    fails_as (IsDatabase version written) k n reached error (of_fault f) is
    (tables_fail version written header reached k m n f says less (subst (λ (v : PageMap). ReadRefused (plain.HoldsNoTables (in_use v written) header.catalog_root) m n f) same h))

-- by its indexes
pub read_database : (P : Contents → Type 0) (version next written : PageMap) (header : FileHeader) → Says version written header → next ≡ version
    → ((tables : List TableAt) → HoldsDatabase (in_use next written) header.catalog_root tables → P (contents_of tables)) → IsDatabase version written → P (contents_in version written)
read_database P version next written header says same read d =
    subst P (sym d.read) (read d.tables (subst (λ (v : PageMap). HoldsDatabase (in_use v written) header.catalog_root d.tables) (sym same) (held_at version written header says d)))

pub database_fail_at : (version next written : PageMap) (header : FileHeader) (reached : StoreLimit → Type 0) (k m n : ℕ) (f : SpaceError) (error : StoreError) → error ≡ of_fault f → Says version written header → next ≡ version → k ≤ m
    → ReadRefused (HoldsNoDatabase (in_use next written) header.catalog_root) m n f → MayFail (IsDatabase version written) k n reached error
database_fail_at version next written header reached k m n f error is says same less h =
    fails_as (IsDatabase version written) k n reached error (of_fault f) is
    (read_fails (IsDatabase version written) (HoldsNoDatabase (in_use version written) header.catalog_root) reached k m n f less (λ d harm. harm d.tables (held_at version written header says d))
    (subst (λ (v : PageMap). ReadRefused (HoldsNoDatabase (in_use v written) header.catalog_root) m n f) same h))

-- ---- changes

module _ (change : Contents → Contents) (v0 v1 v2 written mid : PageMap) (header : FileHeader) (top : ℕ) (says : Says v0 written header) (first : v1 ≡ v0) (second : v2 ≡ v1)
    (made : (tables : List TableAt) → HoldsDatabase (in_use v1 written) header.catalog_root tables → DatabaseWritten (in_use v1 mid) (change (contents_of tables)) top)
    (whole : IsWholeOver v1 written → IsWholeOver v1 mid) where
  whole_now : IsDatabase v0 written → IsWholeOver v2 mid
  whole_now d = subst (λ (v : PageMap). IsWholeOver v mid) (sym second) (whole (subst (λ (v : PageMap). IsWholeOver v written) (sym first) d.whole))

  put_now : (d : IsDatabase v0 written) → DatabaseWritten (in_use v2 mid) (change (contents_in v0 written)) top
  put_now d = subst (λ (v : PageMap). DatabaseWritten (in_use v mid) (change (contents_in v0 written)) top) (sym second)
      (subst (λ (c : Contents). DatabaseWritten (in_use v1 mid) (change c) top) (sym d.read)
      (made d.tables (subst (λ (v : PageMap). HoldsDatabase (in_use v written) header.catalog_root d.tables) (sym first) (held_at v0 written header says d))))

  pub changed_of : (next : PageMap) → ((contents : Contents) → IsWholeOver v2 mid → DatabaseWritten (in_use v2 mid) contents top → IsNow v2 next contents) → IsDatabase v0 written → IsNow v0 next (change (contents_in v0 written))
  changed_of next put d = subst (λ (v : PageMap). IsNow v next (change (contents_in v0 written))) (second ∙ first) (put (change (contents_in v0 written)) (whole_now d) (put_now d))

  pub root_fails : (next : PageMap) (reached : StoreLimit → Type 0) (k m n : ℕ) (f : SpaceError) (error : StoreError) → error ≡ of_fault f → k ≤ m
      → (IsReached v0 next fault.Pages → reached limit.Pages) → (IsReached v0 next fault.Private → reached limit.Private)
      → ChangeRefused (AtLimit (over next v2 0) (size_of next)) ((contents : Contents) → IsWholeOver v2 mid → DatabaseWritten (in_use v2 mid) contents top → ⊥) m n f
      → MayFail (IsDatabase v0 written) k n reached error
  root_fails next reached k m n f error is less pages private h =
      fails_as (IsDatabase v0 written) k n reached error (of_fault f) is
      (root_refused v0 mid next ((contents : Contents) → IsWholeOver v2 mid → DatabaseWritten (in_use v2 mid) contents top → ⊥) (IsDatabase v0 written) reached k m n f less
      (λ d never. never (change (contents_in v0 written)) (whole_now d) (put_now d)) pages private
      (subst (λ (v : PageMap). ChangeRefused (AtLimit (over next v 0) (size_of next)) ((contents : Contents) → IsWholeOver v2 mid → DatabaseWritten (in_use v2 mid) contents top → ⊥) m n f) (second ∙ first) h))

-- the same where all pages are owned
pub owned_of : (change : Contents → Contents) (v0 v1 v2 written mid : PageMap) (header : FileHeader) (top : ℕ) → Says v0 written header → v1 ≡ v0 → v2 ≡ v1
    → ((tables : List TableAt) → IsAllOwned (in_use v1 written) header.catalog_root tables → DatabaseOwned (in_use v1 mid) (change (contents_of tables)) top)
    → (IsWholeOver v1 written → IsWholeOver v1 mid)
    → (next : PageMap) → ((contents : Contents) → IsFull v2 → IsWholeOver v2 mid → DatabaseOwned (in_use v2 mid) contents top → IsOwned v2 next) → IsOwned v0 written → IsOwned v0 next
owned_of change v0 v1 v2 written mid header top says first second made whole next put d =
    let root : root_of v0 written ≡ header.catalog_root = root_is v0 written header says d.is.whole in
    let held : IsAllOwned (in_use v1 written) header.catalog_root d.tables = subst (λ (v : PageMap). IsAllOwned (in_use v written) header.catalog_root d.tables) (sym first)
    (subst (λ (r : ℕ). IsAllOwned (in_use v0 written) r d.tables) root d.owned) in
    let whole_mid : IsWholeOver v2 mid = subst (λ (v : PageMap). IsWholeOver v mid) (sym second) (whole (subst (λ (v : PageMap). IsWholeOver v written) (sym first) d.is.whole)) in
    let put_mid : DatabaseOwned (in_use v2 mid) (change (contents_of d.tables)) top = subst (λ (v : PageMap). DatabaseOwned (in_use v mid) (change (contents_of d.tables)) top) (sym second) (made d.tables held) in
    subst (λ (v : PageMap). IsOwned v next) (second ∙ first) (put (change (contents_of d.tables)) (subst IsFull (sym (second ∙ first)) d.start) whole_mid put_mid)

module _ (v0 v1 written next : PageMap) (header : FileHeader) (k m n : ℕ) (cause : DatabaseError) (error : StoreError) (says : Says v0 written header) (first : v1 ≡ v0) (less : k ≤ m)
    (h : SpaceRefused (AtLimit (over next v1 0) (size_of next)) (HoldsNoDatabaseIn (in_use v1 written) header.catalog_root (IsWholeOver v1 written)) m n cause) where
  refused_there : SpaceRefused (AtLimit (over next v0 0) (size_of next)) (HoldsNoDatabaseIn (in_use v0 written) header.catalog_root (IsWholeOver v0 written)) m n cause
  refused_there =
      subst (λ (v : PageMap). SpaceRefused (AtLimit (over next v 0) (size_of next)) (HoldsNoDatabaseIn (in_use v written) header.catalog_root (IsWholeOver v written)) m n cause) first h

  pub rows_fail : (name : Name) (rows : List Row) → error ≡ of_rows cause → NumberingReaches (in_use v1 written) header.catalog_root name rows cause
      → MayFail (IsDatabase v0 written) k n (NewRowsReach (IsCounted v0 next) (NumbersEnd v0 written name rows) rows) error
  rows_fail name rows is numbers =
      fails_as (IsDatabase v0 written) k n (NewRowsReach (IsCounted v0 next) (NumbersEnd v0 written name rows) rows) error (of_rows cause) is
      (rows_refused v0 written next header k m n name rows cause says less (subst (λ (v : PageMap). NumberingReaches (in_use v written) header.catalog_root name rows cause) first numbers) refused_there)

  pub row_fail : (name : Name) (rows : List Row) → error ≡ of_rows cause → StoringReaches (in_use v1 written) header.catalog_root name rows cause
      → MayFail (IsDatabase v0 written) k n (RowsReach (IsCounted v0 next) rows) error
  row_fail name rows is limits =
      fails_as (IsDatabase v0 written) k n (RowsReach (IsCounted v0 next) rows) error (of_rows cause) is
      (row_refused v0 written next header k m n name rows cause says less (subst (λ (v : PageMap). StoringReaches (in_use v written) header.catalog_root name rows cause) first limits) refused_there)

  pub table_fail : error ≡ of_change cause → MayFail (IsDatabase v0 written) k n (ChangingReaches (IsCounted v0 next)) error
  table_fail is =
      fails_as (IsDatabase v0 written) k n (ChangingReaches (IsCounted v0 next)) error (of_change cause) is
      (table_refused v0 written next header k m n cause says less refused_there)

-- the same commit of the same versions
pub same_pages : (v w : Versions) (at now : ℕ) → w ≡ v → now ≡ at → w.pages now ≡ v.pages at
same_pages v w at now a b = λ i. (a i).pages (b i)
