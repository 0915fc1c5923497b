-- Refusals of a store, from those of what it stands on.
use Rattle.std.proofs.Common.{◌≡◌, ℕ, ◌+◌, ◌^◌, ◌-◌, ◌<◌, ◌≤◌, List, length, Option, Some, Result, Ok, Err, IfErr, refl, sym, subst, arith, inl, inr}
use Rattle.std.specs.Prelude.{min}
use Rattle.std.specs.FinMap.{get}
use Rattle.disk.specs.Refused as device
use Rattle.denote.specs.Database.{Name}
use Rattle.sqlval.specs.Value.{Row}
use Rattle.store.specs.declared.error.StoreError.{StoreError}
use Rattle.store.specs.declared.error.StoreError.TheVariants as refused
use Rattle.store.specs.declared.error.StoreLimit.{StoreLimit}
use Rattle.store.specs.declared.error.StoreLimit.TheVariants as limit
use Rattle.store.specs.Contents.{StoredTable, Contents, next_number}
use Rattle.store.specs.Errors.{HasRisen, MayFail, StoringReaches, ChangingReaches, CommittingReaches}
use Rattle.store.specs.Indexes.{entries_of}
use Rattle.pagefile.specs.declared.header.FileHeader.{FileHeader}
use Rattle.pagefile.specs.Header.{IsHeader}
use Rattle.page_space.specs.Space.{ReadRefused, ChangeRefused}
use Rattle.page_space.specs.declared.error.SpaceError.{SpaceError}
use Rattle.page_space.specs.declared.error.SpaceError.TheVariants as fault
use Rattle.pool.specs.Pages.{PageMap, over}
use Rattle.pool.specs.Refused.{CommitRefused, IsOfDevice}
use Rattle.pool.specs.declared.error.PoolError.{PoolError}
use Rattle.pool.specs.declared.error.PoolError.TheVariants as pool
use Rattle.overlay.specs.InUse.{in_use}
use Rattle.overlay.specs.Layers.{size_of}
use Rattle.overlay.specs.Whole.{IsWholeOver, IsSaid, AtLimit}
use Rattle.stored_tables.specs.Held as plain
use Rattle.database_trees.specs.declared.error.DatabaseError.{DatabaseError}
use Rattle.database_trees.specs.declared.error.DatabaseError.TheVariants as change
use Rattle.database_trees.specs.Held.{rows_of_tables, HoldsDatabase}
use Rattle.database_trees.specs.Changed.{HoldsNoDatabaseIn, SpaceRefused, StoringReaches as StoringReachesIn, NumberingReaches}
use Rattle.database_trees.proofs.DatabaseLemmas.{as_tables}
use Rattle.database_versions.specs.Databases.{IsDatabase}
use Rattle.database_versions.specs.Refusals.{of_fault, of_pool, of_change, of_rows, IsReached, IsCounted, RowsReach, NumbersEnd, NewRowsReach}
use Rattle.database_versions.proofs.HeldLemmas.{root_is}

risen_on : (top k m n : ℕ) → k ≤ m → min (m + 1) top ≤ n → min (k + 1) top ≤ n
risen_on top k m n less more = omega (arith, less, more)

pub has_risen : (k m n : ℕ) → k ≤ m → device.CountHasRisen m n → HasRisen k n
has_risen k m n less h = risen_on (2 ^ 64 - 1) k m n less h.more

pub read_fails : (sound harm : Type 0) (reached : StoreLimit → Type 0) (k m n : ℕ) (f : SpaceError) → k ≤ m → (sound → harm → ⊥) → ReadRefused harm m n f → MayFail sound k n reached (of_fault f)
read_fails sound harm reached k m n fault.Memory less never h = tt
read_fails sound harm reached k m n fault.Disk less never h = has_risen k m n less h
read_fails sound harm reached k m n fault.Damaged less never h = λ s. never s h
read_fails sound harm reached k m n fault.Pages less never h = absurd h
read_fails sound harm reached k m n fault.Private less never h = absurd h

-- page 0 of a database is a header
pub header_fails : (version written : PageMap) (reached : StoreLimit → Type 0) (k n : ℕ) (f : SpaceError) → ReadRefused ((header : FileHeader) → IsSaid (over written version 0) header → ⊥) k n f
    → MayFail (IsDatabase version written) k n reached (of_fault f)
header_fails version written reached k n f h = read_fails (IsDatabase version written) ((header : FileHeader) → IsSaid (over written version 0) header → ⊥) reached k k n f (omega arith)
    (λ d harm. let w = d.whole.whole in harm w.0 (said (over written version 0) w.1.first w.0 w.1.there (w.1.says, w.1.bounds))) h
  where
    said : (o : Option (List ℕ)) (first : List ℕ) (header : FileHeader) → o ≡ Some first → IsSaid (Some first) header → IsSaid o header
    said o first header there is = subst (λ (p : Option (List ℕ)). IsSaid p header) (sym there) is

-- a database is held at the root that the header names
pub held_at : (version written : PageMap) (header : FileHeader) → ((first : List ℕ) → over written version 0 ≡ Some first → IsHeader first header) → (d : IsDatabase version written)
    → HoldsDatabase (in_use version written) header.catalog_root d.tables
held_at version written header says d = subst (λ (r : ℕ). HoldsDatabase (in_use version written) r d.tables) (root_is version written header says d.whole) d.holds

pub tables_held_at : (version written : PageMap) (header : FileHeader) → ((first : List ℕ) → over written version 0 ≡ Some first → IsHeader first header) → (d : IsDatabase version written)
    → plain.HoldsTables (in_use version written) header.catalog_root (rows_of_tables d.tables)
tables_held_at version written header says d = as_tables (in_use version written) header.catalog_root d.tables (held_at version written header says d)

pub tables_fail : (version written : PageMap) (header : FileHeader) (reached : StoreLimit → Type 0) (k m n : ℕ) (f : SpaceError)
    → ((first : List ℕ) → over written version 0 ≡ Some first → IsHeader first header) → k ≤ m
    → ReadRefused ((tables : List plain.TableAt) → plain.HoldsTables (in_use version written) header.catalog_root tables → ⊥) m n f → MayFail (IsDatabase version written) k n reached (of_fault f)
tables_fail version written header reached k m n f says less h =
    read_fails (IsDatabase version written) ((tables : List plain.TableAt) → plain.HoldsTables (in_use version written) header.catalog_root tables → ⊥) reached k m n f less
    (λ d harm. harm (rows_of_tables d.tables) (tables_held_at version written header says d)) h

-- ---- changes

-- where a database is held at the root, the numbers end
numbers_end : (version written : PageMap) (header : FileHeader) (name : Name) (rows : List Row) → ((first : List ℕ) → over written version 0 ≡ Some first → IsHeader first header)
    → NumberingReaches (in_use version written) header.catalog_root name rows change.Number → NumbersEnd version written name rows
numbers_end version written header name rows says numbers d =
    subst (λ (c : Contents). 2 ^ 63 < next_number (entries_of (get c name)) + length rows) (sym d.read) (numbers d.tables (held_at version written header says d))

pub rows_refused : (version written next : PageMap) (header : FileHeader) (k m n : ℕ) (name : Name) (rows : List Row) (error : DatabaseError)
    → ((first : List ℕ) → over written version 0 ≡ Some first → IsHeader first header) → k ≤ m → NumberingReaches (in_use version written) header.catalog_root name rows error
    → SpaceRefused (AtLimit (over next version 0) (size_of next)) (HoldsNoDatabaseIn (in_use version written) header.catalog_root (IsWholeOver version written)) m n error
    → MayFail (IsDatabase version written) k n (NewRowsReach (IsCounted version next) (NumbersEnd version written name rows) rows) (of_rows error)
rows_refused version written next header k m n name rows (change.Space fault.Memory) says less numbers h = tt
rows_refused version written next header k m n name rows (change.Space fault.Disk) says less numbers h = has_risen k m n less h
rows_refused version written next header k m n name rows (change.Space fault.Damaged) says less numbers h = λ d. h d.tables (held_at version written header says d) d.whole
rows_refused version written next header k m n name rows (change.Space fault.Pages) says less numbers h = inl h
rows_refused version written next header k m n name rows (change.Space fault.Private) says less numbers h = h
rows_refused version written next header k m n name rows change.Record says less numbers h = numbers
rows_refused version written next header k m n name rows change.Key says less numbers h = tt
rows_refused version written next header k m n name rows change.Schema says less numbers h = tt
rows_refused version written next header k m n name rows change.Number says less numbers h = inr (numbers_end version written header name rows says numbers)

-- where no number is given, none is refused
pub row_refused : (version written next : PageMap) (header : FileHeader) (k m n : ℕ) (name : Name) (rows : List Row) (error : DatabaseError)
    → ((first : List ℕ) → over written version 0 ≡ Some first → IsHeader first header) → k ≤ m → StoringReachesIn (in_use version written) header.catalog_root name rows error
    → SpaceRefused (AtLimit (over next version 0) (size_of next)) (HoldsNoDatabaseIn (in_use version written) header.catalog_root (IsWholeOver version written)) m n error
    → MayFail (IsDatabase version written) k n (RowsReach (IsCounted version next) rows) (of_rows error)
row_refused version written next header k m n name rows (change.Space fault.Memory) says less limits h = tt
row_refused version written next header k m n name rows (change.Space fault.Disk) says less limits h = has_risen k m n less h
row_refused version written next header k m n name rows (change.Space fault.Damaged) says less limits h = λ d. h d.tables (held_at version written header says d) d.whole
row_refused version written next header k m n name rows (change.Space fault.Pages) says less limits h = h
row_refused version written next header k m n name rows (change.Space fault.Private) says less limits h = h
row_refused version written next header k m n name rows change.Record says less limits h = limits
row_refused version written next header k m n name rows change.Key says less limits h = tt
row_refused version written next header k m n name rows change.Schema says less limits h = tt
row_refused version written next header k m n name rows change.Number says less limits h = absurd limits

pub table_refused : (version written next : PageMap) (header : FileHeader) (k m n : ℕ) (error : DatabaseError)
    → ((first : List ℕ) → over written version 0 ≡ Some first → IsHeader first header) → k ≤ m
    → SpaceRefused (AtLimit (over next version 0) (size_of next)) (HoldsNoDatabaseIn (in_use version written) header.catalog_root (IsWholeOver version written)) m n error
    → MayFail (IsDatabase version written) k n (ChangingReaches (IsCounted version next)) (of_change error)
table_refused version written next header k m n (change.Space fault.Memory) says less h = tt
table_refused version written next header k m n (change.Space fault.Disk) says less h = has_risen k m n less h
table_refused version written next header k m n (change.Space fault.Damaged) says less h = λ d. h d.tables (held_at version written header says d) d.whole
table_refused version written next header k m n (change.Space fault.Pages) says less h = h
table_refused version written next header k m n (change.Space fault.Private) says less h = h
table_refused version written next header k m n change.Record says less h = tt
table_refused version written next header k m n change.Key says less h = tt
table_refused version written next header k m n change.Number says less h = tt
table_refused version written next header k m n change.Schema says less h = tt

-- a refusal of the last step, where the step before it was carried out
pub root_refused : (version written next : PageMap) (harm : Type 0) (sound : Type 0) (reached : StoreLimit → Type 0) (k m n : ℕ) (f : SpaceError) → k ≤ m → (sound → harm → ⊥)
    → (IsReached version next fault.Pages → reached limit.Pages) → (IsReached version next fault.Private → reached limit.Private)
    → ChangeRefused (AtLimit (over next version 0) (size_of next)) harm m n f → MayFail sound k n reached (of_fault f)
root_refused version written next harm sound reached k m n fault.Memory less never pages private h = tt
root_refused version written next harm sound reached k m n fault.Disk less never pages private h = has_risen k m n less h
root_refused version written next harm sound reached k m n fault.Damaged less never pages private h = λ s. never s h
root_refused version written next harm sound reached k m n fault.Pages less never pages private h = pages h
root_refused version written next harm sound reached k m n fault.Private less never pages private h = private h

-- ---- weaker

pub change_weaker : (A B : SpaceError → Type 0) (H J : Type 0) (k n : ℕ) (f : SpaceError) → ((g : SpaceError) → A g → B g) → (H → J) → ChangeRefused A H k n f → ChangeRefused B J k n f
change_weaker A B H J k n fault.Memory at harm h = tt
change_weaker A B H J k n fault.Disk at harm h = h
change_weaker A B H J k n fault.Damaged at harm h = harm h
change_weaker A B H J k n fault.Pages at harm h = at fault.Pages h
change_weaker A B H J k n fault.Private at harm h = at fault.Private h

pub fail_weaker : (sound other : Type 0) (k n : ℕ) (reached more : StoreLimit → Type 0) (error : StoreError) → (other → sound) → ((l : StoreLimit) → reached l → more l) → MayFail sound k n reached error → MayFail other k n more error
fail_weaker sound other k n reached more refused.Memory f g h = tt
fail_weaker sound other k n reached more refused.Device f g h = h
fail_weaker sound other k n reached more refused.Damaged f g h = λ s. h (f s)
fail_weaker sound other k n reached more (refused.Exceeded l) f g h = g l h

-- ---- the pool's

pub commit_fails : (sound harm : Type 0) (counted : StoreLimit → Type 0) (last k n : ℕ) (error : PoolError) → (sound → harm → ⊥)
    → CommitRefused (last ≡ 2 ^ 64 - 1) (counted limit.Kept) harm k n error → MayFail sound k n (CommittingReaches counted last) (of_pool error)
commit_fails sound harm counted last k n pool.Memory never h = tt
commit_fails sound harm counted last k n (pool.Device cause) never h = has_risen k k n (omega arith) h
commit_fails sound harm counted last k n pool.Damaged never h = λ s. never s h
commit_fails sound harm counted last k n pool.Pages never h = top last (2 ^ 64) (omega arith) h
  where
    top : (last most : ℕ) → 0 < most → last ≡ most - 1 → most ≤ last + 1
    top last most some e = omega (arith, some, e)
commit_fails sound harm counted last k n pool.Kept never h = h

pub device_fails : (sound : Type 0) (reached : StoreLimit → Type 0) (k n : ℕ) (error : PoolError) → IsOfDevice k n error → MayFail sound k n reached (of_pool error)
device_fails sound reached k n pool.Memory h = absurd h
device_fails sound reached k n (pool.Device cause) h = has_risen k k n (omega arith) h
device_fails sound reached k n pool.Damaged h = absurd h
device_fails sound reached k n pool.Pages h = absurd h
device_fails sound reached k n pool.Kept h = absurd h

pub of_device : (k n : ℕ) (error : PoolError) → IsOfDevice k n error → (of_pool error ≡ refused.Device) × HasRisen k n
of_device k n pool.Memory h = absurd h
of_device k n (pool.Device cause) h = (refl, has_risen k k n (omega arith) h)
of_device k n pool.Damaged h = absurd h
of_device k n pool.Pages h = absurd h
of_device k n pool.Kept h = absurd h

-- ---- of a store

pub refused_weaker : {A : Type 0} (result : Result A StoreError) (sound other : Type 0) (k n : ℕ) (reached more : StoreLimit → Type 0) → (other → sound) → ((l : StoreLimit) → reached l → more l)
    → IfErr result (MayFail sound k n reached) → IfErr result (MayFail other k n more)
refused_weaker (Ok a) sound other k n reached more f g h = h
refused_weaker (Err e) sound other k n reached more f g h = fail_weaker sound other k n reached more e f g h

pub rows_reach : (counted : StoreLimit → Type 0) (table : Option StoredTable) (rows : List Row) (l : StoreLimit) → RowsReach counted rows l → StoringReaches counted table rows l
rows_reach counted table rows limit.Record h = h
rows_reach counted table rows limit.Key h = absurd h
rows_reach counted table rows limit.Pages h = inl h
rows_reach counted table rows limit.Private h = h
rows_reach counted table rows limit.Kept h = absurd h

pub risen_later : (k m n : ℕ) → k ≤ m → HasRisen m n → HasRisen k n
risen_later k m n less h = risen_on (2 ^ 64 - 1) k m n less h
