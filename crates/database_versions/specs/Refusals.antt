-- Why a paged store refuses a call, by the refusals of what it stands on. Our own choice.
use Rattle.std.specs.Prelude.{◌⊎◌, ◌+◌, ◌^◌, ◌<◌, List, length}
use Rattle.std.specs.FinMap.{get}
use Rattle.denote.specs.Database.{Name}
use Rattle.sqlval.specs.Value.{Row}
use Rattle.store.specs.Contents.{next_number}
use Rattle.store.specs.Indexes.{entries_of}
use Rattle.store.specs.Errors.{HasLongRow}
use Rattle.store.specs.declared.error.StoreError.{StoreError}
use Rattle.store.specs.declared.error.StoreError.TheVariants as refused
use Rattle.store.specs.declared.error.StoreLimit.{StoreLimit}
use Rattle.store.specs.declared.error.StoreLimit.TheVariants as limit
use Rattle.page_space.specs.declared.error.SpaceError.{SpaceError}
use Rattle.page_space.specs.declared.error.SpaceError.TheVariants as fault
use Rattle.pool.specs.Pages.{PageMap, over}
use Rattle.journaled_file.specs.declared.opening.OpenRefusal.{OpenRefusal}
use Rattle.journaled_file.specs.declared.opening.OpenRefusal.TheVariants as opening
use Rattle.pool.specs.declared.error.PoolError.{PoolError}
use Rattle.pool.specs.declared.error.PoolError.TheVariants as pool
use Rattle.database_trees.specs.declared.error.DatabaseError.{DatabaseError}
use Rattle.database_trees.specs.declared.error.DatabaseError.TheVariants as change
use Rattle.overlay.specs.Layers.{size_of}
use Rattle.overlay.specs.Whole.{AtLimit}
use Rattle.database_versions.specs.Databases.{IsDatabase, contents_in}

abbrev pub of_fault : SpaceError → StoreError
of_fault fault.Memory = refused.Memory
of_fault fault.Disk = refused.Device
of_fault fault.Damaged = refused.Damaged
of_fault fault.Pages = refused.Exceeded limit.Pages
of_fault fault.Private = refused.Exceeded limit.Private

abbrev pub of_pool : PoolError → StoreError
of_pool pool.Memory = refused.Memory
of_pool (pool.Device cause) = refused.Device
of_pool pool.Damaged = refused.Damaged
of_pool pool.Pages = refused.Exceeded limit.Pages
of_pool pool.Kept = refused.Exceeded limit.Kept

abbrev pub of_open : OpenRefusal → StoreError
of_open opening.Memory = refused.Memory
of_open (opening.Device cause) = refused.Device
of_open opening.Damaged = refused.Damaged

-- a store has no other refusal of a change that stores no row
abbrev pub of_change : DatabaseError → StoreError
of_change (change.Space f) = of_fault f
of_change change.Record = refused.Memory
of_change change.Key = refused.Memory
of_change change.Number = refused.Memory
of_change change.Schema = refused.Memory

-- Which indexes there are, and which numbers rows have, is not known over a device that is not
-- honest, so that a key is too long counts as want of memory; so does that a record of a schema is
-- too long. That the numbers of rows end is told by the limit of pages.
abbrev pub of_rows : DatabaseError → StoreError
of_rows (change.Space f) = of_fault f
of_rows change.Record = refused.Exceeded limit.Record
of_rows change.Key = refused.Memory
of_rows change.Number = refused.Exceeded limit.Pages
of_rows change.Schema = refused.Memory

-- the pages that a change has written, over a version, are at the limit that a fault names
abbrev pub IsReached : PageMap → PageMap → SpaceError → Type 0
IsReached version written f = AtLimit (over written version 0) (size_of written) f

-- ... that a store names
abbrev pub IsCounted : PageMap → PageMap → StoreLimit → Type 0
IsCounted version written limit.Pages = IsReached version written fault.Pages
IsCounted version written limit.Private = IsReached version written fault.Private
IsCounted version written limit.Kept = ⊥
IsCounted version written limit.Record = ⊥
IsCounted version written limit.Key = ⊥

-- a row that is stored in place of another reaches a limit; that of keys is not named
abbrev pub RowsReach : (StoreLimit → Type 0) → List Row → StoreLimit → Type 0
RowsReach counted rows limit.Record = HasLongRow rows
RowsReach counted rows limit.Key = ⊥
RowsReach counted rows limit.Pages = counted limit.Pages
RowsReach counted rows limit.Private = counted limit.Private
RowsReach counted rows limit.Kept = ⊥

-- where a database lies there, the numbers of rows end before each of these has one in the table of
-- a name
abbrev pub NumbersEnd : PageMap → PageMap → Name → List Row → Type 0
NumbersEnd version written name rows = IsDatabase version written
    → 2 ^ 63 < next_number (entries_of (get (contents_in version written) name)) + length rows

-- new rows reach a limit: that of pages also tells that the numbers of rows end
abbrev pub NewRowsReach : (StoreLimit → Type 0) → Type 0 → List Row → StoreLimit → Type 0
NewRowsReach counted ended rows limit.Record = HasLongRow rows
NewRowsReach counted ended rows limit.Key = ⊥
NewRowsReach counted ended rows limit.Pages = counted limit.Pages ⊎ ended
NewRowsReach counted ended rows limit.Private = counted limit.Private
NewRowsReach counted ended rows limit.Kept = ⊥
