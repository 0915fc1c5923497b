-- The database that lies in a version of pages with written pages over it. Our own choice.
use Rattle.std.specs.Prelude.{◌≡◌, ℕ, List, Bool, true, false, Option, Some, None}
use Rattle.std.specs.FinMap.{get, empty}
use Rattle.denote.specs.Database.{Name}
use Rattle.store.specs.Contents.{StoredTable, Contents, Rises}
use Rattle.pagefile.specs.Number.{number_at}
use Rattle.pool.specs.Pages.{PageMap, over}
use Rattle.overlay.specs.InUse.{in_use}
use Rattle.overlay.specs.Whole.{IsFull, IsWholeOver}
use Rattle.database_trees.specs.Held.{TableAt, HoldsDatabase, IsAllOwned, contents_of}
use Rattle.stored_tables.specs.Contents.{contents_at}

-- no page
abbrev pub nothing : PageMap
nothing n = None

-- the root of the catalogue that page 0 names
abbrev pub root_in : Option (List ℕ) → ℕ
root_in None = 0
root_in (Some first) = number_at first 16

abbrev pub root_of : PageMap → PageMap → ℕ
root_of version written = root_in (over written version 0)

-- the tables that lie there, whatever lies there
abbrev pub contents_in : PageMap → PageMap → Contents
contents_in version written = contents_at (in_use version written) (root_of version written)

-- over a device that is not honest nothing is known of them
abbrev pub known_contents : Bool → PageMap → PageMap → Contents
known_contents true version written = contents_in version written
known_contents false version written = empty

-- The list of free pages is one, and has each free page where that of the version has; and the
-- pages in use hold a database, whose tables are those that lie there; the numbers of rows rise.
pub record IsDatabase (version written : PageMap) : Type 0 where
  pub whole : IsWholeOver version written
  pub tables : List TableAt
  pub holds : HoldsDatabase (in_use version written) (root_of version written) tables
  pub read : contents_in version written ≡ contents_of tables
  pub rise : (name : Name) (table : StoredTable) → get (contents_of tables) name ≡ Some table → Rises table.entries

-- It is a database, each page in use is one of its trees, and each free page of the version stands
-- in its list, so that each of those with the written pages does: none is lost.
pub record IsOwned (version written : PageMap) : Type 0 where
  pub is : IsDatabase version written
  pub start : IsFull version
  pub tables : List TableAt
  pub owned : IsAllOwned (in_use version written) (root_of version written) tables
