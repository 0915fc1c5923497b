-- The rows of an index in the order of its tree. Our own choice.
use Rattle.std.specs.Prelude.{◌≡◌, ℕ, Bool, true, List, [], ◌++◌, map, filter, slice_get, Option, Some, None}
use Rattle.std.specs.Option.{option_map}
use Rattle.sqlval.specs.declared.schema.Column.{Column}
use Rattle.sqlval.specs.declared.schema.Index.{Index}
use Rattle.sqlval.specs.declared.schema.Table.{Table}
use Rattle.store.specs.Contents as stored
use Rattle.store.specs.Indexes.{by_columns, columns_at, entries_of}
use Rattle.store.specs.Sorted.{sorted_by}
use Rattle.page_space.specs.Space.{PageMap}
use Rattle.btree_read.specs.declared.entry.Entry.{Entry}
use Rattle.tablestore.specs.Held.{HoldsFitting}
use Rattle.index_trees.specs.Indexed.{index_entry, HoldsIndex}
use Rattle.store.specs.View.{AreEntries}
use Rattle.index_lookups.specs.declared.places.Place.{Place}
use Rattle.index_lookups.specs.declared.walking.Walk.{Walk}

-- the rows as an index over these columns gives them
abbrev pub walk_of : List ℕ → List stored.Entry → List stored.Entry
walk_of columns rows = sorted_by (by_columns columns) rows

-- an index, and the rows of which it is one, which are of these types
pub record HoldsIndexed (pages : PageMap) (root rows_root : ℕ) (types : List Column) (columns : List ℕ) (rows : List stored.Entry) : Type 0 where
  pub owned : List ℕ
  pub index : HoldsIndex pages root owned columns rows
  pub rows_owned : List ℕ
  pub table : HoldsFitting pages rows_root rows_owned types rows

abbrev pub HoldsNoIndexed : PageMap → ℕ → ℕ → List Column → List ℕ → Type 0
HoldsNoIndexed pages root rows_root types columns = (rows : List stored.Entry)
    → HoldsIndexed pages root rows_root types columns rows → ⊥

-- these rows are left of a walk along the index, whose next entry is this one
pub record StandsAt (columns : List ℕ) (rows : List stored.Entry) (next : Option Entry) (left : List stored.Entry) : Type 0 where
  pub front : List stored.Entry
  pub whole : walk_of columns rows ≡ front ++ left
  pub first : next ≡ option_map (index_entry columns) (slice_get left 0)

-- these rows are left of a walk along the index, of whose entries these come next; none of them
-- only where no row is left
pub record StandsBefore (columns : List ℕ) (rows : List stored.Entry) (ahead : List Entry) (left : List stored.Entry) : Type 0 where
  pub stands : StandsAt columns rows (slice_get ahead 0) left
  pub unread : List Entry
  pub are : ahead ++ unread ≡ map (index_entry columns) left

-- no walk along the index stands at this entry
abbrev pub StandsNowhere : PageMap → ℕ → ℕ → List Column → List ℕ → Option Entry → Type 0
StandsNowhere pages root rows_root types columns next = (rows left : List stored.Entry)
    → HoldsIndexed pages root rows_root types columns rows → StandsAt columns rows next left → ⊥

-- no walk along the index stands before these entries
abbrev pub NoneStandsBefore : PageMap → ℕ → ℕ → List Column → List ℕ → List Entry → Type 0
NoneStandsBefore pages root rows_root types columns ahead = (rows left : List stored.Entry)
    → HoldsIndexed pages root rows_root types columns rows → StandsBefore columns rows ahead left → ⊥

-- an index of a table with these columns, whose rows begin at a root
abbrev pub place_of : List Column → ℕ → Index → Place
place_of types rows_root index = record { columns = index.columns; root = index.root; types = types; rows_root = rows_root }

-- the index at a place of a table lies there, or there is none
abbrev pub IsPlaceOf : PageMap → Option stored.StoredTable → ℕ → Option Place → Type 0
IsPlaceOf pages table at None = columns_at table at ≡ None
IsPlaceOf pages table at (Some place) = (columns_at table at ≡ Some place.columns)
    × HoldsIndexed pages place.root place.rows_root place.types place.columns (entries_of table)

-- the place has the columns of this table, which is there
abbrev pub HasTypesOf : Option Table → Place → Type 0
HasTypesOf table place = option_map (λ (t : Table). t.columns) table ≡ Some place.types

-- ---- steps of a walk

-- after a step, where these rows were left and these were found: some more are found, and others
-- are left; where the walk has ended none of these is wanted
pub record HasStepped (columns : List ℕ) (rows : List stored.Entry) (wanted : stored.Entry → Bool) (left list : List stored.Entry) (walk : Walk) (ended : Bool) : Type 0 where
  pub rest : List stored.Entry
  pub more : List stored.Entry
  pub are : AreEntries walk.found (list ++ more)
  pub is : more ++ filter wanted rest ≡ filter wanted left
  pub stands : StandsBefore columns rows walk.ahead rest
  pub last : ended ≡ true → filter wanted rest ≡ []
