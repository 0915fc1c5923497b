-- Which version of a store is read, and what a reading shows and keeps.
use Rattle.std.specs.Prelude.{◌≡◌, ℕ, ◌+◌, ◌-◌, ◌^◌, ◌≤◌, min, List, map, Option, Some, None}
use Rattle.std.specs.Option.{option_map}
use Rattle.std.specs.FinMap.{get}
use Rattle.denote.specs.Database.{Name}
use Rattle.store.specs.declared.view.View.{View}
use Rattle.store.specs.declared.view.View.TheVariants as at
use Rattle.store.specs.declared.rows.Numbered.{Numbered}
use Rattle.store.specs.declared.rows.NumberedRow.{NumberedRow}
use Rattle.store.specs.declared.rows.Position.{Position as At}
use Rattle.store.specs.Indexes.{Position}
use Rattle.store.specs.Contents.{Entry, StoredTable, Contents, rows_of}
use Rattle.store.specs.Stored.{Found, Stored}

-- a reader that has not begun sees the newest version
abbrev pub found_in : Contents → Option Found → Contents
found_in last None = last
found_in last (Some found) = found.contents

abbrev pub seen_by : Stored → View → Contents
seen_by s (at.Found reader) = found_in s.last (get s.readers reader)
seen_by s at.Working = s.working

-- ---- what is given

-- just these entries
pub record AreEntries (found : Numbered) (entries : List Entry) : Type 0 where
  pub numbers : found.numbers ≡ map (λ (e : Entry). e.0) entries
  pub rows : found.rows ≡ rows_of entries

abbrev pub entry_of : NumberedRow → Entry
entry_of found = (found.number, found.row)

abbrev pub IsEntry : Option NumberedRow → Option Entry → Type 0
IsEntry found entry = option_map entry_of found ≡ entry

-- the values of a place in an index, and its row number
abbrev pub position_of : At → Position
position_of place = (place.key, place.number)

-- how many rows that is
abbrev pub count_of : Option NumberedRow → ℕ
count_of None = 0
count_of (Some found) = 1

-- a count of 64 bits, which stays at its greatest
abbrev pub counted_on : ℕ → ℕ → ℕ
counted_on count more = min (count + more) (2 ^ 64 - 1)

-- ---- what a reading shows

-- the tables, how many calls the device has refused, how many answers said "damaged", and how many
-- rows were read
pub record Shown : Type 0 where
  pub contents : Contents
  pub refused : ℕ
  pub damaged : ℕ
  pub read : ℕ

abbrev pub table_named : Shown → Name → Option StoredTable
table_named shown name = get shown.contents name

-- the tables stay; the counts do not fall
pub record Keeps (a b : Shown) : Type 0 where
  pub contents : b.contents ≡ a.contents
  pub refused : a.refused ≤ b.refused
  pub damaged : a.damaged ≤ b.damaged
  pub read : a.read ≤ b.read

abbrev pub shown_by : Stored → View → ℕ → ℕ → ℕ → Shown
shown_by s view refused damaged read = record { contents = seen_by s view; refused = refused; damaged = damaged; read = read }
