-- Rows that fit their columns.
use Rattle.std.proofs.Common.{◌≡◌, ℕ, ◌+◌, Bool, true, false, List, [], ◌∷◌, ◌++◌, sym, subst}
use Rattle.std.specs.Prelude.{not, if◌then◌else◌}
use Rattle.std.specs.Bool.{◌==◌}
use Rattle.std.specs.List.{AllByRecursion, enumerate_from}
use Rattle.sqlval.specs.declared.schema.Column.{Column}
use Rattle.sqlval.specs.Value.{Row}
use Rattle.store.specs.Contents.{Entry, StoredTable}
use Rattle.btree_read.proofs.ListLemmas.{each_append, each_left, each_right}
use Rattle.tablestore.specs.Held.{RowFits, AreFitting}
use Rattle.tablestore.specs.Rows.{without_number, with_number}
use Rattle.database_trees.specs.Held.{TableAt, ItFits}
use Rattle.database_trees.specs.Exchanged.{IsWithRows}

-- ---- rows

fits_enumerated : (columns : List Column) (n : ℕ) (rows : List Row) → AllByRecursion (RowFits columns) rows → AreFitting columns (enumerate_from n rows)
fits_enumerated columns n [] h = tt
fits_enumerated columns n (r ∷ rows) h = (h.0, fits_enumerated columns (n + 1) rows h.1)

pub fits_appended : (columns : List Column) (held : List Entry) (n : ℕ) (rows : List Row) → AreFitting columns held → AllByRecursion (RowFits columns) rows
    → AreFitting columns (held ++ enumerate_from n rows)
fits_appended columns held n rows h g = each_append _ held (enumerate_from n rows) h (fits_enumerated columns n rows g)

pub fits_without : (columns : List Column) (number : ℕ) (held : List Entry) → AreFitting columns held → AreFitting columns (without_number number held)
fits_without columns number [] h = tt
fits_without columns number (e ∷ held) h = by (e.0 == number) (fits_without columns number held h.1)
  where
    by : (b : Bool) → AreFitting columns (without_number number held) → AreFitting columns (if not b then e ∷ without_number number held else without_number number held)
    by true again = again
    by false again = (h.0, again)

pub fits_with : (columns : List Column) (number : ℕ) (row : Row) (held : List Entry) → AreFitting columns held → RowFits columns row → AreFitting columns (with_number number row held)
fits_with columns number row [] h fits = tt
fits_with columns number row (e ∷ held) h fits = (by (e.0 == number), fits_with columns number row held h.1 fits)
  where
    by : (b : Bool) → RowFits columns (if b then (number, row) else e).1
    by true = fits
    by false = h.0

-- ---- tables

pub its_fits : (before behind : List TableAt) (t : TableAt) → AllByRecursion ItFits (before ++ t ∷ behind) → ItFits t
its_fits before behind t h = (each_right ItFits before (t ∷ behind) h).0

-- another table in the place of one
pub fits_around : (before behind : List TableAt) (t u : TableAt) → AllByRecursion ItFits (before ++ t ∷ behind) → ItFits u → AllByRecursion ItFits (before ++ u ∷ behind)
fits_around before behind t u h one = each_append ItFits before (u ∷ behind) (each_left ItFits before (t ∷ behind) h) (one, (each_right ItFits before (t ∷ behind) h).1)

-- none in its place
pub fits_apart : (before behind : List TableAt) (t : TableAt) → AllByRecursion ItFits (before ++ t ∷ behind) → AllByRecursion ItFits (before ++ behind)
fits_apart before behind t h = each_append ItFits before behind (each_left ItFits before (t ∷ behind) h) (each_right ItFits before (t ∷ behind) h).1

-- with other rows
pub fits_now : (was now : TableAt) (rows : List Entry) → IsWithRows was rows now → AreFitting was.columns rows → ItFits now
fits_now was now rows kept fits = subst (λ (s : StoredTable). AreFitting s.columns s.entries) (sym kept.stored) fits
