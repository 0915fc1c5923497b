-- What changes of the rows of a table make of a store, one after another by the numbers of the rows
-- (ISO/IEC 9075:1992, 13.7, 13.10).
use Rattle.std.specs.Prelude.{ℕ, List, [], ◌∷◌}
use Rattle.denote.specs.Database.{Name}
use Rattle.store.specs.Contents.{Contents, replaced, deleted}
use Rattle.update_delete.specs.declared.change.RowChange.{RowChange}
use Rattle.update_delete.specs.declared.change.RowChange.TheVariants.{Stays, Goes, Becomes}

abbrev pub made_one : Name → ℕ → RowChange → Contents → Contents
made_one name number Stays c = c
made_one name number Goes c = deleted c name number
made_one name number (Becomes row) c = replaced c name number row

-- the n-th change is of the row with the n-th number
abbrev pub all_made : Name → List ℕ → List RowChange → Contents → Contents
all_made name [] changes c = c
all_made name (number ∷ numbers) [] c = c
all_made name (number ∷ numbers) (change ∷ changes) c = all_made name numbers changes (made_one name number change c)
