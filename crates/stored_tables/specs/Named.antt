-- Tables of a schema by their names.
use Rattle.std.specs.Prelude.{ℕ, if◌then◌else◌, List, [], ◌∷◌, Option, None, Some}
use Rattle.std.specs.List.{AllByRecursion}
use Rattle.sqlval.specs.declared.schema.Column.{Column}
use Rattle.sqlval.specs.declared.schema.Table.{Table}
use Rattle.sqlval.specs.Schema.{same_name}
use Rattle.sqlval.specs.Value.{Row}
use Rattle.denote.specs.Database.{Name}
use Rattle.store.specs.Contents.{Entry}
use Rattle.page_space.specs.Space.{PageMap}
use Rattle.tablestore.specs.Held.{HoldsFitting, RowFits}

-- the table of a name: the first, where there are several
abbrev pub table_named : Name → List Table → Option Table
table_named name [] = None
table_named name (t ∷ tables) = if same_name t.name name then Some t else table_named name tables

-- a tree of these rows, which fit these columns
pub record RowsAt (pages : PageMap) (columns : List Column) (rows : List Entry) (root : ℕ) : Type 0 where
  pub owned : List ℕ
  pub holds : HoldsFitting pages root owned columns rows

-- a row has the types of a table's columns; no table has a row
abbrev pub IsTyped : Option Table → Row → Type 0
IsTyped None = λ row. ⊥
IsTyped (Some t) = RowFits t.columns

abbrev pub AreTyped : Option Table → List Row → Type 0
AreTyped found rows = AllByRecursion (IsTyped found) rows
