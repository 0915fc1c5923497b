-- The declared queries and the open cursors of a session, by their names.
use Rattle.std.specs.Prelude.{◌≡◌, ℕ, zero, suc, Bool, is_some, List, [], ◌∷◌, Option, None, Some}
use Rattle.std.specs.Option.{option_map}
use Rattle.std.specs.FinMap.{FinMap, empty, insert, remove}
use Rattle.sqlval.specs.Comparison.{text_order}
use Rattle.ast.specs.declared.statement.OrderedQuery.{OrderedQuery}
use Rattle.denote.specs.Database.{Name}
use Rattle.session_definitions.specs.World.{Cursor}
use Rattle.store.specs.Contents.{Contents}
use Rattle.cursors.specs.declared.held.Cursors.{Cursors}
use Rattle.cursors.specs.declared.held.Declared.{Declared}
use Rattle.cursors.specs.declared.cursor.OpenCursor.{OpenCursor}
use Rattle.cursors.specs.Opened.{Fits, cursor_of}

-- ---- maps

-- with this value under the name, or with none
abbrev pub put_if : {X : Type 0} → FinMap text_order X → Name → Option X → FinMap text_order X
put_if m name None = remove m name
put_if m name (Some x) = insert m name x

-- what is found of each declaration, under its name
abbrev pub built : {X : Type 0} → (Declared → Option X) → List Declared → FinMap text_order X
built f [] = empty
built f (d ∷ ds) = put_if (built f ds) d.name (f d)

abbrev pub query_in : Declared → Option OrderedQuery
query_in d = Some d.query

abbrev pub cursor_if : Option OpenCursor → Contents → Option Cursor
cursor_if held contents = option_map (λ (cursor : OpenCursor). cursor_of cursor contents) held

abbrev pub cursor_in : Contents → Declared → Option Cursor
cursor_in contents d = cursor_if d.cursor contents

abbrev pub declared_of : Cursors → FinMap text_order OrderedQuery
declared_of cursors = built query_in cursors.declared

abbrev pub opened_of : Cursors → Contents → FinMap text_order Cursor
opened_of cursors contents = built (cursor_in contents) cursors.declared

abbrev pub unnamed_of : Cursors → Contents → Option Cursor
unnamed_of cursors contents = cursor_if cursors.unnamed contents

-- ---- open cursors fit

abbrev pub FitsIf : Option OpenCursor → Contents → Type 0
FitsIf None contents = Unit {0}
FitsIf (Some cursor) contents = Fits cursor contents

abbrev pub AllFit : List Declared → Contents → Type 0
AllFit [] contents = Unit {0}
AllFit (d ∷ ds) contents = FitsIf d.cursor contents × AllFit ds contents

-- no cursor is open
abbrev pub AllShut : List Declared → Type 0
AllShut [] = Unit {0}
AllShut (d ∷ ds) = (d.cursor ≡ None) × AllShut ds

pub record IsShut (cursors : Cursors) : Type 0 where
  pub named : AllShut cursors.declared
  pub unnamed : cursors.unnamed ≡ None

-- all that are open fit what the session reads
pub record StandsOver (cursors : Cursors) (contents : Contents) : Type 0 where
  pub named : AllFit cursors.declared contents
  pub unnamed : FitsIf cursors.unnamed contents

-- ---- changes of a list

-- with a change of the declaration at a place
abbrev pub changed_at : (Declared → Declared) → ℕ → List Declared → List Declared
changed_at change at [] = []
changed_at change zero (d ∷ ds) = change d ∷ ds
changed_at change (suc at) (d ∷ ds) = d ∷ changed_at change at ds

abbrev pub with_query : OrderedQuery → Declared → Declared
with_query query d = record d { query = query }

abbrev pub with_cursor : Option OpenCursor → Declared → Declared
with_cursor held d = record d { cursor = held }

-- the cursor at a place
abbrev pub cursor_at : ℕ → List Declared → Option OpenCursor
cursor_at at [] = None
cursor_at zero (d ∷ ds) = d.cursor
cursor_at (suc at) (d ∷ ds) = cursor_at at ds

-- so many of the first are closed
abbrev pub closed_upto : ℕ → List Declared → List Declared
closed_upto zero ds = ds
closed_upto (suc count) [] = []
closed_upto (suc count) (d ∷ ds) = with_cursor None d ∷ closed_upto count ds

abbrev pub is_open : Declared → Bool
is_open d = is_some d.cursor
