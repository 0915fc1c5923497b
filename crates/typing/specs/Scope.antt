-- Which column a name means (ISO/IEC 9075:1992, 6.4).
use Rattle.std.specs.Prelude.{ℕ, zero, suc, ◌+◌, ◌==◌, Bool, true, false, ◌&&◌, List, [], ◌∷◌, Option, Some, None, Ok, if◌then◌else◌}
use Rattle.std.specs.List.{list_any, position_from}
use Rattle.sqlval.specs.declared.value.ValueType.{ValueType}
use Rattle.sqlval.specs.Schema.{same_name, is_named}
use Rattle.refusals.specs.declared.reason.Reason.TheVariants.{Name, Ambiguous, Grouping}
use Rattle.ast.specs.declared.operator.Column.{Column}
use Rattle.typing.specs.declared.typed.Expression.TheVariants as expression
use Rattle.typing.specs.declared.scope.Offer.{Offer}
use Rattle.typing.specs.declared.scope.Frame.{Frame}
use Rattle.typing.specs.declared.scope.Found.{Found}
use Rattle.typing.specs.declared.scope.Matches.{Matches}
use Rattle.typing.specs.declared.scope.Matches.TheVariants.{Nothing, One, Several}
use Rattle.typing.specs.declared.scope.TypedExpression.{TypedExpression}
use Rattle.typing.specs.Finding.{Finding, ◌>>=◌, invalid}

-- the FROMs that a place sees, the innermost first
abbrev pub Scope : Type 0
Scope = List Frame

-- ---- which column is meant

-- a name without a table's may be a column of any table, one with it of that table alone
abbrev pub is_of_table : Option (List ℕ) → Offer → Bool
is_of_table None offer = true
is_of_table (Some table) offer = same_name offer.table table

abbrev pub is_meant : Column → Offer → Bool
is_meant column offer = is_of_table column.table offer && is_named column.name offer.name

-- the columns that are meant, with their places, of which the first is this
abbrev pub meant : Column → ℕ → List Offer → List Found
meant column at [] = []
meant column at (offer ∷ offers) =
    if is_meant column offer then record { place = at; value_type = offer.value_type } ∷ meant column (at + 1) offers else meant column (at + 1) offers

abbrev pub as_matches : List Found → Matches
as_matches [] = Nothing
as_matches (found ∷ []) = One found
as_matches (found ∷ other ∷ others) = Several

-- a FROM decides where the column occurs in it, or where it has the table that is named
abbrev pub has_table : Option (List ℕ) → Frame → Bool
has_table None frame = false
has_table (Some table) frame = list_any (λ name. same_name name table) frame.tables

-- a column found: how many SELECTs outwards, in which FROM, and which of its columns
pub record Located : Type 0 where
  pub depth : ℕ
  pub frame : Frame
  pub column : Found

-- the innermost FROM that decides; there the column must occur once
abbrev pub located_from : ℕ → Column → Scope → Finding Located
located_from depth column [] = invalid Name
located_from depth column (frame ∷ outer) = by (as_matches (meant column 0 frame.columns)) (located_from (depth + 1) column outer)
  where
    by : Matches → Finding Located → Finding Located
    by Nothing outwards = if has_table column.table frame then invalid Name else outwards
    by (One found) outwards = Ok (record { depth = depth; frame = frame; column = found })
    by Several outwards = invalid Ambiguous

abbrev pub located : Column → Scope → Finding Located
located column scope = located_from 0 column scope

-- ---- where its value stands

abbrev pub column_at : ValueType → ℕ → ℕ → TypedExpression
column_at value_type depth place = record { expression = expression.Column depth place; value_type = value_type }

-- where a group is seen, a column must be one of its key
abbrev pub in_key : ValueType → ℕ → Option ℕ → Finding TypedExpression
in_key value_type depth (Some place) = Ok (column_at value_type depth place)
in_key value_type depth None = invalid Grouping

-- a column of FROM's row, or of the row that begins with a group's key
abbrev pub seen_in : Option (List ℕ) → ℕ → Found → Finding TypedExpression
seen_in None depth found = Ok (column_at found.value_type depth found.place)
seen_in (Some key) depth found = in_key found.value_type depth (position_from (λ place. place == found.place) 0 key)

abbrev pub column_in : Column → Scope → Finding TypedExpression
column_in column scope = located column scope >>= (λ l. seen_in l.frame.key l.depth l.column)

-- ---- columns of the SELECT's own FROM: GROUP BY takes no other, nor does the argument of a set
-- function

abbrev pub only_own : ℕ → Found → Finding Found
only_own zero found = Ok found
only_own (suc depth) found = invalid Grouping

abbrev pub own_column : Column → Scope → Finding Found
own_column column scope = located column scope >>= (λ l. only_own l.depth l.column)

-- the same place before the rows of its FROM are grouped
abbrev pub ungrouped : Scope → Scope
ungrouped [] = []
ungrouped (frame ∷ outer) = record { tables = frame.tables; columns = frame.columns; key = None } ∷ outer
