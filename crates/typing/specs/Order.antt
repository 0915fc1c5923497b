-- ORDER BY (ISO/IEC 9075:1992, 13.1).
use Rattle.std.specs.Prelude.{ℕ, ◌+◌, ◌-◌, Bool, true, false, ◌&&◌, nat_le, List, [], ◌∷◌, map, length, Option, Some, None, Ok, if◌then◌else◌}
use Rattle.typing.specs.Known.{Known}
use Rattle.sqlval.specs.Schema.{is_named}
use Rattle.refusals.specs.declared.reason.Reason.TheVariants.{Name, Ambiguous, Columns}
use Rattle.ast.specs.declared.operator.Direction.{Direction}
use Rattle.ast.specs.declared.operator.Direction.TheVariants as direction
use Rattle.ast.specs.declared.statement.OrderedQuery.{OrderedQuery as Tree}
use Rattle.ast.specs.declared.statement.SortColumn.{SortColumn}
use Rattle.ast.specs.declared.statement.SortColumn.TheVariants as sort
use Rattle.ast.specs.declared.statement.SortKey.{SortKey}
use Rattle.typing.specs.declared.typed.OrderKey.{OrderKey}
use Rattle.typing.specs.declared.typed.OrderedQuery.{OrderedQuery}
use Rattle.typing.specs.declared.scope.ResultColumn.{ResultColumn}
use Rattle.typing.specs.Finding.{Finding, ◌>>=◌, each, invalid}
use Rattle.typing.specs.Typing.{query_found}

-- the places of the result columns of this name, the first of which has this place
abbrev pub named_from : ℕ → List ℕ → List ResultColumn → List ℕ
named_from at name [] = []
named_from at name (column ∷ columns) = if is_named name column.name then at ∷ named_from (at + 1) name columns else named_from (at + 1) name columns

abbrev pub only_place : List ℕ → Finding ℕ
only_place [] = invalid Name
only_place (place ∷ []) = Ok place
only_place (place ∷ other ∷ others) = invalid Ambiguous

-- a position is counted from 1, a place from 0
abbrev pub place_of_position : List ResultColumn → ℕ → Finding ℕ
place_of_position columns n = if nat_le 1 n && nat_le n (length columns) then Ok (n - 1) else invalid Columns

abbrev pub sort_place : List ResultColumn → SortColumn → Finding ℕ
sort_place columns (sort.Named name) = only_place (named_from 0 name columns)
sort_place columns (sort.Position n) = place_of_position columns n

-- ASC where nothing is written
abbrev pub is_descending : Option Direction → Bool
is_descending None = false
is_descending (Some direction.Ascending) = false
is_descending (Some direction.Descending) = true

abbrev pub key_found : List ResultColumn → SortKey → Finding OrderKey
key_found columns key = sort_place columns key.column >>= (λ place. Ok (record { place = place; descending = is_descending key.direction }))

-- a query that stands in no other, and its ORDER BY
abbrev pub ordered_found : Known → Tree → Finding OrderedQuery
ordered_found known tree =
    query_found known tree.query [] >>= (λ q.
    each (map (key_found q.columns) tree.order) >>= (λ keys.
    Ok (record { query = q.query; keys = keys })))
