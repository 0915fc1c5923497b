-- Tables of a FROM and joins, once their parts are found.
use Rattle.std.specs.Prelude.{ℕ, List, ◌++◌, length, Result, None, Ok}
use Rattle.sqlval.specs.declared.schema.Column.{Column}
use Rattle.refusals.specs.declared.refusal.Refusal.{Refusal}
use Rattle.typing.specs.declared.typed.Source.TheVariants as source
use Rattle.typing.specs.declared.scope.Frame.{Frame}
use Rattle.typing.specs.declared.scope.TypedFrom.{TypedFrom}
use Rattle.typing.specs.declared.scope.TypedQuery.{TypedQuery}
use Rattle.typing.specs.Finding.{Finding, ◌>>=◌}
use Rattle.typing.specs.Finds.{Finds}
use Rattle.typing.specs.From.{From, crossed, derived_table, from_found}
use Rattle.typing.specs.Known.{Known}
use Rattle.typing.specs.Scope.{Scope}
use Rattle.typing.specs.Table.{table_found}
use Rattle.type_rules.specs.declared.tables.Joined.{Joined}

abbrev pub stored_columns : Known → List ℕ → Finding (List Column)
stored_columns known name = table_found known name >>= (λ table. Ok table.columns)

abbrev pub side_by_side : Frame → Frame → Frame
side_by_side left right = record { tables = left.tables ++ right.tables; columns = left.columns ++ right.columns; key = None }

abbrev pub product : Finding (TypedFrom × TypedFrom) → Finding TypedFrom
product found = found >>= (λ p. Ok (record { frame = side_by_side (p.0).frame (p.1).frame; source = source.Product (p.0).source (p.1).source }))

abbrev pub join_sides : Finding (TypedFrom × TypedFrom) → Finding Joined
join_sides found = found >>= (λ p. Ok (record { frame = side_by_side (p.0).frame (p.1).frame; left = (p.0).source; right = (p.1).source; right_width = length (p.1).frame.columns }))

-- whatever the two sides are
abbrev pub CrossedFinds : Result TypedFrom Refusal → Result TypedFrom Refusal → Result TypedFrom Refusal → Type 0
CrossedFinds left right result =
    (l r : From) (outer : Scope) → Finds left (from_found l outer) → Finds right (from_found r outer)
    → Finds result (from_found (crossed l r) outer)

-- whatever the query is
abbrev pub DerivedFinds : Result TypedQuery Refusal → Result TypedFrom Refusal → List ℕ → Type 0
DerivedFinds query result shown =
    (q : Scope → Finding TypedQuery) (outer : Scope) → Finds query (q outer)
    → Finds result (from_found (derived_table q shown) outer)
