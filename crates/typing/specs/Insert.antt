-- INSERT (ISO/IEC 9075:1992, 13.8), and what UPDATE and INSERT store.
use Rattle.std.specs.Prelude.{ℕ, ◌+◌, ◌==◌, List, [], ◌∷◌, map, length, slice_get, Option, Some, None, Ok, if◌then◌else◌, ◌++◌, Err}
use Rattle.std.specs.List.{zip}
use Rattle.sqlval.specs.declared.value.Value.TheVariants.{Null}
use Rattle.sqlval.specs.declared.value.ValueType.{ValueType}
use Rattle.typing.specs.Known.{Known, place_in}
use Rattle.sqlval.specs.declared.schema.Column.{Column}
use Rattle.refusals.specs.declared.reason.Reason.TheVariants.{Columns}
use Rattle.ast.specs.declared.statement.StoredSource.{StoredSource}
use Rattle.ast.specs.declared.statement.StoredSource.TheVariants as written
use Rattle.ast.specs.declared.statement.InsertRows.{InsertRows}
use Rattle.ast.specs.declared.statement.InsertRows.TheVariants as rows
use Rattle.ast.specs.declared.statement.Insert.{Insert as Tree}
use Rattle.typing.specs.declared.typed.Expression.{Expression}
use Rattle.typing.specs.declared.typed.Expression.TheVariants as expression
use Rattle.typing.specs.declared.statement.Insert.{Insert}
use Rattle.typing.specs.declared.statement.InsertSource.{InsertSource}
use Rattle.typing.specs.declared.statement.InsertSource.TheVariants as from
use Rattle.typing.specs.declared.scope.TypedExpression.{TypedExpression}
use Rattle.typing.specs.declared.scope.TypedQuery.{TypedQuery}
use Rattle.typing.specs.Finding.{Finding, reasons_in, ◌>>=◌, also, each, misplaced}
use Rattle.typing.specs.Scope.{Scope}
use Rattle.typing.specs.Expression.{must_be}
use Rattle.typing.specs.Part.{Plain}
use Rattle.typing.specs.Table.{as_found, distinct_found, table_found, type_in}
use Rattle.typing.specs.SetOperator.{agreeing, types_of}
use Rattle.typing.specs.Typing.{expression_part, query_found}

-- ---- what is stored

-- a source; NULL is none
abbrev pub source_found : Known → Scope → StoredSource → Finding (Option TypedExpression)
source_found known scope (written.Value tree) = (expression_part known tree).found (record { scope = scope; clause = Plain }) >>= (λ x. Ok (Some x))
source_found known scope written.Null = Ok None

-- a source has the column's type; NULL fits every column
abbrev pub stored_as : ValueType → Option TypedExpression → Finding Expression
stored_as wanted (Some x) = must_be wanted x
stored_as wanted None = Ok (expression.Constant Null)

-- ---- the columns

-- a column's place and type
abbrev pub Target : Type 0
Target = ℕ × ValueType

abbrev pub target_at : List Column → ℕ → Finding Target
target_at columns place = as_found (slice_get columns place) >>= (λ column. Ok (place, type_in column.column_type))

abbrev pub target_named : List Column → List ℕ → Finding Target
target_named columns name = as_found (place_in columns name) >>= target_at columns

abbrev pub targets_from : ℕ → List Column → List Target
targets_from at [] = []
targets_from at (column ∷ columns) = (at, type_in column.column_type) ∷ targets_from (at + 1) columns

-- without names all columns in order
abbrev pub targets_found : List Column → List (List ℕ) → Finding (List Target)
targets_found columns [] = Ok (targets_from 0 columns)
targets_found columns (name ∷ names) = each (map (target_named columns) (name ∷ names))

-- ---- the rows

-- the sources of VALUES see no column
abbrev pub sources_found : Known → List StoredSource → Finding (List (Option TypedExpression))
sources_found known row = each (map (source_found known []) row)

-- as many sources as columns, each of its column's type
abbrev pub row_stored : Known → List Target → List StoredSource → Finding (List Expression)
row_stored known targets row =
    if length targets == length row then each (map (λ p. source_found known [] p.1 >>= stored_as (p.0).1) (zip targets row)) else misplaced Columns (sources_found known row)

abbrev pub values_stored : Known → Finding (List Target) → List (List StoredSource)
    → Finding (List Target × InsertSource)
values_stored known (Ok targets) values = each (map (row_stored known targets) values) >>= (λ stored. Ok (targets, from.Values stored))
values_stored known (Err reasons) values = Err (reasons ++ reasons_in (each (map (sources_found known) values)))

-- the query has as many columns, of their types
abbrev pub query_stored : Finding (List Target) → Finding TypedQuery → Finding (List Target × InsertSource)
query_stored targets found =
    also targets found >>= (λ p. agreeing (map (λ target. target.1) p.0) (types_of (p.1).columns) >>= (λ agreed. Ok (p.0, from.Query (p.1).query)))

abbrev pub rows_stored : Known → Finding (List Target) → InsertRows → Finding (List Target × InsertSource)
rows_stored known targets (rows.Values values) = values_stored known targets values
rows_stored known targets (rows.Query tree) = query_stored targets (query_found known tree [])

-- ---- the whole: no column is named twice

abbrev pub insert_found : Known → Tree → Finding Insert
insert_found known tree =
    let targets = table_found known tree.table >>= (λ table. targets_found table.columns tree.columns) in
    also (distinct_found tree.columns) (rows_stored known targets tree.rows) >>= (λ p.
    Ok (record { table = tree.table; columns = map (λ target. target.0) (p.1).0; source = (p.1).1 }))
