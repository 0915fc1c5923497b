-- The INSERT of rows that are values, into all columns of a table in order: what INSERT .. VALUES
-- stands for, written with a constant for each of them (ISO/IEC 9075:1992, 13.8; that it is asked
-- with no text is our own choice).
use Rattle.std.specs.Prelude.{◌==◌, List, map, length, Option, Ok, if◌then◌else◌}
use Rattle.std.specs.List.{zip}
use Rattle.std.specs.Option.{option_map}
use Rattle.sqlval.specs.declared.schema.Schema.{Schema}
use Rattle.sqlval.specs.declared.value.Value.{Value}
use Rattle.sqlval.specs.Value.{Row, type_of}
use Rattle.refusals.specs.declared.reason.Reason.TheVariants.{Columns}
use Rattle.ast.specs.declared.statement.Statement.{Statement}
use Rattle.typing.specs.declared.scope.TypedExpression.{TypedExpression}
use Rattle.typing.specs.declared.statement.Change.TheVariants as change_of
use Rattle.typing.specs.declared.statement.Insert.{Insert}
use Rattle.typing.specs.declared.statement.InsertSource.TheVariants as from
use Rattle.typing.specs.declared.typed.Expression.{Expression}
use Rattle.typing.specs.declared.typed.Expression.TheVariants as expression
use Rattle.typing.specs.Finding.{Finding, ◌>>=◌, each, invalid}
use Rattle.typing.specs.Insert.{Target, stored_as, targets_from}
use Rattle.typing.specs.Known.{Known, known}
use Rattle.typing.specs.Statement.{changes}
use Rattle.typing.specs.Table.{table_found}
use Rattle.denote.specs.Database.{Name}
use Rattle.session_definitions.specs.Rules.{Rules}

-- a value as a source of VALUES; null is none
abbrev pub source_of : Value → Option TypedExpression
source_of value = option_map (λ of_type. record { expression = expression.Constant value; value_type = of_type }) (type_of value)

-- as many values as columns, each of its column's type or null
abbrev pub values_in_row : List Target → Row → Finding (List Expression)
values_in_row targets row =
    if length targets == length row then each (map (λ p. stored_as (p.0).1 (source_of p.1)) (zip targets row)) else invalid Columns

-- there is such a table, and each row fits it
abbrev pub insert_of_rows : Known → Name → List Row → Finding Insert
insert_of_rows known name rows = table_found known name >>= (λ table.
    each (map (values_in_row (targets_from 0 table.columns)) rows) >>= (λ stored.
    Ok (record { table = name; columns = map (λ target. target.0) (targets_from 0 table.columns); source = from.Values stored })))

-- the rules by which any statement is this INSERT
abbrev pub inserting : Rules → Name → List Row → Rules
inserting rules name rows =
    record rules { statement = λ schema x. changes (insert_of_rows (known schema) name rows >>= (λ insert. Ok (change_of.Insert insert))) }
