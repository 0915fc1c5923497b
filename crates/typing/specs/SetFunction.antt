-- Set functions, columns and queries inside an expression, by the clause in which they stand
-- (ISO/IEC 9075:1992, 6.4, 6.5, 7.11).
use Rattle.std.specs.Prelude.{Bool, true, false, [], ◌∷◌, Option, Some, None, Ok}
use Rattle.sqlval.specs.declared.value.ValueType.{ValueType}
use Rattle.sqlval.specs.declared.value.ValueType.TheVariants.{Integer}
use Rattle.refusals.specs.declared.reason.Reason.TheVariants.{Grouping, Check}
use Rattle.ast.specs.declared.operator.Column.{Column}
use Rattle.ast.specs.declared.operator.Quantifier.{Quantifier}
use Rattle.ast.specs.declared.operator.Quantifier.TheVariants as quantifier
use Rattle.ast.specs.declared.operator.SetFunction.{SetFunction as Written}
use Rattle.ast.specs.declared.operator.SetFunction.TheVariants as written
use Rattle.typing.specs.declared.typed.Expression.{Expression}
use Rattle.typing.specs.declared.typed.SetFunction.{SetFunction}
use Rattle.typing.specs.declared.typed.SetFunction.TheVariants.{CountRows, Over}
use Rattle.typing.specs.declared.typed.SetFunctionType.{SetFunctionType}
use Rattle.typing.specs.declared.typed.SetFunctionType.TheVariants.{Count, Sum, Avg, Min, Max}
use Rattle.typing.specs.declared.scope.TypedExpression.{TypedExpression}
use Rattle.typing.specs.Finding.{Finding, ◌>>=◌, invalid, misplaced}
use Rattle.typing.specs.Scope.{Scope, ungrouped, column_at, column_in, own_column}
use Rattle.typing.specs.Expression.{must_be}
use Rattle.typing.specs.Part.{Clause, Shown, Plain, Argument, Checked, Part, part, of_none}

-- ---- columns

-- the argument of a set function has no column of an outer query: our own choice
abbrev pub column_seen : Clause → Column → Scope → Finding TypedExpression
column_seen Argument column scope = own_column column scope >>= (λ found. Ok (column_at found.value_type 0 found.place))
column_seen (Shown first) column scope = column_in column scope
column_seen Plain column scope = column_in column scope
column_seen Checked column scope = column_in column scope

abbrev pub column_part : Column → Part TypedExpression
column_part column = record { name = Some column.name; functions = []; found = λ view. column_seen view.clause column view.scope }

-- ---- queries inside

-- The argument of a set function has none (6.5). A CHECK has none either, which is our own choice:
-- it sees no other table, and is not looked into further.
abbrev pub query_seen : {A : Type 0} → Clause → Finding A → Finding A
query_seen (Shown first) query = query
query_seen Plain query = query
query_seen Argument query = misplaced Grouping query
query_seen Checked query = invalid Check

abbrev pub query_part : {A B : Type 0} → (Finding A → Finding B) → (Scope → Finding A) → Part B
query_part made query = of_none (λ view. made (query_seen view.clause (query view.scope)))

-- ---- set functions

abbrev pub is_distinct : Option Quantifier → Bool
is_distinct None = false
is_distinct (Some quantifier.All) = false
is_distinct (Some quantifier.Distinct) = true

-- a set function and its type
abbrev pub Aggregate : Type 0
Aggregate = SetFunction × ValueType

abbrev pub over : SetFunctionType → Bool → ValueType → Expression → Aggregate
over function is_distinct value_type argument = (Over function is_distinct argument, value_type)

-- SUM and AVG take integers, the others either type
abbrev pub aggregate_of : Written → Bool → TypedExpression → Finding Aggregate
aggregate_of written.Count is_distinct x = Ok (over Count is_distinct Integer x.expression)
aggregate_of written.Sum is_distinct x = must_be Integer x >>= (λ e. Ok (over Sum is_distinct Integer e))
aggregate_of written.Avg is_distinct x = must_be Integer x >>= (λ e. Ok (over Avg is_distinct Integer e))
aggregate_of written.Min is_distinct x = Ok (over Min is_distinct x.value_type x.expression)
aggregate_of written.Max is_distinct x = Ok (over Max is_distinct x.value_type x.expression)

-- the argument sees the rows of FROM
abbrev pub aggregate_found : Written → Option Quantifier → Part TypedExpression → Scope → Finding Aggregate
aggregate_found function quantifier argument scope =
    argument.found (record { scope = ungrouped scope; clause = Argument }) >>= aggregate_of function (is_distinct quantifier)

abbrev pub count_rows : Scope → Finding Aggregate
count_rows scope = Ok (CountRows, Integer)

-- a set function stands for its value in the row of the group; in a CHECK, too, it is not looked
-- into
abbrev pub value_seen : Clause → Finding Aggregate → Finding TypedExpression
value_seen (Shown first) aggregate = aggregate >>= (λ a. Ok (column_at a.1 0 first))
value_seen Plain aggregate = misplaced Grouping aggregate
value_seen Argument aggregate = misplaced Grouping aggregate
value_seen Checked aggregate = invalid Check

abbrev pub aggregate_part : (Scope → Finding Aggregate) → Part TypedExpression
aggregate_part aggregate =
    part ((λ scope. aggregate scope >>= (λ a. Ok a.0)) ∷ []) (λ view. value_seen view.clause (aggregate view.scope))
