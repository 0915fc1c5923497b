-- Set operators, and queries as values (ISO/IEC 9075:1992, 7.10, 7.11, 8.4, 8.8).
use Rattle.std.specs.Prelude.{◌==◌, Bool, true, false, List, [], ◌∷◌, map, length, Ok, if◌then◌else◌}
use Rattle.std.specs.Cmp.Lexicographic.{pointwise}
use Rattle.sqlval.specs.declared.value.ValueType.{ValueType}
use Rattle.sqlval.specs.declared.value.ValueType.TheVariants.{Integer, Text}
use Rattle.refusals.specs.declared.reason.Reason.TheVariants.{DataType, Columns}
use Rattle.ast.specs.declared.operator.SetOperator.{SetOperator as Written}
use Rattle.ast.specs.declared.operator.SetOperator.TheVariants as written
use Rattle.typing.specs.declared.typed.Condition.{Condition}
use Rattle.typing.specs.declared.typed.Condition.TheVariants as condition
use Rattle.typing.specs.declared.typed.Expression.TheVariants as expression
use Rattle.typing.specs.declared.typed.Query.{Query}
use Rattle.typing.specs.declared.typed.Query.TheVariants as query
use Rattle.typing.specs.declared.typed.SetOperation.{SetOperation}
use Rattle.typing.specs.declared.typed.SetOperator.TheVariants.{Union, Except, Intersect}
use Rattle.typing.specs.declared.scope.ResultColumn.{ResultColumn}
use Rattle.typing.specs.declared.scope.TypedExpression.{TypedExpression}
use Rattle.typing.specs.declared.scope.TypedQuery.{TypedQuery}
use Rattle.typing.specs.Finding.{Finding, ◌>>=◌, also, each, invalid}
use Rattle.typing.specs.Expression.{must_be}
use Rattle.typing.specs.Condition.{negated}

-- ---- set operators

abbrev pub operation : Written → SetOperation
operation written.Union = record { operator = Union; all = false }
operation written.UnionAll = record { operator = Union; all = true }
operation written.Except = record { operator = Except; all = false }
operation written.ExceptAll = record { operator = Except; all = true }

abbrev pub intersection : Bool → SetOperation
intersection all = record { operator = Intersect; all = all }

abbrev pub same_type : ValueType → ValueType → Bool
same_type Integer Integer = true
same_type Text Text = true
same_type other another = false

-- as many columns on both sides, of equal types
abbrev pub agreeing : List ValueType → List ValueType → Finding (Unit {0})
agreeing xs ys = if length xs == length ys then (if pointwise same_type xs ys then Ok tt else invalid DataType) else invalid Columns

abbrev pub types_of : List ResultColumn → List ValueType
types_of = map (λ column. column.value_type)

abbrev pub combinable : Finding TypedQuery → SetOperation × Finding TypedQuery → Finding (SetOperation × Query)
combinable first (operation, other) =
    also first other >>= (λ p. agreeing (types_of (p.0).columns) (types_of (p.1).columns) >>= (λ agreed. Ok (operation, (p.1).query)))

-- a chain has the columns of its first operand
abbrev pub set_chain : Finding TypedQuery → List (SetOperation × Finding TypedQuery) → Finding TypedQuery
set_chain first [] = first
set_chain first (other ∷ others) =
    also first (each (map (combinable first) (other ∷ others))) >>= (λ p. Ok (record { query = query.Combined (p.0).query p.1; columns = (p.0).columns }))

-- ---- queries inside an expression or a condition

-- a query of one column
abbrev pub only_column : Query → List ResultColumn → Finding (Query × ValueType)
only_column q (column ∷ []) = Ok (q, column.value_type)
only_column q [] = invalid Columns
only_column q (column ∷ other ∷ others) = invalid Columns

abbrev pub of_one_column : Finding TypedQuery → Finding (Query × ValueType)
of_one_column found = found >>= (λ q. only_column q.query q.columns)

abbrev pub scalar : Finding TypedQuery → Finding TypedExpression
scalar found = of_one_column found >>= (λ q. Ok (record { expression = expression.Scalar q.0; value_type = q.1 }))

-- IN compares its operand with the column
abbrev pub in_query : Bool → Finding TypedExpression → Finding (Query × ValueType) → Finding Condition
in_query is_negated x found =
    also x found >>= (λ p. must_be (p.1).1 p.0 >>= (λ operand. Ok (negated is_negated (condition.InQuery operand (p.1).0))))

abbrev pub exists : Finding TypedQuery → Finding Condition
exists found = found >>= (λ q. Ok (condition.Exists q.query))
