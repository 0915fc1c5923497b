-- What follows from parts that are found.
use Rattle.std.specs.Prelude.{ℕ, List, ◌∷◌, Option, Bool, Ok}
use Rattle.ast.specs.declared.operator.Comparison.{Comparison}
use Rattle.ast.specs.declared.operator.SetFunction.{SetFunction as Written}
use Rattle.ast.specs.declared.operator.Sign.{Sign}
use Rattle.sqlval.specs.declared.value.Value.{Value}
use Rattle.sqlval.specs.declared.value.ValueType.{ValueType}
use Rattle.sqlval.specs.declared.value.ValueType.TheVariants.{Integer}
use Rattle.typing.specs.declared.typed.Arithmetic.{Arithmetic}
use Rattle.typing.specs.declared.typed.Condition.{Condition}
use Rattle.typing.specs.declared.typed.Condition.TheVariants as condition
use Rattle.typing.specs.declared.typed.Expression.{Expression}
use Rattle.typing.specs.declared.typed.Expression.TheVariants as expression
use Rattle.typing.specs.declared.scope.TypedExpression.{TypedExpression}
use Rattle.typing.specs.Expression.{integer, must_be, signed, text}
use Rattle.typing.specs.declared.typed.Query.{Query}
use Rattle.typing.specs.declared.typed.Query.TheVariants as query
use Rattle.typing.specs.declared.typed.SetFunctionType.{SetFunctionType}
use Rattle.typing.specs.declared.typed.SetFunctionType.TheVariants.{Count}
use Rattle.typing.specs.declared.typed.SetOperation.{SetOperation}
use Rattle.typing.specs.declared.scope.TypedQuery.{TypedQuery}
use Rattle.typing.specs.SetFunction.{Aggregate, aggregate_of, over}
use Rattle.typing.specs.Scope.{column_at}
use Rattle.typing.specs.Condition.{negated, operator_of}
use Rattle.typing.specs.Finding.{Finding, ◌>>=◌}

-- an expression, where its type is the one asked for
abbrev pub of_type : ValueType → Finding TypedExpression → Finding Expression
of_type wanted found = found >>= must_be wanted

-- an expression after a sign
abbrev pub after_sign : Option Sign → Finding TypedExpression → Finding TypedExpression
after_sign sign found = found >>= signed sign

abbrev pub number_of : Finding Value → Finding TypedExpression
number_of found = found >>= (λ x. Ok (integer (expression.Constant x)))

abbrev pub calculation_of : Finding (Expression × List (Arithmetic × Expression)) → Finding TypedExpression
calculation_of found = found >>= (λ p. Ok (integer (expression.Calculation p.0 p.1)))

abbrev pub concatenation_of : Finding (Expression × List Expression) → Finding TypedExpression
concatenation_of found = found >>= (λ p. Ok (text (expression.Concatenation p.0 p.1)))

-- ---- predicates, once their operands are found

abbrev pub compare_of : Comparison → Finding (Expression × Expression) → Finding Condition
compare_of operator found = found >>= (λ p. Ok (condition.Compare (operator_of operator) p.0 p.1))

abbrev pub between_of : Bool → Finding (Expression × (Expression × Expression)) → Finding Condition
between_of n found = found >>= (λ p. Ok (negated n (condition.Between p.0 (p.1).0 (p.1).1)))

abbrev pub list_of : Bool → Finding (Expression × List Value) → Finding Condition
list_of n found = found >>= (λ p. Ok (negated n (condition.InList p.0 p.1)))

abbrev pub like_of : Bool → Finding (Expression × Expression) → Finding Condition
like_of n found = found >>= (λ p. Ok (negated n (condition.Like p.0 p.1)))

abbrev pub queried : Bool → Query → Finding Expression → Finding Condition
queried n query found = found >>= (λ operand. Ok (negated n (condition.InQuery operand query)))

abbrev pub query_of : Bool → Finding (TypedExpression × (Query × ValueType)) → Finding Condition
query_of n found = found >>= (λ p. queried n (p.1).0 (must_be (p.1).1 p.0))

-- ---- set functions

abbrev pub aggregate_over : Written → Bool → Finding TypedExpression → Finding Aggregate
aggregate_over function is_distinct found = found >>= aggregate_of function is_distinct

abbrev pub counted : Bool → Finding TypedExpression → Finding Aggregate
counted is_distinct found = found >>= (λ x. Ok (over Count is_distinct Integer x.expression))

abbrev pub over_integer : SetFunctionType → Bool → Finding Expression → Finding Aggregate
over_integer function is_distinct found = found >>= (λ e. Ok (over function is_distinct Integer e))

abbrev pub over_integers : SetFunctionType → Bool → Finding TypedExpression → Finding Aggregate
over_integers function is_distinct found = over_integer function is_distinct (found >>= must_be Integer)

abbrev pub over_either : SetFunctionType → Bool → Finding TypedExpression → Finding Aggregate
over_either function is_distinct found = found >>= (λ x. Ok (over function is_distinct x.value_type x.expression))

abbrev pub value_at : ℕ → Finding Aggregate → Finding TypedExpression
value_at place found = found >>= (λ a. Ok (column_at a.1 0 place))

-- ---- queries

abbrev pub combined_of : TypedQuery → Finding (List (SetOperation × Query)) → Finding TypedQuery
combined_of first found = found >>= (λ others. Ok (record { query = query.Combined first.query others; columns = first.columns }))

abbrev pub scalar_of : Finding (Query × ValueType) → Finding TypedExpression
scalar_of found = found >>= (λ q. Ok (record { expression = expression.Scalar q.0; value_type = q.1 }))
