-- The types of conditions (ISO/IEC 9075:1992, 8.1 to 8.12).
use Rattle.std.specs.Prelude.{Bool, true, false, List, [], ◌∷◌, map, flat_map, Option, Some, None, Ok}
use Rattle.sqlval.specs.declared.truth.Truth.{Truth}
use Rattle.sqlval.specs.declared.truth.Truth.TheVariants as truth
use Rattle.sqlval.specs.declared.comparison.CompOp.{CompOp}
use Rattle.sqlval.specs.declared.comparison.CompOp.TheVariants as by
use Rattle.sqlval.specs.declared.value.Value.{Value}
use Rattle.sqlval.specs.declared.value.Value.TheVariants as value
use Rattle.sqlval.specs.declared.value.ValueType.{ValueType}
use Rattle.sqlval.specs.declared.value.ValueType.TheVariants as type
use Rattle.refusals.specs.declared.reason.Reason.TheVariants.{DataType}
use Rattle.ast.specs.declared.operator.Comparison.{Comparison}
use Rattle.ast.specs.declared.operator.Comparison.TheVariants as written
use Rattle.ast.specs.declared.operator.Literal.{Literal}
use Rattle.ast.specs.declared.operator.Literal.TheVariants as literal
use Rattle.ast.specs.declared.operator.TruthTest.{TruthTest}
use Rattle.ast.specs.declared.operator.TruthValue.{TruthValue}
use Rattle.ast.specs.declared.operator.TruthValue.TheVariants as asked
use Rattle.typing.specs.declared.typed.Expression.{Expression}
use Rattle.typing.specs.declared.typed.Query.{Query}
use Rattle.typing.specs.declared.typed.SetFunction.{SetFunction}
use Rattle.typing.specs.declared.typed.Source.{Source}
use Rattle.typing.specs.declared.typed.Grouping.{Grouping}
use Rattle.typing.specs.declared.typed.Item.{Item}
use Rattle.typing.specs.declared.typed.Select.{Select}
use Rattle.typing.specs.declared.typed.Condition.{Condition, Condition-F, out-Condition}
use Rattle.typing.specs.declared.typed.Condition.TheVariants as condition
use Rattle.typing.specs.declared.scope.TypedExpression.{TypedExpression}
use Rattle.typing.specs.Finding.{Finding, ◌>>=◌, also, each, invalid}
use Rattle.typing.specs.Expression.{must_be, signed_number}

-- one level of a typed condition
abbrev pub ConditionLayer : Type 0
ConditionLayer = Condition-F Condition Expression Query SetFunction Source Grouping Item Select

-- parentheses round an AND inside an AND change nothing, so its parts are conjuncts of the whole
abbrev pub conjuncts_at : ConditionLayer → Condition → List Condition
conjuncts_at (Condition-F.And operands) whole = operands
conjuncts_at other whole = whole ∷ []

abbrev pub conjuncts : Condition → List Condition
conjuncts c = conjuncts_at (out-Condition c) c

-- likewise for OR
abbrev pub disjuncts_at : ConditionLayer → Condition → List Condition
disjuncts_at (Condition-F.Or operands) whole = operands
disjuncts_at other whole = whole ∷ []

abbrev pub disjuncts : Condition → List Condition
disjuncts c = disjuncts_at (out-Condition c) c

abbrev pub and_of : List Condition → Condition
and_of (only ∷ []) = only
and_of operands = condition.And operands

abbrev pub or_of : List Condition → Condition
or_of (only ∷ []) = only
or_of operands = condition.Or operands

abbrev pub conjunction : List (Finding Condition) → Finding Condition
conjunction operands = each operands >>= (λ found. Ok (and_of (flat_map conjuncts found)))

abbrev pub disjunction : List (Finding Condition) → Finding Condition
disjunction operands = each operands >>= (λ found. Ok (or_of (flat_map disjuncts found)))

-- NOT, where it is written
abbrev pub negated : Bool → Condition → Condition
negated true c = condition.Not c
negated false c = c

abbrev pub truth_asked : TruthValue → Truth
truth_asked asked.True = truth.True
truth_asked asked.False = truth.False
truth_asked asked.Unknown = truth.Unknown

-- IS [NOT] and a truth value, where it is written
abbrev pub tested : Option TruthTest → Condition → Condition
tested None c = c
tested (Some test) c = negated test.is_negated (condition.IsTruth c (truth_asked test.value))

abbrev pub operator_of : Comparison → CompOp
operator_of written.Equal = by.Equal
operator_of written.NotEqual = by.NotEqual
operator_of written.Less = by.Less
operator_of written.Greater = by.Greater
operator_of written.LessOrEqual = by.LessOrEqual
operator_of written.GreaterOrEqual = by.GreaterOrEqual

-- two operands of one type
abbrev pub alike : Finding TypedExpression → Finding TypedExpression → Finding (Expression × Expression)
alike x y = also x y >>= (λ p. must_be (p.0).value_type p.1 >>= (λ second. Ok ((p.0).expression, second)))

abbrev pub compared : Comparison → Finding TypedExpression → Finding TypedExpression → Finding Condition
compared operator x y = alike x y >>= (λ p. Ok (condition.Compare (operator_of operator) p.0 p.1))

-- BETWEEN compares its operand with both bounds
abbrev pub between : Bool → Finding TypedExpression → Finding TypedExpression → Finding TypedExpression
    → Finding Condition
between is_negated x low high =
    also (alike x low) (alike x high) >>= (λ p. Ok (negated is_negated (condition.Between (p.0).0 (p.0).1 (p.1).1)))

-- a literal of the type that is asked for
abbrev pub literal_of : ValueType → Literal → Finding Value
literal_of type.Integer (literal.Number sign number) = signed_number sign number
literal_of type.Text (literal.Text codes) = Ok (value.Text codes)
literal_of wanted other = invalid DataType

abbrev pub in_list : Bool → Finding TypedExpression → List Literal → Finding Condition
in_list is_negated operand literals =
    operand >>= (λ x. each (map (literal_of x.value_type) literals) >>= (λ values. Ok (negated is_negated (condition.InList x.expression values))))

-- LIKE takes texts
abbrev pub like : Bool → Finding TypedExpression → Finding TypedExpression → Finding Condition
like is_negated x pattern =
    also (x >>= must_be type.Text) (pattern >>= must_be type.Text) >>= (λ p. Ok (negated is_negated (condition.Like p.0 p.1)))

abbrev pub null_test : Bool → Finding TypedExpression → Finding Condition
null_test is_negated x = x >>= (λ operand. Ok (negated is_negated (condition.IsNull operand.expression)))
