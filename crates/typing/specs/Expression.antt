-- The types of expressions (ISO/IEC 9075:1992, 6.11 to 6.13).
use Rattle.std.specs.Prelude.{ℕ, pos, List, [], ◌∷◌, map, Option, Some, None, Result, Ok, Err}
use Rattle.sqlval.specs.declared.code.Code.{Code}
use Rattle.sqlval.specs.declared.value.Value.{Value}
use Rattle.sqlval.specs.declared.value.Value.TheVariants as value
use Rattle.sqlval.specs.declared.value.ValueType.{ValueType}
use Rattle.sqlval.specs.declared.value.ValueType.TheVariants.{Integer, Text}
use Rattle.sqlval.specs.Arithmetic.{difference_of}
use Rattle.refusals.specs.declared.reason.Reason.TheVariants.{DataType, Number}
use Rattle.ast.specs.declared.operator.Sign.{Sign}
use Rattle.ast.specs.declared.operator.Sign.TheVariants as sign
use Rattle.ast.specs.declared.operator.AddOperator.{AddOperator}
use Rattle.ast.specs.declared.operator.AddOperator.TheVariants as add
use Rattle.ast.specs.declared.operator.MultiplyOperator.{MultiplyOperator}
use Rattle.ast.specs.declared.operator.MultiplyOperator.TheVariants as multiply
use Rattle.typing.specs.declared.typed.Arithmetic.{Arithmetic}
use Rattle.typing.specs.declared.typed.Arithmetic.TheVariants.{Add, Subtract, Multiply, Divide}
use Rattle.typing.specs.declared.typed.Expression.{Expression}
use Rattle.typing.specs.declared.typed.Expression.TheVariants as expression
use Rattle.typing.specs.declared.scope.TypedExpression.{TypedExpression}
use Rattle.typing.specs.Finding.{Finding, ◌>>=◌, also, each, invalid}

abbrev pub integer : Expression → TypedExpression
integer x = record { expression = x; value_type = Integer }

abbrev pub text : Expression → TypedExpression
text x = record { expression = x; value_type = Text }

-- an operand whose type is asked for
abbrev pub only_if_same : ValueType → ValueType → Expression → Finding Expression
only_if_same Integer Integer x = Ok x
only_if_same Text Text x = Ok x
only_if_same wanted found x = invalid DataType

abbrev pub must_be : ValueType → TypedExpression → Finding Expression
must_be wanted x = only_if_same wanted x.value_type x.expression

-- a number with the sign directly before it
abbrev pub as_number : Result Value Code → Finding Value
as_number (Ok number) = Ok number
as_number (Err code) = invalid Number

abbrev pub signed_number : Option Sign → ℕ → Finding Value
signed_number (Some sign.Minus) number = as_number (difference_of (value.Int (pos 0)) (value.Int (pos number)))
signed_number other number = Ok (value.Int (pos number))

-- a sign before anything else asks for an integer
abbrev pub signed : Option Sign → TypedExpression → Finding TypedExpression
signed None x = Ok x
signed (Some sign.Plus) x = must_be Integer x >>= (λ operand. Ok (integer operand))
signed (Some sign.Minus) x = must_be Integer x >>= (λ operand. Ok (integer (expression.Negation operand)))

-- `||` is no operator of a chain that begins with `+` or `-`, since these take integers alone
abbrev pub sum_operator : AddOperator → Finding Arithmetic
sum_operator add.Plus = Ok Add
sum_operator add.Minus = Ok Subtract
sum_operator add.Concatenate = invalid DataType

abbrev pub product_operator : MultiplyOperator → Arithmetic
product_operator multiply.Times = Multiply
product_operator multiply.Divide = Divide

-- `+` and `-` are no operators of a chain that begins with `||`, since this gives texts alone
abbrev pub must_concatenate : AddOperator → Finding AddOperator
must_concatenate add.Concatenate = Ok add.Concatenate
must_concatenate other = invalid DataType

abbrev pub sum_operand : AddOperator × Finding TypedExpression → Finding (Arithmetic × Expression)
sum_operand (operator, operand) = also (sum_operator operator) (operand >>= must_be Integer)

abbrev pub product_operand : MultiplyOperator × Finding TypedExpression → Finding (Arithmetic × Expression)
product_operand (operator, operand) = operand >>= must_be Integer >>= (λ x. Ok (product_operator operator, x))

abbrev pub text_operand : AddOperator × Finding TypedExpression → Finding Expression
text_operand (operator, operand) = also (must_concatenate operator) (operand >>= must_be Text) >>= (λ p. Ok p.1)

-- a chain of at least one operator
abbrev pub calculation : Finding TypedExpression → Finding (List (Arithmetic × Expression)) → Finding TypedExpression
calculation first others = also (first >>= must_be Integer) others >>= (λ p. Ok (integer (expression.Calculation p.0 p.1)))

abbrev pub concatenation : Finding TypedExpression → Finding (List Expression) → Finding TypedExpression
concatenation first others = also (first >>= must_be Text) others >>= (λ p. Ok (text (expression.Concatenation p.0 p.1)))

-- a chain over `+ - ||`: its first operator says which of the two it is, whatever its operands are
abbrev pub leading_operator : {A : Type 0} → List (AddOperator × A) → Option AddOperator
leading_operator [] = None
leading_operator ((operator, operand) ∷ others) = Some operator

abbrev pub chain_led_by : Option AddOperator → Finding TypedExpression → List (AddOperator × Finding TypedExpression)
    → Finding TypedExpression
chain_led_by None first others = first
chain_led_by (Some add.Concatenate) first others = concatenation first (each (map text_operand others))
chain_led_by (Some other) first others = calculation first (each (map sum_operand others))

abbrev pub sum_chain : Finding TypedExpression → List (AddOperator × Finding TypedExpression) → Finding TypedExpression
sum_chain first others = chain_led_by (leading_operator others) first others

-- a chain over `* /`
abbrev pub product_chain : Finding TypedExpression → List (MultiplyOperator × Finding TypedExpression)
    → Finding TypedExpression
product_chain first [] = first
product_chain first (other ∷ others) = calculation first (each (map product_operand (other ∷ others)))
