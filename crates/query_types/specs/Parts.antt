-- What is found of parts of expressions and conditions, put together.
use Rattle.std.specs.Prelude.{Bool, List, [], ◌∷◌, ◌++◌, map, Option, Some, Ok}
use Rattle.ast.specs.declared.operator.AddOperator.{AddOperator}
use Rattle.ast.specs.declared.operator.MultiplyOperator.{MultiplyOperator}
use Rattle.ast.specs.declared.operator.TruthTest.{TruthTest}
use Rattle.ast.specs.declared.tree.Factor.{Factor}
use Rattle.ast.specs.declared.tree.Term.{Term}
use Rattle.typing.specs.declared.typed.Arithmetic.{Arithmetic}
use Rattle.typing.specs.declared.typed.Condition.{Condition}
use Rattle.typing.specs.declared.typed.Expression.{Expression}
use Rattle.typing.specs.declared.typed.SetFunction.{SetFunction}
use Rattle.typing.specs.declared.scope.TypedExpression.{TypedExpression}
use Rattle.typing.specs.Condition.{negated, tested}
use Rattle.typing.specs.Expression.{product_operand, sum_operand, text_operand}
use Rattle.typing.specs.Finding.{Finding, ◌>>=◌, each}
use Rattle.typing.specs.Known.{Known}
use Rattle.typing.specs.Part.{Argument, FunctionFinding, Part, View, past}
use Rattle.typing.specs.Scope.{Scope, ungrouped}
use Rattle.typing.specs.SetFunction.{Aggregate}
use Rattle.typing.specs.Typing.{factor_part, term_part}

-- parts that stand one after the other, each seen after those before it, and what is made of each
abbrev pub in_order : {X A B : Type 0} → (X → Part A) → (X → Finding A → Finding B) → List X → View → List (Finding B)
in_order part_of made [] view = []
in_order part_of made (x ∷ xs) view = made x ((part_of x).found view) ∷ in_order part_of made xs (past (part_of x) view)

-- two lists, one behind the other
abbrev pub appended : {A : Type 0} → Finding (List A × List A) → Finding (List A)
appended found = found >>= (λ p. Ok (p.0 ++ p.1))

-- each as it is found
abbrev pub as_found : {X A : Type 0} → X → Finding A → Finding A
as_found x found = found

-- ---- operands of a chain, with their operators

abbrev pub term_after : Known → AddOperator × Term → Part TypedExpression
term_after k other = term_part k other.1

abbrev pub factor_after : Known → MultiplyOperator × Factor → Part TypedExpression
factor_after k other = factor_part k other.1

abbrev pub summed : AddOperator × Term → Finding TypedExpression → Finding (Arithmetic × Expression)
summed other found = sum_operand (other.0, found)

abbrev pub continued : AddOperator × Term → Finding TypedExpression → Finding Expression
continued other found = text_operand (other.0, found)

abbrev pub multiplied : MultiplyOperator × Factor → Finding TypedExpression → Finding (Arithmetic × Expression)
multiplied other found = product_operand (other.0, found)

-- ---- NOT and IS, where they are written

abbrev pub test_of : Option TruthTest → Finding Condition → Finding Condition
test_of test found = found >>= (λ c. Ok (tested test c))

abbrev pub not_of : Bool → Finding Condition → Finding Condition
not_of is_negated found = found >>= (λ c. Ok (negated is_negated c))

abbrev pub negation_of : Bool → Option TruthTest → Finding Condition → Finding Condition
negation_of is_negated test found = not_of is_negated (test_of test found)

-- a condition that is written
abbrev pub written : Finding Condition → Finding (Option Condition)
written found = found >>= (λ c. Ok (Some c))

-- ---- set functions, in the FROMs that their SELECT sees

abbrev pub function_of : Finding Aggregate → Finding SetFunction
function_of found = found >>= (λ a. Ok a.0)

abbrev pub function_in : Scope → FunctionFinding → Finding SetFunction
function_in scope function = function scope

abbrev pub functions_in : Scope → List FunctionFinding → Finding (List SetFunction)
functions_in scope functions = each (map (function_in scope) functions)

-- the argument of a set function sees the rows of FROM
abbrev pub argument_view : Scope → View
argument_view scope = record { scope = ungrouped scope; clause = Argument }
