-- The tokens of a tree, as the grammar writes them: the printed text of a CHECK is those of its
-- condition. Our own choice.
use Rattle.std.specs.Prelude.{Bool, true, false, List, [], ◌∷◌, ◌++◌, flat_map, Option, Some, None}
use Rattle.lexer.specs.declared.kinds.Kind.{Kind}
use Rattle.lexer.specs.declared.kinds.Kind.TheVariants as kind
use Rattle.ast.specs.declared.operator.AddOperator.{AddOperator}
use Rattle.ast.specs.declared.operator.AddOperator.TheVariants as add
use Rattle.ast.specs.declared.operator.Alias.{Alias}
use Rattle.ast.specs.declared.operator.Column.{Column}
use Rattle.ast.specs.declared.operator.Comparison.{Comparison}
use Rattle.ast.specs.declared.operator.Comparison.TheVariants as by
use Rattle.ast.specs.declared.operator.Literal.{Literal}
use Rattle.ast.specs.declared.operator.Literal.TheVariants as literal
use Rattle.ast.specs.declared.operator.MultiplyOperator.{MultiplyOperator}
use Rattle.ast.specs.declared.operator.MultiplyOperator.TheVariants as multiply
use Rattle.ast.specs.declared.operator.Quantifier.{Quantifier}
use Rattle.ast.specs.declared.operator.Quantifier.TheVariants as quantifier
use Rattle.ast.specs.declared.operator.SetFunction.{SetFunction}
use Rattle.ast.specs.declared.operator.SetFunction.TheVariants as function
use Rattle.ast.specs.declared.operator.SetOperator.{SetOperator}
use Rattle.ast.specs.declared.operator.SetOperator.TheVariants as set
use Rattle.ast.specs.declared.operator.Sign.{Sign}
use Rattle.ast.specs.declared.operator.Sign.TheVariants as sign
use Rattle.ast.specs.declared.operator.TruthTest.{TruthTest}
use Rattle.ast.specs.declared.operator.TruthValue.{TruthValue}
use Rattle.ast.specs.declared.operator.TruthValue.TheVariants as truth
use Rattle.ast.specs.Notation.{Tokens}
use Rattle.ast.specs.Words.{ALL, AS, ASTERISK, AVG, COMMA, CONCATENATION, COUNT, DISTINCT, EQUAL, EXCEPT, FALSE, GREATER, GREATER_OR_EQUAL, INTERSECT, IS, LEFT_PARENTHESIS, LESS, LESS_OR_EQUAL, MAX, MIN, MINUS, NOT, NOT_EQUAL, PERIOD, PLUS, RIGHT_PARENTHESIS, SOLIDUS, SUM, TRUE, UNION, UNKNOWN}

-- ---- the notation of the grammar

-- ( A )
abbrev pub in_parentheses : Tokens → Tokens
in_parentheses ts = LEFT_PARENTHESIS ∷ ts ++ RIGHT_PARENTHESIS ∷ []

-- a token that may be left out
abbrev pub if_written : Bool → Kind → Tokens
if_written true t = t ∷ []
if_written false t = []

abbrev pub maybe : {A : Type 0} → (A → Tokens) → Option A → Tokens
maybe tokens None = []
maybe tokens (Some x) = tokens x

-- A {t A}
abbrev pub joined_by : Kind → Tokens → List Tokens → Tokens
joined_by t first others = first ++ flat_map (λ other. t ∷ other) others

-- A {, A}
abbrev pub listed : List Tokens → Tokens
listed [] = []
listed (first ∷ others) = joined_by COMMA first others

-- a first operand, and operators with their operands
abbrev pub chain : {O : Type 0} → (O → Tokens) → Tokens → List (O × Tokens) → Tokens
chain operator first others = first ++ flat_map (λ other. operator other.0 ++ other.1) others

-- ---- parts that hold no tree

abbrev pub sign_tokens : Sign → Tokens
sign_tokens sign.Plus = PLUS ∷ []
sign_tokens sign.Minus = MINUS ∷ []

abbrev pub add_tokens : AddOperator → Tokens
add_tokens add.Plus = PLUS ∷ []
add_tokens add.Minus = MINUS ∷ []
add_tokens add.Concatenate = CONCATENATION ∷ []

abbrev pub multiply_tokens : MultiplyOperator → Tokens
multiply_tokens multiply.Times = ASTERISK ∷ []
multiply_tokens multiply.Divide = SOLIDUS ∷ []

abbrev pub comparison_tokens : Comparison → Tokens
comparison_tokens by.Equal = EQUAL ∷ []
comparison_tokens by.NotEqual = NOT_EQUAL ∷ []
comparison_tokens by.Less = LESS ∷ []
comparison_tokens by.Greater = GREATER ∷ []
comparison_tokens by.LessOrEqual = LESS_OR_EQUAL ∷ []
comparison_tokens by.GreaterOrEqual = GREATER_OR_EQUAL ∷ []

abbrev pub quantifier_tokens : Quantifier → Tokens
quantifier_tokens quantifier.All = ALL ∷ []
quantifier_tokens quantifier.Distinct = DISTINCT ∷ []

abbrev pub function_tokens : SetFunction → Tokens
function_tokens function.Count = COUNT ∷ []
function_tokens function.Sum = SUM ∷ []
function_tokens function.Avg = AVG ∷ []
function_tokens function.Min = MIN ∷ []
function_tokens function.Max = MAX ∷ []

abbrev pub set_tokens : SetOperator → Tokens
set_tokens set.Union = UNION ∷ []
set_tokens set.UnionAll = UNION ∷ ALL ∷ []
set_tokens set.Except = EXCEPT ∷ []
set_tokens set.ExceptAll = EXCEPT ∷ ALL ∷ []

abbrev pub intersect_tokens : Bool → Tokens
intersect_tokens all = INTERSECT ∷ if_written all ALL

abbrev pub truth_tokens : TruthValue → Tokens
truth_tokens truth.True = TRUE ∷ []
truth_tokens truth.False = FALSE ∷ []
truth_tokens truth.Unknown = UNKNOWN ∷ []

abbrev pub test_tokens : TruthTest → Tokens
test_tokens test = IS ∷ if_written test.is_negated NOT ++ truth_tokens test.value

abbrev pub literal_tokens : Literal → Tokens
literal_tokens (literal.Number sign number) = maybe sign_tokens sign ++ kind.Number number ∷ []
literal_tokens (literal.Text text) = kind.Text text ∷ []

abbrev pub column_tokens : Column → Tokens
column_tokens column = maybe (λ table. kind.Name table ∷ PERIOD ∷ []) column.table ++ kind.Name column.name ∷ []

abbrev pub alias_tokens : Alias → Tokens
alias_tokens alias = if_written alias.has_as AS ++ kind.Name alias.name ∷ []
