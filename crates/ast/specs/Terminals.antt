-- The parts of the grammar that hold no other part.
-- ISO/IEC 9075:1992, 5.3 <literal>, 5.4 <identifier>, 6.3 <correlation name>, 6.4
-- <column reference>, 6.5 <set function type>, 6.11 to 6.13 the operators, 7.10 UNION and EXCEPT,
-- 8.2 <comp op>, 8.12 <truth value>. Our own choice: a name has at most one name before it.
use Rattle.std.specs.Prelude.{◌≡◌, ℕ, List, ◌∷◌}
use Rattle.lexer.specs.declared.kinds.Kind.TheVariants as kind
use Rattle.ast.specs.declared.operator.AddOperator.{AddOperator}
use Rattle.ast.specs.declared.operator.AddOperator.TheVariants as add
use Rattle.ast.specs.declared.operator.Alias.{Alias}
use Rattle.ast.specs.declared.operator.Column.{Column}
use Rattle.ast.specs.declared.operator.Comparison.{Comparison}
use Rattle.ast.specs.declared.operator.Comparison.TheVariants as cmp
use Rattle.ast.specs.declared.operator.Literal.{Literal}
use Rattle.ast.specs.declared.operator.Literal.TheVariants as literal
use Rattle.ast.specs.declared.operator.MultiplyOperator.{MultiplyOperator}
use Rattle.ast.specs.declared.operator.MultiplyOperator.TheVariants as multiply
use Rattle.ast.specs.declared.operator.Quantifier.{Quantifier}
use Rattle.ast.specs.declared.operator.Quantifier.TheVariants as quantifier
use Rattle.ast.specs.declared.operator.SetFunction.{SetFunction}
use Rattle.ast.specs.declared.operator.SetFunction.TheVariants as function
use Rattle.ast.specs.declared.operator.SetOperator.{SetOperator}
use Rattle.ast.specs.declared.operator.SetOperator.TheVariants as set
use Rattle.ast.specs.declared.operator.Sign.{Sign}
use Rattle.ast.specs.declared.operator.Sign.TheVariants as sign
use Rattle.ast.specs.declared.operator.TruthTest.{TruthTest}
use Rattle.ast.specs.declared.operator.TruthValue.{TruthValue}
use Rattle.ast.specs.declared.operator.TruthValue.TheVariants as truth
use Rattle.ast.specs.Notation.{Rule, ◌⨾◌, ◌⊳◌, ◌⊲◌, Maybe, Written}
use Rattle.ast.specs.Words.{ALL, AS, AVG, CONCATENATION, COUNT, DISTINCT, EQUAL, EXCEPT, FALSE, GREATER, GREATER_OR_EQUAL, IS, LESS, LESS_OR_EQUAL, MAX, MIN, MINUS, NOT, NOT_EQUAL, PERIOD, PLUS, SOLIDUS, ASTERISK, SUM, TRUE, UNION, UNKNOWN}

abbrev pub IsName : Rule (List ℕ)
IsName ts x rest = ts ≡ kind.Name x ∷ rest

abbrev pub IsNumber : Rule ℕ
IsNumber ts x rest = ts ≡ kind.Number x ∷ rest

-- string
abbrev pub IsString : Rule (List ℕ)
IsString ts x rest = ts ≡ kind.Text x ∷ rest

-- + | -
abbrev pub IsSign : Rule Sign
IsSign ts sign.Plus rest = ts ≡ PLUS ∷ rest
IsSign ts sign.Minus rest = ts ≡ MINUS ∷ rest

-- + | - | ||
abbrev pub IsAddOperator : Rule AddOperator
IsAddOperator ts add.Plus rest = ts ≡ PLUS ∷ rest
IsAddOperator ts add.Minus rest = ts ≡ MINUS ∷ rest
IsAddOperator ts add.Concatenate rest = ts ≡ CONCATENATION ∷ rest

-- * | /
abbrev pub IsMultiplyOperator : Rule MultiplyOperator
IsMultiplyOperator ts multiply.Times rest = ts ≡ ASTERISK ∷ rest
IsMultiplyOperator ts multiply.Divide rest = ts ≡ SOLIDUS ∷ rest

-- = | <> | < | > | <= | >=
abbrev pub IsComparison : Rule Comparison
IsComparison ts cmp.Equal rest = ts ≡ EQUAL ∷ rest
IsComparison ts cmp.NotEqual rest = ts ≡ NOT_EQUAL ∷ rest
IsComparison ts cmp.Less rest = ts ≡ LESS ∷ rest
IsComparison ts cmp.Greater rest = ts ≡ GREATER ∷ rest
IsComparison ts cmp.LessOrEqual rest = ts ≡ LESS_OR_EQUAL ∷ rest
IsComparison ts cmp.GreaterOrEqual rest = ts ≡ GREATER_OR_EQUAL ∷ rest

-- ALL | DISTINCT
abbrev pub IsQuantifier : Rule Quantifier
IsQuantifier ts quantifier.All rest = ts ≡ ALL ∷ rest
IsQuantifier ts quantifier.Distinct rest = ts ≡ DISTINCT ∷ rest

-- COUNT | SUM | AVG | MIN | MAX
abbrev pub IsSetFunction : Rule SetFunction
IsSetFunction ts function.Count rest = ts ≡ COUNT ∷ rest
IsSetFunction ts function.Sum rest = ts ≡ SUM ∷ rest
IsSetFunction ts function.Avg rest = ts ≡ AVG ∷ rest
IsSetFunction ts function.Min rest = ts ≡ MIN ∷ rest
IsSetFunction ts function.Max rest = ts ≡ MAX ∷ rest

-- (UNION | EXCEPT) [ALL]
abbrev pub IsSetOperator : Rule SetOperator
IsSetOperator ts set.Union rest = ts ≡ UNION ∷ rest
IsSetOperator ts set.UnionAll rest = ts ≡ UNION ∷ ALL ∷ rest
IsSetOperator ts set.Except rest = ts ≡ EXCEPT ∷ rest
IsSetOperator ts set.ExceptAll rest = ts ≡ EXCEPT ∷ ALL ∷ rest

-- TRUE | FALSE | UNKNOWN
abbrev pub IsTruthValue : Rule TruthValue
IsTruthValue ts truth.True rest = ts ≡ TRUE ∷ rest
IsTruthValue ts truth.False rest = ts ≡ FALSE ∷ rest
IsTruthValue ts truth.Unknown rest = ts ≡ UNKNOWN ∷ rest

-- IS [NOT] (TRUE | FALSE | UNKNOWN)
abbrev pub IsTruthTest : Rule TruthTest
IsTruthTest ts x rest = (IS ⊳ Written NOT ⨾ IsTruthValue) ts (x.is_negated, x.value) rest

-- literal = [+ | -] number | string
abbrev pub IsLiteral : Rule Literal
IsLiteral ts (literal.Number sign number) rest = (Maybe IsSign ⨾ IsNumber) ts (sign, number) rest
IsLiteral ts (literal.Text text) rest = IsString ts text rest

-- column = name | name . name
abbrev pub IsColumn : Rule Column
IsColumn ts x rest = (Maybe (IsName ⊲ PERIOD) ⨾ IsName) ts (x.table, x.name) rest

-- [AS] name
abbrev pub IsAlias : Rule Alias
IsAlias ts x rest = (Written AS ⨾ IsName) ts (x.has_as, x.name) rest
