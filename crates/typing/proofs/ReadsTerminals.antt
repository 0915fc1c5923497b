-- The tokens of the parts that hold no other part.
use Rattle.std.proofs.Common.{[], ◌∷◌, refl}
use Rattle.lexer.specs.declared.kinds.Kind.TheVariants as kind
use Rattle.ast.specs.declared.operator.AddOperator.{AddOperator}
use Rattle.ast.specs.declared.operator.AddOperator.TheVariants as of_add_operator
use Rattle.ast.specs.declared.operator.Comparison.{Comparison}
use Rattle.ast.specs.declared.operator.Comparison.TheVariants as of_comparison
use Rattle.ast.specs.declared.operator.Literal.{Literal}
use Rattle.ast.specs.declared.operator.Literal.TheVariants as literal
use Rattle.ast.specs.declared.operator.MultiplyOperator.{MultiplyOperator}
use Rattle.ast.specs.declared.operator.MultiplyOperator.TheVariants as of_multiply_operator
use Rattle.ast.specs.declared.operator.Quantifier.{Quantifier}
use Rattle.ast.specs.declared.operator.Quantifier.TheVariants as of_quantifier
use Rattle.ast.specs.declared.operator.SetFunction.{SetFunction}
use Rattle.ast.specs.declared.operator.SetFunction.TheVariants as of_set_function
use Rattle.ast.specs.declared.operator.SetOperator.{SetOperator}
use Rattle.ast.specs.declared.operator.SetOperator.TheVariants as of_set_operator
use Rattle.ast.specs.declared.operator.Sign.{Sign}
use Rattle.ast.specs.declared.operator.Sign.TheVariants as of_sign
use Rattle.ast.specs.declared.operator.TruthValue.{TruthValue}
use Rattle.ast.specs.declared.operator.TruthValue.TheVariants as of_truth_value
use Rattle.ast.specs.Notation.{Tokens}
use Rattle.ast.specs.Terminals.{IsAddOperator, IsAlias, IsColumn, IsComparison, IsLiteral, IsMultiplyOperator, IsName, IsNumber, IsQuantifier, IsSetFunction, IsSetOperator, IsSign, IsString, IsTruthTest, IsTruthValue}
use Rattle.ast.specs.Words.{AS, IS, NOT, PERIOD}
use Rattle.typing.specs.Tokens.{add_tokens, alias_tokens, column_tokens, comparison_tokens, function_tokens, literal_tokens, multiply_tokens, quantifier_tokens, set_tokens, sign_tokens, test_tokens, truth_tokens}
use Rattle.typing.proofs.ReadTokens.{Read, Reads, read_as, both, after, before, may, written}

pub name : Reads IsName (λ x. kind.Name x ∷ [])
name = record { at = λ ts x rest h. record { only = h; again = λ more. refl } }

pub number : Reads IsNumber (λ x. kind.Number x ∷ [])
number = record { at = λ ts x rest h. record { only = h; again = λ more. refl } }

pub string : Reads IsString (λ x. kind.Text x ∷ [])
string = record { at = λ ts x rest h. record { only = h; again = λ more. refl } }

pub sign : Reads IsSign sign_tokens
sign = record { at = at }
  where
    at : (ts : Tokens) (x : Sign) (rest : Tokens) → IsSign ts x rest → Read IsSign x (sign_tokens x) ts rest
    at ts of_sign.Plus rest h = record { only = h; again = λ more. refl }
    at ts of_sign.Minus rest h = record { only = h; again = λ more. refl }

pub add_operator : Reads IsAddOperator add_tokens
add_operator = record { at = at }
  where
    at : (ts : Tokens) (x : AddOperator) (rest : Tokens) → IsAddOperator ts x rest → Read IsAddOperator x (add_tokens x) ts rest
    at ts of_add_operator.Plus rest h = record { only = h; again = λ more. refl }
    at ts of_add_operator.Minus rest h = record { only = h; again = λ more. refl }
    at ts of_add_operator.Concatenate rest h = record { only = h; again = λ more. refl }

pub multiply_operator : Reads IsMultiplyOperator multiply_tokens
multiply_operator = record { at = at }
  where
    at : (ts : Tokens) (x : MultiplyOperator) (rest : Tokens) → IsMultiplyOperator ts x rest → Read IsMultiplyOperator x (multiply_tokens x) ts rest
    at ts of_multiply_operator.Times rest h = record { only = h; again = λ more. refl }
    at ts of_multiply_operator.Divide rest h = record { only = h; again = λ more. refl }

pub comparison : Reads IsComparison comparison_tokens
comparison = record { at = at }
  where
    at : (ts : Tokens) (x : Comparison) (rest : Tokens) → IsComparison ts x rest → Read IsComparison x (comparison_tokens x) ts rest
    at ts of_comparison.Equal rest h = record { only = h; again = λ more. refl }
    at ts of_comparison.NotEqual rest h = record { only = h; again = λ more. refl }
    at ts of_comparison.Less rest h = record { only = h; again = λ more. refl }
    at ts of_comparison.Greater rest h = record { only = h; again = λ more. refl }
    at ts of_comparison.LessOrEqual rest h = record { only = h; again = λ more. refl }
    at ts of_comparison.GreaterOrEqual rest h = record { only = h; again = λ more. refl }

pub quantifier : Reads IsQuantifier quantifier_tokens
quantifier = record { at = at }
  where
    at : (ts : Tokens) (x : Quantifier) (rest : Tokens) → IsQuantifier ts x rest → Read IsQuantifier x (quantifier_tokens x) ts rest
    at ts of_quantifier.All rest h = record { only = h; again = λ more. refl }
    at ts of_quantifier.Distinct rest h = record { only = h; again = λ more. refl }

pub set_function : Reads IsSetFunction function_tokens
set_function = record { at = at }
  where
    at : (ts : Tokens) (x : SetFunction) (rest : Tokens) → IsSetFunction ts x rest → Read IsSetFunction x (function_tokens x) ts rest
    at ts of_set_function.Count rest h = record { only = h; again = λ more. refl }
    at ts of_set_function.Sum rest h = record { only = h; again = λ more. refl }
    at ts of_set_function.Avg rest h = record { only = h; again = λ more. refl }
    at ts of_set_function.Min rest h = record { only = h; again = λ more. refl }
    at ts of_set_function.Max rest h = record { only = h; again = λ more. refl }

pub set_operator : Reads IsSetOperator set_tokens
set_operator = record { at = at }
  where
    at : (ts : Tokens) (x : SetOperator) (rest : Tokens) → IsSetOperator ts x rest → Read IsSetOperator x (set_tokens x) ts rest
    at ts of_set_operator.Union rest h = record { only = h; again = λ more. refl }
    at ts of_set_operator.UnionAll rest h = record { only = h; again = λ more. refl }
    at ts of_set_operator.Except rest h = record { only = h; again = λ more. refl }
    at ts of_set_operator.ExceptAll rest h = record { only = h; again = λ more. refl }

truth_value : Reads IsTruthValue truth_tokens
truth_value = record { at = at }
  where
    at : (ts : Tokens) (x : TruthValue) (rest : Tokens) → IsTruthValue ts x rest → Read IsTruthValue x (truth_tokens x) ts rest
    at ts of_truth_value.True rest h = record { only = h; again = λ more. refl }
    at ts of_truth_value.False rest h = record { only = h; again = λ more. refl }
    at ts of_truth_value.Unknown rest h = record { only = h; again = λ more. refl }

pub truth_test : Reads IsTruthTest test_tokens
truth_test = record {
  at = λ ts x rest h. read_as IsTruthTest x (λ ts rest h. h) refl ((both (after IS (written NOT)) truth_value).at ts (x.is_negated, x.value) rest h);
}

pub literals : Reads IsLiteral literal_tokens
literals = record { at = at }
  where
    at : (ts : Tokens) (x : Literal) (rest : Tokens) → IsLiteral ts x rest → Read IsLiteral x (literal_tokens x) ts rest
    at ts (literal.Number s n) rest h = read_as IsLiteral (literal.Number s n) (λ ts rest h. h) refl ((both (may sign) number).at ts (s, n) rest h)
    at ts (literal.Text text) rest h = record { only = h; again = λ more. refl }

pub column : Reads IsColumn column_tokens
column = record {
  at = λ ts x rest h. read_as IsColumn x (λ ts rest h. h) refl ((both (may (before PERIOD name)) name).at ts (x.table, x.name) rest h);
}

pub alias : Reads IsAlias alias_tokens
alias = record { at = λ ts x rest h. read_as IsAlias x (λ ts rest h. h) refl ((both (written AS) name).at ts (x.has_as, x.name) rest h) }
