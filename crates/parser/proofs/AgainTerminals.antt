-- The parts that hold no other part: what is in the grammar is read again.
use Rattle.std.proofs.Common.{◌≡◌, ℕ, zero, suc, ◌<◌, Bool, true, false, List, [], ◌∷◌, length, Option, Some, None, refl, ap, arith}
use Rattle.lexer.specs.declared.kinds.Kind.{Kind}
use Rattle.lexer.specs.declared.kinds.Kind.TheVariants as kind
use Rattle.lexer.specs.declared.kinds.Symbol.TheVariants as s
use Rattle.lexer.specs.declared.words.Word.TheVariants as w
use Rattle.ast.specs.declared.operator.AddOperator.{AddOperator}
use Rattle.ast.specs.declared.operator.AddOperator.TheVariants as add
use Rattle.ast.specs.declared.operator.Alias.{Alias}
use Rattle.ast.specs.declared.operator.Column.{Column}
use Rattle.ast.specs.declared.operator.Comparison.{Comparison}
use Rattle.ast.specs.declared.operator.Comparison.TheVariants as cmp
use Rattle.ast.specs.declared.operator.Literal.{Literal}
use Rattle.ast.specs.declared.operator.Literal.TheVariants as literal_of
use Rattle.ast.specs.declared.operator.MultiplyOperator.{MultiplyOperator}
use Rattle.ast.specs.declared.operator.MultiplyOperator.TheVariants as multiply
use Rattle.ast.specs.declared.operator.Quantifier.{Quantifier}
use Rattle.ast.specs.declared.operator.Quantifier.TheVariants as quantifier_of
use Rattle.ast.specs.declared.operator.SetFunction.{SetFunction}
use Rattle.ast.specs.declared.operator.SetFunction.TheVariants as function
use Rattle.ast.specs.declared.operator.SetOperator.{SetOperator}
use Rattle.ast.specs.declared.operator.SetOperator.TheVariants as set
use Rattle.ast.specs.declared.operator.Sign.{Sign}
use Rattle.ast.specs.declared.operator.Sign.TheVariants as sign_of
use Rattle.ast.specs.declared.operator.TruthTest.{TruthTest}
use Rattle.ast.specs.declared.operator.TruthValue.{TruthValue}
use Rattle.ast.specs.declared.operator.TruthValue.TheVariants as truth
use Rattle.ast.specs.Notation.{Tokens, Rule, ◌⨾◌, ◌⊳◌, Maybe, Written}
use Rattle.ast.specs.Terminals.{IsName, IsNumber, IsString, IsSign, IsAddOperator, IsMultiplyOperator, IsComparison, IsQuantifier, IsSetFunction, IsSetOperator, IsTruthValue, IsTruthTest, IsLiteral, IsColumn, IsAlias}
use Rattle.ast.specs.Words.{ALL, AS, ASTERISK, AVG, CONCATENATION, COUNT, DISTINCT, EQUAL, EXCEPT, FALSE, GREATER, GREATER_OR_EQUAL, INTERSECT, LESS, LESS_OR_EQUAL, MAX, MIN, MINUS, NOT, NOT_EQUAL, PLUS, SOLIDUS, SUM, TRUE, UNION, UNKNOWN}
use Rattle.parse_terminals.specs.Readers.{Reader, is_word, is_symbol, word, symbol, eat_word, name, number, optional}
use Rattle.parse_terminals.specs.ReadTerminals.{add_operator, multiply_operator, sign, comparison, quantifier, set_function, set_operator, intersect, truth_value, truth_test, string, is_string, literal, column, alias, begins_alias, may_alias}
use Rattle.parser.specs.Shallow.{is_shallow}
use Rattle.parser.proofs.Steps.{word_again, no_word, no_symbol}
use Rattle.parser.proofs.Passes.{Passes, here, past, onward, one, same, no_longer}
use Rattle.parser.proofs.Again.{Stops, never, nothing_stops, Again, widen, both_again, made_again, written_again, written_passes, may_be_again, maybe_passes, optional_again, Opened, opened_by_word, maybe_again}
use Rattle.parser.proofs.Follow.{alias_goes_on}

-- what is read whatever follows
pub anywhere : {A : Type 0} {d : ℕ} {r : Reader A} {R : Rule A} (q : Kind → Bool) → Again A d never r R → Again A d q r R
anywhere q l = widen q (λ rest h. nothing_stops rest) l

-- A token that stands alone for a tree is not what a test passes, and what follows it is shorter.
pub first_is : {t : Kind} {ts rest : Tokens} (p : Kind → Bool) → p t ≡ false → ts ≡ t ∷ rest → Stops p ts × (length rest < length ts)
first_is {t} {ts} {rest} p f h = (rw h f, let e : length ts ≡ suc (length rest) = ap length h in omega arith)

-- the same for a rule that says more
pub again_from : {A : Type 0} {d : ℕ} {p : Kind → Bool} {r : Reader A} {R : Rule A} (R' : Rule A) → Again A d p r R
    → ((ts : Tokens) (x : A) (rest : Tokens) → R' ts x rest → R ts x rest) → Again A d p r R'
again_from R' l f = record { passes = λ ts x rest h. l.passes ts x rest (f ts x rest h); at = λ ts x rest h. l.at ts x rest (f ts x rest h) }

pub opened_from : {O A : Type 0} {d : ℕ} {p q : Kind → Bool} {begin : Reader O} {item : O → Reader A} {R : Rule A} (R' : Rule A) → Opened O A d p q begin item R
    → ((ts : Tokens) (x : A) (rest : Tokens) → R' ts x rest → R ts x rest) → Opened O A d p q begin item R'
opened_from R' l f = record {
  passes = λ ts x rest h. l.passes ts x rest (f ts x rest h);
  at = λ ts x rest h. l.at ts x rest (f ts x rest h);
  begins = λ ts x rest h. l.begins ts x rest (f ts x rest h);
  shorter = λ ts x rest h. l.shorter ts x rest (f ts x rest h);
  absent = l.absent;
  weaker = l.weaker;
}

-- ---- names and constants

pub name_again : {d : ℕ} → Again (List ℕ) d never name IsName
name_again = record { passes = λ ts x rest h. one refl refl h; at = λ ts x rest h shallow stops. rw h refl }

pub number_again : {d : ℕ} → Again ℕ d never number IsNumber
number_again = record { passes = λ ts x rest h. one refl refl h; at = λ ts x rest h shallow stops. rw h refl }

pub string_again : {d : ℕ} → Again (List ℕ) d never string IsString
string_again = record { passes = λ ts x rest h. one refl refl h; at = λ ts x rest h shallow stops. rw h refl }

-- ---- operators, each a token that stands alone for its tree

sign_passes : (ts : Tokens) (x : Sign) (rest : Tokens) → IsSign ts x rest → Passes ts rest
sign_passes ts sign_of.Plus rest h = one refl refl h
sign_passes ts sign_of.Minus rest h = one refl refl h

sign_at : (ts : Tokens) (x : Sign) (rest : Tokens) → IsSign ts x rest → sign ts ≡ Some (x, rest)
unfolding symbol
sign_at ts sign_of.Plus rest h = rw h refl
sign_at ts sign_of.Minus rest h = rw h refl

pub sign_again : {d : ℕ} → Again Sign d never sign IsSign
sign_again = record { passes = sign_passes; at = λ ts x rest h shallow stops. sign_at ts x rest h }

pub sign_first : (p : Kind → Bool) → p PLUS ≡ false → p MINUS ≡ false → (ts : Tokens) (x : Sign) (rest : Tokens) → IsSign ts x rest
    → Stops p ts × (length rest < length ts)
sign_first p a0 a1 ts sign_of.Plus rest h = first_is p a0 h
sign_first p a0 a1 ts sign_of.Minus rest h = first_is p a1 h

pub no_sign : (p : Kind → Bool) → p PLUS ≡ true → p MINUS ≡ true → (rest : Tokens) → Stops p rest → sign rest ≡ None
no_sign p a0 a1 rest h = rw (no_symbol p s.Plus a0 rest h, no_symbol p s.Minus a1 rest h) refl

add_operator_passes : (ts : Tokens) (x : AddOperator) (rest : Tokens) → IsAddOperator ts x rest → Passes ts rest
add_operator_passes ts add.Plus rest h = one refl refl h
add_operator_passes ts add.Minus rest h = one refl refl h
add_operator_passes ts add.Concatenate rest h = one refl refl h

add_operator_at : (ts : Tokens) (x : AddOperator) (rest : Tokens) → IsAddOperator ts x rest → add_operator ts ≡ Some (x, rest)
unfolding symbol
add_operator_at ts add.Plus rest h = rw h refl
add_operator_at ts add.Minus rest h = rw h refl
add_operator_at ts add.Concatenate rest h = rw h refl

pub add_operator_again : {d : ℕ} → Again AddOperator d never add_operator IsAddOperator
add_operator_again = record { passes = add_operator_passes; at = λ ts x rest h shallow stops. add_operator_at ts x rest h }

pub add_operator_first : (p : Kind → Bool) → p PLUS ≡ false → p MINUS ≡ false → p CONCATENATION ≡ false
    → (ts : Tokens) (x : AddOperator) (rest : Tokens) → IsAddOperator ts x rest → Stops p ts × (length rest < length ts)
add_operator_first p a0 a1 a2 ts add.Plus rest h = first_is p a0 h
add_operator_first p a0 a1 a2 ts add.Minus rest h = first_is p a1 h
add_operator_first p a0 a1 a2 ts add.Concatenate rest h = first_is p a2 h

pub no_add_operator : (p : Kind → Bool) → p PLUS ≡ true → p MINUS ≡ true → p CONCATENATION ≡ true → (rest : Tokens) → Stops p rest → add_operator rest ≡ None
no_add_operator p a0 a1 a2 rest h = rw (no_symbol p s.Plus a0 rest h, no_symbol p s.Minus a1 rest h, no_symbol p s.Concatenation a2 rest h) refl

multiply_operator_passes : (ts : Tokens) (x : MultiplyOperator) (rest : Tokens) → IsMultiplyOperator ts x rest → Passes ts rest
multiply_operator_passes ts multiply.Times rest h = one refl refl h
multiply_operator_passes ts multiply.Divide rest h = one refl refl h

multiply_operator_at : (ts : Tokens) (x : MultiplyOperator) (rest : Tokens) → IsMultiplyOperator ts x rest → multiply_operator ts ≡ Some (x, rest)
unfolding symbol
multiply_operator_at ts multiply.Times rest h = rw h refl
multiply_operator_at ts multiply.Divide rest h = rw h refl

pub multiply_operator_again : {d : ℕ} → Again MultiplyOperator d never multiply_operator IsMultiplyOperator
multiply_operator_again = record { passes = multiply_operator_passes; at = λ ts x rest h shallow stops. multiply_operator_at ts x rest h }

pub multiply_operator_first : (p : Kind → Bool) → p ASTERISK ≡ false → p SOLIDUS ≡ false → (ts : Tokens) (x : MultiplyOperator) (rest : Tokens)
    → IsMultiplyOperator ts x rest → Stops p ts × (length rest < length ts)
multiply_operator_first p a0 a1 ts multiply.Times rest h = first_is p a0 h
multiply_operator_first p a0 a1 ts multiply.Divide rest h = first_is p a1 h

pub no_multiply_operator : (p : Kind → Bool) → p ASTERISK ≡ true → p SOLIDUS ≡ true → (rest : Tokens) → Stops p rest → multiply_operator rest ≡ None
no_multiply_operator p a0 a1 rest h = rw (no_symbol p s.Asterisk a0 rest h, no_symbol p s.Solidus a1 rest h) refl

comparison_passes : (ts : Tokens) (x : Comparison) (rest : Tokens) → IsComparison ts x rest → Passes ts rest
comparison_passes ts cmp.Equal rest h = one refl refl h
comparison_passes ts cmp.NotEqual rest h = one refl refl h
comparison_passes ts cmp.Less rest h = one refl refl h
comparison_passes ts cmp.Greater rest h = one refl refl h
comparison_passes ts cmp.LessOrEqual rest h = one refl refl h
comparison_passes ts cmp.GreaterOrEqual rest h = one refl refl h

comparison_at : (ts : Tokens) (x : Comparison) (rest : Tokens) → IsComparison ts x rest → comparison ts ≡ Some (x, rest)
unfolding comparison symbol
comparison_at ts cmp.Equal rest h = rw h refl
comparison_at ts cmp.NotEqual rest h = rw h refl
comparison_at ts cmp.Less rest h = rw h refl
comparison_at ts cmp.Greater rest h = rw h refl
comparison_at ts cmp.LessOrEqual rest h = rw h refl
comparison_at ts cmp.GreaterOrEqual rest h = rw h refl

pub comparison_again : {d : ℕ} → Again Comparison d never comparison IsComparison
comparison_again = record { passes = comparison_passes; at = λ ts x rest h shallow stops. comparison_at ts x rest h }

pub comparison_first : (p : Kind → Bool) → p EQUAL ≡ false → p NOT_EQUAL ≡ false → p LESS ≡ false → p GREATER ≡ false → p LESS_OR_EQUAL ≡ false
    → p GREATER_OR_EQUAL ≡ false → (ts : Tokens) (x : Comparison) (rest : Tokens) → IsComparison ts x rest → Stops p ts × (length rest < length ts)
comparison_first p a0 a1 a2 a3 a4 a5 ts cmp.Equal rest h = first_is p a0 h
comparison_first p a0 a1 a2 a3 a4 a5 ts cmp.NotEqual rest h = first_is p a1 h
comparison_first p a0 a1 a2 a3 a4 a5 ts cmp.Less rest h = first_is p a2 h
comparison_first p a0 a1 a2 a3 a4 a5 ts cmp.Greater rest h = first_is p a3 h
comparison_first p a0 a1 a2 a3 a4 a5 ts cmp.LessOrEqual rest h = first_is p a4 h
comparison_first p a0 a1 a2 a3 a4 a5 ts cmp.GreaterOrEqual rest h = first_is p a5 h

pub no_comparison : (p : Kind → Bool) → p EQUAL ≡ true → p NOT_EQUAL ≡ true → p LESS ≡ true → p GREATER ≡ true → p LESS_OR_EQUAL ≡ true
    → p GREATER_OR_EQUAL ≡ true → (rest : Tokens) → Stops p rest → comparison rest ≡ None
unfolding comparison
no_comparison p a0 a1 a2 a3 a4 a5 rest h =
    rw (no_symbol p s.Equal a0 rest h, no_symbol p s.NotEqual a1 rest h, no_symbol p s.Less a2 rest h, no_symbol p s.Greater a3 rest h, no_symbol p s.LessOrEqual a4 rest h, no_symbol p s.GreaterOrEqual a5 rest h) refl

quantifier_passes : (ts : Tokens) (x : Quantifier) (rest : Tokens) → IsQuantifier ts x rest → Passes ts rest
quantifier_passes ts quantifier_of.All rest h = one refl refl h
quantifier_passes ts quantifier_of.Distinct rest h = one refl refl h

quantifier_at : (ts : Tokens) (x : Quantifier) (rest : Tokens) → IsQuantifier ts x rest → quantifier ts ≡ Some (x, rest)
unfolding word
quantifier_at ts quantifier_of.All rest h = rw h refl
quantifier_at ts quantifier_of.Distinct rest h = rw h refl

pub quantifier_again : {d : ℕ} → Again Quantifier d never quantifier IsQuantifier
quantifier_again = record { passes = quantifier_passes; at = λ ts x rest h shallow stops. quantifier_at ts x rest h }

pub quantifier_first : (p : Kind → Bool) → p ALL ≡ false → p DISTINCT ≡ false → (ts : Tokens) (x : Quantifier) (rest : Tokens)
    → IsQuantifier ts x rest → Stops p ts × (length rest < length ts)
quantifier_first p a0 a1 ts quantifier_of.All rest h = first_is p a0 h
quantifier_first p a0 a1 ts quantifier_of.Distinct rest h = first_is p a1 h

pub no_quantifier : (p : Kind → Bool) → p ALL ≡ true → p DISTINCT ≡ true → (rest : Tokens) → Stops p rest → quantifier rest ≡ None
no_quantifier p a0 a1 rest h = rw (no_word p w.All a0 rest h, no_word p w.Distinct a1 rest h) refl

set_function_passes : (ts : Tokens) (x : SetFunction) (rest : Tokens) → IsSetFunction ts x rest → Passes ts rest
set_function_passes ts function.Count rest h = one refl refl h
set_function_passes ts function.Sum rest h = one refl refl h
set_function_passes ts function.Avg rest h = one refl refl h
set_function_passes ts function.Min rest h = one refl refl h
set_function_passes ts function.Max rest h = one refl refl h

set_function_at : (ts : Tokens) (x : SetFunction) (rest : Tokens) → IsSetFunction ts x rest → set_function ts ≡ Some (x, rest)
unfolding set_function word
set_function_at ts function.Count rest h = rw h refl
set_function_at ts function.Sum rest h = rw h refl
set_function_at ts function.Avg rest h = rw h refl
set_function_at ts function.Min rest h = rw h refl
set_function_at ts function.Max rest h = rw h refl

pub set_function_again : {d : ℕ} → Again SetFunction d never set_function IsSetFunction
set_function_again = record { passes = set_function_passes; at = λ ts x rest h shallow stops. set_function_at ts x rest h }

pub set_function_first : (p : Kind → Bool) → p COUNT ≡ false → p SUM ≡ false → p AVG ≡ false → p MIN ≡ false → p MAX ≡ false
    → (ts : Tokens) (x : SetFunction) (rest : Tokens) → IsSetFunction ts x rest → Stops p ts × (length rest < length ts)
set_function_first p a0 a1 a2 a3 a4 ts function.Count rest h = first_is p a0 h
set_function_first p a0 a1 a2 a3 a4 ts function.Sum rest h = first_is p a1 h
set_function_first p a0 a1 a2 a3 a4 ts function.Avg rest h = first_is p a2 h
set_function_first p a0 a1 a2 a3 a4 ts function.Min rest h = first_is p a3 h
set_function_first p a0 a1 a2 a3 a4 ts function.Max rest h = first_is p a4 h

pub no_set_function : (p : Kind → Bool) → p COUNT ≡ true → p SUM ≡ true → p AVG ≡ true → p MIN ≡ true → p MAX ≡ true → (rest : Tokens) → Stops p rest
    → set_function rest ≡ None
unfolding set_function
no_set_function p a0 a1 a2 a3 a4 rest h =
    rw (no_word p w.Count a0 rest h, no_word p w.Sum a1 rest h, no_word p w.Avg a2 rest h, no_word p w.Min a3 rest h, no_word p w.Max a4 rest h) refl

truth_value_passes : (ts : Tokens) (x : TruthValue) (rest : Tokens) → IsTruthValue ts x rest → Passes ts rest
truth_value_passes ts truth.True rest h = one refl refl h
truth_value_passes ts truth.False rest h = one refl refl h
truth_value_passes ts truth.Unknown rest h = one refl refl h

truth_value_at : (ts : Tokens) (x : TruthValue) (rest : Tokens) → IsTruthValue ts x rest → truth_value ts ≡ Some (x, rest)
unfolding word
truth_value_at ts truth.True rest h = rw h refl
truth_value_at ts truth.False rest h = rw h refl
truth_value_at ts truth.Unknown rest h = rw h refl

pub truth_value_again : {d : ℕ} → Again TruthValue d never truth_value IsTruthValue
truth_value_again = record { passes = truth_value_passes; at = λ ts x rest h shallow stops. truth_value_at ts x rest h }

pub truth_value_first : (p : Kind → Bool) → p TRUE ≡ false → p FALSE ≡ false → p UNKNOWN ≡ false → (ts : Tokens) (x : TruthValue) (rest : Tokens)
    → IsTruthValue ts x rest → Stops p ts × (length rest < length ts)
truth_value_first p a0 a1 a2 ts truth.True rest h = first_is p a0 h
truth_value_first p a0 a1 a2 ts truth.False rest h = first_is p a1 h
truth_value_first p a0 a1 a2 ts truth.Unknown rest h = first_is p a2 h

pub no_truth_value : (p : Kind → Bool) → p TRUE ≡ true → p FALSE ≡ true → p UNKNOWN ≡ true → (rest : Tokens) → Stops p rest → truth_value rest ≡ None
no_truth_value p a0 a1 a2 rest h = rw (no_word p w.True a0 rest h, no_word p w.False a1 rest h, no_word p w.Unknown a2 rest h) refl

-- ---- operators with ALL

set_operator_passes : (ts : Tokens) (x : SetOperator) (rest : Tokens) → IsSetOperator ts x rest → Passes ts rest
set_operator_passes ts set.Union rest h = one refl refl h
set_operator_passes ts set.UnionAll rest h = onward (one refl refl h) (past refl refl here)
set_operator_passes ts set.Except rest h = one refl refl h
set_operator_passes ts set.ExceptAll rest h = onward (one refl refl h) (past refl refl here)

set_operator_at : (ts : Tokens) (x : SetOperator) (rest : Tokens) → IsSetOperator ts x rest → Stops (is_word w.All) rest → set_operator ts ≡ Some (x, rest)
unfolding word eat_word
set_operator_at ts set.Union rest h stops = rw (h, stops) refl
set_operator_at ts set.UnionAll rest h stops = rw h refl
set_operator_at ts set.Except rest h stops = rw (h, stops) refl
set_operator_at ts set.ExceptAll rest h stops = rw h refl

pub set_operator_again : {d : ℕ} → Again SetOperator d (is_word w.All) set_operator IsSetOperator
set_operator_again = record { passes = set_operator_passes; at = λ ts x rest h shallow stops. set_operator_at ts x rest h stops }

pub set_operator_first : (p : Kind → Bool) → p UNION ≡ false → p EXCEPT ≡ false → (ts : Tokens) (x : SetOperator) (rest : Tokens)
    → IsSetOperator ts x rest → Stops p ts × (length rest < length ts)
set_operator_first p a0 a1 ts set.Union rest h = first_is p a0 h
set_operator_first p a0 a1 ts set.UnionAll rest h = let f = first_is p a0 h in (f.0, let l : length rest < length (ALL ∷ rest) = omega arith in omega arith)
set_operator_first p a0 a1 ts set.Except rest h = first_is p a1 h
set_operator_first p a0 a1 ts set.ExceptAll rest h = let f = first_is p a1 h in (f.0, let l : length rest < length (ALL ∷ rest) = omega arith in omega arith)

pub no_set_operator : (p : Kind → Bool) → p UNION ≡ true → p EXCEPT ≡ true → (rest : Tokens) → Stops p rest → set_operator rest ≡ None
no_set_operator p a0 a1 rest h = rw (no_word p w.Union a0 rest h, no_word p w.Except a1 rest h) refl

-- INTERSECT [ALL]
pub intersect_again : {d : ℕ} → Again Bool d (is_word w.All) intersect (INTERSECT ⊳ Written ALL)
intersect_again = record {
  passes = λ ts x rest h. onward (one refl refl h.1) (written_passes w.All h.0 x rest h.2);
  at = λ ts x rest h shallow stops. rw (h.1, word_again w.Intersect h.0) (ap (λ p. Some p) (written_again w.All h.0 x rest h.2 stops));
}

pub intersect_first : (p : Kind → Bool) → p INTERSECT ≡ false → (ts : Tokens) (x : Bool) (rest : Tokens) → (INTERSECT ⊳ Written ALL) ts x rest
    → Stops p ts × (length rest < length ts)
intersect_first p a ts x rest h = let f = first_is p a h.1 in (f.0, let l = no_longer (written_passes w.All h.0 x rest h.2) in let k = f.1 in omega arith)

pub no_intersect : (p : Kind → Bool) → p INTERSECT ≡ true → (rest : Tokens) → Stops p rest → intersect rest ≡ None
no_intersect p a rest h = rw (no_word p w.Intersect a rest h) refl

-- ---- what may be left out

abbrev pub is_sign : Kind → Bool
is_sign (kind.Symbol s.Plus) = true
is_sign (kind.Symbol s.Minus) = true
is_sign _ = false

pub may_sign_again : {d : ℕ} → Again (Option Sign) d is_sign (optional sign) (Maybe IsSign)
may_sign_again = optional_again is_sign sign_again (no_sign is_sign refl refl) (λ rest h. nothing_stops rest)

abbrev pub is_quantifier : Kind → Bool
is_quantifier (kind.Word w.All) = true
is_quantifier (kind.Word w.Distinct) = true
is_quantifier _ = false

pub may_quantifier_again : {d : ℕ} → Again (Option Quantifier) d is_quantifier (optional quantifier) (Maybe IsQuantifier)
may_quantifier_again = optional_again is_quantifier quantifier_again (no_quantifier is_quantifier refl refl) (λ rest h. nothing_stops rest)

-- [IS [NOT] (TRUE | FALSE | UNKNOWN)]
pub truth_test_again : {d : ℕ} → Again (Option TruthTest) d (is_word w.Is) truth_test (Maybe IsTruthTest)
unfolding truth_test
truth_test_again = maybe_again (opened_from IsTruthTest (opened_by_word w.Is (is_word w.Is)
    (made_again {R' =
    λ ts x rest. (Written NOT ⨾ IsTruthValue) ts (x.is_negated, x.value) rest} (λ x. record { is_negated = x.0; value = x.1 }) (λ x. (x.is_negated, x.value))
    (both_again (may_be_again w.Not) truth_value_again (λ ts x rest h stops. (truth_value_first (is_word w.Not) refl refl refl ts x rest h).0))
    (λ ts x rest h. h) (λ x. refl))
    refl refl (λ rest h. nothing_stops rest))
    (λ ts x rest h. (h.1.0, h.1.1, (h.0, h.1.2, h.2))))

-- ---- literal, column and alias

literal_passes : (ts : Tokens) (x : Literal) (rest : Tokens) → IsLiteral ts x rest → Passes ts rest
literal_passes ts (literal_of.Number x n) rest h = onward ((may_sign_again {d = zero}).passes ts x h.0 h.1) (one refl refl h.2)
literal_passes ts (literal_of.Text x) rest h = one refl refl h

-- a number, perhaps with a sign, is no string
no_string : (ts : Tokens) (x : Option Sign) (rest : Tokens) → Maybe IsSign ts x rest → Stops is_string rest → Stops is_string ts
no_string ts None rest h stops = rw h stops
no_string ts (Some sign_of.Plus) rest h stops = rw h refl
no_string ts (Some sign_of.Minus) rest h stops = rw h refl

literal_at : (d : ℕ) (ts : Tokens) (x : Literal) (rest : Tokens) → IsLiteral ts x rest → is_shallow ts d ≡ true → literal ts ≡ Some (x, rest)
unfolding literal
literal_at d ts (literal_of.Number x n) rest h shallow =
    let begins : Stops is_string h.0 = rw h.2 refl in
    let first = (may_sign_again {d = d}).at ts x h.0 h.1 shallow (rw h.2 refl) in
    rw (no_string ts x h.0 h.1 begins, first, h.2) refl
literal_at d ts (literal_of.Text x) rest h shallow = rw h refl

pub literal_again : {d : ℕ} → Again Literal d never literal IsLiteral
literal_again {d} = record { passes = literal_passes; at = λ ts x rest h shallow stops. literal_at d ts x rest h shallow }

column_passes : (ts : Tokens) (table : Option (List ℕ)) (x : List ℕ) (rest : Tokens) → IsColumn ts (record { table = table; name = x }) rest → Passes ts rest
column_passes ts None x rest h = onward (same h.1) (one refl refl h.2)
column_passes ts (Some table) x rest h = onward (one refl refl h.1) (past refl refl (one refl refl h.2))

column_at : (ts : Tokens) (table : Option (List ℕ)) (x : List ℕ) (rest : Tokens) → IsColumn ts (record { table = table; name = x }) rest
    → Stops (is_symbol s.Period) rest
    → column ts ≡ Some (record { table = table; name = x }, rest)
unfolding column symbol
column_at ts None x rest h stops = rw (h.1, h.2, stops) refl
column_at ts (Some table) x rest h stops = rw (h.1, h.2) refl

pub column_again : {d : ℕ} → Again Column d (is_symbol s.Period) column IsColumn
column_again =
    record { passes = λ ts x rest h. column_passes ts x.table x.name rest h; at = λ ts x rest h shallow stops. column_at ts x.table x.name rest h stops }

-- [AS] name
pub alias_again : {d : ℕ} → Again Alias d never alias IsAlias
unfolding alias
alias_again = made_again (λ x. record { has_as = x.0; name = x.1 }) (λ x. (x.has_as, x.name))
    (both_again (may_be_again w.As) name_again (λ ts x rest h stops. rw h refl)) (λ ts x rest h. h) (λ x. refl)

no_alias : (rest : Tokens) → Stops alias_goes_on rest → begins_alias rest ≡ false
no_alias [] h = refl
no_alias (t ∷ ts) h = h

starts_alias : (ts : Tokens) (b : Bool) (x : List ℕ) (mid rest : Tokens) → Written AS ts b mid → IsName mid x rest → begins_alias ts ≡ true
starts_alias ts true x mid rest h n = rw h refl
starts_alias ts false x mid rest h n = rw (h, n) refl

may_alias_at : (d : ℕ) (ts : Tokens) (x : Option Alias) (rest : Tokens) → Maybe IsAlias ts x rest → is_shallow ts d ≡ true → Stops alias_goes_on rest
    → may_alias ts ≡ Some (x, rest)
unfolding may_alias
may_alias_at d ts None rest h shallow stops = rw (h, no_alias rest stops) refl
may_alias_at d ts (Some x) rest h shallow stops =
    let read = (alias_again {d = d}).at ts x rest h shallow (nothing_stops rest) in
    rw (starts_alias ts x.has_as x.name h.0 rest h.1 h.2, read) refl

-- [[AS] name]
pub may_alias_again : {d : ℕ} → Again (Option Alias) d alias_goes_on may_alias (Maybe IsAlias)
may_alias_again {d} = record { passes = maybe_passes IsAlias (alias_again {d = d}).passes; at = may_alias_at d }
