-- The parts that hold no other part: what is read is in the grammar.
use Rattle.std.proofs.Common.{◌≡◌, ℕ, Bool, true, false, List, ◌∷◌, Option, Some, None, refl, ap, sym as flip, ◌∙◌, subst}
use Rattle.std.specs.Prelude.{if◌then◌else◌}
use Rattle.lexer.specs.declared.kinds.Kind.{Kind}
use Rattle.lexer.specs.declared.kinds.Kind.TheVariants as kind
use Rattle.lexer.specs.declared.kinds.Symbol.TheVariants as s
use Rattle.lexer.specs.declared.words.Word.TheVariants as w
use Rattle.ast.specs.declared.operator.AddOperator.{AddOperator}
use Rattle.ast.specs.declared.operator.AddOperator.TheVariants as add
use Rattle.ast.specs.declared.operator.Alias.{Alias}
use Rattle.ast.specs.declared.operator.Column.{Column}
use Rattle.ast.specs.declared.operator.Comparison.{Comparison}
use Rattle.ast.specs.declared.operator.Comparison.TheVariants as cmp
use Rattle.ast.specs.declared.operator.Literal.{Literal}
use Rattle.ast.specs.declared.operator.Literal.TheVariants as literal_of
use Rattle.ast.specs.declared.operator.MultiplyOperator.{MultiplyOperator}
use Rattle.ast.specs.declared.operator.MultiplyOperator.TheVariants as multiply
use Rattle.ast.specs.declared.operator.Quantifier.{Quantifier}
use Rattle.ast.specs.declared.operator.Quantifier.TheVariants as quantifier_of
use Rattle.ast.specs.declared.operator.SetFunction.{SetFunction}
use Rattle.ast.specs.declared.operator.SetFunction.TheVariants as function
use Rattle.ast.specs.declared.operator.SetOperator.{SetOperator}
use Rattle.ast.specs.declared.operator.SetOperator.TheVariants as set
use Rattle.ast.specs.declared.operator.Sign.{Sign}
use Rattle.ast.specs.declared.operator.Sign.TheVariants as sign_of
use Rattle.ast.specs.declared.operator.TruthTest.{TruthTest}
use Rattle.ast.specs.declared.operator.TruthValue.{TruthValue}
use Rattle.ast.specs.declared.operator.TruthValue.TheVariants as truth
use Rattle.ast.specs.Notation.{Tokens, ◌⨾◌, ◌⊳◌, Maybe, Written}
use Rattle.ast.specs.Terminals.{IsName, IsNumber, IsString, IsSign, IsAddOperator, IsMultiplyOperator, IsComparison, IsQuantifier, IsSetFunction, IsSetOperator, IsTruthValue, IsTruthTest, IsLiteral, IsColumn, IsAlias}
use Rattle.ast.specs.Words.{ALL, EXCEPT, INTERSECT, NOT, UNION}
use Rattle.parse_terminals.specs.Readers.{if_next, next_is, symbol, eat_word, name, number, made}
use Rattle.parse_terminals.specs.ReadTerminals.{add_operator, multiply_operator, sign, less, not_less, comparison, quantifier, extreme, count_or_sum, set_function, set_operator, intersect, truth_value, truth_test, string, is_string, literal, column, alias, begins_alias, may_alias}
use Rattle.parser.proofs.Steps.{bind_some, found, symbol_found}
use Rattle.parser.proofs.Sound.{Sound, both_sound, made_sound, eaten, written_sound, optional_sound, maybe_sound, by_word, either_sound, next_sound, none_sound, word_is, symbol_is, word_then, itself, nothing_sound, opening_to}

pub name_sound : Sound (List ℕ) name IsName
name_sound = record { at = at }
  where
    at : (ts : Tokens) (x : List ℕ × Tokens) → name ts ≡ Some x → IsName ts x.0 x.1
    at (kind.Name n ∷ ts) x e = found (λ y. IsName (kind.Name n ∷ ts) y.0 y.1) (n, ts) x e refl
    at _ x e = cc

pub number_sound : Sound ℕ number IsNumber
number_sound = record { at = at }
  where
    at : (ts : Tokens) (x : ℕ × Tokens) → number ts ≡ Some x → IsNumber ts x.0 x.1
    at (kind.Number n ∷ ts) x e = found (λ y. IsNumber (kind.Number n ∷ ts) y.0 y.1) (n, ts) x e refl
    at _ x e = cc

pub string_sound : Sound (List ℕ) string IsString
string_sound = record { at = at }
  where
    at : (ts : Tokens) (x : List ℕ × Tokens) → string ts ≡ Some x → IsString ts x.0 x.1
    at (kind.Text n ∷ ts) x e = found (λ y. IsString (kind.Text n ∷ ts) y.0 y.1) (n, ts) x e refl
    at _ x e = cc

pub add_operator_sound : Sound AddOperator add_operator IsAddOperator
add_operator_sound =
    next_sound (symbol_is s.Plus add.Plus IsAddOperator (λ rest. refl))
    (next_sound (symbol_is s.Minus add.Minus IsAddOperator (λ rest. refl))
    (next_sound (symbol_is s.Concatenation add.Concatenate IsAddOperator (λ rest. refl)) (none_sound IsAddOperator)))

pub multiply_operator_sound : Sound MultiplyOperator multiply_operator IsMultiplyOperator
multiply_operator_sound =
    next_sound (symbol_is s.Asterisk multiply.Times IsMultiplyOperator (λ rest. refl))
    (next_sound (symbol_is s.Solidus multiply.Divide IsMultiplyOperator (λ rest. refl)) (none_sound IsMultiplyOperator))

pub sign_sound : Sound Sign sign IsSign
sign_sound =
    next_sound (symbol_is s.Plus sign_of.Plus IsSign (λ rest. refl))
    (next_sound (symbol_is s.Minus sign_of.Minus IsSign (λ rest. refl)) (none_sound IsSign))

less_sound : Sound Comparison less IsComparison
less_sound =
    next_sound (symbol_is s.NotEqual cmp.NotEqual IsComparison (λ rest. refl))
    (next_sound (symbol_is s.Less cmp.Less IsComparison (λ rest. refl))
    (next_sound (symbol_is s.LessOrEqual cmp.LessOrEqual IsComparison (λ rest. refl)) (none_sound IsComparison)))

not_less_sound : Sound Comparison not_less IsComparison
not_less_sound =
    next_sound (symbol_is s.Equal cmp.Equal IsComparison (λ rest. refl))
    (next_sound (symbol_is s.Greater cmp.Greater IsComparison (λ rest. refl))
    (next_sound (symbol_is s.GreaterOrEqual cmp.GreaterOrEqual IsComparison (λ rest. refl)) (none_sound IsComparison)))

pub comparison_sound : Sound Comparison comparison IsComparison
unfolding comparison
comparison_sound = next_sound (itself not_less_sound) less_sound

pub quantifier_sound : Sound Quantifier quantifier IsQuantifier
quantifier_sound =
    next_sound (word_is w.All quantifier_of.All IsQuantifier (λ rest. refl))
    (next_sound (word_is w.Distinct quantifier_of.Distinct IsQuantifier (λ rest. refl)) (none_sound IsQuantifier))

extreme_sound : Sound SetFunction extreme IsSetFunction
extreme_sound =
    next_sound (word_is w.Min function.Min IsSetFunction (λ rest. refl))
    (next_sound (word_is w.Max function.Max IsSetFunction (λ rest. refl)) (none_sound IsSetFunction))

count_or_sum_sound : Sound SetFunction count_or_sum IsSetFunction
count_or_sum_sound =
    next_sound (word_is w.Count function.Count IsSetFunction (λ rest. refl))
    (next_sound (word_is w.Sum function.Sum IsSetFunction (λ rest. refl))
    (next_sound (word_is w.Avg function.Avg IsSetFunction (λ rest. refl)) (none_sound IsSetFunction)))

pub set_function_sound : Sound SetFunction set_function IsSetFunction
unfolding set_function
set_function_sound = next_sound (itself count_or_sum_sound) extreme_sound

all_or_not : (t : Kind) (plain whole : SetOperator) → ((rest : Tokens) → IsSetOperator (t ∷ rest) plain rest) → ((rest : Tokens) → IsSetOperator (t ∷ ALL ∷ rest) whole rest)
    → (ts : Tokens) (b : Bool) (rest : Tokens) → Written ALL ts b rest → IsSetOperator (t ∷ ts) (if b then whole else plain) rest
all_or_not t plain whole p q ts true rest h = subst (λ a. IsSetOperator (t ∷ a) whole rest) (flip h) (q rest)
all_or_not t plain whole p q ts false rest h = subst (λ a. IsSetOperator (t ∷ a) plain rest) (flip h) (p rest)

pub set_operator_sound : Sound SetOperator set_operator IsSetOperator
set_operator_sound =
    next_sound (word_then w.Union IsSetOperator (λ ts x e. found (λ y. IsSetOperator (UNION ∷ ts) y.0 y.1) _ x e
    (all_or_not UNION set.Union set.UnionAll (λ rest. refl) (λ rest. refl) ts (eat_word w.All ts).0 (eat_word w.All ts).1 (eaten w.All ts))))
    (next_sound (word_then w.Except IsSetOperator (λ ts x e. found (λ y. IsSetOperator (EXCEPT ∷ ts) y.0 y.1) _ x e
    (all_or_not EXCEPT set.Except set.ExceptAll (λ rest. refl) (λ rest. refl) ts (eat_word w.All ts).0 (eat_word w.All ts).1 (eaten w.All ts))))
    (none_sound IsSetOperator))

pub intersect_sound : Sound Bool intersect (INTERSECT ⊳ Written ALL)
intersect_sound =
    next_sound (word_then w.Intersect (INTERSECT ⊳ Written ALL) (λ ts x e. (ts, refl, found (λ y. Written ALL ts y.0 y.1) (eat_word w.All ts) x e (eaten w.All ts))))
    (none_sound (INTERSECT ⊳ Written ALL))

truth_value_sound : Sound TruthValue truth_value IsTruthValue
truth_value_sound =
    next_sound (word_is w.True truth.True IsTruthValue (λ rest. refl))
    (next_sound (word_is w.False truth.False IsTruthValue (λ rest. refl))
    (next_sound (word_is w.Unknown truth.Unknown IsTruthValue (λ rest. refl)) (none_sound IsTruthValue)))

pub truth_test_sound : Sound (Option TruthTest) truth_test (Maybe IsTruthTest)
unfolding truth_test
truth_test_sound = maybe_sound (opening_to IsTruthTest
    (by_word w.Is (made_sound (λ ts x rest. (Written NOT ⨾ IsTruthValue) ts (x.is_negated, x.value) rest) (λ x. record { is_negated = x.0; value = x.1 })
    (both_sound (written_sound w.Not) truth_value_sound) (λ ts x rest h. h)))
    (λ ts x rest h. (h.2.0, (h.0, h.1, h.2.1), h.2.2)))

pub literal_sound : Sound Literal literal IsLiteral
unfolding literal
literal_sound = either_sound (next_is is_string) (made_sound IsLiteral literal_of.Text string_sound (λ ts x rest h. h))
    (made_sound IsLiteral (λ x. literal_of.Number x.0 x.1) (both_sound (optional_sound sign_sound) number_sound) (λ ts x rest h. h))

pub column_sound : Sound Column column IsColumn
unfolding column
column_sound = record {
  at = λ ts x e.
      let n = bind_some (name ts) _ x e in
      let first = name_sound.at ts n.0 n.1 in
      elim (symbol s.Period n.0.1) as (λ o. symbol s.Period n.0.1 ≡ o
      → if_next o (Some (record { table = None; name = n.0.0 }, n.0.1)) (λ o. made (λ y. record { table = Some n.0.0; name = y }) name o.1) ≡ Some x → IsColumn ts x.0 x.1) [
        | None ↦ λ p h. found (λ y. IsColumn ts y.0 y.1) (record { table = None; name = n.0.0 }, n.0.1) x h (ts, refl, first)
        | Some o ↦ λ p h.
            let m = bind_some (name o.1) _ x h in
            found (λ y. IsColumn ts y.0 y.1) (record { table = Some n.0.0; name = m.0.0 }, m.0.1) x m.2
            (o.1, first ∙ ap (λ a. kind.Name n.0.0 ∷ a) (symbol_found s.Period n.0.1 o p), name_sound.at o.1 m.0 m.1)
      ] refl n.2;
}

pub alias_sound : Sound Alias alias IsAlias
unfolding alias
alias_sound = made_sound IsAlias (λ x. record { has_as = x.0; name = x.1 }) (both_sound (written_sound w.As) name_sound) (λ ts x rest h. h)

pub may_alias_sound : Sound (Option Alias) may_alias (Maybe IsAlias)
unfolding may_alias
may_alias_sound = either_sound begins_alias (made_sound (Maybe IsAlias) Some alias_sound (λ ts x rest h. h)) (nothing_sound IsAlias)
