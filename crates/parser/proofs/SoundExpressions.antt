-- Expressions and conditions: what is read is in the grammar.
use Rattle.std.proofs.Common.{◌≡◌, ℕ, Bool, ◌∷◌, Option, Some, refl, ap, ◌∙◌}
use Rattle.lexer.specs.declared.kinds.Kind.TheVariants as kind
use Rattle.lexer.specs.declared.kinds.Symbol.TheVariants as s
use Rattle.lexer.specs.declared.words.Word.TheVariants as w
use Rattle.ast.specs.declared.operator.AddOperator.{AddOperator}
use Rattle.ast.specs.declared.operator.Comparison.{Comparison}
use Rattle.ast.specs.declared.operator.MultiplyOperator.{MultiplyOperator}
use Rattle.ast.specs.declared.operator.Quantifier.{Quantifier}
use Rattle.ast.specs.declared.operator.SetFunction.{SetFunction}
use Rattle.ast.specs.declared.tree.Condition.{Condition, roll-Condition, out-roll-Condition}
use Rattle.ast.specs.declared.tree.Conjunction.{Conjunction, roll-Conjunction, out-roll-Conjunction}
use Rattle.ast.specs.declared.tree.Expression.{Expression, roll-Expression, out-roll-Expression}
use Rattle.ast.specs.declared.tree.Factor.{Factor, roll-Factor}
use Rattle.ast.specs.declared.tree.Negation.{Negation, roll-Negation}
use Rattle.ast.specs.declared.tree.Predicate.{Predicate}
use Rattle.ast.specs.declared.tree.Predicate.TheVariants as predicate_of
use Rattle.ast.specs.declared.tree.Predicate.TheVariants.{outs-Nested, outs-Compare, outs-Between, outs-InList, outs-InQuery, outs-Like, outs-IsNull, outs-Exists}
use Rattle.ast.specs.declared.tree.Primary.{Primary}
use Rattle.ast.specs.declared.tree.Primary.TheVariants as primary_of
use Rattle.ast.specs.declared.tree.Primary.TheVariants.{outs-Number, outs-Text, outs-Column, outs-CountRows, outs-Aggregate, outs-Parenthesized, outs-Subquery}
use Rattle.ast.specs.declared.tree.Query.{Query}
use Rattle.ast.specs.declared.tree.Term.{Term, roll-Term, out-roll-Term}
use Rattle.ast.specs.declared.tree.Test.{Test, roll-Test}
use Rattle.ast.specs.Notation.{Tokens, ◌⨾◌, ◌⊳◌, Maybe, Written}
use Rattle.ast.specs.Terminals.{IsComparison, IsQuantifier, IsSetFunction}
use Rattle.ast.specs.Words.{ASTERISK, BETWEEN, COUNT, IN, IS, LEFT_PARENTHESIS, NOT, RIGHT_PARENTHESIS}
use Rattle.ast.specs.Expressions.{Within, Nested, IsPrimary, IsFactor, IsTerm, IsExpression, IsPredicate, IsTest, IsNegation, IsConjunction, IsCondition}
use Rattle.parse_terminals.specs.Readers.{◌>>=◌, next_is, is_symbol, word, symbol, eat_word}
use Rattle.parse_terminals.specs.ReadTerminals.{count_rows, is_number, is_string, opens_query, opens_subquery, opens_condition, set_function, comparison}
use Rattle.parse_expressions.specs.ReadExpressions.{Inner, argument, aggregate, in_parentheses, constant_or_column, primary, factor, multiplied, term, added, expression, compare, is_null, between, is_in, like, range_list_or_pattern, after_operand, exists, nested, predicate, test_, negation, conjunction, condition}
use Rattle.parser.proofs.Steps.{bind_some, found, symbol_found}
use Rattle.parser.proofs.Sound.{Sound, Opening, both_sound, after_word_sound, after_symbol_sound, before_word_sound, parenthesized_sound, made_sound, eaten, written_sound, optional_sound, by_word, by_operator, chain_sound, listed_sound, either_sound, next_sound, word_then}
use Rattle.parser.proofs.SoundTerminals.{number_sound, string_sound, add_operator_sound, multiply_operator_sound, sign_sound, comparison_sound, quantifier_sound, set_function_sound, truth_test_sound, literal_sound, column_sound}

right_sound : Sound (Unit {0}) (symbol s.RightParenthesis) (λ ts _ rest. ts ≡ RIGHT_PARENTHESIS ∷ rest)
right_sound = record { at = λ ts x e. symbol_found s.RightParenthesis ts x e }

count_rows_sound : Sound (Unit {0}) count_rows (COUNT ⊳ LEFT_PARENTHESIS ⊳ ASTERISK ⊳ (λ ts _ rest. ts ≡ RIGHT_PARENTHESIS ∷ rest))
unfolding count_rows
count_rows_sound = after_word_sound w.Count (after_symbol_sound s.LeftParenthesis (after_symbol_sound s.Asterisk right_sound))

module _ (limit : Option ℕ) (some : Within limit 0) (I : Inner) (N : Nested)
    (e : Sound Expression I.expression N.expression) (c : Sound Condition I.condition N.condition) (q : Sound Query I.query N.query) where
  argument_sound : Sound (Option Quantifier × Expression) (argument limit I) (Maybe IsQuantifier ⨾ N.expression)
  unfolding argument
  argument_sound = both_sound (optional_sound quantifier_sound) e

  aggregate_sound : (f : SetFunction) → Sound Primary (aggregate limit I f) (λ ts x rest. (before : Tokens) → IsSetFunction before f ts → IsPrimary limit N before x rest)
  unfolding aggregate
  aggregate_sound f = made_sound _ (λ x. primary_of.Aggregate f x.0 x.1) (parenthesized_sound argument_sound)
      (λ ts x rest h before b. record { is = rw outs-Aggregate (ts, b, h) })

  in_parentheses_sound : Sound Primary (in_parentheses limit I) (IsPrimary limit N)
  unfolding in_parentheses
  in_parentheses_sound = either_sound opens_query
      (made_sound (IsPrimary limit N) primary_of.Subquery (parenthesized_sound q) (λ ts x rest h. record { is = rw outs-Subquery h }))
      (made_sound (IsPrimary limit N) primary_of.Parenthesized (parenthesized_sound e) (λ ts x rest h. record { is = rw outs-Parenthesized h }))

  constant_or_column_sound : Sound Primary (constant_or_column limit I) (IsPrimary limit N)
  unfolding constant_or_column
  constant_or_column_sound = either_sound (next_is is_number)
      (made_sound (IsPrimary limit N) primary_of.Number number_sound (λ ts x rest h. record { is = rw outs-Number h }))
      (either_sound (next_is is_string)
      (made_sound (IsPrimary limit N) primary_of.Text string_sound (λ ts x rest h. record { is = rw outs-Text h }))
      (made_sound (IsPrimary limit N) primary_of.Column column_sound (λ ts x rest h. record { is = rw outs-Column h })))

  count_opening : Opening (Unit {0}) Primary count_rows (λ _ ts. Some (primary_of.CountRows, ts)) (IsPrimary limit N)
  count_opening = record {
    at = λ ts o x f g.
        let h = count_rows_sound.at ts o f in
        let all : ts ≡ COUNT ∷ LEFT_PARENTHESIS ∷ ASTERISK ∷ RIGHT_PARENTHESIS ∷ o.1 =
        h.1 ∙ ap (λ a. COUNT ∷ a) (h.2.1 ∙ ap (λ a. LEFT_PARENTHESIS ∷ a) (h.2.2.1 ∙ ap (λ a. ASTERISK ∷ a) h.2.2.2)) in
        found (λ y. IsPrimary limit N ts y.0 y.1) (primary_of.CountRows, o.1) x g (record { is = rw outs-CountRows all });
  }

  aggregate_opening : Opening SetFunction Primary set_function (aggregate limit I) (IsPrimary limit N)
  aggregate_opening = record { at = λ ts o x f g. (aggregate_sound o.0).at o.1 x g ts (set_function_sound.at ts o f) }

  primary_sound : Sound Primary (primary limit I) (IsPrimary limit N)
  unfolding primary
  primary_sound = either_sound (next_is (is_symbol s.LeftParenthesis)) in_parentheses_sound (next_sound count_opening (next_sound aggregate_opening constant_or_column_sound))

  factor_sound : Sound Factor (factor limit I) (IsFactor limit N)
  unfolding factor
  factor_sound = made_sound (IsFactor limit N) (λ x. roll-Factor (record { sign = x.0; primary = x.1 })) (both_sound (optional_sound sign_sound) primary_sound)
      (λ ts x rest h. record { is = h })

  multiplied_sound : (o : MultiplyOperator) → Sound (MultiplyOperator × Factor) (multiplied limit I o) (λ ts x rest. (x.0 ≡ o) × IsFactor limit N ts x.1 rest)
  unfolding multiplied
  multiplied_sound o = made_sound _ (λ x. (o, x)) factor_sound (λ ts x rest h. (refl, h))

  term_sound : Sound Term (term limit I) (IsTerm limit N)
  unfolding term
  term_sound = made_sound (IsTerm limit N) (λ x. roll-Term (record { first = x.0; others = x.1 }))
      (chain_sound limit some factor_sound (by_operator (IsFactor limit N) multiply_operator_sound multiplied_sound)) (λ ts x rest h. record { is = rw out-roll-Term h })

  added_sound : (o : AddOperator) → Sound (AddOperator × Term) (added limit I o) (λ ts x rest. (x.0 ≡ o) × IsTerm limit N ts x.1 rest)
  unfolding added
  added_sound o = made_sound _ (λ x. (o, x)) term_sound (λ ts x rest h. (refl, h))

  pub expression_sound : Sound Expression (expression limit I) (IsExpression limit N)
  unfolding expression
  expression_sound = made_sound (IsExpression limit N) (λ x. roll-Expression (record { first = x.0; others = x.1 }))
      (chain_sound limit some term_sound (by_operator (IsTerm limit N) add_operator_sound added_sound)) (λ ts x rest h. record { is = rw out-roll-Expression h })

  -- ---- what follows the first operand of a predicate, which stands before it

  compare_sound : (left : Expression) (op : Comparison) → Sound Predicate (compare limit I left op)
      (λ ts x rest. (t u : Tokens) → IsExpression limit N t left u → IsComparison u op ts → IsPredicate limit N t x rest)
  unfolding compare
  compare_sound left op = made_sound _ (λ right. predicate_of.Compare left op right) expression_sound
      (λ ts x rest h t u l o. record { is = rw outs-Compare (u, l, (ts, o, h)) })

  is_null_sound : (left : Expression) → Sound Predicate (is_null limit I left)
      (λ ts x rest. (t u : Tokens) → IsExpression limit N t left u → u ≡ IS ∷ ts → IsPredicate limit N t x rest)
  unfolding is_null
  is_null_sound left = made_sound _ (λ not. predicate_of.IsNull left not) (before_word_sound w.Null (written_sound w.Not))
      (λ ts x rest h t u l o. record { is = rw outs-IsNull (u, l, (ts, o, h)) })

  between_sound : (left : Expression) (not : Bool) → Sound Predicate (between limit I left not)
      (λ ts x rest. (t u v : Tokens) → IsExpression limit N t left u → Written NOT u not v → v ≡ BETWEEN ∷ ts → IsPredicate limit N t x rest)
  unfolding between
  between_sound left not = made_sound _ (λ x. predicate_of.Between left not x.0 x.1) (both_sound expression_sound (after_word_sound w.And expression_sound))
      (λ ts x rest h t u v l n o. record { is = rw outs-Between (u, l, (v, n, (h.0, (ts, o, h.1), h.2))) })

  is_in_sound : (left : Expression) (not : Bool) → Sound Predicate (is_in limit I left not)
      (λ ts x rest. (t u v : Tokens) → IsExpression limit N t left u → Written NOT u not v → v ≡ IN ∷ ts → IsPredicate limit N t x rest)
  unfolding is_in
  is_in_sound left not = either_sound opens_subquery
      (made_sound _ (λ query. predicate_of.InQuery left not query) (parenthesized_sound q) (λ ts x rest h t u v l n o. record { is = rw outs-InQuery (u, l, (v, n, (ts, o, h))) }))
      (made_sound _ (λ list. predicate_of.InList left not list) (parenthesized_sound (listed_sound literal_sound))
      (λ ts x rest h t u v l n o. record { is = rw outs-InList (u, l, (v, n, (ts, o, h))) }))

  like_sound : (left : Expression) (not : Bool) → Sound Predicate (like limit I left not)
      (λ ts x rest. (t u : Tokens) → IsExpression limit N t left u → Written NOT u not ts → IsPredicate limit N t x rest)
  unfolding like
  like_sound left not = made_sound _ (λ pattern. predicate_of.Like left not pattern) (after_word_sound w.Like expression_sound)
      (λ ts x rest h t u l n. record { is = rw outs-Like (u, l, (ts, n, h)) })

  range_list_or_pattern_sound : (left : Expression) (not : Bool) → Sound Predicate (range_list_or_pattern limit I left not)
      (λ ts x rest. (t u : Tokens) → IsExpression limit N t left u → Written NOT u not ts → IsPredicate limit N t x rest)
  unfolding range_list_or_pattern
  range_list_or_pattern_sound left not = next_sound
      (word_then w.Between _ (λ ts x f t u l n. (between_sound left not).at ts x f t u _ l n refl))
      (next_sound (word_then w.In _ (λ ts x f t u l n. (is_in_sound left not).at ts x f t u _ l n refl)) (like_sound left not))

  after_operand_sound : (left : Expression) → Sound Predicate (after_operand limit I left) (λ ts x rest. (t : Tokens) → IsExpression limit N t left ts → IsPredicate limit N t x rest)
  unfolding after_operand
  after_operand_sound left = next_sound
      (compare_opening left)
      (next_sound (word_then w.Is _ (λ ts x f t l. (is_null_sound left).at ts x f t _ l refl)) (negatable left))
    where
      compare_opening : (left : Expression) → Opening Comparison Predicate comparison (compare limit I left) (λ ts x rest. (t : Tokens) → IsExpression limit N t left ts → IsPredicate limit N t x rest)
      compare_opening left = record { at = λ ts o x f g t l. (compare_sound left o.0).at o.1 x g t ts l (comparison_sound.at ts o f) }

      negatable : (left : Expression) → Sound Predicate (λ ts. range_list_or_pattern limit I left (eat_word w.Not ts).0 (eat_word w.Not ts).1)
          (λ ts x rest. (t : Tokens) → IsExpression limit N t left ts → IsPredicate limit N t x rest)
      negatable left = record { at = λ ts x f t l. (range_list_or_pattern_sound left (eat_word w.Not ts).0).at (eat_word w.Not ts).1 x f t ts l (eaten w.Not ts) }

  exists_sound : Opening (Unit {0}) Predicate (word w.Exists) (λ _. exists limit I) (IsPredicate limit N)
  unfolding exists
  exists_sound = word_then w.Exists (IsPredicate limit N) (λ ts x f.
      (made_sound (λ ts x rest. (t : Tokens) → t ≡ kind.Word w.Exists ∷ ts → IsPredicate limit N t x rest) predicate_of.Exists (parenthesized_sound q)
      (λ ts x rest h t o. record { is = rw outs-Exists (ts, o, h) })).at ts x f _ refl)

  nested_sound : Sound Predicate (nested limit I) (IsPredicate limit N)
  unfolding nested
  nested_sound = made_sound (IsPredicate limit N) predicate_of.Nested (parenthesized_sound c) (λ ts x rest h. record { is = rw outs-Nested h })

  compared : Sound Predicate (λ ts. expression limit I ts >>= (λ left. after_operand limit I left.0 left.1)) (IsPredicate limit N)
  compared = record {
    at = λ ts x f.
        let a = bind_some (expression limit I ts) (λ left. after_operand limit I left.0 left.1) x f in
        (after_operand_sound a.0.0).at a.0.1 x a.2 ts (expression_sound.at ts a.0 a.1);
  }

  predicate_sound : Sound Predicate (predicate limit I) (IsPredicate limit N)
  unfolding predicate
  predicate_sound = either_sound opens_condition nested_sound (next_sound exists_sound compared)

  test_sound : Sound Test (test_ limit I) (IsTest limit N)
  unfolding test_
  test_sound = made_sound (IsTest limit N) (λ x. roll-Test (record { predicate = x.0; truth = x.1 })) (both_sound predicate_sound truth_test_sound)
      (λ ts x rest h. record { is = h })

  negation_sound : Sound Negation (negation limit I) (IsNegation limit N)
  unfolding negation
  negation_sound = made_sound (IsNegation limit N) (λ x. roll-Negation (record { is_negated = x.0; test = x.1 })) (both_sound (written_sound w.Not) test_sound)
      (λ ts x rest h. record { is = h })

  conjunction_sound : Sound Conjunction (conjunction limit I) (IsConjunction limit N)
  unfolding conjunction
  conjunction_sound = made_sound (IsConjunction limit N) (λ x. roll-Conjunction (record { first = x.0; others = x.1 }))
      (chain_sound limit some negation_sound (by_word w.And negation_sound)) (λ ts x rest h. record { is = rw out-roll-Conjunction h })

  pub condition_sound : Sound Condition (condition limit I) (IsCondition limit N)
  unfolding condition
  condition_sound = made_sound (IsCondition limit N) (λ x. roll-Condition (record { first = x.0; others = x.1 }))
      (chain_sound limit some conjunction_sound (by_word w.Or conjunction_sound)) (λ ts x rest h. record { is = rw out-roll-Condition h })
