-- The tokens of expressions and conditions.
use Rattle.std.proofs.Common.{ℕ, Option, [], ◌∷◌, map, refl}
use Rattle.ast.specs.declared.tree.Condition.{out-Condition}
use Rattle.ast.specs.declared.tree.Conjunction.{out-Conjunction}
use Rattle.ast.specs.declared.tree.Expression.{out-Expression}
use Rattle.ast.specs.declared.tree.Factor.{out-Factor}
use Rattle.ast.specs.declared.tree.Negation.{out-Negation}
use Rattle.ast.specs.declared.tree.Predicate.{Predicate-F, out-Predicate}
use Rattle.ast.specs.declared.tree.Primary.{Primary-F, out-Primary}
use Rattle.ast.specs.declared.tree.Term.{out-Term}
use Rattle.ast.specs.declared.tree.Test.{out-Test}
use Rattle.ast.specs.Expressions.{Nested, IsPrimary, IsPrimaryLayer, IsFactor, IsTerm, IsExpression, IsPredicate, IsPredicateLayer, IsTest, IsNegation, IsConjunction, IsCondition}
use Rattle.ast.specs.Layers.{PredicateLayer, PrimaryLayer}
use Rattle.ast.specs.Notation.{Tokens}
use Rattle.ast.specs.Words.{AND, BETWEEN, EXISTS, IN, IS, LIKE, NOT, NULL, OR}
use Rattle.typing.specs.Printed.{condition_tokens, predicate_step, primary_step}
use Rattle.typing.specs.Tokens.{comparison_tokens, if_written, in_parentheses, listed, literal_tokens}
use Rattle.typing.proofs.ReadTokens.{Read, Reads, read_as, of, three, four, both, after, before, parenthesized, may, written, all_listed, joined, chained}
use Rattle.typing.proofs.ReadsTerminals.{add_operator, column, comparison, literals, multiply_operator, number, quantifier, set_function, sign, string, truth_test}
use Rattle.typing.proofs.TokensOf.{condition_is, conjunction_is, conjunction_tokens, expression_is, expression_tokens, factor_is, factor_tokens, negation_is, negation_tokens, predicate_is, predicate_parts, predicate_tokens, primary_is, primary_parts, primary_tokens, query_tokens, term_is, term_tokens, test_is, test_tokens}

-- what is known of the rules of what stands between parentheses
pub record Inner (inner : Nested) : Type 0 where
  pub expression : Reads inner.expression expression_tokens
  pub condition : Reads inner.condition condition_tokens
  pub query : Reads inner.query query_tokens

module _ (limit : Option ℕ) (N : Nested) (inner : Inner N) where
  -- ---- expressions

  primary_reads : (ts : Tokens) (x : PrimaryLayer) (rest : Tokens) → IsPrimaryLayer limit N ts x rest → Read (IsPrimaryLayer limit N) x (primary_step (primary_parts x)) ts rest
  primary_reads ts (Primary-F.Number x) rest h = read_as (IsPrimaryLayer limit N) (Primary-F.Number x) (λ ts rest h. h) refl (number.at ts x rest h)
  primary_reads ts (Primary-F.Text x) rest h = read_as (IsPrimaryLayer limit N) (Primary-F.Text x) (λ ts rest h. h) refl (string.at ts x rest h)
  primary_reads ts (Primary-F.Column x) rest h = read_as (IsPrimaryLayer limit N) (Primary-F.Column x) (λ ts rest h. h) refl (column.at ts x rest h)
  primary_reads ts Primary-F.CountRows rest h = record { only = h; again = λ more. refl }
  primary_reads ts (Primary-F.Aggregate f q x) rest h = read_as (IsPrimaryLayer limit N) (Primary-F.Aggregate f q x) (λ ts rest h. h) refl
      ((both set_function (parenthesized (both (may quantifier) inner.expression))).at ts (f, (q, x)) rest h)
  primary_reads ts (Primary-F.Parenthesized x) rest h = read_as (IsPrimaryLayer limit N) (Primary-F.Parenthesized x) (λ ts rest h. h) refl
      ((parenthesized inner.expression).at ts x rest h)
  primary_reads ts (Primary-F.Subquery x) rest h = read_as (IsPrimaryLayer limit N) (Primary-F.Subquery x) (λ ts rest h. h) refl
      ((parenthesized inner.query).at ts x rest h)

  primary_layer : Reads (IsPrimaryLayer limit N) (λ x. primary_step (primary_parts x))
  primary_layer = record { at = primary_reads }

  primary : Reads (IsPrimary limit N) primary_tokens
  primary = of primary_layer (IsPrimary limit N) out-Primary primary_tokens
      (λ ts x rest h. h.is) (λ ts x rest h ts' rest' h'. record { is = h' }) primary_is

  factor : Reads (IsFactor limit N) factor_tokens
  factor = of (both (may sign) primary) (IsFactor limit N) (λ x. ((out-Factor x).sign, (out-Factor x).primary)) factor_tokens
      (λ ts x rest h. h.is) (λ ts x rest h ts' rest' h'. record { is = h' }) factor_is

  term : Reads (IsTerm limit N) term_tokens
  term = of (chained limit multiply_operator factor) (IsTerm limit N) (λ x. ((out-Term x).first, (out-Term x).others)) term_tokens
      (λ ts x rest h. h.is) (λ ts x rest h ts' rest' h'. record { is = h' }) term_is

  pub expression : Reads (IsExpression limit N) expression_tokens
  expression = of (chained limit add_operator term) (IsExpression limit N) (λ x. ((out-Expression x).first, (out-Expression x).others)) expression_tokens
      (λ ts x rest h. h.is) (λ ts x rest h ts' rest' h'. record { is = h' }) expression_is

  -- ---- conditions

  predicate_reads : (ts : Tokens) (x : PredicateLayer) (rest : Tokens) → IsPredicateLayer limit N ts x rest → Read (IsPredicateLayer limit N) x (predicate_step (predicate_parts x)) ts rest
  predicate_reads ts (Predicate-F.Nested x) rest h = read_as (IsPredicateLayer limit N) (Predicate-F.Nested x) (λ ts rest h. h) refl ((parenthesized inner.condition).at ts x rest h)
  predicate_reads ts (Predicate-F.Compare x op y) rest h = read_as (IsPredicateLayer limit N) (Predicate-F.Compare x op y) (λ ts rest h. h)
      (three (expression_tokens x) (comparison_tokens op) (expression_tokens y))
      ((both expression (both comparison expression)).at ts (x, (op, y)) rest h)
  predicate_reads ts (Predicate-F.Between x not low high) rest h = read_as (IsPredicateLayer limit N) (Predicate-F.Between x not low high) (λ ts rest h. h)
      (four (expression_tokens x) (if_written not NOT) (BETWEEN ∷ expression_tokens low) (AND ∷ expression_tokens high))
      ((both expression (both (written NOT) (both (after BETWEEN expression) (after AND expression)))).at ts (x, (not, (low, high))) rest h)
  predicate_reads ts (Predicate-F.InList x not list) rest h = read_as (IsPredicateLayer limit N) (Predicate-F.InList x not list) (λ ts rest h. h)
      (three (expression_tokens x) (if_written not NOT) (IN ∷ in_parentheses (listed (map literal_tokens list))))
      ((both expression (both (written NOT) (after IN (parenthesized (all_listed literals))))).at ts (x, (not, list)) rest h)
  predicate_reads ts (Predicate-F.InQuery x not y) rest h = read_as (IsPredicateLayer limit N) (Predicate-F.InQuery x not y) (λ ts rest h. h)
      (three (expression_tokens x) (if_written not NOT) (IN ∷ in_parentheses (query_tokens y)))
      ((both expression (both (written NOT) (after IN (parenthesized inner.query)))).at ts (x, (not, y)) rest h)
  predicate_reads ts (Predicate-F.Like x not pattern) rest h = read_as (IsPredicateLayer limit N) (Predicate-F.Like x not pattern) (λ ts rest h. h)
      (three (expression_tokens x) (if_written not NOT) (LIKE ∷ expression_tokens pattern))
      ((both expression (both (written NOT) (after LIKE expression))).at ts (x, (not, pattern)) rest h)
  predicate_reads ts (Predicate-F.IsNull x not) rest h = read_as (IsPredicateLayer limit N) (Predicate-F.IsNull x not) (λ ts rest h. h)
      (three (expression_tokens x) (IS ∷ if_written not NOT) (NULL ∷ []))
      ((both expression (after IS (before NULL (written NOT)))).at ts (x, not) rest h)
  predicate_reads ts (Predicate-F.Exists x) rest h = read_as (IsPredicateLayer limit N) (Predicate-F.Exists x) (λ ts rest h. h) refl
      ((after EXISTS (parenthesized inner.query)).at ts x rest h)

  predicate_layer : Reads (IsPredicateLayer limit N) (λ x. predicate_step (predicate_parts x))
  predicate_layer = record { at = predicate_reads }

  predicate : Reads (IsPredicate limit N) predicate_tokens
  predicate = of predicate_layer (IsPredicate limit N) out-Predicate predicate_tokens
      (λ ts x rest h. h.is) (λ ts x rest h ts' rest' h'. record { is = h' }) predicate_is

  test : Reads (IsTest limit N) test_tokens
  test = of (both predicate (may truth_test)) (IsTest limit N) (λ x. ((out-Test x).predicate, (out-Test x).truth)) test_tokens
      (λ ts x rest h. h.is) (λ ts x rest h ts' rest' h'. record { is = h' }) test_is

  negation : Reads (IsNegation limit N) negation_tokens
  negation = of (both (written NOT) test) (IsNegation limit N) (λ x. ((out-Negation x).is_negated, (out-Negation x).test)) negation_tokens
      (λ ts x rest h. h.is) (λ ts x rest h ts' rest' h'. record { is = h' }) negation_is

  conjunction : Reads (IsConjunction limit N) conjunction_tokens
  conjunction = of (joined limit AND negation) (IsConjunction limit N) (λ x. ((out-Conjunction x).first, (out-Conjunction x).others)) conjunction_tokens
      (λ ts x rest h. h.is) (λ ts x rest h ts' rest' h'. record { is = h' }) conjunction_is

  pub condition : Reads (IsCondition limit N) condition_tokens
  condition = of (joined limit OR conjunction) (IsCondition limit N) (λ x. ((out-Condition x).first, (out-Condition x).others)) condition_tokens
      (λ ts x rest h. h.is) (λ ts x rest h ts' rest' h'. record { is = h' }) condition_is
