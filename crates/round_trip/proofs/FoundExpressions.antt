-- Expressions and conditions: each part is found in the tokens of the whole.
use Rattle.std.proofs.Common.{ℕ, zero, List, [], ◌∷◌, Option, refl, sym as flip, subst}
use Rattle.ast.specs.declared.tree.Condition.{out-Condition}
use Rattle.ast.specs.declared.tree.Conjunction.{out-Conjunction}
use Rattle.ast.specs.declared.tree.Expression.{out-Expression}
use Rattle.ast.specs.declared.tree.Factor.{out-Factor}
use Rattle.ast.specs.declared.tree.Negation.{out-Negation}
use Rattle.ast.specs.declared.tree.Predicate.{Predicate-F, out-Predicate}
use Rattle.ast.specs.declared.tree.Primary.{Primary-F, out-Primary}
use Rattle.ast.specs.declared.tree.Term.{out-Term}
use Rattle.ast.specs.declared.tree.Test.{out-Test}
use Rattle.ast.specs.Expressions.{Nested, IsPrimary, IsPrimaryLayer, IsFactor, IsTerm, IsExpression, IsPredicate, IsPredicateLayer, IsTest, IsNegation, IsConjunction, IsCondition}
use Rattle.ast.specs.Grammar.{nested_at}
use Rattle.ast.specs.Layers.{PredicateLayer, PrimaryLayer}
use Rattle.ast.specs.Notation.{Tokens, Rule, ◌⨾◌, Maybe, Written}
use Rattle.ast.specs.Terminals.{IsQuantifier, IsSign}
use Rattle.ast.specs.Words.{AND, BETWEEN, EXISTS, IN, IS, LIKE, NOT, NULL, OR}
use Rattle.lexer.specs.declared.words.Word.{Word}
use Rattle.lexer.specs.declared.words.Word.TheVariants as w
use Rattle.lexer.specs.declared.kinds.Kind.TheVariants as kind
use Rattle.parser.proofs.Again.{written_passes, maybe_passes}
use Rattle.parser.proofs.AgainTerminals.{add_operator_again, column_again, comparison_again, literal_again, multiply_operator_again, quantifier_again, set_function_again, sign_again, truth_test_again}
use Rattle.parser.proofs.Passes.{Passes, here, past, around, one}
use Rattle.ast.specs.Parts.{Node, query, condition, conjunction, negation, test, predicate, expression, term, factor, primary, parts, primary_parts, predicate_parts}
use Rattle.round_trip.proofs.Found.{Holding, Holds, no_node, nothing, a_node, both, after, before, parenthesized, of, nothing_listed, chain}

-- what is known of the rules of what stands between parentheses
pub record Inner (limit : Option ℕ) (inner : Nested) : Type 0 where
  pub expression : Holds limit inner.expression (λ x. expression x ∷ [])
  pub condition : Holds limit inner.condition (λ x. condition x ∷ [])
  pub query : Holds limit inner.query (λ x. query x ∷ [])

-- [t]
pub may_be : {limit : Option ℕ} (v : Word) → Holds limit (Written (kind.Word v)) (λ _. [])
may_be v = nothing (written_passes v)

pub may_quantify : {limit : Option ℕ} → Holds limit (Maybe IsQuantifier) (λ _. [])
may_quantify = nothing (maybe_passes IsQuantifier (quantifier_again {d = zero}).passes)

module _ (limit : Option ℕ) (depth : ℕ) (inner : Inner limit (nested_at limit depth)) where
  abbrev N : Nested
  N = nested_at limit depth

  -- ---- expressions

  primary_holds : (ts : Tokens) (x : PrimaryLayer) (rest : Tokens) → IsPrimaryLayer limit N ts x rest → Holding limit ts (primary_parts x) rest
  primary_holds ts (Primary-F.Number x) rest h = no_node (one refl refl h)
  primary_holds ts (Primary-F.Text x) rest h = no_node (one refl refl h)
  primary_holds ts (Primary-F.Column x) rest h = no_node ((column_again {d = zero}).passes ts x rest h)
  primary_holds ts Primary-F.CountRows rest h = no_node (subst (λ ts. Passes ts rest) (flip h) (past refl refl (around (past refl refl here) here)))
  primary_holds ts (Primary-F.Aggregate f q x) rest h =
      (both (nothing (set_function_again {d = zero}).passes) (parenthesized (both may_quantify inner.expression))).at ts (f, (q, x)) rest h
  primary_holds ts (Primary-F.Parenthesized x) rest h = (parenthesized inner.expression).at ts x rest h
  primary_holds ts (Primary-F.Subquery x) rest h = (parenthesized inner.query).at ts x rest h

  pub primary_parts_found : Holds limit (IsPrimary limit N) (λ x. parts (primary x))
  primary_parts_found = record { at = λ ts x rest h. primary_holds ts (out-Primary x) rest h.is }

  a_primary : Holds limit (IsPrimary limit N) (λ x. primary x ∷ [])
  a_primary = a_node depth primary (λ ts x rest h. h) primary_parts_found

  pub factor_parts_found : Holds limit (IsFactor limit N) (λ x. parts (factor x))
  factor_parts_found = of (IsFactor limit N) (λ x. ((out-Factor x).sign, (out-Factor x).primary)) (λ ts x rest h. h.is)
      (both (nothing (maybe_passes IsSign (sign_again {d = zero}).passes)) a_primary)

  a_factor : Holds limit (IsFactor limit N) (λ x. factor x ∷ [])
  a_factor = a_node depth factor (λ ts x rest h. h) factor_parts_found

  pub term_parts_found : Holds limit (IsTerm limit N) (λ x. parts (term x))
  term_parts_found = of (IsTerm limit N) (λ x. ((out-Term x).first, (out-Term x).others)) (λ ts x rest h. h.is)
      (chain a_factor (both (nothing (multiply_operator_again {d = zero}).passes) a_factor))

  a_term : Holds limit (IsTerm limit N) (λ x. term x ∷ [])
  a_term = a_node depth term (λ ts x rest h. h) term_parts_found

  pub expression_parts_found : Holds limit (IsExpression limit N) (λ x. parts (expression x))
  expression_parts_found = of (IsExpression limit N) (λ x. ((out-Expression x).first, (out-Expression x).others)) (λ ts x rest h. h.is)
      (chain a_term (both (nothing (add_operator_again {d = zero}).passes) a_term))

  pub an_expression : Holds limit (IsExpression limit N) (λ x. expression x ∷ [])
  an_expression = a_node depth expression (λ ts x rest h. h) expression_parts_found

  -- ---- conditions

  -- expr [NOT] and what follows
  negatable : {A : Type 0} {R : Rule A} {nodes : A → List Node} → Holds limit R nodes → Holds limit (IsExpression limit N ⨾ Written NOT ⨾ R) (λ x. expression x.0 ∷ nodes x.1.1)
  negatable l = both an_expression (both (may_be w.Not) l)

  predicate_holds : (ts : Tokens) (x : PredicateLayer) (rest : Tokens) → IsPredicateLayer limit N ts x rest → Holding limit ts (predicate_parts x) rest
  predicate_holds ts (Predicate-F.Nested x) rest h = (parenthesized inner.condition).at ts x rest h
  predicate_holds ts (Predicate-F.Compare x op y) rest h =
      (both an_expression (both (nothing (comparison_again {d = zero}).passes) an_expression)).at ts (x, (op, y)) rest h
  predicate_holds ts (Predicate-F.Between x not low high) rest h =
      (negatable (both (after BETWEEN refl refl an_expression) (after AND refl refl an_expression))).at ts (x, (not, (low, high))) rest h
  predicate_holds ts (Predicate-F.InList x not list) rest h =
      (negatable (after IN refl refl (parenthesized (nothing_listed (nothing (literal_again {d = zero}).passes))))).at ts (x, (not, list)) rest h
  predicate_holds ts (Predicate-F.InQuery x not y) rest h = (negatable (after IN refl refl (parenthesized inner.query))).at ts (x, (not, y)) rest h
  predicate_holds ts (Predicate-F.Like x not pattern) rest h = (negatable (after LIKE refl refl an_expression)).at ts (x, (not, pattern)) rest h
  predicate_holds ts (Predicate-F.IsNull x not) rest h = (both an_expression (after IS refl refl (before NULL refl refl (may_be w.Not)))).at ts (x, not) rest h
  predicate_holds ts (Predicate-F.Exists x) rest h = (after EXISTS refl refl (parenthesized inner.query)).at ts x rest h

  pub predicate_parts_found : Holds limit (IsPredicate limit N) (λ x. parts (predicate x))
  predicate_parts_found = record { at = λ ts x rest h. predicate_holds ts (out-Predicate x) rest h.is }

  a_predicate : Holds limit (IsPredicate limit N) (λ x. predicate x ∷ [])
  a_predicate = a_node depth predicate (λ ts x rest h. h) predicate_parts_found

  pub test_parts_found : Holds limit (IsTest limit N) (λ x. parts (test x))
  test_parts_found = of (IsTest limit N) (λ x. ((out-Test x).predicate, (out-Test x).truth)) (λ ts x rest h. h.is)
      (both a_predicate (nothing (truth_test_again {d = zero}).passes))

  a_test : Holds limit (IsTest limit N) (λ x. test x ∷ [])
  a_test = a_node depth test (λ ts x rest h. h) test_parts_found

  pub negation_parts_found : Holds limit (IsNegation limit N) (λ x. parts (negation x))
  negation_parts_found = of (IsNegation limit N) (λ x. ((out-Negation x).is_negated, (out-Negation x).test)) (λ ts x rest h. h.is) (both (may_be w.Not) a_test)

  a_negation : Holds limit (IsNegation limit N) (λ x. negation x ∷ [])
  a_negation = a_node depth negation (λ ts x rest h. h) negation_parts_found

  pub conjunction_parts_found : Holds limit (IsConjunction limit N) (λ x. parts (conjunction x))
  conjunction_parts_found = of (IsConjunction limit N) (λ x. ((out-Conjunction x).first, (out-Conjunction x).others)) (λ ts x rest h. h.is)
      (chain a_negation (after AND refl refl a_negation))

  a_conjunction : Holds limit (IsConjunction limit N) (λ x. conjunction x ∷ [])
  a_conjunction = a_node depth conjunction (λ ts x rest h. h) conjunction_parts_found

  pub condition_parts_found : Holds limit (IsCondition limit N) (λ x. parts (condition x))
  condition_parts_found = of (IsCondition limit N) (λ x. ((out-Condition x).first, (out-Condition x).others)) (λ ts x rest h. h.is)
      (chain a_conjunction (after OR refl refl a_conjunction))

  pub a_condition : Holds limit (IsCondition limit N) (λ x. condition x ∷ [])
  a_condition = a_node depth condition (λ ts x rest h. h) condition_parts_found
