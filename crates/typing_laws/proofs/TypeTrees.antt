-- Every expression, condition and query finds with reasons: by induction over the trees.
use Rattle.std.proofs.Common.{◌≡◌, ap, subst, Option, Some, None, List, [], ◌∷◌, map, Ok}
use Rattle.std.specs.List.{AllByRecursion}
use Rattle.ast.specs.declared.operator.Sign.{Sign}
use Rattle.ast.specs.declared.tree.Join.{Join, Join-F, roll-Join, map-Join}
use Rattle.ast.specs.declared.tree.Operand.{Operand, Operand-F, roll-Operand, map-Operand}
use Rattle.ast.specs.declared.tree.Predicate.{Predicate, Predicate-F, roll-Predicate, map-Predicate}
use Rattle.ast.specs.declared.tree.Primary.{Primary, Primary-F, roll-Primary, map-Primary}
use Rattle.ast.specs.declared.tree.TableSource.{TableSource, TableSource-F, roll-TableSource, map-TableSource}
use Rattle.ast.specs.declared.tree.Addend.{Addend, Addend-F, roll-Addend, map-Addend}
use Rattle.ast.specs.declared.tree.Condition.{Condition, Condition-F, roll-Condition, map-Condition, ind-Condition}
use Rattle.ast.specs.declared.tree.Conjunction.{Conjunction, Conjunction-F, roll-Conjunction, map-Conjunction}
use Rattle.ast.specs.declared.tree.Expression.{Expression, Expression-F, roll-Expression, map-Expression, ind-Expression}
use Rattle.ast.specs.declared.tree.Factor.{Factor, Factor-F, roll-Factor, map-Factor}
use Rattle.ast.specs.declared.tree.Negation.{Negation, Negation-F, roll-Negation, map-Negation}
use Rattle.ast.specs.declared.tree.Query.{Query, Query-F, roll-Query, map-Query, ind-Query}
use Rattle.ast.specs.declared.tree.Select.{Select, Select-F, roll-Select, map-Select}
use Rattle.ast.specs.declared.tree.SelectItem.{SelectItem, SelectItem-F, roll-SelectItem, map-SelectItem}
use Rattle.ast.specs.declared.tree.TableReference.{TableReference, TableReference-F, roll-TableReference, map-TableReference}
use Rattle.ast.specs.declared.tree.Term.{Term, Term-F, roll-Term, map-Term}
use Rattle.ast.specs.declared.tree.Test.{Test, Test-F, roll-Test, map-Test}
use Rattle.typing.specs.Condition.{between, compared, conjunction, disjunction, in_list, like, negated, null_test, tested}
use Rattle.typing.specs.Expression.{product_chain, sum_chain}
use Rattle.typing.specs.Finding.{Finding, ◌>>=◌}
use Rattle.typing.specs.From.{From, from_of, inner_join, left_join, shown_name}
use Rattle.typing.specs.Known.{Known}
use Rattle.typing.specs.Part.{Part}
use Rattle.typing.specs.Scope.{Scope}
use Rattle.typing.specs.SetFunction.{is_distinct, aggregate_found, column_part, query_part}
use Rattle.typing.specs.SetOperator.{exists, in_query, intersection, of_one_column, operation, scalar}
use Rattle.typing.specs.declared.typed.SetOperation.{SetOperation}
use Rattle.typing.specs.declared.scope.TypedQuery.{TypedQuery}
use Rattle.typing.specs.Table.{table_found}
use Rattle.typing.specs.Typing.{Layer, in_parentheses, join_step, operand_step, predicate_step, primary_step, source_step, addend_step, condition_step, conjunction_step, expression_step, factor_step, negation_step, query_step, select_step, item_step, reference_step, term_step, test_step, join_part, operand_found, predicate_part, primary_part, source_part, addend_found, condition_part, conjunction_part, expression_part, factor_part, negation_part, query_found, select_found, item_part, reference_part, term_part, test_part}
use Rattle.typing_laws.proofs.TypeFindings.{found, goes_on, there}
use Rattle.typing_laws.proofs.TypeParts.{IfWritten, IsReasonedOperand, IsSafe, IsSafeOperand, chain, every, followed, none, one, three, two}
use Rattle.typing_laws.proofs.Expressions.{aggregate-safe, aggregate_found-safe, between-safe, column-safe, compared-safe, conjunction-safe, count_rows-safe, disjunction-safe, in_list-safe, like-safe, null-safe, product_chain-safe, query-safe, sign-safe, signed_number-safe, sum_chain-safe}
use Rattle.typing_laws.proofs.TypeSelects.{IfItems, IsSafeFrom, IsSafeJoin, IsSafeQuery, clauses-safe, crossed-safe, derived-safe, exists-safe, from-safe, in_query-safe, item-safe, joined-safe, joined_by-safe, of_one_column-safe, scalar-safe, set_chain-safe, stored-safe}
use Rattle.typing_laws.proofs.Rolled.{Node, join_meant, join_rolled, operand_meant, operand_rolled, predicate_meant, predicate_rolled, primary_meant, primary_rolled, source_meant, source_rolled, addend_meant, addend_rolled, condition_meant, condition_rolled, conjunction_meant, conjunction_rolled, expression_meant, expression_rolled, factor_meant, factor_rolled, negation_meant, negation_rolled, query_meant, query_rolled, select_meant, select_rolled, item_meant, item_rolled, reference_meant, reference_rolled, term_meant, term_rolled, test_meant, test_rolled}

-- ---- lists of parts, each with what is known of it

module _ {T X : Type 0} (P : X → Type 0) (f : T → X) where
  -- what is known of all of them
  pub parts : (ys : List ((t : T) × P (f t))) → AllByRecursion P (map f (map (λ y. y.0) ys))
  parts [] = tt
  parts (y ∷ ys) = (y.1, parts ys)

module _ {O T A : Type 0} (f : T → Part A) where
  pub operands : (ys : List (O × ((t : T) × IsSafe (f t)))) → AllByRecursion IsSafeOperand (map {B = O × Part A} (λ o. (o.0, f o.1)) (map {B = O × T} (λ o. (o.0, (o.1).0)) ys))
  operands [] = tt
  operands (y ∷ ys) = ((y.1).1, operands ys)

module _ {O T : Type 0} (f : T → Scope → Finding TypedQuery) (named : O → SetOperation) (outer : Scope) where
  pub queries : (ys : List (O × ((t : T) × IsSafeQuery (f t)))) →
      AllByRecursion IsReasonedOperand (map (λ other. (named other.0, other.1 outer)) (map {B = O × (Scope → Finding TypedQuery)} (λ o. (o.0, f o.1)) (map {B = O × T} (λ o. (o.0, (o.1).0)) ys)))
  queries [] = tt
  queries (y ∷ ys) = ((y.1).1 outer, queries ys)

step_safe : (s : Layer Select-F) → IfItems s.items → AllByRecursion IsSafeFrom s.from → IfWritten s.filter → IfWritten s.having → IsSafeQuery (select_step s)
step_safe s items from filter having = clauses-safe (record {
  is_distinct = is_distinct s.quantifier;
  items = s.items;
  from = from_of s.from;
  filter = s.filter;
  groups = s.groups;
  having = s.having;
}) (record { items = items; from = from-safe s.from from; filter = filter; having = having })

module _ (k : Known) where
  abbrev pub SafeJoin : Join → Type 0
  SafeJoin t = (left : From) → IsSafeFrom left → IsSafeFrom (join_part k t left)

  abbrev pub SafeOperand : Operand → Type 0
  SafeOperand t = IsSafeQuery (operand_found k t)

  abbrev pub SafePredicate : Predicate → Type 0
  SafePredicate t = IsSafe (predicate_part k t)

  abbrev pub SafePrimary : Primary → Type 0
  SafePrimary t = (sign : Option Sign) → IsSafe (primary_part k t sign)

  abbrev pub SafeTableSource : TableSource → Type 0
  SafeTableSource t = IsSafeFrom (source_part k t)

  abbrev pub SafeAddend : Addend → Type 0
  SafeAddend t = IsSafeQuery (addend_found k t)

  abbrev pub SafeCondition : Condition → Type 0
  SafeCondition t = IsSafe (condition_part k t)

  abbrev pub SafeConjunction : Conjunction → Type 0
  SafeConjunction t = IsSafe (conjunction_part k t)

  abbrev pub SafeExpression : Expression → Type 0
  SafeExpression t = IsSafe (expression_part k t)

  abbrev pub SafeFactor : Factor → Type 0
  SafeFactor t = IsSafe (factor_part k t)

  abbrev pub SafeNegation : Negation → Type 0
  SafeNegation t = IsSafe (negation_part k t)

  abbrev pub SafeQuery : Query → Type 0
  SafeQuery t = IsSafeQuery (query_found k t)

  abbrev pub SafeSelect : Select → Type 0
  SafeSelect t = IsSafeQuery (select_found k t)

  abbrev pub SafeSelectItem : SelectItem → Type 0
  SafeSelectItem t = IsSafe (item_part k t)

  abbrev pub SafeTableReference : TableReference → Type 0
  SafeTableReference t = IsSafeFrom (reference_part k t)

  abbrev pub SafeTerm : Term → Type 0
  SafeTerm t = IsSafe (term_part k t)

  abbrev pub SafeTest : Test → Type 0
  SafeTest t = IsSafe (test_part k t)

  -- a node of trees, each with what is known of it
  abbrev Parts : ((A B C D E F G H I J K L M N O P Q : Type 0) → Type 0) → Type 0
  Parts T =
      T ((t : Join) × SafeJoin t) ((t : Operand) × SafeOperand t) ((t : Predicate) × SafePredicate t) ((t : Primary) × SafePrimary t) ((t : TableSource) × SafeTableSource t) ((t : Addend) × SafeAddend t) ((t : Condition) × SafeCondition t) ((t : Conjunction) × SafeConjunction t) ((t : Expression) × SafeExpression t) ((t : Factor) × SafeFactor t) ((t : Negation) × SafeNegation t) ((t : Query) × SafeQuery t) ((t : Select) × SafeSelect t) ((t : SelectItem) × SafeSelectItem t) ((t : TableReference) × SafeTableReference t) ((t : Term) × SafeTerm t) ((t : Test) × SafeTest t)

  abbrev join_of : Parts Join-F → Node Join-F
  join_of y = map-Join _ _ _ _ _ _ _ _ _ _ _ _ _ _ _ _ _ _ _ _ _ _ _ _ _ _ _ _ _ _ _ _ _ _ (λ p. p.0) (λ p. p.0) (λ p. p.0) (λ p. p.0) (λ p. p.0) (λ p. p.0) (λ p. p.0) (λ p. p.0) (λ p. p.0) (λ p. p.0) (λ p. p.0) (λ p. p.0) (λ p. p.0) (λ p. p.0) (λ p. p.0) (λ p. p.0) (λ p. p.0) y

  abbrev operand_of : Parts Operand-F → Node Operand-F
  operand_of y = map-Operand _ _ _ _ _ _ _ _ _ _ _ _ _ _ _ _ _ _ _ _ _ _ _ _ _ _ _ _ _ _ _ _ _ _ (λ p. p.0) (λ p. p.0) (λ p. p.0) (λ p. p.0) (λ p. p.0) (λ p. p.0) (λ p. p.0) (λ p. p.0) (λ p. p.0) (λ p. p.0) (λ p. p.0) (λ p. p.0) (λ p. p.0) (λ p. p.0) (λ p. p.0) (λ p. p.0) (λ p. p.0) y

  abbrev predicate_of : Parts Predicate-F → Node Predicate-F
  predicate_of y = map-Predicate _ _ _ _ _ _ _ _ _ _ _ _ _ _ _ _ _ _ _ _ _ _ _ _ _ _ _ _ _ _ _ _ _ _ (λ p. p.0) (λ p. p.0) (λ p. p.0) (λ p. p.0) (λ p. p.0) (λ p. p.0) (λ p. p.0) (λ p. p.0) (λ p. p.0) (λ p. p.0) (λ p. p.0) (λ p. p.0) (λ p. p.0) (λ p. p.0) (λ p. p.0) (λ p. p.0) (λ p. p.0) y

  abbrev primary_of : Parts Primary-F → Node Primary-F
  primary_of y = map-Primary _ _ _ _ _ _ _ _ _ _ _ _ _ _ _ _ _ _ _ _ _ _ _ _ _ _ _ _ _ _ _ _ _ _ (λ p. p.0) (λ p. p.0) (λ p. p.0) (λ p. p.0) (λ p. p.0) (λ p. p.0) (λ p. p.0) (λ p. p.0) (λ p. p.0) (λ p. p.0) (λ p. p.0) (λ p. p.0) (λ p. p.0) (λ p. p.0) (λ p. p.0) (λ p. p.0) (λ p. p.0) y

  abbrev source_of : Parts TableSource-F → Node TableSource-F
  source_of y = map-TableSource _ _ _ _ _ _ _ _ _ _ _ _ _ _ _ _ _ _ _ _ _ _ _ _ _ _ _ _ _ _ _ _ _ _ (λ p. p.0) (λ p. p.0) (λ p. p.0) (λ p. p.0) (λ p. p.0) (λ p. p.0) (λ p. p.0) (λ p. p.0) (λ p. p.0) (λ p. p.0) (λ p. p.0) (λ p. p.0) (λ p. p.0) (λ p. p.0) (λ p. p.0) (λ p. p.0) (λ p. p.0) y

  abbrev addend_of : Parts Addend-F → Node Addend-F
  addend_of y = map-Addend _ _ _ _ _ _ _ _ _ _ _ _ _ _ _ _ _ _ _ _ _ _ _ _ _ _ _ _ _ _ _ _ _ _ (λ p. p.0) (λ p. p.0) (λ p. p.0) (λ p. p.0) (λ p. p.0) (λ p. p.0) (λ p. p.0) (λ p. p.0) (λ p. p.0) (λ p. p.0) (λ p. p.0) (λ p. p.0) (λ p. p.0) (λ p. p.0) (λ p. p.0) (λ p. p.0) (λ p. p.0) y

  abbrev condition_of : Parts Condition-F → Node Condition-F
  condition_of y = map-Condition _ _ _ _ _ _ _ _ _ _ _ _ _ _ _ _ _ _ _ _ _ _ _ _ _ _ _ _ _ _ _ _ _ _ (λ p. p.0) (λ p. p.0) (λ p. p.0) (λ p. p.0) (λ p. p.0) (λ p. p.0) (λ p. p.0) (λ p. p.0) (λ p. p.0) (λ p. p.0) (λ p. p.0) (λ p. p.0) (λ p. p.0) (λ p. p.0) (λ p. p.0) (λ p. p.0) (λ p. p.0) y

  abbrev conjunction_of : Parts Conjunction-F → Node Conjunction-F
  conjunction_of y = map-Conjunction _ _ _ _ _ _ _ _ _ _ _ _ _ _ _ _ _ _ _ _ _ _ _ _ _ _ _ _ _ _ _ _ _ _ (λ p. p.0) (λ p. p.0) (λ p. p.0) (λ p. p.0) (λ p. p.0) (λ p. p.0) (λ p. p.0) (λ p. p.0) (λ p. p.0) (λ p. p.0) (λ p. p.0) (λ p. p.0) (λ p. p.0) (λ p. p.0) (λ p. p.0) (λ p. p.0) (λ p. p.0) y

  abbrev expression_of : Parts Expression-F → Node Expression-F
  expression_of y = map-Expression _ _ _ _ _ _ _ _ _ _ _ _ _ _ _ _ _ _ _ _ _ _ _ _ _ _ _ _ _ _ _ _ _ _ (λ p. p.0) (λ p. p.0) (λ p. p.0) (λ p. p.0) (λ p. p.0) (λ p. p.0) (λ p. p.0) (λ p. p.0) (λ p. p.0) (λ p. p.0) (λ p. p.0) (λ p. p.0) (λ p. p.0) (λ p. p.0) (λ p. p.0) (λ p. p.0) (λ p. p.0) y

  abbrev factor_of : Parts Factor-F → Node Factor-F
  factor_of y = map-Factor _ _ _ _ _ _ _ _ _ _ _ _ _ _ _ _ _ _ _ _ _ _ _ _ _ _ _ _ _ _ _ _ _ _ (λ p. p.0) (λ p. p.0) (λ p. p.0) (λ p. p.0) (λ p. p.0) (λ p. p.0) (λ p. p.0) (λ p. p.0) (λ p. p.0) (λ p. p.0) (λ p. p.0) (λ p. p.0) (λ p. p.0) (λ p. p.0) (λ p. p.0) (λ p. p.0) (λ p. p.0) y

  abbrev negation_of : Parts Negation-F → Node Negation-F
  negation_of y = map-Negation _ _ _ _ _ _ _ _ _ _ _ _ _ _ _ _ _ _ _ _ _ _ _ _ _ _ _ _ _ _ _ _ _ _ (λ p. p.0) (λ p. p.0) (λ p. p.0) (λ p. p.0) (λ p. p.0) (λ p. p.0) (λ p. p.0) (λ p. p.0) (λ p. p.0) (λ p. p.0) (λ p. p.0) (λ p. p.0) (λ p. p.0) (λ p. p.0) (λ p. p.0) (λ p. p.0) (λ p. p.0) y

  abbrev query_of : Parts Query-F → Node Query-F
  query_of y = map-Query _ _ _ _ _ _ _ _ _ _ _ _ _ _ _ _ _ _ _ _ _ _ _ _ _ _ _ _ _ _ _ _ _ _ (λ p. p.0) (λ p. p.0) (λ p. p.0) (λ p. p.0) (λ p. p.0) (λ p. p.0) (λ p. p.0) (λ p. p.0) (λ p. p.0) (λ p. p.0) (λ p. p.0) (λ p. p.0) (λ p. p.0) (λ p. p.0) (λ p. p.0) (λ p. p.0) (λ p. p.0) y

  abbrev select_of : Parts Select-F → Node Select-F
  select_of y = map-Select _ _ _ _ _ _ _ _ _ _ _ _ _ _ _ _ _ _ _ _ _ _ _ _ _ _ _ _ _ _ _ _ _ _ (λ p. p.0) (λ p. p.0) (λ p. p.0) (λ p. p.0) (λ p. p.0) (λ p. p.0) (λ p. p.0) (λ p. p.0) (λ p. p.0) (λ p. p.0) (λ p. p.0) (λ p. p.0) (λ p. p.0) (λ p. p.0) (λ p. p.0) (λ p. p.0) (λ p. p.0) y

  abbrev item_of : Parts SelectItem-F → Node SelectItem-F
  item_of y = map-SelectItem _ _ _ _ _ _ _ _ _ _ _ _ _ _ _ _ _ _ _ _ _ _ _ _ _ _ _ _ _ _ _ _ _ _ (λ p. p.0) (λ p. p.0) (λ p. p.0) (λ p. p.0) (λ p. p.0) (λ p. p.0) (λ p. p.0) (λ p. p.0) (λ p. p.0) (λ p. p.0) (λ p. p.0) (λ p. p.0) (λ p. p.0) (λ p. p.0) (λ p. p.0) (λ p. p.0) (λ p. p.0) y

  abbrev reference_of : Parts TableReference-F → Node TableReference-F
  reference_of y = map-TableReference _ _ _ _ _ _ _ _ _ _ _ _ _ _ _ _ _ _ _ _ _ _ _ _ _ _ _ _ _ _ _ _ _ _ (λ p. p.0) (λ p. p.0) (λ p. p.0) (λ p. p.0) (λ p. p.0) (λ p. p.0) (λ p. p.0) (λ p. p.0) (λ p. p.0) (λ p. p.0) (λ p. p.0) (λ p. p.0) (λ p. p.0) (λ p. p.0) (λ p. p.0) (λ p. p.0) (λ p. p.0) y

  abbrev term_of : Parts Term-F → Node Term-F
  term_of y = map-Term _ _ _ _ _ _ _ _ _ _ _ _ _ _ _ _ _ _ _ _ _ _ _ _ _ _ _ _ _ _ _ _ _ _ (λ p. p.0) (λ p. p.0) (λ p. p.0) (λ p. p.0) (λ p. p.0) (λ p. p.0) (λ p. p.0) (λ p. p.0) (λ p. p.0) (λ p. p.0) (λ p. p.0) (λ p. p.0) (λ p. p.0) (λ p. p.0) (λ p. p.0) (λ p. p.0) (λ p. p.0) y

  abbrev test_of : Parts Test-F → Node Test-F
  test_of y = map-Test _ _ _ _ _ _ _ _ _ _ _ _ _ _ _ _ _ _ _ _ _ _ _ _ _ _ _ _ _ _ _ _ _ _ (λ p. p.0) (λ p. p.0) (λ p. p.0) (λ p. p.0) (λ p. p.0) (λ p. p.0) (λ p. p.0) (λ p. p.0) (λ p. p.0) (λ p. p.0) (λ p. p.0) (λ p. p.0) (λ p. p.0) (λ p. p.0) (λ p. p.0) (λ p. p.0) (λ p. p.0) y

  -- ---- expressions

  primary_safe : (y : Parts Primary-F) (sign : Option Sign) → IsSafe (primary_step (primary_meant k (primary_of y)) sign)
  primary_safe (Primary-F.Number number) sign = none (λ view. goes_on (signed_number-safe sign number) (λ x. found))
  primary_safe (Primary-F.Text codes) sign = sign-safe sign _ (none (λ view. found))
  primary_safe (Primary-F.Column column) sign = sign-safe sign (column_part column) (column-safe column)
  primary_safe Primary-F.CountRows sign = sign-safe sign _ count_rows-safe
  primary_safe (Primary-F.Aggregate function quantifier x) sign =
      sign-safe sign _ (aggregate-safe (aggregate_found function quantifier (expression_part k x.0)) (aggregate_found-safe function quantifier (expression_part k x.0) x.1))
  primary_safe (Primary-F.Parenthesized x) sign = sign-safe sign (in_parentheses (expression_part k x.0)) (record { functions = x.1.functions; found = x.1.found })
  primary_safe (Primary-F.Subquery query) sign = sign-safe sign _ (query-safe scalar (query_found k query.0) scalar-safe query.1)

  factor_safe : (y : Parts Factor-F) → IsSafe (factor_step (factor_meant k (factor_of y)))
  factor_safe y = y.primary.1 y.sign

  term_safe : (y : Parts Term-F) → IsSafe (term_step (term_meant k (term_of y)))
  term_safe y = chain product_chain product_chain-safe (factor_part k y.first.0) _ y.first.1 (operands (factor_part k) y.others)

  expression_safe : (y : Parts Expression-F) → IsSafe (expression_step (expression_meant k (expression_of y)))
  expression_safe y = chain sum_chain sum_chain-safe (term_part k y.first.0) _ y.first.1 (operands (term_part k) y.others)

  -- ---- conditions

  predicate_safe : (y : Parts Predicate-F) → IsSafe (predicate_step (predicate_meant k (predicate_of y)))
  predicate_safe (Predicate-F.Nested c) = c.1
  predicate_safe (Predicate-F.Compare a operator b) = two (compared operator) (expression_part k a.0) (expression_part k b.0) (compared-safe operator) a.1 b.1
  predicate_safe (Predicate-F.Between a n low high) = three (between n) (expression_part k a.0) (expression_part k low.0) (expression_part k high.0) (between-safe n) a.1 low.1 high.1
  predicate_safe (Predicate-F.InList a n literals) = one (λ x. in_list n x literals) (expression_part k a.0) (λ x h. in_list-safe n x literals h) a.1
  predicate_safe (Predicate-F.InQuery a n query) = two (in_query n) (expression_part k a.0) (query_part of_one_column (query_found k query.0)) (in_query-safe n) a.1 (query-safe of_one_column (query_found k query.0) of_one_column-safe query.1)
  predicate_safe (Predicate-F.Like a n b) = two (like n) (expression_part k a.0) (expression_part k b.0) (like-safe n) a.1 b.1
  predicate_safe (Predicate-F.IsNull a n) = one (null_test n) (expression_part k a.0) (null-safe n) a.1
  predicate_safe (Predicate-F.Exists query) = query-safe exists (query_found k query.0) exists-safe query.1

  test_safe : (y : Parts Test-F) → IsSafe (test_step (test_meant k (test_of y)))
  test_safe y = followed (λ c. Ok (tested y.truth c)) (predicate_part k y.predicate.0) (λ c. found) y.predicate.1

  negation_safe : (y : Parts Negation-F) → IsSafe (negation_step (negation_meant k (negation_of y)))
  negation_safe y = followed (λ c. Ok (negated y.is_negated c)) (test_part k y.test.0) (λ c. found) y.test.1

  conjunction_safe : (y : Parts Conjunction-F) → IsSafe (conjunction_step (conjunction_meant k (conjunction_of y)))
  conjunction_safe y = every conjunction conjunction-safe (negation_part k y.first.0 ∷ map (negation_part k) (map (λ p. p.0) y.others)) (y.first.1, parts IsSafe (negation_part k) y.others)

  condition_safe : (y : Parts Condition-F) → IsSafe (condition_step (condition_meant k (condition_of y)))
  condition_safe y = every disjunction disjunction-safe (conjunction_part k y.first.0 ∷ map (conjunction_part k) (map (λ p. p.0) y.others)) (y.first.1, parts IsSafe (conjunction_part k) y.others)

  -- ---- FROM

  join_safe : (y : Parts Join-F) (left : From) → IsSafeFrom left → IsSafeFrom (join_step (join_meant k (join_of y)) left)
  join_safe (Join-F.Cross right) left h = crossed-safe left (source_part k right.0) h right.1
  join_safe (Join-F.Inner has_inner right on) left h = joined-safe inner_join (condition_part k on.0) left (source_part k right.0) on.1 h right.1
  join_safe (Join-F.Left has_outer right on) left h = joined-safe left_join (condition_part k on.0) left (source_part k right.0) on.1 h right.1

  source_safe : (y : Parts TableSource-F) → IsSafeFrom (source_step k (source_meant k (source_of y)))
  source_safe (TableSource-F.Table name alias) = stored-safe (λ n. table_found k n >>= (λ table. Ok table.columns)) name (shown_name name alias) (goes_on (there (k.table name)) (λ table. found))
  source_safe (TableSource-F.Derived query alias) = derived-safe (query_found k query.0) alias.name query.1

  reference_safe : (y : Parts TableReference-F) → IsSafeFrom (reference_step (reference_meant k (reference_of y)))
  reference_safe y = joined_by-safe _ (source_part k y.first.0) (parts IsSafeJoin (join_part k) y.joins) y.first.1

  -- ---- queries

  item_safe : (y : Parts SelectItem-F) → IsSafe (item_step (item_meant k (item_of y)))
  item_safe y = item-safe y.alias (expression_part k y.value.0) y.value.1

  -- a SELECT of these items, and else like this one
  abbrev with_items : Option (List ((t : SelectItem) × SafeSelectItem t)) → Parts Select-F → Parts Select-F
  with_items items y = record y { items = items }

  abbrev with_filter : Option ((t : Condition) × SafeCondition t) → Parts Select-F → Parts Select-F
  with_filter filter y = record y { filter = filter }

  abbrev with_having : Option ((t : Condition) × SafeCondition t) → Parts Select-F → Parts Select-F
  with_having having y = record y { having = having }

  items_safe : (items : Option (List ((t : SelectItem) × SafeSelectItem t))) (y : Parts Select-F) → IfItems (select_meant k (select_of (with_items items y))).items
  items_safe None y = tt
  items_safe (Some items) y = parts IsSafe (item_part k) items

  filter_safe : (filter : Option ((t : Condition) × SafeCondition t)) (y : Parts Select-F) → IfWritten (select_meant k (select_of (with_filter filter y))).filter
  filter_safe None y = tt
  filter_safe (Some filter) y = filter.1

  having_safe : (having : Option ((t : Condition) × SafeCondition t)) (y : Parts Select-F) → IfWritten (select_meant k (select_of (with_having having y))).having
  having_safe None y = tt
  having_safe (Some having) y = having.1

  select_safe : (y : Parts Select-F) → IsSafeQuery (select_step (select_meant k (select_of y)))
  select_safe y = step_safe (select_meant k (select_of y)) (items_safe y.items y) (parts IsSafeFrom (reference_part k) y.from) (filter_safe y.filter y) (having_safe y.having y)

  operand_safe : (y : Parts Operand-F) → IsSafeQuery (operand_step (operand_meant k (operand_of y)))
  operand_safe (Operand-F.Select select) = select.1
  operand_safe (Operand-F.Grouped query) = query.1

  addend_safe : (y : Parts Addend-F) → IsSafeQuery (addend_step (addend_meant k (addend_of y)))
  addend_safe y = λ outer. set_chain-safe (operand_found k y.first.0 outer) _ (y.first.1 outer) (queries (operand_found k) intersection outer y.others)

  query_safe : (y : Parts Query-F) → IsSafeQuery (query_step (query_meant k (query_of y)))
  query_safe y = λ outer. set_chain-safe (addend_found k y.first.0 outer) _ (y.first.1 outer) (queries (addend_found k) operation outer y.others)

  -- ---- the trees

  join_node : (x : Node Join-F) (y : Parts Join-F) → join_of y ≡ x → SafeJoin (roll-Join x)
  join_node x y is = subst (λ (z : Node Join-F). SafeJoin (roll-Join z)) is (λ left h. rw (ap (λ f. f left) (join_rolled k (join_of y))) (join_safe y left h))

  operand_node : (x : Node Operand-F) (y : Parts Operand-F) → operand_of y ≡ x → SafeOperand (roll-Operand x)
  operand_node x y is = subst (λ (z : Node Operand-F). SafeOperand (roll-Operand z)) is (λ scope. rw (ap (λ f. f scope) (operand_rolled k (operand_of y))) (operand_safe y scope))

  predicate_node : (x : Node Predicate-F) (y : Parts Predicate-F) → predicate_of y ≡ x → SafePredicate (roll-Predicate x)
  predicate_node x y is = subst (λ (z : Node Predicate-F). SafePredicate (roll-Predicate z)) is (rw (predicate_rolled k (predicate_of y)) (predicate_safe y))

  primary_node : (x : Node Primary-F) (y : Parts Primary-F) → primary_of y ≡ x → SafePrimary (roll-Primary x)
  primary_node x y is = subst (λ (z : Node Primary-F). SafePrimary (roll-Primary z)) is (λ sign. rw (ap (λ f. f sign) (primary_rolled k (primary_of y))) (primary_safe y sign))

  source_node : (x : Node TableSource-F) (y : Parts TableSource-F) → source_of y ≡ x → SafeTableSource (roll-TableSource x)
  source_node x y is = subst (λ (z : Node TableSource-F). SafeTableSource (roll-TableSource z)) is (rw (source_rolled k (source_of y)) (source_safe y))

  addend_node : (x : Node Addend-F) (y : Parts Addend-F) → addend_of y ≡ x → SafeAddend (roll-Addend x)
  addend_node x y is = subst (λ (z : Node Addend-F). SafeAddend (roll-Addend z)) is (λ scope. rw (ap (λ f. f scope) (addend_rolled k (addend_of y))) (addend_safe y scope))

  condition_node : (x : Node Condition-F) (y : Parts Condition-F) → condition_of y ≡ x → SafeCondition (roll-Condition x)
  condition_node x y is = subst (λ (z : Node Condition-F). SafeCondition (roll-Condition z)) is (rw (condition_rolled k (condition_of y)) (condition_safe y))

  conjunction_node : (x : Node Conjunction-F) (y : Parts Conjunction-F) → conjunction_of y ≡ x → SafeConjunction (roll-Conjunction x)
  conjunction_node x y is = subst (λ (z : Node Conjunction-F). SafeConjunction (roll-Conjunction z)) is (rw (conjunction_rolled k (conjunction_of y)) (conjunction_safe y))

  expression_node : (x : Node Expression-F) (y : Parts Expression-F) → expression_of y ≡ x → SafeExpression (roll-Expression x)
  expression_node x y is = subst (λ (z : Node Expression-F). SafeExpression (roll-Expression z)) is (rw (expression_rolled k (expression_of y)) (expression_safe y))

  factor_node : (x : Node Factor-F) (y : Parts Factor-F) → factor_of y ≡ x → SafeFactor (roll-Factor x)
  factor_node x y is = subst (λ (z : Node Factor-F). SafeFactor (roll-Factor z)) is (rw (factor_rolled k (factor_of y)) (factor_safe y))

  negation_node : (x : Node Negation-F) (y : Parts Negation-F) → negation_of y ≡ x → SafeNegation (roll-Negation x)
  negation_node x y is = subst (λ (z : Node Negation-F). SafeNegation (roll-Negation z)) is (rw (negation_rolled k (negation_of y)) (negation_safe y))

  query_node : (x : Node Query-F) (y : Parts Query-F) → query_of y ≡ x → SafeQuery (roll-Query x)
  query_node x y is = subst (λ (z : Node Query-F). SafeQuery (roll-Query z)) is (λ scope. rw (ap (λ f. f scope) (query_rolled k (query_of y))) (query_safe y scope))

  select_node : (x : Node Select-F) (y : Parts Select-F) → select_of y ≡ x → SafeSelect (roll-Select x)
  select_node x y is = subst (λ (z : Node Select-F). SafeSelect (roll-Select z)) is (λ scope. rw (ap (λ f. f scope) (select_rolled k (select_of y))) (select_safe y scope))

  item_node : (x : Node SelectItem-F) (y : Parts SelectItem-F) → item_of y ≡ x → SafeSelectItem (roll-SelectItem x)
  item_node x y is = subst (λ (z : Node SelectItem-F). SafeSelectItem (roll-SelectItem z)) is (rw (item_rolled k (item_of y)) (item_safe y))

  reference_node : (x : Node TableReference-F) (y : Parts TableReference-F) → reference_of y ≡ x → SafeTableReference (roll-TableReference x)
  reference_node x y is = subst (λ (z : Node TableReference-F). SafeTableReference (roll-TableReference z)) is (rw (reference_rolled k (reference_of y)) (reference_safe y))

  term_node : (x : Node Term-F) (y : Parts Term-F) → term_of y ≡ x → SafeTerm (roll-Term x)
  term_node x y is = subst (λ (z : Node Term-F). SafeTerm (roll-Term z)) is (rw (term_rolled k (term_of y)) (term_safe y))

  test_node : (x : Node Test-F) (y : Parts Test-F) → test_of y ≡ x → SafeTest (roll-Test x)
  test_node x y is = subst (λ (z : Node Test-F). SafeTest (roll-Test z)) is (rw (test_rolled k (test_of y)) (test_safe y))

  pub expressions-safe : (t : Expression) → SafeExpression t
  expressions-safe = ind-Expression SafeJoin SafeOperand SafePredicate SafePrimary SafeTableSource SafeAddend SafeCondition SafeConjunction SafeExpression SafeFactor SafeNegation SafeQuery SafeSelect SafeSelectItem SafeTableReference SafeTerm SafeTest
      join_node operand_node predicate_node primary_node source_node addend_node condition_node conjunction_node expression_node factor_node negation_node query_node select_node item_node reference_node term_node test_node

  pub conditions-safe : (t : Condition) → SafeCondition t
  conditions-safe = ind-Condition SafeJoin SafeOperand SafePredicate SafePrimary SafeTableSource SafeAddend SafeCondition SafeConjunction SafeExpression SafeFactor SafeNegation SafeQuery SafeSelect SafeSelectItem SafeTableReference SafeTerm SafeTest
      join_node operand_node predicate_node primary_node source_node addend_node condition_node conjunction_node expression_node factor_node negation_node query_node select_node item_node reference_node term_node test_node

  pub queries-safe : (t : Query) → SafeQuery t
  queries-safe = ind-Query SafeJoin SafeOperand SafePredicate SafePrimary SafeTableSource SafeAddend SafeCondition SafeConjunction SafeExpression SafeFactor SafeNegation SafeQuery SafeSelect SafeSelectItem SafeTableReference SafeTerm SafeTest
      join_node operand_node predicate_node primary_node source_node addend_node condition_node conjunction_node expression_node factor_node negation_node query_node select_node item_node reference_node term_node test_node
