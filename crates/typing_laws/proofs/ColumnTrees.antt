-- Every expression, condition and query that is found is well typed: by induction over the syntax
-- trees.
use Rattle.std.proofs.Common.{◌≡◌, refl, ap, subst, Option, Some, None, List, [], ◌∷◌, map, Ok}
use Rattle.sqlval.specs.declared.value.Value.TheVariants as value
use Rattle.typing.specs.declared.typed.Expression.TheVariants as expression
use Rattle.std.specs.List.{AllByRecursion}
use Rattle.ast.specs.declared.operator.Sign.{Sign}
use Rattle.ast.specs.declared.tree.Join.{Join, Join-F, roll-Join, map-Join}
use Rattle.ast.specs.declared.tree.Operand.{Operand, Operand-F, roll-Operand, map-Operand}
use Rattle.ast.specs.declared.tree.Predicate.{Predicate, Predicate-F, roll-Predicate, map-Predicate}
use Rattle.ast.specs.declared.tree.Primary.{Primary, Primary-F, roll-Primary, map-Primary}
use Rattle.ast.specs.declared.tree.TableSource.{TableSource, TableSource-F, roll-TableSource, map-TableSource}
use Rattle.ast.specs.declared.tree.Addend.{Addend, Addend-F, roll-Addend, map-Addend}
use Rattle.ast.specs.declared.tree.Condition.{Condition, Condition-F, roll-Condition, map-Condition, ind-Condition}
use Rattle.ast.specs.declared.tree.Conjunction.{Conjunction, Conjunction-F, roll-Conjunction, map-Conjunction}
use Rattle.ast.specs.declared.tree.Expression.{Expression, Expression-F, roll-Expression, map-Expression, ind-Expression}
use Rattle.ast.specs.declared.tree.Factor.{Factor, Factor-F, roll-Factor, map-Factor}
use Rattle.ast.specs.declared.tree.Negation.{Negation, Negation-F, roll-Negation, map-Negation}
use Rattle.ast.specs.declared.tree.Query.{Query, Query-F, roll-Query, map-Query, ind-Query}
use Rattle.ast.specs.declared.tree.Select.{Select, Select-F, roll-Select, map-Select, ind-Select}
use Rattle.ast.specs.declared.tree.SelectItem.{SelectItem, SelectItem-F, roll-SelectItem, map-SelectItem}
use Rattle.ast.specs.declared.tree.TableReference.{TableReference, TableReference-F, roll-TableReference, map-TableReference}
use Rattle.ast.specs.declared.tree.Term.{Term, Term-F, roll-Term, map-Term}
use Rattle.ast.specs.declared.tree.Test.{Test, Test-F, roll-Test, map-Test}
use Rattle.typing.specs.Condition.{between, compared, conjunction, disjunction, in_list, like, negated, null_test, tested}
use Rattle.typing.specs.Expression.{integer, product_chain, signed_number, sum_chain, text}
use Rattle.typing.specs.Finding.{Finding, ◌>>=◌}
use Rattle.typing.specs.From.{From, from_of, inner_join, left_join, shown_name}
use Rattle.typing.specs.Known.{Known}
use Rattle.typing.specs.Part.{Part, of_none}
use Rattle.typing.specs.Scope.{Scope}
use Rattle.typing.specs.SetFunction.{aggregate_found, aggregate_part, column_part, count_rows, is_distinct, query_part}
use Rattle.typing.specs.SetOperator.{exists, in_query, intersection, of_one_column, operation, scalar}
use Rattle.typing.specs.declared.typed.SetOperation.{SetOperation}
use Rattle.typing.specs.declared.scope.TypedExpression.{TypedExpression}
use Rattle.typing.specs.declared.scope.TypedQuery.{TypedQuery}
use Rattle.typing.specs.Typing.{Layer, in_parentheses, join_step, operand_step, predicate_step, primary_step, source_step, addend_step, condition_step, conjunction_step, expression_step, factor_step, negation_step, query_step, select_step, item_step, reference_step, term_step, test_step, join_part, operand_found, predicate_part, primary_part, source_part, addend_found, condition_part, conjunction_part, expression_part, factor_part, negation_part, query_found, select_found, item_part, reference_part, term_part, test_part}
use Rattle.typing_laws.specs.Scopes.{AreRowsOf}
use Rattle.typing_laws.specs.WellTyped.{Rows}
use Rattle.typing_laws.proofs.Columns.{Gives, Shows}
use Rattle.typing_laws.proofs.ColumnParts.{IfWritten, IsTyped, IsTypedOperand, IsTypedQuery, aggregate-typed, chain, column-typed, count_rows-typed, every, followed, none, one, parenthesized, query-typed, three, two, with_its_sign}
use Rattle.typing_laws.proofs.ColumnFitting.{IsOneColumn, between-typed, compared-typed, conjunction-typed, disjunction-typed, exists-typed, in_list-typed, in_query-typed, like-typed, negated-typed, null-typed, number-typed, of_one_column-typed, product_chain-typed, scalar-typed, sum_chain-typed, tested-typed}
use Rattle.typing_laws.proofs.Froms.{Asks, IsTypedFrom, IsTypedJoin, crossed-typed, derived-typed, from-typed, inner-joins, joined-typed, joined_by-typed, left-joins, stored-typed}
use Rattle.typing_laws.proofs.ColumnSelects.{IfItems, clauses-typed, item-typed}
use Rattle.typing_laws.proofs.Sets.{IsResultOperand, set_chain-typed}
use Rattle.typing_laws.specs.WellTyped as typed
use Rattle.typing_laws.proofs.Rolled.{Node, join_meant, join_rolled, operand_meant, operand_rolled, predicate_meant, predicate_rolled, primary_meant, primary_rolled, source_meant, source_rolled, addend_meant, addend_rolled, condition_meant, condition_rolled, conjunction_meant, conjunction_rolled, expression_meant, expression_rolled, factor_meant, factor_rolled, negation_meant, negation_rolled, query_meant, query_rolled, select_meant, select_rolled, item_meant, item_rolled, reference_meant, reference_rolled, term_meant, term_rolled, test_meant, test_rolled}

-- ---- lists of parts, each with what is known of it

module _ {T X : Type 0} (P : X → Type 0) (f : T → X) where
  -- what is known of all of them
  pub parts : (ys : List ((t : T) × P (f t))) → AllByRecursion P (map f (map (λ y. y.0) ys))
  parts [] = tt
  parts (y ∷ ys) = (y.1, parts ys)

module _ (k : Known) {O T : Type 0} (f : T → Part TypedExpression) where
  pub operands : (ys : List (O × ((t : T) × IsTyped k (Gives k) (f t)))) → AllByRecursion (IsTypedOperand k (Gives k)) (map {B = O × Part TypedExpression} (λ o. (o.0, f o.1)) (map {B = O × T} (λ o. (o.0, (o.1).0)) ys))
  operands [] = tt
  operands (y ∷ ys) = ((y.1).1, operands ys)

module _ (k : Known) {O T : Type 0} (f : T → Scope → Finding TypedQuery) (named : O → SetOperation) (outer : Scope) (rows : Rows) (are : AreRowsOf outer rows) where
  pub queries : (ys : List (O × ((t : T) × IsTypedQuery k (f t)))) →
      AllByRecursion (IsResultOperand k rows) (map (λ other. (named other.0, other.1 outer)) (map {B = O × (Scope → Finding TypedQuery)} (λ o. (o.0, f o.1)) (map {B = O × T} (λ o. (o.0, (o.1).0)) ys)))
  queries [] = tt
  queries (y ∷ ys) = ((y.1).1 outer rows are, queries ys)

step_typed : (k : Known) (s : Layer Select-F) → IfItems k s.items → AllByRecursion (IsTypedFrom k) s.from → IfWritten k (Asks k) s.filter → IfWritten k (Asks k) s.having → IsTypedQuery k (select_step s)
step_typed k s items from filter having = clauses-typed k (record {
  is_distinct = is_distinct s.quantifier;
  items = s.items;
  from = from_of s.from;
  filter = s.filter;
  groups = s.groups;
  having = s.having;
}) (record { items = items; from = from-typed k s.from from; filter = filter; having = having })

module _ (k : Known) where
  abbrev pub GoodJoin : Join → Type 0
  GoodJoin t = (left : From) → IsTypedFrom k left → IsTypedFrom k (join_part k t left)

  abbrev pub GoodOperand : Operand → Type 0
  GoodOperand t = IsTypedQuery k (operand_found k t)

  abbrev pub GoodPredicate : Predicate → Type 0
  GoodPredicate t = IsTyped k (Asks k) (predicate_part k t)

  abbrev pub GoodPrimary : Primary → Type 0
  GoodPrimary t = (sign : Option Sign) → IsTyped k (Gives k) (primary_part k t sign)

  abbrev pub GoodTableSource : TableSource → Type 0
  GoodTableSource t = IsTypedFrom k (source_part k t)

  abbrev pub GoodAddend : Addend → Type 0
  GoodAddend t = IsTypedQuery k (addend_found k t)

  abbrev pub GoodCondition : Condition → Type 0
  GoodCondition t = IsTyped k (Asks k) (condition_part k t)

  abbrev pub GoodConjunction : Conjunction → Type 0
  GoodConjunction t = IsTyped k (Asks k) (conjunction_part k t)

  abbrev pub GoodExpression : Expression → Type 0
  GoodExpression t = IsTyped k (Gives k) (expression_part k t)

  abbrev pub GoodFactor : Factor → Type 0
  GoodFactor t = IsTyped k (Gives k) (factor_part k t)

  abbrev pub GoodNegation : Negation → Type 0
  GoodNegation t = IsTyped k (Asks k) (negation_part k t)

  abbrev pub GoodQuery : Query → Type 0
  GoodQuery t = IsTypedQuery k (query_found k t)

  abbrev pub GoodSelect : Select → Type 0
  GoodSelect t = IsTypedQuery k (select_found k t)

  abbrev pub GoodSelectItem : SelectItem → Type 0
  GoodSelectItem t = IsTyped k (Shows k) (item_part k t)

  abbrev pub GoodTableReference : TableReference → Type 0
  GoodTableReference t = IsTypedFrom k (reference_part k t)

  abbrev pub GoodTerm : Term → Type 0
  GoodTerm t = IsTyped k (Gives k) (term_part k t)

  abbrev pub GoodTest : Test → Type 0
  GoodTest t = IsTyped k (Asks k) (test_part k t)

  -- a node of trees, each with what is known of it
  abbrev Parts : ((A B C D E F G H I J K L M N O P Q : Type 0) → Type 0) → Type 0
  Parts T =
      T ((t : Join) × GoodJoin t) ((t : Operand) × GoodOperand t) ((t : Predicate) × GoodPredicate t) ((t : Primary) × GoodPrimary t) ((t : TableSource) × GoodTableSource t) ((t : Addend) × GoodAddend t) ((t : Condition) × GoodCondition t) ((t : Conjunction) × GoodConjunction t) ((t : Expression) × GoodExpression t) ((t : Factor) × GoodFactor t) ((t : Negation) × GoodNegation t) ((t : Query) × GoodQuery t) ((t : Select) × GoodSelect t) ((t : SelectItem) × GoodSelectItem t) ((t : TableReference) × GoodTableReference t) ((t : Term) × GoodTerm t) ((t : Test) × GoodTest t)

  abbrev join_of : Parts Join-F → Node Join-F
  join_of y = map-Join _ _ _ _ _ _ _ _ _ _ _ _ _ _ _ _ _ _ _ _ _ _ _ _ _ _ _ _ _ _ _ _ _ _ (λ p. p.0) (λ p. p.0) (λ p. p.0) (λ p. p.0) (λ p. p.0) (λ p. p.0) (λ p. p.0) (λ p. p.0) (λ p. p.0) (λ p. p.0) (λ p. p.0) (λ p. p.0) (λ p. p.0) (λ p. p.0) (λ p. p.0) (λ p. p.0) (λ p. p.0) y

  abbrev operand_of : Parts Operand-F → Node Operand-F
  operand_of y = map-Operand _ _ _ _ _ _ _ _ _ _ _ _ _ _ _ _ _ _ _ _ _ _ _ _ _ _ _ _ _ _ _ _ _ _ (λ p. p.0) (λ p. p.0) (λ p. p.0) (λ p. p.0) (λ p. p.0) (λ p. p.0) (λ p. p.0) (λ p. p.0) (λ p. p.0) (λ p. p.0) (λ p. p.0) (λ p. p.0) (λ p. p.0) (λ p. p.0) (λ p. p.0) (λ p. p.0) (λ p. p.0) y

  abbrev predicate_of : Parts Predicate-F → Node Predicate-F
  predicate_of y = map-Predicate _ _ _ _ _ _ _ _ _ _ _ _ _ _ _ _ _ _ _ _ _ _ _ _ _ _ _ _ _ _ _ _ _ _ (λ p. p.0) (λ p. p.0) (λ p. p.0) (λ p. p.0) (λ p. p.0) (λ p. p.0) (λ p. p.0) (λ p. p.0) (λ p. p.0) (λ p. p.0) (λ p. p.0) (λ p. p.0) (λ p. p.0) (λ p. p.0) (λ p. p.0) (λ p. p.0) (λ p. p.0) y

  abbrev primary_of : Parts Primary-F → Node Primary-F
  primary_of y = map-Primary _ _ _ _ _ _ _ _ _ _ _ _ _ _ _ _ _ _ _ _ _ _ _ _ _ _ _ _ _ _ _ _ _ _ (λ p. p.0) (λ p. p.0) (λ p. p.0) (λ p. p.0) (λ p. p.0) (λ p. p.0) (λ p. p.0) (λ p. p.0) (λ p. p.0) (λ p. p.0) (λ p. p.0) (λ p. p.0) (λ p. p.0) (λ p. p.0) (λ p. p.0) (λ p. p.0) (λ p. p.0) y

  abbrev source_of : Parts TableSource-F → Node TableSource-F
  source_of y = map-TableSource _ _ _ _ _ _ _ _ _ _ _ _ _ _ _ _ _ _ _ _ _ _ _ _ _ _ _ _ _ _ _ _ _ _ (λ p. p.0) (λ p. p.0) (λ p. p.0) (λ p. p.0) (λ p. p.0) (λ p. p.0) (λ p. p.0) (λ p. p.0) (λ p. p.0) (λ p. p.0) (λ p. p.0) (λ p. p.0) (λ p. p.0) (λ p. p.0) (λ p. p.0) (λ p. p.0) (λ p. p.0) y

  abbrev addend_of : Parts Addend-F → Node Addend-F
  addend_of y = map-Addend _ _ _ _ _ _ _ _ _ _ _ _ _ _ _ _ _ _ _ _ _ _ _ _ _ _ _ _ _ _ _ _ _ _ (λ p. p.0) (λ p. p.0) (λ p. p.0) (λ p. p.0) (λ p. p.0) (λ p. p.0) (λ p. p.0) (λ p. p.0) (λ p. p.0) (λ p. p.0) (λ p. p.0) (λ p. p.0) (λ p. p.0) (λ p. p.0) (λ p. p.0) (λ p. p.0) (λ p. p.0) y

  abbrev condition_of : Parts Condition-F → Node Condition-F
  condition_of y = map-Condition _ _ _ _ _ _ _ _ _ _ _ _ _ _ _ _ _ _ _ _ _ _ _ _ _ _ _ _ _ _ _ _ _ _ (λ p. p.0) (λ p. p.0) (λ p. p.0) (λ p. p.0) (λ p. p.0) (λ p. p.0) (λ p. p.0) (λ p. p.0) (λ p. p.0) (λ p. p.0) (λ p. p.0) (λ p. p.0) (λ p. p.0) (λ p. p.0) (λ p. p.0) (λ p. p.0) (λ p. p.0) y

  abbrev conjunction_of : Parts Conjunction-F → Node Conjunction-F
  conjunction_of y = map-Conjunction _ _ _ _ _ _ _ _ _ _ _ _ _ _ _ _ _ _ _ _ _ _ _ _ _ _ _ _ _ _ _ _ _ _ (λ p. p.0) (λ p. p.0) (λ p. p.0) (λ p. p.0) (λ p. p.0) (λ p. p.0) (λ p. p.0) (λ p. p.0) (λ p. p.0) (λ p. p.0) (λ p. p.0) (λ p. p.0) (λ p. p.0) (λ p. p.0) (λ p. p.0) (λ p. p.0) (λ p. p.0) y

  abbrev expression_of : Parts Expression-F → Node Expression-F
  expression_of y = map-Expression _ _ _ _ _ _ _ _ _ _ _ _ _ _ _ _ _ _ _ _ _ _ _ _ _ _ _ _ _ _ _ _ _ _ (λ p. p.0) (λ p. p.0) (λ p. p.0) (λ p. p.0) (λ p. p.0) (λ p. p.0) (λ p. p.0) (λ p. p.0) (λ p. p.0) (λ p. p.0) (λ p. p.0) (λ p. p.0) (λ p. p.0) (λ p. p.0) (λ p. p.0) (λ p. p.0) (λ p. p.0) y

  abbrev factor_of : Parts Factor-F → Node Factor-F
  factor_of y = map-Factor _ _ _ _ _ _ _ _ _ _ _ _ _ _ _ _ _ _ _ _ _ _ _ _ _ _ _ _ _ _ _ _ _ _ (λ p. p.0) (λ p. p.0) (λ p. p.0) (λ p. p.0) (λ p. p.0) (λ p. p.0) (λ p. p.0) (λ p. p.0) (λ p. p.0) (λ p. p.0) (λ p. p.0) (λ p. p.0) (λ p. p.0) (λ p. p.0) (λ p. p.0) (λ p. p.0) (λ p. p.0) y

  abbrev negation_of : Parts Negation-F → Node Negation-F
  negation_of y = map-Negation _ _ _ _ _ _ _ _ _ _ _ _ _ _ _ _ _ _ _ _ _ _ _ _ _ _ _ _ _ _ _ _ _ _ (λ p. p.0) (λ p. p.0) (λ p. p.0) (λ p. p.0) (λ p. p.0) (λ p. p.0) (λ p. p.0) (λ p. p.0) (λ p. p.0) (λ p. p.0) (λ p. p.0) (λ p. p.0) (λ p. p.0) (λ p. p.0) (λ p. p.0) (λ p. p.0) (λ p. p.0) y

  abbrev query_of : Parts Query-F → Node Query-F
  query_of y = map-Query _ _ _ _ _ _ _ _ _ _ _ _ _ _ _ _ _ _ _ _ _ _ _ _ _ _ _ _ _ _ _ _ _ _ (λ p. p.0) (λ p. p.0) (λ p. p.0) (λ p. p.0) (λ p. p.0) (λ p. p.0) (λ p. p.0) (λ p. p.0) (λ p. p.0) (λ p. p.0) (λ p. p.0) (λ p. p.0) (λ p. p.0) (λ p. p.0) (λ p. p.0) (λ p. p.0) (λ p. p.0) y

  abbrev select_of : Parts Select-F → Node Select-F
  select_of y = map-Select _ _ _ _ _ _ _ _ _ _ _ _ _ _ _ _ _ _ _ _ _ _ _ _ _ _ _ _ _ _ _ _ _ _ (λ p. p.0) (λ p. p.0) (λ p. p.0) (λ p. p.0) (λ p. p.0) (λ p. p.0) (λ p. p.0) (λ p. p.0) (λ p. p.0) (λ p. p.0) (λ p. p.0) (λ p. p.0) (λ p. p.0) (λ p. p.0) (λ p. p.0) (λ p. p.0) (λ p. p.0) y

  abbrev item_of : Parts SelectItem-F → Node SelectItem-F
  item_of y = map-SelectItem _ _ _ _ _ _ _ _ _ _ _ _ _ _ _ _ _ _ _ _ _ _ _ _ _ _ _ _ _ _ _ _ _ _ (λ p. p.0) (λ p. p.0) (λ p. p.0) (λ p. p.0) (λ p. p.0) (λ p. p.0) (λ p. p.0) (λ p. p.0) (λ p. p.0) (λ p. p.0) (λ p. p.0) (λ p. p.0) (λ p. p.0) (λ p. p.0) (λ p. p.0) (λ p. p.0) (λ p. p.0) y

  abbrev reference_of : Parts TableReference-F → Node TableReference-F
  reference_of y = map-TableReference _ _ _ _ _ _ _ _ _ _ _ _ _ _ _ _ _ _ _ _ _ _ _ _ _ _ _ _ _ _ _ _ _ _ (λ p. p.0) (λ p. p.0) (λ p. p.0) (λ p. p.0) (λ p. p.0) (λ p. p.0) (λ p. p.0) (λ p. p.0) (λ p. p.0) (λ p. p.0) (λ p. p.0) (λ p. p.0) (λ p. p.0) (λ p. p.0) (λ p. p.0) (λ p. p.0) (λ p. p.0) y

  abbrev term_of : Parts Term-F → Node Term-F
  term_of y = map-Term _ _ _ _ _ _ _ _ _ _ _ _ _ _ _ _ _ _ _ _ _ _ _ _ _ _ _ _ _ _ _ _ _ _ (λ p. p.0) (λ p. p.0) (λ p. p.0) (λ p. p.0) (λ p. p.0) (λ p. p.0) (λ p. p.0) (λ p. p.0) (λ p. p.0) (λ p. p.0) (λ p. p.0) (λ p. p.0) (λ p. p.0) (λ p. p.0) (λ p. p.0) (λ p. p.0) (λ p. p.0) y

  abbrev test_of : Parts Test-F → Node Test-F
  test_of y = map-Test _ _ _ _ _ _ _ _ _ _ _ _ _ _ _ _ _ _ _ _ _ _ _ _ _ _ _ _ _ _ _ _ _ _ (λ p. p.0) (λ p. p.0) (λ p. p.0) (λ p. p.0) (λ p. p.0) (λ p. p.0) (λ p. p.0) (λ p. p.0) (λ p. p.0) (λ p. p.0) (λ p. p.0) (λ p. p.0) (λ p. p.0) (λ p. p.0) (λ p. p.0) (λ p. p.0) (λ p. p.0) y

  -- ---- expressions

  primary_typed : (y : Parts Primary-F) (sign : Option Sign) → IsTyped k (Gives k) (primary_step (primary_meant k (primary_of y)) sign)
  primary_typed (Primary-F.Number number) sign = none k (Gives k) (λ view. signed_number sign number >>= (λ x. Ok (integer (expression.Constant x)))) (λ view rows are. number-typed k rows sign number)
  primary_typed (Primary-F.Text codes) sign = with_its_sign k sign (of_none (λ view. Ok (text (expression.Constant (value.Text codes))))) (none k (Gives k) (λ view. Ok (text (expression.Constant (value.Text codes)))) (λ view rows are. typed.constant (value.Text codes) refl))
  primary_typed (Primary-F.Column column) sign = with_its_sign k sign (column_part column) (column-typed k column)
  primary_typed Primary-F.CountRows sign = with_its_sign k sign (aggregate_part count_rows) (count_rows-typed k)
  primary_typed (Primary-F.Aggregate function quantifier x) sign =
      with_its_sign k sign (aggregate_part (aggregate_found function quantifier (expression_part k x.0))) (aggregate-typed k function quantifier (expression_part k x.0) x.1)
  primary_typed (Primary-F.Parenthesized x) sign = with_its_sign k sign (in_parentheses (expression_part k x.0)) (parenthesized k (expression_part k x.0) x.1)
  primary_typed (Primary-F.Subquery query) sign = with_its_sign k sign (query_part scalar (query_found k query.0)) (query-typed k (Gives k) scalar (query_found k query.0) (λ rows q h. scalar-typed k rows q h) query.1)

  factor_typed : (y : Parts Factor-F) → IsTyped k (Gives k) (factor_step (factor_meant k (factor_of y)))
  factor_typed y = y.primary.1 y.sign

  term_typed : (y : Parts Term-F) → IsTyped k (Gives k) (term_step (term_meant k (term_of y)))
  term_typed y = chain k (Gives k) product_chain (λ rows first others h l. product_chain-typed k rows first others h l) (factor_part k y.first.0) _ y.first.1 (operands k (factor_part k) y.others)

  expression_typed : (y : Parts Expression-F) → IsTyped k (Gives k) (expression_step (expression_meant k (expression_of y)))
  expression_typed y = chain k (Gives k) sum_chain (λ rows first others h l. sum_chain-typed k rows first others h l) (term_part k y.first.0) _ y.first.1 (operands k (term_part k) y.others)

  -- ---- conditions

  predicate_typed : (y : Parts Predicate-F) → IsTyped k (Asks k) (predicate_step (predicate_meant k (predicate_of y)))
  predicate_typed (Predicate-F.Nested c) = c.1
  predicate_typed (Predicate-F.Compare a operator b) =
      two k (Gives k) (Gives k) (Asks k) (compared operator) (expression_part k a.0) (expression_part k b.0) (λ rows f g h l. compared-typed k rows operator f g h l) a.1 b.1
  predicate_typed (Predicate-F.Between a n low high) =
      three k (Gives k) (Gives k) (Gives k) (Asks k) (between n) (expression_part k a.0) (expression_part k low.0) (expression_part k high.0) (λ rows f g i h l m. between-typed k rows n f g i h l m) a.1 low.1 high.1
  predicate_typed (Predicate-F.InList a n literals) = one k (Gives k) (Asks k) (λ x. in_list n x literals) (expression_part k a.0) (λ rows f h. in_list-typed k rows n f literals h) a.1
  predicate_typed (Predicate-F.InQuery a n query) =
      two k (Gives k) (IsOneColumn k) (Asks k) (in_query n) (expression_part k a.0) (query_part of_one_column (query_found k query.0)) (λ rows f g h l. in_query-typed k rows n f g h l) a.1
      (query-typed k (IsOneColumn k) of_one_column (query_found k query.0) (λ rows q h. of_one_column-typed k rows q h) query.1)
  predicate_typed (Predicate-F.Like a n b) = two k (Gives k) (Gives k) (Asks k) (like n) (expression_part k a.0) (expression_part k b.0) (λ rows f g h l. like-typed k rows n f g h l) a.1 b.1
  predicate_typed (Predicate-F.IsNull a n) = one k (Gives k) (Asks k) (null_test n) (expression_part k a.0) (λ rows f h. null-typed k rows n f h) a.1
  predicate_typed (Predicate-F.Exists query) = query-typed k (Asks k) exists (query_found k query.0) (λ rows q h. exists-typed k rows q h) query.1

  test_typed : (y : Parts Test-F) → IsTyped k (Asks k) (test_step (test_meant k (test_of y)))
  test_typed y = followed k (Asks k) (Asks k) (λ c. Ok (tested y.truth c)) (predicate_part k y.predicate.0) (λ rows c h. tested-typed k rows y.truth c h) y.predicate.1

  negation_typed : (y : Parts Negation-F) → IsTyped k (Asks k) (negation_step (negation_meant k (negation_of y)))
  negation_typed y = followed k (Asks k) (Asks k) (λ c. Ok (negated y.is_negated c)) (test_part k y.test.0) (λ rows c h. negated-typed k rows y.is_negated c h) y.test.1

  conjunction_typed : (y : Parts Conjunction-F) → IsTyped k (Asks k) (conjunction_step (conjunction_meant k (conjunction_of y)))
  conjunction_typed y =
      every k (Asks k) (Asks k) conjunction (λ rows found h. conjunction-typed k rows found h) (negation_part k y.first.0 ∷ map (negation_part k) (map (λ p. p.0) y.others)) (y.first.1, parts (IsTyped k (Asks k)) (negation_part k) y.others)

  condition_typed : (y : Parts Condition-F) → IsTyped k (Asks k) (condition_step (condition_meant k (condition_of y)))
  condition_typed y =
      every k (Asks k) (Asks k) disjunction (λ rows found h. disjunction-typed k rows found h) (conjunction_part k y.first.0 ∷ map (conjunction_part k) (map (λ p. p.0) y.others)) (y.first.1, parts (IsTyped k (Asks k)) (conjunction_part k) y.others)

  -- ---- FROM

  join_typed : (y : Parts Join-F) (left : From) → IsTypedFrom k left → IsTypedFrom k (join_step (join_meant k (join_of y)) left)
  join_typed (Join-F.Cross right) left h = crossed-typed k left (source_part k right.0) h right.1
  join_typed (Join-F.Inner has_inner right on) left h = joined-typed k inner_join (inner-joins k) (condition_part k on.0) left (source_part k right.0) on.1 h right.1
  join_typed (Join-F.Left has_outer right on) left h = joined-typed k left_join (left-joins k) (condition_part k on.0) left (source_part k right.0) on.1 h right.1

  source_typed : (y : Parts TableSource-F) → IsTypedFrom k (source_step k (source_meant k (source_of y)))
  source_typed (TableSource-F.Table name alias) = stored-typed k name (shown_name name alias)
  source_typed (TableSource-F.Derived query alias) = derived-typed k (query_found k query.0) alias.name query.1

  reference_typed : (y : Parts TableReference-F) → IsTypedFrom k (reference_step (reference_meant k (reference_of y)))
  reference_typed y = joined_by-typed k _ (source_part k y.first.0) (parts (IsTypedJoin k) (join_part k) y.joins) y.first.1

  -- ---- queries

  item_typed : (y : Parts SelectItem-F) → IsTyped k (Shows k) (item_step (item_meant k (item_of y)))
  item_typed y = item-typed k y.alias (expression_part k y.value.0) y.value.1

  -- a SELECT of these items, and else like this one
  abbrev with_items : Option (List ((t : SelectItem) × GoodSelectItem t)) → Parts Select-F → Parts Select-F
  with_items items y = record y { items = items }

  abbrev with_filter : Option ((t : Condition) × GoodCondition t) → Parts Select-F → Parts Select-F
  with_filter filter y = record y { filter = filter }

  abbrev with_having : Option ((t : Condition) × GoodCondition t) → Parts Select-F → Parts Select-F
  with_having having y = record y { having = having }

  items_typed : (items : Option (List ((t : SelectItem) × GoodSelectItem t))) (y : Parts Select-F) → IfItems k (select_meant k (select_of (with_items items y))).items
  items_typed None y = tt
  items_typed (Some items) y = parts (IsTyped k (Shows k)) (item_part k) items

  filter_typed : (filter : Option ((t : Condition) × GoodCondition t)) (y : Parts Select-F) → IfWritten k (Asks k) (select_meant k (select_of (with_filter filter y))).filter
  filter_typed None y = tt
  filter_typed (Some filter) y = filter.1

  having_typed : (having : Option ((t : Condition) × GoodCondition t)) (y : Parts Select-F) → IfWritten k (Asks k) (select_meant k (select_of (with_having having y))).having
  having_typed None y = tt
  having_typed (Some having) y = having.1

  select_typed : (y : Parts Select-F) → IsTypedQuery k (select_step (select_meant k (select_of y)))
  select_typed y = step_typed k (select_meant k (select_of y)) (items_typed y.items y) (parts (IsTypedFrom k) (reference_part k) y.from) (filter_typed y.filter y) (having_typed y.having y)

  operand_typed : (y : Parts Operand-F) → IsTypedQuery k (operand_step (operand_meant k (operand_of y)))
  operand_typed (Operand-F.Select select) = select.1
  operand_typed (Operand-F.Grouped query) = query.1

  addend_typed : (y : Parts Addend-F) → IsTypedQuery k (addend_step (addend_meant k (addend_of y)))
  addend_typed y = λ outer rows are. set_chain-typed k rows (operand_found k y.first.0 outer) _ (y.first.1 outer rows are) (queries k (operand_found k) intersection outer rows are y.others)

  query_typed : (y : Parts Query-F) → IsTypedQuery k (query_step (query_meant k (query_of y)))
  query_typed y = λ outer rows are. set_chain-typed k rows (addend_found k y.first.0 outer) _ (y.first.1 outer rows are) (queries k (addend_found k) operation outer rows are y.others)

  -- ---- the trees

  join_node : (x : Node Join-F) (y : Parts Join-F) → join_of y ≡ x → GoodJoin (roll-Join x)
  join_node x y is = subst (λ (z : Node Join-F). GoodJoin (roll-Join z)) is (λ left h outer rows are. rw (ap (λ f. f left) (join_rolled k (join_of y))) (join_typed y left h outer rows are))

  operand_node : (x : Node Operand-F) (y : Parts Operand-F) → operand_of y ≡ x → GoodOperand (roll-Operand x)
  operand_node x y is = subst (λ (z : Node Operand-F). GoodOperand (roll-Operand z)) is (λ scope rows are. rw (ap (λ f. f scope) (operand_rolled k (operand_of y))) (operand_typed y scope rows are))

  predicate_node : (x : Node Predicate-F) (y : Parts Predicate-F) → predicate_of y ≡ x → GoodPredicate (roll-Predicate x)
  predicate_node x y is = subst (λ (z : Node Predicate-F). GoodPredicate (roll-Predicate z)) is (rw (predicate_rolled k (predicate_of y)) (predicate_typed y))

  primary_node : (x : Node Primary-F) (y : Parts Primary-F) → primary_of y ≡ x → GoodPrimary (roll-Primary x)
  primary_node x y is = subst (λ (z : Node Primary-F). GoodPrimary (roll-Primary z)) is (λ sign. rw (ap (λ f. f sign) (primary_rolled k (primary_of y))) (primary_typed y sign))

  source_node : (x : Node TableSource-F) (y : Parts TableSource-F) → source_of y ≡ x → GoodTableSource (roll-TableSource x)
  source_node x y is = subst (λ (z : Node TableSource-F). GoodTableSource (roll-TableSource z)) is (λ outer rows are. rw (source_rolled k (source_of y)) (source_typed y outer rows are))

  addend_node : (x : Node Addend-F) (y : Parts Addend-F) → addend_of y ≡ x → GoodAddend (roll-Addend x)
  addend_node x y is = subst (λ (z : Node Addend-F). GoodAddend (roll-Addend z)) is (λ scope rows are. rw (ap (λ f. f scope) (addend_rolled k (addend_of y))) (addend_typed y scope rows are))

  condition_node : (x : Node Condition-F) (y : Parts Condition-F) → condition_of y ≡ x → GoodCondition (roll-Condition x)
  condition_node x y is = subst (λ (z : Node Condition-F). GoodCondition (roll-Condition z)) is (rw (condition_rolled k (condition_of y)) (condition_typed y))

  conjunction_node : (x : Node Conjunction-F) (y : Parts Conjunction-F) → conjunction_of y ≡ x → GoodConjunction (roll-Conjunction x)
  conjunction_node x y is = subst (λ (z : Node Conjunction-F). GoodConjunction (roll-Conjunction z)) is (rw (conjunction_rolled k (conjunction_of y)) (conjunction_typed y))

  expression_node : (x : Node Expression-F) (y : Parts Expression-F) → expression_of y ≡ x → GoodExpression (roll-Expression x)
  expression_node x y is = subst (λ (z : Node Expression-F). GoodExpression (roll-Expression z)) is (rw (expression_rolled k (expression_of y)) (expression_typed y))

  factor_node : (x : Node Factor-F) (y : Parts Factor-F) → factor_of y ≡ x → GoodFactor (roll-Factor x)
  factor_node x y is = subst (λ (z : Node Factor-F). GoodFactor (roll-Factor z)) is (rw (factor_rolled k (factor_of y)) (factor_typed y))

  negation_node : (x : Node Negation-F) (y : Parts Negation-F) → negation_of y ≡ x → GoodNegation (roll-Negation x)
  negation_node x y is = subst (λ (z : Node Negation-F). GoodNegation (roll-Negation z)) is (rw (negation_rolled k (negation_of y)) (negation_typed y))

  query_node : (x : Node Query-F) (y : Parts Query-F) → query_of y ≡ x → GoodQuery (roll-Query x)
  query_node x y is = subst (λ (z : Node Query-F). GoodQuery (roll-Query z)) is (λ scope rows are. rw (ap (λ f. f scope) (query_rolled k (query_of y))) (query_typed y scope rows are))

  select_node : (x : Node Select-F) (y : Parts Select-F) → select_of y ≡ x → GoodSelect (roll-Select x)
  select_node x y is = subst (λ (z : Node Select-F). GoodSelect (roll-Select z)) is (λ scope rows are. rw (ap (λ f. f scope) (select_rolled k (select_of y))) (select_typed y scope rows are))

  item_node : (x : Node SelectItem-F) (y : Parts SelectItem-F) → item_of y ≡ x → GoodSelectItem (roll-SelectItem x)
  item_node x y is = subst (λ (z : Node SelectItem-F). GoodSelectItem (roll-SelectItem z)) is (rw (item_rolled k (item_of y)) (item_typed y))

  reference_node : (x : Node TableReference-F) (y : Parts TableReference-F) → reference_of y ≡ x → GoodTableReference (roll-TableReference x)
  reference_node x y is = subst (λ (z : Node TableReference-F). GoodTableReference (roll-TableReference z)) is (λ outer rows are. rw (reference_rolled k (reference_of y)) (reference_typed y outer rows are))

  term_node : (x : Node Term-F) (y : Parts Term-F) → term_of y ≡ x → GoodTerm (roll-Term x)
  term_node x y is = subst (λ (z : Node Term-F). GoodTerm (roll-Term z)) is (rw (term_rolled k (term_of y)) (term_typed y))

  test_node : (x : Node Test-F) (y : Parts Test-F) → test_of y ≡ x → GoodTest (roll-Test x)
  test_node x y is = subst (λ (z : Node Test-F). GoodTest (roll-Test z)) is (rw (test_rolled k (test_of y)) (test_typed y))

  pub trees-expressions : (t : Expression) → GoodExpression t
  trees-expressions = ind-Expression GoodJoin GoodOperand GoodPredicate GoodPrimary GoodTableSource GoodAddend GoodCondition GoodConjunction GoodExpression GoodFactor GoodNegation GoodQuery GoodSelect GoodSelectItem GoodTableReference GoodTerm GoodTest
      join_node operand_node predicate_node primary_node source_node addend_node condition_node conjunction_node expression_node factor_node negation_node query_node select_node item_node reference_node term_node test_node

  pub trees-conditions : (t : Condition) → GoodCondition t
  trees-conditions = ind-Condition GoodJoin GoodOperand GoodPredicate GoodPrimary GoodTableSource GoodAddend GoodCondition GoodConjunction GoodExpression GoodFactor GoodNegation GoodQuery GoodSelect GoodSelectItem GoodTableReference GoodTerm GoodTest
      join_node operand_node predicate_node primary_node source_node addend_node condition_node conjunction_node expression_node factor_node negation_node query_node select_node item_node reference_node term_node test_node

  pub trees-queries : (t : Query) → GoodQuery t
  trees-queries = ind-Query GoodJoin GoodOperand GoodPredicate GoodPrimary GoodTableSource GoodAddend GoodCondition GoodConjunction GoodExpression GoodFactor GoodNegation GoodQuery GoodSelect GoodSelectItem GoodTableReference GoodTerm GoodTest
      join_node operand_node predicate_node primary_node source_node addend_node condition_node conjunction_node expression_node factor_node negation_node query_node select_node item_node reference_node term_node test_node

  pub trees-selects : (t : Select) → GoodSelect t
  trees-selects = ind-Select GoodJoin GoodOperand GoodPredicate GoodPrimary GoodTableSource GoodAddend GoodCondition GoodConjunction GoodExpression GoodFactor GoodNegation GoodQuery GoodSelect GoodSelectItem GoodTableReference GoodTerm GoodTest
      join_node operand_node predicate_node primary_node source_node addend_node condition_node conjunction_node expression_node factor_node negation_node query_node select_node item_node reference_node term_node test_node
