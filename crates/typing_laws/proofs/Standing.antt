-- In every expression, condition and item of a text the values of its set functions stand one after
-- the other: by induction over the trees.
use Rattle.std.proofs.Common.{◌≡◌, ◌≤◌, refl, sym, ap, ◌∙◌, subst, ℕ, List, [], ◌∷◌, ◌++◌, map, length, Ok, Err, Option, Some, Bool, append-nil}
use Rattle.std.specs.List.{AllByRecursion, range_with_len}
use Rattle.std.proofs.lemmas.Bool.{le-ltb}
use Rattle.sqlval.specs.declared.value.Value.{Value}
use Rattle.sqlval.specs.declared.value.Value.TheVariants as value
use Rattle.sqlval.specs.declared.value.ValueType.{ValueType}
use Rattle.ast.specs.declared.operator.Sign.{Sign}
use Rattle.ast.specs.declared.tree.Join.{Join, Join-F, roll-Join, map-Join}
use Rattle.ast.specs.declared.tree.Operand.{Operand, Operand-F, roll-Operand, map-Operand}
use Rattle.ast.specs.declared.tree.Predicate.{Predicate, Predicate-F, roll-Predicate, map-Predicate}
use Rattle.ast.specs.declared.tree.Primary.{Primary, Primary-F, roll-Primary, map-Primary}
use Rattle.ast.specs.declared.tree.TableSource.{TableSource, TableSource-F, roll-TableSource, map-TableSource}
use Rattle.ast.specs.declared.tree.Addend.{Addend, Addend-F, roll-Addend, map-Addend}
use Rattle.ast.specs.declared.tree.Condition.{Condition, Condition-F, roll-Condition, map-Condition, ind-Condition}
use Rattle.ast.specs.declared.tree.Conjunction.{Conjunction, Conjunction-F, roll-Conjunction, map-Conjunction}
use Rattle.ast.specs.declared.tree.Expression.{Expression, Expression-F, roll-Expression, map-Expression, ind-Expression}
use Rattle.ast.specs.declared.tree.Factor.{Factor, Factor-F, roll-Factor, map-Factor}
use Rattle.ast.specs.declared.tree.Negation.{Negation, Negation-F, roll-Negation, map-Negation}
use Rattle.ast.specs.declared.tree.Query.{Query, Query-F, roll-Query, map-Query}
use Rattle.ast.specs.declared.tree.Select.{Select, Select-F, roll-Select, map-Select}
use Rattle.ast.specs.declared.tree.SelectItem.{SelectItem, SelectItem-F, roll-SelectItem, map-SelectItem, ind-SelectItem}
use Rattle.ast.specs.declared.tree.TableReference.{TableReference, TableReference-F, roll-TableReference, map-TableReference}
use Rattle.ast.specs.declared.tree.Term.{Term, Term-F, roll-Term, map-Term}
use Rattle.ast.specs.declared.tree.Test.{Test, Test-F, roll-Test, map-Test}
use Rattle.typing.specs.declared.typed.Condition.{Condition as Typed}
use Rattle.typing.specs.declared.typed.Expression.TheVariants as e
use Rattle.typing.specs.declared.typed.Query.{Query as TypedTree}
use Rattle.typing.specs.declared.scope.Frame.{Frame}
use Rattle.typing.specs.declared.scope.ShownItem.{ShownItem}
use Rattle.typing.specs.declared.scope.TypedExpression.{TypedExpression}
use Rattle.typing.specs.Condition.{between, compared, conjunction, disjunction, in_list, like, negated, null_test, tested}
use Rattle.typing.specs.Expression.{integer, product_chain, signed_number, sum_chain, text}
use Rattle.typing.specs.Finding.{Finding, ◌>>=◌}
use Rattle.typing.specs.Known.{Known}
use Rattle.typing.specs.Part.{Part, of_none}
use Rattle.typing.specs.Scope.{Scope, column_at}
use Rattle.typing.specs.Select.{item_name, shown_item}
use Rattle.typing.specs.SetFunction.{Aggregate, aggregate_found, aggregate_part, column_part, count_rows, query_part}
use Rattle.typing.specs.SetOperator.{in_query, of_one_column, scalar}
use Rattle.typing.specs.Typing.{in_parentheses, predicate_step, primary_step, condition_step, conjunction_step, expression_step, factor_step, negation_step, item_step, term_step, test_step, predicate_part, primary_part, condition_part, conjunction_part, expression_part, factor_part, negation_part, item_part, term_part, test_part, query_found}
use Rattle.typing_laws.proofs.Rolled.{Node, predicate_meant, predicate_rolled, primary_meant, primary_rolled, condition_meant, condition_rolled, conjunction_meant, conjunction_rolled, expression_meant, expression_rolled, factor_meant, factor_rolled, negation_meant, negation_rolled, item_meant, item_rolled, term_meant, term_rolled, test_meant, test_rolled}
use Rattle.typing_laws.specs.Placed.{past_key, places_asked, places_in}
use Rattle.typing_laws.proofs.Places.{at_column, at_constant, at_negated, at_tested}
use Rattle.typing_laws.proofs.FunctionFitting.{Fits, between-fits, compared-fits, conjunction-fits, disjunction-fits, exists-fits, in_list-fits, in_query-fits, like-fits, null-fits, product_chain-fits, scalar-fits, sum_chain-fits, typed_places}
use Rattle.typing_laws.proofs.NumberedColumns.{columns-fit}
use Rattle.typing_laws.proofs.Turns.{Stands, StandsOperand, chain, every, none, one, three, two, with_its_sign}

abbrev nothing : {A : Type 0} → A → List ℕ
nothing x = []

nothing-fits : {A : Type 0} (x : Finding A) → Fits nothing x []
nothing-fits (Ok x) = refl
nothing-fits (Err reasons) = tt

constants : (key : ℕ) (x : Finding Value) → Fits (typed_places key) (x >>= (λ x. Ok (integer (e.Constant x)))) []
constants key (Ok x) = at_constant key x
constants key (Err reasons) = tt

-- the value of a set function stands in its place
valued : (key first : ℕ) → key ≤ first → (x : Finding Aggregate) → Fits (typed_places key) (x >>= (λ a. Ok (column_at a.1 0 first))) (range_with_len first 1)
valued key first le (Ok a) = at_column key 0 first ∙ past
  where
    past : past_key key 0 first ≡ first ∷ []
    past = rw (le-ltb first key le) refl
valued key first le (Err reasons) = tt

in_queries : (key : ℕ) (n : Bool) (f : Finding TypedExpression) (g : Finding (TypedTree × ValueType)) (places all : List ℕ) → Fits (typed_places key) f places → Fits nothing g all
    → Fits (places_asked key) (in_query n f g) (places ++ all)
in_queries key n f (Ok q) places all h k = subst (Fits (places_asked key) (in_query n f (Ok q))) (sym (append-nil places) ∙ ap (λ l. places ++ l) k) (in_query-fits key n f (Ok q) places h)
in_queries key n (Ok x) (Err reasons) places all h k = tt
in_queries key n (Err others) (Err reasons) places all h k = tt

tested-fits : (key : ℕ) (made : Typed → Typed) → ((x : Typed) → places_asked key (made x) ≡ places_asked key x) → (f : Finding Typed) (places : List ℕ) → Fits (places_asked key) f places
    → Fits (places_asked key) (f >>= (λ x. Ok (made x))) places
tested-fits key made same (Ok x) places h = same x ∙ h
tested-fits key made same (Err reasons) places h = tt

-- ---- lists of parts, each with what is known of it

module _ {T X : Type 0} (P : X → Type 0) (f : T → X) where
  pub parts : (ys : List ((t : T) × P (f t))) → AllByRecursion P (map f (map (λ y. y.0) ys))
  parts [] = tt
  parts (y ∷ ys) = (y.1, parts ys)

module _ (k : Known) (frame : Frame) (outer : Scope) (key : List ℕ) (is : frame.key ≡ Some key) where
  abbrev places : TypedExpression → List ℕ
  places = typed_places (length key)

  abbrev asked : Typed → List ℕ
  asked = places_asked (length key)

  abbrev pub shown : ShownItem → List ℕ
  shown item = places_in (length key) item.expression

  abbrev pub InPlace : {A : Type 0} → (A → List ℕ) → Part A → Type 0
  InPlace = Stands (frame ∷ outer) (length key)

  operands : {O T : Type 0} (f : T → Part TypedExpression) (ys : List (O × ((t : T) × InPlace places (f t)))) → AllByRecursion (StandsOperand (frame ∷ outer) (length key) places) (map {B = O × Part TypedExpression} (λ o. (o.0, f o.1)) (map {B = O × T} (λ o. (o.0, (o.1).0)) ys))
  operands f [] = tt
  operands f (y ∷ ys) = ((y.1).1, operands f ys)

  -- ---- what is known of each tree

  abbrev KnownJoin : Join → Type 0
  KnownJoin t = Unit {0}

  abbrev KnownOperand : Operand → Type 0
  KnownOperand t = Unit {0}

  abbrev KnownPredicate : Predicate → Type 0
  KnownPredicate t = InPlace asked (predicate_part k t)

  abbrev KnownPrimary : Primary → Type 0
  KnownPrimary t = (sign : Option Sign) → InPlace places (primary_part k t sign)

  abbrev KnownTableSource : TableSource → Type 0
  KnownTableSource t = Unit {0}

  abbrev KnownAddend : Addend → Type 0
  KnownAddend t = Unit {0}

  abbrev KnownCondition : Condition → Type 0
  KnownCondition t = InPlace asked (condition_part k t)

  abbrev KnownConjunction : Conjunction → Type 0
  KnownConjunction t = InPlace asked (conjunction_part k t)

  abbrev KnownExpression : Expression → Type 0
  KnownExpression t = InPlace places (expression_part k t)

  abbrev KnownFactor : Factor → Type 0
  KnownFactor t = InPlace places (factor_part k t)

  abbrev KnownNegation : Negation → Type 0
  KnownNegation t = InPlace asked (negation_part k t)

  abbrev KnownQuery : Query → Type 0
  KnownQuery t = Unit {0}

  abbrev KnownSelect : Select → Type 0
  KnownSelect t = Unit {0}

  abbrev KnownSelectItem : SelectItem → Type 0
  KnownSelectItem t = InPlace shown (item_part k t)

  abbrev KnownTableReference : TableReference → Type 0
  KnownTableReference t = Unit {0}

  abbrev KnownTerm : Term → Type 0
  KnownTerm t = InPlace places (term_part k t)

  abbrev KnownTest : Test → Type 0
  KnownTest t = InPlace asked (test_part k t)

  -- a node of trees, each with what is known of it
  abbrev Parts : ((A B C D E F G H I J K L M N O P Q : Type 0) → Type 0) → Type 0
  Parts T =
      T ((t : Join) × KnownJoin t) ((t : Operand) × KnownOperand t) ((t : Predicate) × KnownPredicate t) ((t : Primary) × KnownPrimary t) ((t : TableSource) × KnownTableSource t) ((t : Addend) × KnownAddend t) ((t : Condition) × KnownCondition t) ((t : Conjunction) × KnownConjunction t) ((t : Expression) × KnownExpression t) ((t : Factor) × KnownFactor t) ((t : Negation) × KnownNegation t) ((t : Query) × KnownQuery t) ((t : Select) × KnownSelect t) ((t : SelectItem) × KnownSelectItem t) ((t : TableReference) × KnownTableReference t) ((t : Term) × KnownTerm t) ((t : Test) × KnownTest t)

  abbrev predicate_of : Parts Predicate-F → Node Predicate-F
  predicate_of y = map-Predicate _ _ _ _ _ _ _ _ _ _ _ _ _ _ _ _ _ _ _ _ _ _ _ _ _ _ _ _ _ _ _ _ _ _ (λ p. p.0) (λ p. p.0) (λ p. p.0) (λ p. p.0) (λ p. p.0) (λ p. p.0) (λ p. p.0) (λ p. p.0) (λ p. p.0) (λ p. p.0) (λ p. p.0) (λ p. p.0) (λ p. p.0) (λ p. p.0) (λ p. p.0) (λ p. p.0) (λ p. p.0) y

  abbrev primary_of : Parts Primary-F → Node Primary-F
  primary_of y = map-Primary _ _ _ _ _ _ _ _ _ _ _ _ _ _ _ _ _ _ _ _ _ _ _ _ _ _ _ _ _ _ _ _ _ _ (λ p. p.0) (λ p. p.0) (λ p. p.0) (λ p. p.0) (λ p. p.0) (λ p. p.0) (λ p. p.0) (λ p. p.0) (λ p. p.0) (λ p. p.0) (λ p. p.0) (λ p. p.0) (λ p. p.0) (λ p. p.0) (λ p. p.0) (λ p. p.0) (λ p. p.0) y

  abbrev condition_of : Parts Condition-F → Node Condition-F
  condition_of y = map-Condition _ _ _ _ _ _ _ _ _ _ _ _ _ _ _ _ _ _ _ _ _ _ _ _ _ _ _ _ _ _ _ _ _ _ (λ p. p.0) (λ p. p.0) (λ p. p.0) (λ p. p.0) (λ p. p.0) (λ p. p.0) (λ p. p.0) (λ p. p.0) (λ p. p.0) (λ p. p.0) (λ p. p.0) (λ p. p.0) (λ p. p.0) (λ p. p.0) (λ p. p.0) (λ p. p.0) (λ p. p.0) y

  abbrev conjunction_of : Parts Conjunction-F → Node Conjunction-F
  conjunction_of y = map-Conjunction _ _ _ _ _ _ _ _ _ _ _ _ _ _ _ _ _ _ _ _ _ _ _ _ _ _ _ _ _ _ _ _ _ _ (λ p. p.0) (λ p. p.0) (λ p. p.0) (λ p. p.0) (λ p. p.0) (λ p. p.0) (λ p. p.0) (λ p. p.0) (λ p. p.0) (λ p. p.0) (λ p. p.0) (λ p. p.0) (λ p. p.0) (λ p. p.0) (λ p. p.0) (λ p. p.0) (λ p. p.0) y

  abbrev expression_of : Parts Expression-F → Node Expression-F
  expression_of y = map-Expression _ _ _ _ _ _ _ _ _ _ _ _ _ _ _ _ _ _ _ _ _ _ _ _ _ _ _ _ _ _ _ _ _ _ (λ p. p.0) (λ p. p.0) (λ p. p.0) (λ p. p.0) (λ p. p.0) (λ p. p.0) (λ p. p.0) (λ p. p.0) (λ p. p.0) (λ p. p.0) (λ p. p.0) (λ p. p.0) (λ p. p.0) (λ p. p.0) (λ p. p.0) (λ p. p.0) (λ p. p.0) y

  abbrev factor_of : Parts Factor-F → Node Factor-F
  factor_of y = map-Factor _ _ _ _ _ _ _ _ _ _ _ _ _ _ _ _ _ _ _ _ _ _ _ _ _ _ _ _ _ _ _ _ _ _ (λ p. p.0) (λ p. p.0) (λ p. p.0) (λ p. p.0) (λ p. p.0) (λ p. p.0) (λ p. p.0) (λ p. p.0) (λ p. p.0) (λ p. p.0) (λ p. p.0) (λ p. p.0) (λ p. p.0) (λ p. p.0) (λ p. p.0) (λ p. p.0) (λ p. p.0) y

  abbrev negation_of : Parts Negation-F → Node Negation-F
  negation_of y = map-Negation _ _ _ _ _ _ _ _ _ _ _ _ _ _ _ _ _ _ _ _ _ _ _ _ _ _ _ _ _ _ _ _ _ _ (λ p. p.0) (λ p. p.0) (λ p. p.0) (λ p. p.0) (λ p. p.0) (λ p. p.0) (λ p. p.0) (λ p. p.0) (λ p. p.0) (λ p. p.0) (λ p. p.0) (λ p. p.0) (λ p. p.0) (λ p. p.0) (λ p. p.0) (λ p. p.0) (λ p. p.0) y

  abbrev item_of : Parts SelectItem-F → Node SelectItem-F
  item_of y = map-SelectItem _ _ _ _ _ _ _ _ _ _ _ _ _ _ _ _ _ _ _ _ _ _ _ _ _ _ _ _ _ _ _ _ _ _ (λ p. p.0) (λ p. p.0) (λ p. p.0) (λ p. p.0) (λ p. p.0) (λ p. p.0) (λ p. p.0) (λ p. p.0) (λ p. p.0) (λ p. p.0) (λ p. p.0) (λ p. p.0) (λ p. p.0) (λ p. p.0) (λ p. p.0) (λ p. p.0) (λ p. p.0) y

  abbrev term_of : Parts Term-F → Node Term-F
  term_of y = map-Term _ _ _ _ _ _ _ _ _ _ _ _ _ _ _ _ _ _ _ _ _ _ _ _ _ _ _ _ _ _ _ _ _ _ (λ p. p.0) (λ p. p.0) (λ p. p.0) (λ p. p.0) (λ p. p.0) (λ p. p.0) (λ p. p.0) (λ p. p.0) (λ p. p.0) (λ p. p.0) (λ p. p.0) (λ p. p.0) (λ p. p.0) (λ p. p.0) (λ p. p.0) (λ p. p.0) (λ p. p.0) y

  abbrev test_of : Parts Test-F → Node Test-F
  test_of y = map-Test _ _ _ _ _ _ _ _ _ _ _ _ _ _ _ _ _ _ _ _ _ _ _ _ _ _ _ _ _ _ _ _ _ _ (λ p. p.0) (λ p. p.0) (λ p. p.0) (λ p. p.0) (λ p. p.0) (λ p. p.0) (λ p. p.0) (λ p. p.0) (λ p. p.0) (λ p. p.0) (λ p. p.0) (λ p. p.0) (λ p. p.0) (λ p. p.0) (λ p. p.0) (λ p. p.0) (λ p. p.0) y

  -- ---- expressions

  primary_stands : (y : Parts Primary-F) (sign : Option Sign) → InPlace places (primary_step (primary_meant k (primary_of y)) sign)
  primary_stands (Primary-F.Number number) sign = none (frame ∷ outer) (length key) places (λ view. signed_number sign number >>= (λ x. Ok (integer (e.Constant x)))) (λ first. constants (length key) (signed_number sign number))
  primary_stands (Primary-F.Text codes) sign =
      with_its_sign (frame ∷ outer) (length key) (length key) sign (of_none (λ view. Ok (text (e.Constant (value.Text codes))))) (λ first le. at_constant (length key) (value.Text codes))
  primary_stands (Primary-F.Column column) sign =
      with_its_sign (frame ∷ outer) (length key) (length key) sign (column_part column) (λ first le. columns-fit frame outer key is column)
  primary_stands Primary-F.CountRows sign =
      with_its_sign (frame ∷ outer) (length key) (length key) sign (aggregate_part count_rows) (λ first le. valued (length key) first le (count_rows (frame ∷ outer)))
  primary_stands (Primary-F.Aggregate function quantifier x) sign =
      with_its_sign (frame ∷ outer) (length key) (length key) sign (aggregate_part (aggregate_found function quantifier (expression_part k x.0)))
      (λ first le. valued (length key) first le (aggregate_found function quantifier (expression_part k x.0) (frame ∷ outer)))
  primary_stands (Primary-F.Parenthesized x) sign = with_its_sign (frame ∷ outer) (length key) (length key) sign (in_parentheses (expression_part k x.0)) x.1
  primary_stands (Primary-F.Subquery query) sign =
      with_its_sign (frame ∷ outer) (length key) (length key) sign (query_part scalar (query_found k query.0)) (λ first le. scalar-fits (length key) (query_found k query.0 (frame ∷ outer)))

  factor_stands : (y : Parts Factor-F) → InPlace places (factor_step (factor_meant k (factor_of y)))
  factor_stands y = y.primary.1 y.sign

  term_stands : (y : Parts Term-F) → InPlace places (term_step (term_meant k (term_of y)))
  term_stands y = chain (frame ∷ outer) (length key) (length key) product_chain (product_chain-fits (length key)) (factor_part k y.first.0) _ y.first.1 (operands (factor_part k) y.others)

  expression_stands : (y : Parts Expression-F) → InPlace places (expression_step (expression_meant k (expression_of y)))
  expression_stands y = chain (frame ∷ outer) (length key) (length key) sum_chain (sum_chain-fits (length key)) (term_part k y.first.0) _ y.first.1 (operands (term_part k) y.others)

  -- ---- conditions

  predicate_stands : (y : Parts Predicate-F) → InPlace asked (predicate_step (predicate_meant k (predicate_of y)))
  predicate_stands (Predicate-F.Nested c) = c.1
  predicate_stands (Predicate-F.Compare a operator b) =
      two (frame ∷ outer) (length key) places places asked (compared operator) (expression_part k a.0) (expression_part k b.0) (compared-fits (length key) operator) a.1 b.1
  predicate_stands (Predicate-F.Between a n low high) =
      three (frame ∷ outer) (length key) places places places asked (between n) (expression_part k a.0) (expression_part k low.0) (expression_part k high.0) (between-fits (length key) n) a.1 low.1 high.1
  predicate_stands (Predicate-F.InList a n literals) = one (frame ∷ outer) (length key) places asked (λ x. in_list n x literals) (expression_part k a.0) (λ x l h. in_list-fits (length key) n x literals l h) a.1
  predicate_stands (Predicate-F.InQuery a n query) =
      two (frame ∷ outer) (length key) places nothing asked (in_query n) (expression_part k a.0) (query_part of_one_column (query_found k query.0)) (in_queries (length key) n) a.1
      (λ first le. nothing-fits (of_one_column (query_found k query.0 (frame ∷ outer))))
  predicate_stands (Predicate-F.Like a n b) = two (frame ∷ outer) (length key) places places asked (like n) (expression_part k a.0) (expression_part k b.0) (like-fits (length key) n) a.1 b.1
  predicate_stands (Predicate-F.IsNull a n) = one (frame ∷ outer) (length key) places asked (null_test n) (expression_part k a.0) (null-fits (length key) n) a.1
  predicate_stands (Predicate-F.Exists query) = λ first le. exists-fits (length key) (query_found k query.0 (frame ∷ outer))

  test_stands : (y : Parts Test-F) → InPlace asked (test_step (test_meant k (test_of y)))
  test_stands y = one (frame ∷ outer) (length key) asked asked (λ found. found >>= (λ c. Ok (tested y.truth c))) (predicate_part k y.predicate.0) (tested-fits (length key) (tested y.truth) (at_tested (length key) y.truth)) y.predicate.1

  negation_stands : (y : Parts Negation-F) → InPlace asked (negation_step (negation_meant k (negation_of y)))
  negation_stands y =
      one (frame ∷ outer) (length key) asked asked (λ found. found >>= (λ c. Ok (negated y.is_negated c))) (test_part k y.test.0) (tested-fits (length key) (negated y.is_negated) (at_negated (length key) y.is_negated)) y.test.1

  conjunction_stands : (y : Parts Conjunction-F) → InPlace asked (conjunction_step (conjunction_meant k (conjunction_of y)))
  conjunction_stands y =
      every (frame ∷ outer) (length key) asked asked conjunction (negation_part k y.first.0 ∷ map (negation_part k) (map (λ p. p.0) y.others)) (conjunction-fits (length key)) (y.first.1, parts (InPlace asked) (negation_part k) y.others)

  condition_stands : (y : Parts Condition-F) → InPlace asked (condition_step (condition_meant k (condition_of y)))
  condition_stands y =
      every (frame ∷ outer) (length key) asked asked disjunction (conjunction_part k y.first.0 ∷ map (conjunction_part k) (map (λ p. p.0) y.others)) (disjunction-fits (length key)) (y.first.1, parts (InPlace asked) (conjunction_part k) y.others)

  -- ---- items

  items-fit : (name : Option (List ℕ)) (f : Finding TypedExpression) (all : List ℕ) → Fits places f all → Fits shown (f >>= (λ x. Ok (shown_item name x))) all
  items-fit name (Ok x) all h = h
  items-fit name (Err reasons) all h = tt

  item_stands : (y : Parts SelectItem-F) → InPlace shown (item_step (item_meant k (item_of y)))
  item_stands y =
      one (frame ∷ outer) (length key) places shown (λ found. found >>= (λ x. Ok (shown_item (item_name y.alias (expression_part k y.value.0).name) x))) (expression_part k y.value.0)
      (items-fit (item_name y.alias (expression_part k y.value.0).name)) y.value.1

  -- ---- the trees

  join_node : (x : Node Join-F) (y : Parts Join-F) → map-Join _ _ _ _ _ _ _ _ _ _ _ _ _ _ _ _ _ _ _ _ _ _ _ _ _ _ _ _ _ _ _ _ _ _ (λ p. p.0) (λ p. p.0) (λ p. p.0) (λ p. p.0) (λ p. p.0) (λ p. p.0) (λ p. p.0) (λ p. p.0) (λ p. p.0) (λ p. p.0) (λ p. p.0) (λ p. p.0) (λ p. p.0) (λ p. p.0) (λ p. p.0) (λ p. p.0) (λ p. p.0) y ≡ x → KnownJoin (roll-Join x)
  join_node x y is = tt

  operand_node : (x : Node Operand-F) (y : Parts Operand-F) → map-Operand _ _ _ _ _ _ _ _ _ _ _ _ _ _ _ _ _ _ _ _ _ _ _ _ _ _ _ _ _ _ _ _ _ _ (λ p. p.0) (λ p. p.0) (λ p. p.0) (λ p. p.0) (λ p. p.0) (λ p. p.0) (λ p. p.0) (λ p. p.0) (λ p. p.0) (λ p. p.0) (λ p. p.0) (λ p. p.0) (λ p. p.0) (λ p. p.0) (λ p. p.0) (λ p. p.0) (λ p. p.0) y ≡ x → KnownOperand (roll-Operand x)
  operand_node x y is = tt

  predicate_node : (x : Node Predicate-F) (y : Parts Predicate-F) → predicate_of y ≡ x → KnownPredicate (roll-Predicate x)
  predicate_node x y is = subst (λ (z : Node Predicate-F). KnownPredicate (roll-Predicate z)) is (rw (predicate_rolled k (predicate_of y)) (predicate_stands y))

  primary_node : (x : Node Primary-F) (y : Parts Primary-F) → primary_of y ≡ x → KnownPrimary (roll-Primary x)
  primary_node x y is = subst (λ (z : Node Primary-F). KnownPrimary (roll-Primary z)) is (λ sign. rw (ap (λ f. f sign) (primary_rolled k (primary_of y))) (primary_stands y sign))

  source_node : (x : Node TableSource-F) (y : Parts TableSource-F) → map-TableSource _ _ _ _ _ _ _ _ _ _ _ _ _ _ _ _ _ _ _ _ _ _ _ _ _ _ _ _ _ _ _ _ _ _ (λ p. p.0) (λ p. p.0) (λ p. p.0) (λ p. p.0) (λ p. p.0) (λ p. p.0) (λ p. p.0) (λ p. p.0) (λ p. p.0) (λ p. p.0) (λ p. p.0) (λ p. p.0) (λ p. p.0) (λ p. p.0) (λ p. p.0) (λ p. p.0) (λ p. p.0) y ≡ x → KnownTableSource (roll-TableSource x)
  source_node x y is = tt

  addend_node : (x : Node Addend-F) (y : Parts Addend-F) → map-Addend _ _ _ _ _ _ _ _ _ _ _ _ _ _ _ _ _ _ _ _ _ _ _ _ _ _ _ _ _ _ _ _ _ _ (λ p. p.0) (λ p. p.0) (λ p. p.0) (λ p. p.0) (λ p. p.0) (λ p. p.0) (λ p. p.0) (λ p. p.0) (λ p. p.0) (λ p. p.0) (λ p. p.0) (λ p. p.0) (λ p. p.0) (λ p. p.0) (λ p. p.0) (λ p. p.0) (λ p. p.0) y ≡ x → KnownAddend (roll-Addend x)
  addend_node x y is = tt

  condition_node : (x : Node Condition-F) (y : Parts Condition-F) → condition_of y ≡ x → KnownCondition (roll-Condition x)
  condition_node x y is = subst (λ (z : Node Condition-F). KnownCondition (roll-Condition z)) is (rw (condition_rolled k (condition_of y)) (condition_stands y))

  conjunction_node : (x : Node Conjunction-F) (y : Parts Conjunction-F) → conjunction_of y ≡ x → KnownConjunction (roll-Conjunction x)
  conjunction_node x y is = subst (λ (z : Node Conjunction-F). KnownConjunction (roll-Conjunction z)) is (rw (conjunction_rolled k (conjunction_of y)) (conjunction_stands y))

  expression_node : (x : Node Expression-F) (y : Parts Expression-F) → expression_of y ≡ x → KnownExpression (roll-Expression x)
  expression_node x y is = subst (λ (z : Node Expression-F). KnownExpression (roll-Expression z)) is (rw (expression_rolled k (expression_of y)) (expression_stands y))

  factor_node : (x : Node Factor-F) (y : Parts Factor-F) → factor_of y ≡ x → KnownFactor (roll-Factor x)
  factor_node x y is = subst (λ (z : Node Factor-F). KnownFactor (roll-Factor z)) is (rw (factor_rolled k (factor_of y)) (factor_stands y))

  negation_node : (x : Node Negation-F) (y : Parts Negation-F) → negation_of y ≡ x → KnownNegation (roll-Negation x)
  negation_node x y is = subst (λ (z : Node Negation-F). KnownNegation (roll-Negation z)) is (rw (negation_rolled k (negation_of y)) (negation_stands y))

  query_node : (x : Node Query-F) (y : Parts Query-F) → map-Query _ _ _ _ _ _ _ _ _ _ _ _ _ _ _ _ _ _ _ _ _ _ _ _ _ _ _ _ _ _ _ _ _ _ (λ p. p.0) (λ p. p.0) (λ p. p.0) (λ p. p.0) (λ p. p.0) (λ p. p.0) (λ p. p.0) (λ p. p.0) (λ p. p.0) (λ p. p.0) (λ p. p.0) (λ p. p.0) (λ p. p.0) (λ p. p.0) (λ p. p.0) (λ p. p.0) (λ p. p.0) y ≡ x → KnownQuery (roll-Query x)
  query_node x y is = tt

  select_node : (x : Node Select-F) (y : Parts Select-F) → map-Select _ _ _ _ _ _ _ _ _ _ _ _ _ _ _ _ _ _ _ _ _ _ _ _ _ _ _ _ _ _ _ _ _ _ (λ p. p.0) (λ p. p.0) (λ p. p.0) (λ p. p.0) (λ p. p.0) (λ p. p.0) (λ p. p.0) (λ p. p.0) (λ p. p.0) (λ p. p.0) (λ p. p.0) (λ p. p.0) (λ p. p.0) (λ p. p.0) (λ p. p.0) (λ p. p.0) (λ p. p.0) y ≡ x → KnownSelect (roll-Select x)
  select_node x y is = tt

  item_node : (x : Node SelectItem-F) (y : Parts SelectItem-F) → item_of y ≡ x → KnownSelectItem (roll-SelectItem x)
  item_node x y is = subst (λ (z : Node SelectItem-F). KnownSelectItem (roll-SelectItem z)) is (rw (item_rolled k (item_of y)) (item_stands y))

  reference_node : (x : Node TableReference-F) (y : Parts TableReference-F) → map-TableReference _ _ _ _ _ _ _ _ _ _ _ _ _ _ _ _ _ _ _ _ _ _ _ _ _ _ _ _ _ _ _ _ _ _ (λ p. p.0) (λ p. p.0) (λ p. p.0) (λ p. p.0) (λ p. p.0) (λ p. p.0) (λ p. p.0) (λ p. p.0) (λ p. p.0) (λ p. p.0) (λ p. p.0) (λ p. p.0) (λ p. p.0) (λ p. p.0) (λ p. p.0) (λ p. p.0) (λ p. p.0) y ≡ x → KnownTableReference (roll-TableReference x)
  reference_node x y is = tt

  term_node : (x : Node Term-F) (y : Parts Term-F) → term_of y ≡ x → KnownTerm (roll-Term x)
  term_node x y is = subst (λ (z : Node Term-F). KnownTerm (roll-Term z)) is (rw (term_rolled k (term_of y)) (term_stands y))

  test_node : (x : Node Test-F) (y : Parts Test-F) → test_of y ≡ x → KnownTest (roll-Test x)
  test_node x y is = subst (λ (z : Node Test-F). KnownTest (roll-Test z)) is (rw (test_rolled k (test_of y)) (test_stands y))

  pub expressions-stand : (t : Expression) → KnownExpression t
  expressions-stand = ind-Expression KnownJoin KnownOperand KnownPredicate KnownPrimary KnownTableSource KnownAddend KnownCondition KnownConjunction KnownExpression KnownFactor KnownNegation KnownQuery KnownSelect KnownSelectItem KnownTableReference KnownTerm KnownTest
      join_node operand_node predicate_node primary_node source_node addend_node condition_node conjunction_node expression_node factor_node negation_node query_node select_node item_node reference_node term_node test_node

  pub conditions-stand : (t : Condition) → KnownCondition t
  conditions-stand = ind-Condition KnownJoin KnownOperand KnownPredicate KnownPrimary KnownTableSource KnownAddend KnownCondition KnownConjunction KnownExpression KnownFactor KnownNegation KnownQuery KnownSelect KnownSelectItem KnownTableReference KnownTerm KnownTest
      join_node operand_node predicate_node primary_node source_node addend_node condition_node conjunction_node expression_node factor_node negation_node query_node select_node item_node reference_node term_node test_node

  pub items-stand : (t : SelectItem) → KnownSelectItem t
  items-stand = ind-SelectItem KnownJoin KnownOperand KnownPredicate KnownPrimary KnownTableSource KnownAddend KnownCondition KnownConjunction KnownExpression KnownFactor KnownNegation KnownQuery KnownSelect KnownSelectItem KnownTableReference KnownTerm KnownTest
      join_node operand_node predicate_node primary_node source_node addend_node condition_node conjunction_node expression_node factor_node negation_node query_node select_node item_node reference_node term_node test_node
