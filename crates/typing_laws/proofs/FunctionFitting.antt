-- Findings whose places are known, where they are found, and what is put together of them.
use Rattle.std.proofs.Common.{◌≡◌, refl, ap, ◌∙◌, ℕ, Bool, List, [], ◌∷◌, ◌++◌, map, Ok, Err, Option, Some, None}
use Rattle.std.specs.Prelude.{flat_map}
use Rattle.sqlval.specs.declared.value.Value.{Value}
use Rattle.sqlval.specs.declared.value.ValueType.{ValueType}
use Rattle.sqlval.specs.declared.value.ValueType.TheVariants.{Integer, Text}
use Rattle.ast.specs.declared.operator.AddOperator.{AddOperator}
use Rattle.ast.specs.declared.operator.AddOperator.TheVariants as add
use Rattle.ast.specs.declared.operator.Comparison.{Comparison}
use Rattle.ast.specs.declared.operator.Literal.{Literal}
use Rattle.ast.specs.declared.operator.MultiplyOperator.{MultiplyOperator}
use Rattle.ast.specs.declared.operator.Sign.{Sign}
use Rattle.ast.specs.declared.operator.Sign.TheVariants as sign
use Rattle.typing.specs.declared.typed.Arithmetic.{Arithmetic}
use Rattle.typing.specs.declared.typed.Condition.{Condition}
use Rattle.typing.specs.declared.typed.Expression.{Expression}
use Rattle.typing.specs.declared.typed.Expression.TheVariants as e
use Rattle.typing.specs.declared.typed.Query.{Query}
use Rattle.typing.specs.declared.scope.TypedExpression.{TypedExpression}
use Rattle.typing.specs.declared.scope.TypedQuery.{TypedQuery}
use Rattle.typing.specs.Condition.{alike, between, compared, conjunction, disjunction, in_list, like, literal_of, negated, null_test, operator_of}
use Rattle.typing.specs.Condition as condition
use Rattle.typing.specs.declared.typed.Condition.TheVariants as c
use Rattle.typing.specs.Expression.{calculation, concatenation, integer, must_be, must_concatenate, only_if_same, product_chain, product_operand, signed, sum_chain, sum_operand, sum_operator, text, text_operand}
use Rattle.typing.specs.Finding.{Finding, ◌>>=◌, also, before, each}
use Rattle.typing.specs.SetOperator.{exists, in_query, of_one_column, scalar}
use Rattle.typing_laws.specs.Placed.{all_of, places_in, places_asked}
use Rattle.typing_laws.proofs.Places.{at_between, at_calculation, at_compare, at_concatenation, at_conjuncts, at_disjuncts, at_exists, at_in_list, at_in_query, at_like, at_negated, at_negation, at_null, at_scalar}

-- what is found, if it is, has these places
abbrev pub Fits : {A : Type 0} → (A → List ℕ) → Finding A → List ℕ → Type 0
Fits of (Ok x) places = of x ≡ places
Fits of (Err reasons) places = Unit {0}

-- each of these
abbrev pub AllFit : {A : Type 0} → (A → List ℕ) → List (Finding A) → List (List ℕ) → Type 0
AllFit of [] [] = Unit {0}
AllFit of [] (places ∷ all) = ⊥
AllFit of (x ∷ xs) [] = ⊥
AllFit of (x ∷ xs) (places ∷ all) = Fits of x places × AllFit of xs all

pub goes_on : {A B : Type 0} (of : A → List ℕ) (of_next : B → List ℕ) (x : Finding A) (next : A → Finding B) (places all : List ℕ)
    → Fits of x places → ((a : A) → of a ≡ places → Fits of_next (next a) all) → Fits of_next (x >>= next) all
goes_on of of_next (Ok a) next places all h k = k a h
goes_on of of_next (Err reasons) next places all h k = tt

pub before-fits : {A : Type 0} (of : A → List ℕ) (x : Finding A) (xs : Finding (List A)) (places all : List ℕ) → Fits of x places → Fits (flat_map of) xs all → Fits (flat_map of) (before x xs) (places ++ all)
before-fits of (Ok a) (Ok more) places all h k = ap (λ l. l ++ flat_map of more) h ∙ ap (λ l. places ++ l) k
before-fits of (Ok a) (Err reasons) places all h k = tt
before-fits of (Err reasons) xs places all h k = tt

-- what is made of each of them
pub each-fits : {A B : Type 0} (of : A → List ℕ) (of_made : B → List ℕ) {O : Type 0} (made : O × Finding A → Finding B)
    → ((o : O) (x : Finding A) (places : List ℕ) → Fits of x places → Fits of_made (made (o, x)) places)
    → (others : List (O × Finding A)) (all : List (List ℕ)) → AllFit of (map (λ other. other.1) others) all → Fits (flat_map of_made) (each (map made others)) (all_of all)
each-fits of of_made made good [] [] h = refl
each-fits of of_made made good [] (places ∷ all) h = absurd h
each-fits of of_made made good (other ∷ others) [] h = absurd h
each-fits of of_made made good (other ∷ others) (places ∷ all) h =
    before-fits of_made (made other) (each (map made others)) places (all_of all) (good other.0 other.1 places h.0) (each-fits of of_made made good others all h.1)

module _ (key : ℕ) where
  abbrev pub typed_places : TypedExpression → List ℕ
  typed_places x = places_in key x.expression

  -- ---- expressions

  typed : (wanted of : ValueType) (x : Expression) (places : List ℕ) → places_in key x ≡ places → Fits (places_in key) (only_if_same wanted of x) places
  typed Integer Integer x places h = h
  typed Integer Text x places h = tt
  typed Text Integer x places h = tt
  typed Text Text x places h = h

  pub must : (wanted : ValueType) (x : TypedExpression) (places : List ℕ) → typed_places x ≡ places → Fits (places_in key) (must_be wanted x) places
  must wanted x places h = typed wanted x.value_type x.expression places h

  pub asked : (wanted : ValueType) (x : Finding TypedExpression) (places : List ℕ) → Fits typed_places x places → Fits (places_in key) (x >>= must_be wanted) places
  asked wanted x places h = goes_on typed_places (places_in key) x (must_be wanted) places places h (λ a k. must wanted a places k)

  signed-fits : (s : Option Sign) (x : TypedExpression) (places : List ℕ) → typed_places x ≡ places → Fits typed_places (signed s x) places
  signed-fits None x places h = h
  signed-fits (Some sign.Plus) x places h = goes_on (places_in key) typed_places (must_be Integer x) (λ operand. Ok (integer operand)) places places (must Integer x places h) (λ a k. k)
  signed-fits (Some sign.Minus) x places h =
      goes_on (places_in key) typed_places (must_be Integer x) (λ operand. Ok (integer (e.Negation operand))) places places (must Integer x places h) (λ a k. at_negation key a ∙ k)

  pub sign-fits : (s : Sign) (x : Finding TypedExpression) (places : List ℕ) → Fits typed_places x places → Fits typed_places (x >>= signed (Some s)) places
  sign-fits s x places h = goes_on typed_places typed_places x (signed (Some s)) places places h (λ a k. signed-fits (Some s) a places k)

  abbrev operand_places : Arithmetic × Expression → List ℕ
  operand_places operand = places_in key operand.1

  operands : (others : List (Arithmetic × Expression)) → flat_map (λ other. other.1) (map {B = Arithmetic × List ℕ} (λ other. (other.0, places_in key other.1)) others) ≡ flat_map operand_places others
  operands [] = refl
  operands (other ∷ others) = ap (λ l. places_in key other.1 ++ l) (operands others)

  calculation-fits : (first : Finding TypedExpression) (others : Finding (List (Arithmetic × Expression))) (places all : List ℕ)
      → Fits typed_places first places → Fits (flat_map operand_places) others all → Fits typed_places (calculation first others) (places ++ all)
  calculation-fits first others places all h k = both (first >>= must_be Integer) others (asked Integer first places h) k
    where
      both : (x : Finding Expression) (xs : Finding (List (Arithmetic × Expression))) → Fits (places_in key) x places → Fits (flat_map operand_places) xs all
          → Fits typed_places (also x xs >>= (λ p. Ok (integer (e.Calculation p.0 p.1)))) (places ++ all)
      both (Ok a) (Ok more) h k = at_calculation key a more ∙ ap (λ l. places_in key a ++ l) (operands more) ∙ ap (λ l. l ++ flat_map operand_places more) h ∙ ap (λ l. places ++ l) k
      both (Ok a) (Err reasons) h k = tt
      both (Err reasons) xs h k = tt

  texts : (others : List Expression) → all_of (map (places_in key) others) ≡ flat_map (places_in key) others
  texts [] = refl
  texts (other ∷ others) = ap (λ l. places_in key other ++ l) (texts others)

  concatenation-fits : (first : Finding TypedExpression) (others : Finding (List Expression)) (places all : List ℕ)
      → Fits typed_places first places → Fits (flat_map (places_in key)) others all → Fits typed_places (concatenation first others) (places ++ all)
  concatenation-fits first others places all h k = both (first >>= must_be Text) others (asked Text first places h) k
    where
      both : (x : Finding Expression) (xs : Finding (List Expression)) → Fits (places_in key) x places → Fits (flat_map (places_in key)) xs all
          → Fits typed_places (also x xs >>= (λ p. Ok (text (e.Concatenation p.0 p.1)))) (places ++ all)
      both (Ok a) (Ok more) h k = at_concatenation key a more ∙ ap (λ l. places_in key a ++ l) (texts more) ∙ ap (λ l. l ++ flat_map (places_in key) more) h ∙ ap (λ l. places ++ l) k
      both (Ok a) (Err reasons) h k = tt
      both (Err reasons) xs h k = tt

  second : {O : Type 0} (o : Finding O) (x : Finding Expression) (places : List ℕ) → Fits (places_in key) x places → Fits (λ (p : O × Expression). places_in key p.1) (also o x) places
  second (Ok o) (Ok x) places h = h
  second (Ok o) (Err reasons) places h = tt
  second (Err reasons) x places h = tt

  sum_operand-fits : (o : AddOperator) (x : Finding TypedExpression) (places : List ℕ) → Fits typed_places x places → Fits operand_places (sum_operand (o, x)) places
  sum_operand-fits o x places h = second (sum_operator o) (x >>= must_be Integer) places (asked Integer x places h)

  text_operand-fits : (o : AddOperator) (x : Finding TypedExpression) (places : List ℕ) → Fits typed_places x places → Fits (places_in key) (text_operand (o, x)) places
  text_operand-fits o x places h =
      goes_on (λ (p : AddOperator × Expression). places_in key p.1) (places_in key) (also (must_concatenate o) (x >>= must_be Text)) (λ p. Ok p.1) places places
      (second (must_concatenate o) (x >>= must_be Text) places (asked Text x places h)) (λ p k. k)

  product_operand-fits : (o : MultiplyOperator) (x : Finding TypedExpression) (places : List ℕ) → Fits typed_places x places → Fits operand_places (product_operand (o, x)) places
  product_operand-fits o x places h = goes_on (places_in key) operand_places (x >>= must_be Integer) _ places places (asked Integer x places h) (λ a k. k)

  abbrev pub ChainFits : {O : Type 0} → (Finding TypedExpression → List (O × Finding TypedExpression) → Finding TypedExpression) → Type 0
  ChainFits {O} made =
      (first : Finding TypedExpression) (o : O) (x : Finding TypedExpression) (others : List (O × Finding TypedExpression)) (places : List ℕ) (all : List (List ℕ))
      → Fits typed_places first places → AllFit typed_places (map (λ other. other.1) ((o, x) ∷ others)) all → Fits typed_places (made first ((o, x) ∷ others)) (places ++ all_of all)

  pub sum_chain-fits : ChainFits sum_chain
  sum_chain-fits first add.Concatenate x others places all h k =
      concatenation-fits first (each (map text_operand ((add.Concatenate, x) ∷ others))) places (all_of all) h (each-fits typed_places (places_in key) text_operand text_operand-fits ((add.Concatenate, x) ∷ others) all k)
  sum_chain-fits first add.Plus x others places all h k =
      calculation-fits first (each (map sum_operand ((add.Plus, x) ∷ others))) places (all_of all) h (each-fits typed_places operand_places sum_operand sum_operand-fits ((add.Plus, x) ∷ others) all k)
  sum_chain-fits first add.Minus x others places all h k =
      calculation-fits first (each (map sum_operand ((add.Minus, x) ∷ others))) places (all_of all) h (each-fits typed_places operand_places sum_operand sum_operand-fits ((add.Minus, x) ∷ others) all k)

  pub product_chain-fits : ChainFits product_chain
  product_chain-fits first o x others places all h k =
      calculation-fits first (each (map product_operand ((o, x) ∷ others))) places (all_of all) h (each-fits typed_places operand_places product_operand product_operand-fits ((o, x) ∷ others) all k)

  -- ---- conditions

  abbrev pair_places : Expression × Expression → List ℕ
  pair_places p = places_in key p.0 ++ places_in key p.1

  alike-fits : (x y : Finding TypedExpression) (places all : List ℕ) → Fits typed_places x places → Fits typed_places y all → Fits pair_places (alike x y) (places ++ all)
  alike-fits (Ok x) (Ok y) places all h k =
      goes_on (places_in key) pair_places (must_be x.value_type y) (λ second. Ok (x.expression, second)) all (places ++ all) (must x.value_type y all k) (λ s m. ap (λ l. l ++ places_in key s) h ∙ ap (λ l. places ++ l) m)
  alike-fits (Ok x) (Err reasons) places all h k = tt
  alike-fits (Err reasons) y places all h k = tt

  pub compared-fits : (op : Comparison) (x y : Finding TypedExpression) (places all : List ℕ) → Fits typed_places x places → Fits typed_places y all → Fits (places_asked key) (compared op x y) (places ++ all)
  compared-fits op x y places all h k =
      goes_on pair_places (places_asked key) (alike x y) (λ p. Ok (c.Compare (operator_of op) p.0 p.1)) (places ++ all) (places ++ all) (alike-fits x y places all h k) (λ p m. at_compare key (operator_of op) p.0 p.1 ∙ m)

  bounds : (n : Bool) (x : Expression) (low high : Finding Expression) (places lower upper : List ℕ) → places_in key x ≡ places → Fits (places_in key) low lower → Fits (places_in key) high upper
      → Fits (places_asked key) (also {A = Expression × Expression} {B = Expression × Expression} (low >>= (λ second. Ok (x, second))) (high >>= (λ second. Ok (x, second))) >>= (λ p. Ok (negated n (c.Between (p.0).0 (p.0).1 (p.1).1)))) (places ++ lower ++ upper)
  bounds n x (Ok low) (Ok high) places lower upper h k m =
      at_negated key n (c.Between x low high) ∙ at_between key x low high
      ∙ ap (λ l. l ++ places_in key low ++ places_in key high) h ∙ ap (λ l. places ++ l ++ places_in key high) k ∙ ap (λ l. places ++ lower ++ l) m
  bounds n x (Ok low) (Err reasons) places lower upper h k m = tt
  bounds n x (Err reasons) (Ok high) places lower upper h k m = tt
  bounds n x (Err reasons) (Err others) places lower upper h k m = tt

  pub between-fits : (n : Bool) (x low high : Finding TypedExpression) (places lower upper : List ℕ) → Fits typed_places x places → Fits typed_places low lower → Fits typed_places high upper
      → Fits (places_asked key) (between n x low high) (places ++ lower ++ upper)
  between-fits n (Ok x) (Ok low) (Ok high) places lower upper h k m = bounds n x.expression (must_be x.value_type low) (must_be x.value_type high) places lower upper h (must x.value_type low lower k) (must x.value_type high upper m)
  between-fits n (Ok x) (Ok low) (Err reasons) places lower upper h k m = bounds n x.expression (must_be x.value_type low) (Err reasons) places lower upper h (must x.value_type low lower k) tt
  between-fits n (Ok x) (Err reasons) high places lower upper h k m = tt
  between-fits n (Err reasons) low high places lower upper h k m = tt

  pub in_list-fits : (n : Bool) (x : Finding TypedExpression) (literals : List Literal) (places : List ℕ) → Fits typed_places x places → Fits (places_asked key) (in_list n x literals) places
  in_list-fits n (Ok x) literals places h = of (each (map (literal_of x.value_type) literals))
    where
      of : (values : Finding (List Value)) → Fits (places_asked key) (values >>= (λ values. Ok (negated n (c.InList x.expression values)))) places
      of (Ok values) = at_negated key n (c.InList x.expression values) ∙ at_in_list key x.expression values ∙ h
      of (Err reasons) = tt
  in_list-fits n (Err reasons) literals places h = tt

  pub like-fits : (n : Bool) (x y : Finding TypedExpression) (places all : List ℕ) → Fits typed_places x places → Fits typed_places y all → Fits (places_asked key) (like n x y) (places ++ all)
  like-fits n x y places all h k = both (x >>= must_be Text) (y >>= must_be Text) (asked Text x places h) (asked Text y all k)
    where
      both : (a b : Finding Expression) → Fits (places_in key) a places → Fits (places_in key) b all → Fits (places_asked key) (also a b >>= (λ p. Ok (negated n (c.Like p.0 p.1)))) (places ++ all)
      both (Ok a) (Ok b) h k = at_negated key n (c.Like a b) ∙ at_like key a b ∙ ap (λ l. l ++ places_in key b) h ∙ ap (λ l. places ++ l) k
      both (Ok a) (Err reasons) h k = tt
      both (Err reasons) b h k = tt

  pub null-fits : (n : Bool) (x : Finding TypedExpression) (places : List ℕ) → Fits typed_places x places → Fits (places_asked key) (null_test n x) places
  null-fits n (Ok x) places h = at_negated key n (c.IsNull x.expression) ∙ at_null key x.expression ∙ h
  null-fits n (Err reasons) places h = tt

  -- queries inside have none
  pub in_query-fits : (n : Bool) (x : Finding TypedExpression) (found : Finding (Query × ValueType)) (places : List ℕ) → Fits typed_places x places → Fits (places_asked key) (in_query n x found) places
  in_query-fits n (Ok x) (Ok q) places h =
      goes_on (places_in key) (places_asked key) (must_be q.1 x) (λ operand. Ok (negated n (c.InQuery operand q.0))) places places (must q.1 x places h) (λ a k. at_negated key n (c.InQuery a q.0) ∙ at_in_query key a q.0 ∙ k)
  in_query-fits n (Ok x) (Err reasons) places h = tt
  in_query-fits n (Err reasons) found places h = tt

  pub exists-fits : (found : Finding TypedQuery) → Fits (places_asked key) (exists found) []
  exists-fits (Ok q) = at_exists key q.query
  exists-fits (Err reasons) = tt

  one_column : (found : Finding (Query × ValueType)) → Fits typed_places (found >>= (λ q. Ok (record { expression = e.Scalar q.0; value_type = q.1 }))) []
  one_column (Ok q) = at_scalar key q.0
  one_column (Err reasons) = tt

  pub scalar-fits : (found : Finding TypedQuery) → Fits typed_places (scalar found) []
  scalar-fits found = one_column (of_one_column found)

  pub conjunction-fits : (found : List (Finding Condition)) (all : List ℕ) → Fits (flat_map (places_asked key)) (each found) all → Fits (places_asked key) (conjunction found) all
  conjunction-fits found all h =
      goes_on (flat_map (places_asked key)) (places_asked key) (each found) (λ xs. Ok (condition.and_of (flat_map condition.conjuncts xs))) all all h (λ xs k. at_conjuncts key xs ∙ k)

  pub disjunction-fits : (found : List (Finding Condition)) (all : List ℕ) → Fits (flat_map (places_asked key)) (each found) all → Fits (places_asked key) (disjunction found) all
  disjunction-fits found all h =
      goes_on (flat_map (places_asked key)) (places_asked key) (each found) (λ xs. Ok (condition.or_of (flat_map condition.disjuncts xs))) all all h (λ xs k. at_disjuncts key xs ∙ k)
