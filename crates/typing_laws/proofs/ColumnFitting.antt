-- What is found of expressions and conditions is well typed, where what is found of their parts is.
use Rattle.std.proofs.Common.{◌≡◌, refl, sym, subst, ℕ, ℤ, Bool, true, false, List, [], ◌∷◌, map, Ok, Err, Option, Some, None, IfOk, rules, pos}
use Rattle.std.specs.Prelude.{◌-ℤ◌, flat_map, if◌then◌else◌}
use Rattle.std.specs.List.{AllByRecursion}
use Rattle.sqlval.specs.declared.comparison.CompOp.{CompOp}
use Rattle.sqlval.specs.declared.truth.Truth.{Truth}
use Rattle.sqlval.specs.declared.code.Code.TheVariants.{OutOfRange}
use Rattle.sqlval.specs.declared.value.Value.{Value}
use Rattle.sqlval.specs.declared.value.Value.TheVariants.{Int}
use Rattle.sqlval.specs.declared.value.ValueType.{ValueType}
use Rattle.sqlval.specs.declared.value.ValueType.TheVariants.{Integer, Text}
use Rattle.sqlval.specs.Arithmetic.{fits}
use Rattle.sqlval.specs.Value.{type_of}
use Rattle.ast.specs.declared.operator.AddOperator.{AddOperator}
use Rattle.ast.specs.declared.operator.AddOperator.TheVariants as add
use Rattle.ast.specs.declared.operator.Comparison.{Comparison}
use Rattle.ast.specs.declared.operator.Literal.{Literal}
use Rattle.ast.specs.declared.operator.Literal.TheVariants as literal
use Rattle.ast.specs.declared.operator.MultiplyOperator.{MultiplyOperator}
use Rattle.ast.specs.declared.operator.Sign.{Sign}
use Rattle.ast.specs.declared.operator.Sign.TheVariants as sign
use Rattle.ast.specs.declared.operator.TruthTest.{TruthTest}
use Rattle.typing.specs.declared.typed.Arithmetic.{Arithmetic}
use Rattle.typing.specs.declared.typed.Condition.{Condition, Condition-F, out-Condition}
use Rattle.typing.specs.declared.typed.Condition.TheVariants as c
use Rattle.typing.specs.declared.typed.Expression.{Expression, the_lemmas}
use Rattle.typing.specs.declared.typed.Expression.TheVariants as e
use Rattle.typing.specs.declared.typed.Query.{Query}
use Rattle.typing.specs.declared.scope.ResultColumn.{ResultColumn}
use Rattle.typing.specs.declared.scope.TypedExpression.{TypedExpression}
use Rattle.typing.specs.declared.scope.TypedQuery.{TypedQuery}
use Rattle.typing.specs.Condition.{ConditionLayer, and_of, between, compared, conjunction, conjuncts, conjuncts_at, disjunction, disjuncts, disjuncts_at, in_list, like, literal_of, negated, null_test, operator_of, or_of, tested, truth_asked}
use Rattle.typing.specs.Expression.{as_number, calculation, concatenation, integer, must_be, must_concatenate, only_if_same, product_chain, product_operand, product_operator, signed, signed_number, sum_chain, sum_operand, sum_operator, text, text_operand}
use Rattle.typing.specs.Finding.{Finding, ◌>>=◌, also, each}
use Rattle.typing.specs.Known.{Known}
use Rattle.typing.specs.SetOperator.{exists, in_query, of_one_column, only_column, scalar, types_of}
use Rattle.typing_laws.specs.WellTyped.{HasResult, HasType, IsWellTyped, Rows}
use Rattle.typing_laws.specs.WellTyped as typed
use Rattle.typing_laws.proofs.Columns.{Gives}
use Rattle.typing_laws.proofs.ColumnFindings.{all, beside, contained, each_contained, flattened, goes_on, mapped, mapped_any, second, weaker}

-- ---- numbers

abbrev pub IsOfType : ValueType → Value → Type 0
IsOfType type value = type_of value ≡ Some type

number : (b : Bool) (z : ℤ) → IfOk (as_number (if b then Ok (Int z) else Err OutOfRange)) (IsOfType Integer)
number true z = refl
number false z = tt

pub signed_number-typed : (s : Option Sign) (n : ℕ) → IfOk (signed_number s n) (IsOfType Integer)
signed_number-typed None n = refl
signed_number-typed (Some sign.Plus) n = refl
signed_number-typed (Some sign.Minus) n = number (fits (pos 0 -ℤ pos n)) (pos 0 -ℤ pos n)

literal_of-typed : (wanted : ValueType) (l : Literal) → IfOk (literal_of wanted l) (IsOfType wanted)
literal_of-typed Integer (literal.Number s n) = signed_number-typed s n
literal_of-typed Integer (literal.Text codes) = tt
literal_of-typed Text (literal.Number s n) = tt
literal_of-typed Text (literal.Text codes) = refl

-- ---- the operands of AND inside an AND, and of OR inside an OR

opened_or : (operands : List Condition) → out-Condition (c.Or operands) ≡ Condition-F.Or operands
opened_or operands = search (rules, the_lemmas)

opened_and : (operands : List Condition) → out-Condition (c.And operands) ≡ Condition-F.And operands
opened_and operands = search (rules, the_lemmas)

opened_not : (x : Condition) → out-Condition (c.Not x) ≡ Condition-F.Not x
opened_not x = search (rules, the_lemmas)

opened_truth : (x : Condition) (truth : Truth) → out-Condition (c.IsTruth x truth) ≡ Condition-F.IsTruth x truth
opened_truth x truth = search (rules, the_lemmas)

opened_compare : (op : CompOp) (x y : Expression) → out-Condition (c.Compare op x y) ≡ Condition-F.Compare op x y
opened_compare op x y = search (rules, the_lemmas)

opened_between : (x low high : Expression) → out-Condition (c.Between x low high) ≡ Condition-F.Between x low high
opened_between x low high = search (rules, the_lemmas)

opened_list : (x : Expression) (values : List Value) → out-Condition (c.InList x values) ≡ Condition-F.InList x values
opened_list x values = search (rules, the_lemmas)

opened_query : (x : Expression) (q : Query) → out-Condition (c.InQuery x q) ≡ Condition-F.InQuery x q
opened_query x q = search (rules, the_lemmas)

opened_like : (x y : Expression) → out-Condition (c.Like x y) ≡ Condition-F.Like x y
opened_like x y = search (rules, the_lemmas)

opened_null : (x : Expression) → out-Condition (c.IsNull x) ≡ Condition-F.IsNull x
opened_null x = search (rules, the_lemmas)

opened_exists : (q : Query) → out-Condition (c.Exists q) ≡ Condition-F.Exists q
opened_exists q = search (rules, the_lemmas)

abbrev pub AreWellTyped : Known → Rows → List Condition → Type 0
AreWellTyped known rows cs = AllByRecursion (IsWellTyped known rows) cs

-- what a condition of this layer is taken apart to
conjoined : (known : Known) (rows : Rows) (x : Condition) (d : ConditionLayer) → out-Condition x ≡ d → AreWellTyped known rows (conjuncts_at d x) → AreWellTyped known rows (conjuncts x)
conjoined known rows x d is h = subst (λ l. AreWellTyped known rows (conjuncts_at l x)) (sym is) h

disjoined : (known : Known) (rows : Rows) (x : Condition) (d : ConditionLayer) → out-Condition x ≡ d → AreWellTyped known rows (disjuncts_at d x) → AreWellTyped known rows (disjuncts x)
disjoined known rows x d is h = subst (λ l. AreWellTyped known rows (disjuncts_at l x)) (sym is) h

conjuncts-typed : (known : Known) (rows : Rows) (x : Condition) → IsWellTyped known rows x → AreWellTyped known rows (conjuncts x)
conjuncts-typed known rows x (typed.or operands h) = conjoined known rows _ _ (opened_or operands) (typed.or operands h, tt)
conjuncts-typed known rows x (typed.and operands h) = conjoined known rows _ _ (opened_and operands) (each_contained (IsWellTyped known rows) operands h)
conjuncts-typed known rows x (typed.not {c = y} h) = conjoined known rows _ _ (opened_not y) (typed.not h, tt)
conjuncts-typed known rows x (typed.is_truth {c = y} truth h) = conjoined known rows _ _ (opened_truth y truth) (typed.is_truth truth h, tt)
conjuncts-typed known rows x (typed.compare {x = a} {y = b} op h k) = conjoined known rows _ _ (opened_compare op a b) (typed.compare op h k, tt)
conjuncts-typed known rows x (typed.between {x = a} {low = low} {high = high} h k l) = conjoined known rows _ _ (opened_between a low high) (typed.between h k l, tt)
conjuncts-typed known rows x (typed.in_list {x = a} values h k) = conjoined known rows _ _ (opened_list a values) (typed.in_list values h k, tt)
conjuncts-typed known rows x (typed.in_query {x = a} {q = q} h k) = conjoined known rows _ _ (opened_query a q) (typed.in_query h k, tt)
conjuncts-typed known rows x (typed.like {x = a} {pattern = b} h k) = conjoined known rows _ _ (opened_like a b) (typed.like h k, tt)
conjuncts-typed known rows x (typed.is_null {x = a} h) = conjoined known rows _ _ (opened_null a) (typed.is_null h, tt)
conjuncts-typed known rows x (typed.exists {q = q} h) = conjoined known rows _ _ (opened_exists q) (typed.exists h, tt)

disjuncts-typed : (known : Known) (rows : Rows) (x : Condition) → IsWellTyped known rows x → AreWellTyped known rows (disjuncts x)
disjuncts-typed known rows x (typed.or operands h) = disjoined known rows _ _ (opened_or operands) (each_contained (IsWellTyped known rows) operands h)
disjuncts-typed known rows x (typed.and operands h) = disjoined known rows _ _ (opened_and operands) (typed.and operands h, tt)
disjuncts-typed known rows x (typed.not {c = y} h) = disjoined known rows _ _ (opened_not y) (typed.not h, tt)
disjuncts-typed known rows x (typed.is_truth {c = y} truth h) = disjoined known rows _ _ (opened_truth y truth) (typed.is_truth truth h, tt)
disjuncts-typed known rows x (typed.compare {x = a} {y = b} op h k) = disjoined known rows _ _ (opened_compare op a b) (typed.compare op h k, tt)
disjuncts-typed known rows x (typed.between {x = a} {low = low} {high = high} h k l) = disjoined known rows _ _ (opened_between a low high) (typed.between h k l, tt)
disjuncts-typed known rows x (typed.in_list {x = a} values h k) = disjoined known rows _ _ (opened_list a values) (typed.in_list values h k, tt)
disjuncts-typed known rows x (typed.in_query {x = a} {q = q} h k) = disjoined known rows _ _ (opened_query a q) (typed.in_query h k, tt)
disjuncts-typed known rows x (typed.like {x = a} {pattern = b} h k) = disjoined known rows _ _ (opened_like a b) (typed.like h k, tt)
disjuncts-typed known rows x (typed.is_null {x = a} h) = disjoined known rows _ _ (opened_null a) (typed.is_null h, tt)
disjuncts-typed known rows x (typed.exists {q = q} h) = disjoined known rows _ _ (opened_exists q) (typed.exists h, tt)

module _ (known : Known) (rows : Rows) where
  abbrev Is : TypedExpression → Type 0
  Is x = Gives known rows x

  abbrev Of : ValueType → Expression → Type 0
  Of type x = HasType known rows x type

  abbrev Asks : Condition → Type 0
  Asks x = IsWellTyped known rows x

  -- ---- expressions

  same : (wanted of : ValueType) (x : Expression) → HasType known rows x of → IfOk (only_if_same wanted of x) (Of wanted)
  same Integer Integer x h = h
  same Integer Text x h = tt
  same Text Integer x h = tt
  same Text Text x h = h

  pub must : (wanted : ValueType) (x : TypedExpression) → Gives known rows x → IfOk (must_be wanted x) (Of wanted)
  must wanted x h = same wanted x.value_type x.expression h

  asked : (wanted : ValueType) (x : Finding TypedExpression) → IfOk x Is → IfOk (x >>= must_be wanted) (Of wanted)
  asked wanted x h = goes_on Is (Of wanted) x (must_be wanted) h (must wanted)

  signed-typed : (s : Option Sign) (x : TypedExpression) → Gives known rows x → IfOk (signed s x) Is
  signed-typed None x h = h
  signed-typed (Some sign.Plus) x h = goes_on (Of Integer) Is (must_be Integer x) (λ operand. Ok (integer operand)) (must Integer x h) (λ a k. k)
  signed-typed (Some sign.Minus) x h = goes_on (Of Integer) Is (must_be Integer x) (λ operand. Ok (integer (e.Negation operand))) (must Integer x h) (λ a k. typed.negation k)

  pub sign-typed : (s : Sign) (x : Finding TypedExpression) → IfOk x Is → IfOk (x >>= signed (Some s)) Is
  sign-typed s x h = goes_on Is Is x (signed (Some s)) h (signed-typed (Some s))

  pub number-typed : (s : Option Sign) (n : ℕ) → IfOk (signed_number s n >>= (λ x. Ok (integer (e.Constant x)))) Is
  number-typed s n = goes_on (IsOfType Integer) Is (signed_number s n) (λ x. Ok (integer (e.Constant x))) (signed_number-typed s n) (λ x k. typed.constant x k)

  abbrev IsOperand : Arithmetic × Expression → Type 0
  IsOperand operand = HasType known rows operand.1 Integer

  calculation-typed : (first : Finding TypedExpression) (others : Finding (List (Arithmetic × Expression))) → IfOk first Is → IfOk others (AllByRecursion IsOperand) → IfOk (calculation first others) Is
  calculation-typed first others h k =
      goes_on (λ (p : Expression × List (Arithmetic × Expression)). Of Integer p.0 × AllByRecursion IsOperand p.1) Is (also (first >>= must_be Integer) others) (λ p. Ok (integer (e.Calculation p.0 p.1)))
      (beside (Of Integer) (AllByRecursion IsOperand) (first >>= must_be Integer) others (asked Integer first h) k) (λ p m. typed.calculation p.1 m.0 (contained IsOperand p.1 m.1))

  concatenation-typed : (first : Finding TypedExpression) (others : Finding (List Expression)) → IfOk first Is → IfOk others (AllByRecursion (Of Text)) → IfOk (concatenation first others) Is
  concatenation-typed first others h k =
      goes_on (λ (p : Expression × List Expression). Of Text p.0 × AllByRecursion (Of Text) p.1) Is (also (first >>= must_be Text) others) (λ p. Ok (text (e.Concatenation p.0 p.1)))
      (beside (Of Text) (AllByRecursion (Of Text)) (first >>= must_be Text) others (asked Text first h) k) (λ p m. typed.concatenation p.1 m.0 (contained (Of Text) p.1 m.1))

  abbrev pub IsOperandFound : {O : Type 0} → O × Finding TypedExpression → Type 0
  IsOperandFound operand = IfOk operand.1 (Gives known rows)

  sum_operand-typed : (o : AddOperator × Finding TypedExpression) → IsOperandFound o → IfOk (sum_operand o) IsOperand
  sum_operand-typed (o, x) h = second (Of Integer) (sum_operator o) (x >>= must_be Integer) (asked Integer x h)

  product_operand-typed : (o : MultiplyOperator × Finding TypedExpression) → IsOperandFound o → IfOk (product_operand o) IsOperand
  product_operand-typed (o, x) h = goes_on (Of Integer) IsOperand (x >>= must_be Integer) (λ a. Ok (product_operator o, a)) (asked Integer x h) (λ a k. k)

  text_operand-typed : (o : AddOperator × Finding TypedExpression) → IsOperandFound o → IfOk (text_operand o) (Of Text)
  text_operand-typed (o, x) h =
      goes_on (λ (p : AddOperator × Expression). Of Text p.1) (Of Text) (also (must_concatenate o) (x >>= must_be Text)) (λ p. Ok p.1) (second (Of Text) (must_concatenate o) (x >>= must_be Text) (asked Text x h)) (λ p k. k)

  pub sum_chain-typed : (first : Finding TypedExpression) (others : List (AddOperator × Finding TypedExpression)) → IfOk first Is → AllByRecursion IsOperandFound others → IfOk (sum_chain first others) Is
  sum_chain-typed first [] h k = h
  sum_chain-typed first ((add.Plus, x) ∷ others) h k = calculation-typed first _ h (mapped IsOperandFound IsOperand sum_operand sum_operand-typed ((add.Plus, x) ∷ others) k)
  sum_chain-typed first ((add.Minus, x) ∷ others) h k = calculation-typed first _ h (mapped IsOperandFound IsOperand sum_operand sum_operand-typed ((add.Minus, x) ∷ others) k)
  sum_chain-typed first ((add.Concatenate, x) ∷ others) h k = concatenation-typed first _ h (mapped IsOperandFound (Of Text) text_operand text_operand-typed ((add.Concatenate, x) ∷ others) k)

  pub product_chain-typed : (first : Finding TypedExpression) (others : List (MultiplyOperator × Finding TypedExpression)) → IfOk first Is → AllByRecursion IsOperandFound others → IfOk (product_chain first others) Is
  product_chain-typed first [] h k = h
  product_chain-typed first (other ∷ others) h k = calculation-typed first _ h (mapped IsOperandFound IsOperand product_operand product_operand-typed (other ∷ others) k)

  -- ---- conditions

  pub negated-typed : (n : Bool) (x : Condition) → IsWellTyped known rows x → IsWellTyped known rows (negated n x)
  negated-typed true x h = typed.not h
  negated-typed false x h = h

  pub tested-typed : (test : Option TruthTest) (x : Condition) → IsWellTyped known rows x → IsWellTyped known rows (tested test x)
  tested-typed None x h = h
  tested-typed (Some test) x h = negated-typed test.is_negated _ (typed.is_truth (truth_asked test.value) h)

  pair-typed : (op : Comparison) (x : TypedExpression) (y : Finding Expression) → Gives known rows x → IfOk y (Of x.value_type)
      → IfOk (y >>= (λ second. Ok (x.expression, second)) >>= (λ (p : Expression × Expression). Ok (c.Compare (operator_of op) p.0 p.1))) Asks
  pair-typed op x (Ok y) h k = typed.compare (operator_of op) h k
  pair-typed op x (Err reasons) h k = tt

  pub compared-typed : (op : Comparison) (x y : Finding TypedExpression) → IfOk x Is → IfOk y Is → IfOk (compared op x y) Asks
  compared-typed op (Ok x) (Ok y) h k = pair-typed op x (must_be x.value_type y) h (must x.value_type y k)
  compared-typed op (Ok x) (Err reasons) h k = tt
  compared-typed op (Err reasons) y h k = tt

  bounds : (n : Bool) (type : ValueType) (x : Expression) (low high : Finding Expression) → HasType known rows x type → IfOk low (Of type) → IfOk high (Of type)
      → IfOk (also {A = Expression × Expression} {B = Expression × Expression} (low >>= (λ second. Ok (x, second))) (high >>= (λ second. Ok (x, second))) >>= (λ p. Ok (negated n (c.Between (p.0).0 (p.0).1 (p.1).1)))) Asks
  bounds n type x (Ok low) (Ok high) h k m = negated-typed n _ (typed.between h k m)
  bounds n type x (Ok low) (Err reasons) h k m = tt
  bounds n type x (Err reasons) high h k m = tt

  pub between-typed : (n : Bool) (x low high : Finding TypedExpression) → IfOk x Is → IfOk low Is → IfOk high Is → IfOk (between n x low high) Asks
  between-typed n (Ok x) (Ok low) (Ok high) h k m = bounds n x.value_type x.expression (must_be x.value_type low) (must_be x.value_type high) h (must x.value_type low k) (must x.value_type high m)
  between-typed n (Ok x) (Ok low) (Err reasons) h k m = bounds n x.value_type x.expression (must_be x.value_type low) (Err reasons) h (must x.value_type low k) tt
  between-typed n (Ok x) (Err reasons) high h k m = tt
  between-typed n (Err reasons) low high h k m = tt

  pub in_list-typed : (n : Bool) (x : Finding TypedExpression) (literals : List Literal) → IfOk x Is → IfOk (in_list n x literals) Asks
  in_list-typed n x literals h = goes_on Is Asks x (λ a. each (map (literal_of a.value_type) literals) >>= (λ values. Ok (negated n (c.InList a.expression values)))) h of
    where
      of : (a : TypedExpression) → Gives known rows a → IfOk (each (map (literal_of a.value_type) literals) >>= (λ values. Ok (negated n (c.InList a.expression values)))) Asks
      of a k =
          goes_on (AllByRecursion (IsOfType a.value_type)) Asks (each (map (literal_of a.value_type) literals)) (λ values. Ok (negated n (c.InList a.expression values)))
          (mapped_any (IsOfType a.value_type) (literal_of a.value_type) (literal_of-typed a.value_type) literals)
          (λ values m. negated-typed n _ (typed.in_list values k (contained (IsOfType a.value_type) values m)))

  pub like-typed : (n : Bool) (x y : Finding TypedExpression) → IfOk x Is → IfOk y Is → IfOk (like n x y) Asks
  like-typed n x y h k =
      goes_on (λ (p : Expression × Expression). Of Text p.0 × Of Text p.1) Asks (also (x >>= must_be Text) (y >>= must_be Text)) (λ p. Ok (negated n (c.Like p.0 p.1)))
      (beside (Of Text) (Of Text) (x >>= must_be Text) (y >>= must_be Text) (asked Text x h) (asked Text y k)) (λ p m. negated-typed n _ (typed.like m.0 m.1))

  pub null-typed : (n : Bool) (x : Finding TypedExpression) → IfOk x Is → IfOk (null_test n x) Asks
  null-typed n x h = goes_on Is Asks x (λ a. Ok (negated n (c.IsNull a.expression))) h (λ a k. negated-typed n _ (typed.is_null k))

  all_of : (xs : List Condition) → AreWellTyped known rows xs → IsWellTyped known rows (and_of xs)
  all_of [] h = typed.and [] (contained Asks [] h)
  all_of (x ∷ []) h = h.0
  all_of (x ∷ y ∷ xs) h = typed.and (x ∷ y ∷ xs) (contained Asks (x ∷ y ∷ xs) h)

  any_of : (xs : List Condition) → AreWellTyped known rows xs → IsWellTyped known rows (or_of xs)
  any_of [] h = typed.or [] (contained Asks [] h)
  any_of (x ∷ []) h = h.0
  any_of (x ∷ y ∷ xs) h = typed.or (x ∷ y ∷ xs) (contained Asks (x ∷ y ∷ xs) h)

  pub conjunction-typed : (found : List (Finding Condition)) → AllByRecursion (λ x. IfOk x Asks) found → IfOk (conjunction found) Asks
  conjunction-typed found h =
      goes_on (AllByRecursion Asks) Asks (each found) (λ xs. Ok (and_of (flat_map conjuncts xs))) (all Asks found h)
      (λ xs k. all_of (flat_map conjuncts xs) (flattened Asks conjuncts xs (weaker Asks (λ x. AllByRecursion Asks (conjuncts x)) (conjuncts-typed known rows) xs k)))

  pub disjunction-typed : (found : List (Finding Condition)) → AllByRecursion (λ x. IfOk x Asks) found → IfOk (disjunction found) Asks
  disjunction-typed found h =
      goes_on (AllByRecursion Asks) Asks (each found) (λ xs. Ok (or_of (flat_map disjuncts xs))) (all Asks found h)
      (λ xs k. any_of (flat_map disjuncts xs) (flattened Asks disjuncts xs (weaker Asks (λ x. AllByRecursion Asks (disjuncts x)) (disjuncts-typed known rows) xs k)))

  -- ---- queries inside

  abbrev pub IsResult : TypedQuery → Type 0
  IsResult q = HasResult known rows q.query (types_of q.columns)

  abbrev pub IsOneColumn : Query × ValueType → Type 0
  IsOneColumn q = HasResult known rows q.0 (q.1 ∷ [])

  one_column : (q : Query) (columns : List ResultColumn) → HasResult known rows q (types_of columns) → IfOk (only_column q columns) IsOneColumn
  one_column q [] h = tt
  one_column q (column ∷ []) h = h
  one_column q (column ∷ other ∷ others) h = tt

  pub of_one_column-typed : (found : Finding TypedQuery) → IfOk found IsResult → IfOk (of_one_column found) IsOneColumn
  of_one_column-typed found h = goes_on IsResult IsOneColumn found (λ q. only_column q.query q.columns) h (λ q k. one_column q.query q.columns k)

  pub scalar-typed : (found : Finding TypedQuery) → IfOk found IsResult → IfOk (scalar found) Is
  scalar-typed found h = goes_on IsOneColumn Is (of_one_column found) (λ q. Ok (record { expression = e.Scalar q.0; value_type = q.1 })) (of_one_column-typed found h) (λ q k. typed.scalar k)

  pub in_query-typed : (n : Bool) (x : Finding TypedExpression) (found : Finding (Query × ValueType)) → IfOk x Is → IfOk found IsOneColumn → IfOk (in_query n x found) Asks
  in_query-typed n (Ok x) (Ok q) h k = goes_on (Of q.1) Asks (must_be q.1 x) (λ operand. Ok (negated n (c.InQuery operand q.0))) (must q.1 x h) (λ a m. negated-typed n _ (typed.in_query m k))
  in_query-typed n (Ok x) (Err reasons) h k = tt
  in_query-typed n (Err reasons) found h k = tt

  pub exists-typed : (found : Finding TypedQuery) → IfOk found IsResult → IfOk (exists found) Asks
  exists-typed found h = goes_on IsResult Asks found (λ q. Ok (c.Exists q.query)) h (λ q k. typed.exists k)
