-- The places past the key at each node of a typed tree.
use Rattle.std.proofs.Common.{◌≡◌, refl, sym, ap, ◌∙◌, ℕ, List, [], ◌∷◌, ◌++◌, map, rules, append-nil, Bool, true, false}
use Rattle.std.specs.Prelude.{flat_map}
use Rattle.std.proofs.lemmas.Grind.{flat_map-append}
use Rattle.sqlval.specs.declared.value.Value.{Value}
use Rattle.sqlval.specs.declared.comparison.CompOp.{CompOp}
use Rattle.sqlval.specs.declared.truth.Truth.{Truth}
use Rattle.typing.specs.declared.typed.Arithmetic.{Arithmetic}
use Rattle.typing.specs.declared.typed.Expression.{Expression, the_lemmas}
use Rattle.typing.specs.declared.typed.Expression.TheVariants as e
use Rattle.typing.specs.declared.typed.Condition.{Condition, Condition-F, out-Condition, roll-Condition}
use Rattle.typing.specs.declared.typed.Condition.TheVariants as c
use Rattle.typing.specs.declared.typed.Query.{Query}
use Rattle.typing.specs.Condition.{ConditionLayer, and_of, conjuncts, conjuncts_at, disjuncts, disjuncts_at, or_of, negated, tested}
use Rattle.ast.specs.declared.operator.TruthTest.{TruthTest}
use Rattle.std.proofs.Common.{Option, Some, None}
use Rattle.typing_laws.specs.Placed.{all_of, past_key, places_in, places_asked}

module _ (key : ℕ) where
  pub at_constant : (x : Value) → places_in key (e.Constant x) ≡ []
  unfolding places_in
  at_constant x = search (rules, the_lemmas)

  pub at_column : (depth place : ℕ) → places_in key (e.Column depth place) ≡ past_key key depth place
  unfolding places_in
  at_column depth place = search (rules, the_lemmas)

  pub at_calculation : (first : Expression) (others : List (Arithmetic × Expression)) → places_in key (e.Calculation first others) ≡ places_in key first ++ flat_map (λ other. other.1) (map {B = Arithmetic × List ℕ} (λ other. (other.0, places_in key other.1)) others)
  unfolding places_in
  at_calculation first others = search (rules, the_lemmas)

  pub at_concatenation : (first : Expression) (others : List Expression) → places_in key (e.Concatenation first others) ≡ places_in key first ++ all_of (map (places_in key) others)
  unfolding places_in
  at_concatenation first others = search (rules, the_lemmas)

  pub at_negation : (operand : Expression) → places_in key (e.Negation operand) ≡ places_in key operand
  unfolding places_in
  at_negation operand = search (rules, the_lemmas)

  pub at_scalar : (query : Query) → places_in key (e.Scalar query) ≡ []
  unfolding places_in
  at_scalar query = search (rules, the_lemmas)

  pub at_or : (operands : List Condition) → places_asked key (c.Or operands) ≡ all_of (map (places_asked key) operands)
  unfolding places_asked
  at_or operands = search (rules, the_lemmas)

  pub at_and : (operands : List Condition) → places_asked key (c.And operands) ≡ all_of (map (places_asked key) operands)
  unfolding places_asked
  at_and operands = search (rules, the_lemmas)

  pub at_not : (operand : Condition) → places_asked key (c.Not operand) ≡ places_asked key operand
  unfolding places_asked
  at_not operand = search (rules, the_lemmas)

  pub at_test : (operand : Condition) (truth : Truth) → places_asked key (c.IsTruth operand truth) ≡ places_asked key operand
  unfolding places_asked
  at_test operand truth = search (rules, the_lemmas)

  pub at_compare : (op : CompOp) (a b : Expression) → places_asked key (c.Compare op a b) ≡ places_in key a ++ places_in key b
  unfolding places_asked places_in
  at_compare op a b = search (rules, the_lemmas)

  pub at_between : (operand low high : Expression) → places_asked key (c.Between operand low high) ≡ places_in key operand ++ places_in key low ++ places_in key high
  unfolding places_asked places_in
  at_between operand low high = search (rules, the_lemmas)

  pub at_in_list : (operand : Expression) (values : List Value) → places_asked key (c.InList operand values) ≡ places_in key operand
  unfolding places_asked places_in
  at_in_list operand values = search (rules, the_lemmas)

  pub at_in_query : (operand : Expression) (query : Query) → places_asked key (c.InQuery operand query) ≡ places_in key operand
  unfolding places_asked places_in
  at_in_query operand query = search (rules, the_lemmas)

  pub at_like : (operand pattern : Expression) → places_asked key (c.Like operand pattern) ≡ places_in key operand ++ places_in key pattern
  unfolding places_asked places_in
  at_like operand pattern = search (rules, the_lemmas)

  pub at_null : (operand : Expression) → places_asked key (c.IsNull operand) ≡ places_in key operand
  unfolding places_asked places_in
  at_null operand = search (rules, the_lemmas)

  pub at_exists : (query : Query) → places_asked key (c.Exists query) ≡ []
  unfolding places_asked
  at_exists query = search (rules, the_lemmas)

  -- ---- what is made of conditions

  pub at_negated : (is_negated : Bool) (x : Condition) → places_asked key (negated is_negated x) ≡ places_asked key x
  at_negated true x = at_not x
  at_negated false x = refl

  pub at_tested : (test : Option TruthTest) (x : Condition) → places_asked key (tested test x) ≡ places_asked key x
  at_tested None x = refl
  at_tested (Some test) x = at_negated test.is_negated _ ∙ at_test x _

  mapped : (xs : List Condition) → all_of (map (places_asked key) xs) ≡ flat_map (places_asked key) xs
  mapped [] = refl
  mapped (x ∷ xs) = ap (λ l. places_asked key x ++ l) (mapped xs)

  pub at_all : (xs : List Condition) → places_asked key (and_of xs) ≡ flat_map (places_asked key) xs
  at_all [] = at_and []
  at_all (x ∷ []) = sym (append-nil (places_asked key x))
  at_all (x ∷ y ∷ xs) = at_and (x ∷ y ∷ xs) ∙ mapped (x ∷ y ∷ xs)

  pub at_any : (xs : List Condition) → places_asked key (or_of xs) ≡ flat_map (places_asked key) xs
  at_any [] = at_or []
  at_any (x ∷ []) = sym (append-nil (places_asked key x))
  at_any (x ∷ y ∷ xs) = at_or (x ∷ y ∷ xs) ∙ mapped (x ∷ y ∷ xs)

  -- an AND inside an AND, and an OR inside an OR, are taken apart
  flat : (parts : Condition → List Condition) → ((x : Condition) → flat_map (places_asked key) (parts x) ≡ places_asked key x)
      → (xs : List Condition) → flat_map (places_asked key) (flat_map parts xs) ≡ flat_map (places_asked key) xs
  flat parts same [] = refl
  flat parts same (x ∷ xs) = flat_map-append (places_asked key) (parts x) (flat_map parts xs) ∙ ap (λ l. l ++ flat_map (places_asked key) (flat_map parts xs)) (same x) ∙ ap (λ l. places_asked key x ++ l) (flat parts same xs)

  rolled : (x : Condition) → x ≡ roll-Condition (out-Condition x)
  rolled x = search (rules, the_lemmas)

  opened_and : (operands : List Condition) → out-Condition (c.And operands) ≡ Condition-F.And operands
  opened_and operands = search (rules, the_lemmas)

  opened_or : (operands : List Condition) → out-Condition (c.Or operands) ≡ Condition-F.Or operands
  opened_or operands = search (rules, the_lemmas)

  was_and : (x : Condition) (operands : List Condition) → out-Condition x ≡ Condition-F.And operands → x ≡ c.And operands
  was_and x operands is = rolled x ∙ ap roll-Condition (is ∙ sym (opened_and operands)) ∙ sym (rolled (c.And operands))

  was_or : (x : Condition) (operands : List Condition) → out-Condition x ≡ Condition-F.Or operands → x ≡ c.Or operands
  was_or x operands is = rolled x ∙ ap roll-Condition (is ∙ sym (opened_or operands)) ∙ sym (rolled (c.Or operands))

  single : (x : Condition) → flat_map (places_asked key) (x ∷ []) ≡ places_asked key x
  single x = append-nil (places_asked key x)

  conjunct : (x : Condition) (d : ConditionLayer) → out-Condition x ≡ d → flat_map (places_asked key) (conjuncts_at d x) ≡ places_asked key x
  conjunct x (Condition-F.And operands) is = sym (ap (places_asked key) (was_and x operands is) ∙ at_and operands ∙ mapped operands)
  conjunct x (Condition-F.Or operands) is = single x
  conjunct x (Condition-F.Not operand) is = single x
  conjunct x (Condition-F.IsTruth operand truth) is = single x
  conjunct x (Condition-F.Compare op a b) is = single x
  conjunct x (Condition-F.Between operand low high) is = single x
  conjunct x (Condition-F.InList operand values) is = single x
  conjunct x (Condition-F.InQuery operand query) is = single x
  conjunct x (Condition-F.Like operand pattern) is = single x
  conjunct x (Condition-F.IsNull operand) is = single x
  conjunct x (Condition-F.Exists query) is = single x

  disjunct : (x : Condition) (d : ConditionLayer) → out-Condition x ≡ d → flat_map (places_asked key) (disjuncts_at d x) ≡ places_asked key x
  disjunct x (Condition-F.Or operands) is = sym (ap (places_asked key) (was_or x operands is) ∙ at_or operands ∙ mapped operands)
  disjunct x (Condition-F.And operands) is = single x
  disjunct x (Condition-F.Not operand) is = single x
  disjunct x (Condition-F.IsTruth operand truth) is = single x
  disjunct x (Condition-F.Compare op a b) is = single x
  disjunct x (Condition-F.Between operand low high) is = single x
  disjunct x (Condition-F.InList operand values) is = single x
  disjunct x (Condition-F.InQuery operand query) is = single x
  disjunct x (Condition-F.Like operand pattern) is = single x
  disjunct x (Condition-F.IsNull operand) is = single x
  disjunct x (Condition-F.Exists query) is = single x

  pub at_conjuncts : (xs : List Condition) → places_asked key (and_of (flat_map conjuncts xs)) ≡ flat_map (places_asked key) xs
  at_conjuncts xs = at_all (flat_map conjuncts xs) ∙ flat conjuncts (λ x. conjunct x (out-Condition x) refl) xs

  pub at_disjuncts : (xs : List Condition) → places_asked key (or_of (flat_map disjuncts xs)) ≡ flat_map (places_asked key) xs
  at_disjuncts xs = at_any (flat_map disjuncts xs) ∙ flat disjuncts (λ x. disjunct x (out-Condition x) refl) xs
