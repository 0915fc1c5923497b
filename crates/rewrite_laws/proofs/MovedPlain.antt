-- A plain condition with other columns in the places of its own is plain too, and reads no table.
use Rattle.algebra.specs.Raising.{itself, Test, condition_plain, function_plain, tree_plain, is_plain, is_plain_expression, is_plain_function, is_plain_tree, expression_plain}
use Rattle.algebra.specs.declared.tree.Condition.{Condition, Condition-F, roll-Condition, map-Condition, fold-roll-Condition, ind-Condition}
use Rattle.algebra.specs.declared.tree.Expression.{Expression, Expression-F, roll-Expression, map-Expression, fold-roll-Expression, the_lemmas}
use Rattle.algebra.specs.declared.tree.SetFunction.{SetFunction}
use Rattle.algebra.specs.declared.tree.Tree.{Tree}
use Rattle.rules.proofs.StoredNodes.{expression_column}
use Rattle.rules.specs.Columns.{Place, names_only, moved, expression_names, expression_names_only, expression_moved, moved_expression}
use Rattle.rules.specs.Conjuncts.{others}
use Rattle.rules.specs.Nodes.{Node}
use Rattle.rules.specs.Stored.{all_stored, stored_in_condition, stored_in_expression, stored_in_tree, stored_in_function, stored_of_expression, stored_of_condition, stored_of_function, stored_of_tree, StoredLayer}
use Rattle.same_laws.proofs.Moved.{and_true, condition_asked, condition_names_be, expression_asked, expression_names_be, condition_over, condition_moved_be, expression_over, expression_moved_be}
use Rattle.std.proofs.Common.{◌≡◌, refl, sym, subst, ap, ◌∙◌, ℕ, Bool, List, [], ◌∷◌, ◌++◌, map, true, ◌&&◌, rules}
use Rattle.std.specs.List.{list_all}
use Rattle.algebra.specs.declared.tree.Expression.TheVariants as e
use Rattle.rules.proofs.StoredNodes as known

plain-column : (depth place : ℕ) → is_plain_expression (e.Column depth place) ≡ true
unfolding is_plain is_plain_expression is_plain_function is_plain_tree
plain-column depth place = search (rules, the_lemmas)

module _ (test : ℕ → ℕ → Bool) (to : ℕ → ℕ → Place) where
  -- it raises nothing and reads no table
  abbrev pub IsTame : Condition → Type 0
  IsTame condition = (is_plain condition ≡ true) × (stored_in_condition condition ≡ [])

  abbrev IsTameExpression : Expression → Type 0
  IsTameExpression expression = (is_plain_expression expression ≡ true) × (stored_in_expression expression ≡ [])

  abbrev Moves : Condition → Type 0
  Moves condition = names_only test condition ≡ true → IsTame (moved to condition)

  abbrev MovesExpression : Expression → Type 0
  MovesExpression expression = expression_names_only test expression ≡ true
      → IsTameExpression (moved_expression to expression)

  abbrev Parts : ((A B C D : Type 0) → Type 0) → Type 0
  Parts T = T ((x : Condition) × Moves x) ((x : Expression) × MovesExpression x) (SetFunction × Unit {0})
      (Tree × Unit {0})

  abbrev condition_of : Parts Condition-F → Node Condition-F
  condition_of y = map-Condition _ _ _ _ _ _ _ _ (λ p. p.0) (λ p. p.0) (λ p. p.0) (λ p. p.0) y

  abbrev expression_of : Parts Expression-F → Node Expression-F
  expression_of y = map-Expression _ _ _ _ _ _ _ _ (λ p. p.0) (λ p. p.0) (λ p. p.0) (λ p. p.0) y

  abbrev plain_layer : Node Condition-F → Test Condition-F
  plain_layer d = map-Condition _ _ _ _ _ _ _ _ is_plain is_plain_expression is_plain_function is_plain_tree d

  plain_be : (d : Node Condition-F) → is_plain (roll-Condition d) ≡ condition_plain (plain_layer d)
  unfolding is_plain is_plain_expression is_plain_function is_plain_tree
  plain_be d = fold-roll-Condition _ _ _ _ condition_plain expression_plain function_plain tree_plain d

  abbrev stored_layer : Node Condition-F → StoredLayer Condition-F
  stored_layer d = map-Condition _ _ _ _ _ _ _ _ stored_in_condition stored_in_expression stored_in_function
      stored_in_tree d

  stored_be : (d : Node Condition-F) → stored_in_condition (roll-Condition d) ≡ stored_of_condition (stored_layer d)
  unfolding stored_in_condition stored_in_expression stored_in_function stored_in_tree
  stored_be d = fold-roll-Condition _ _ _ _ stored_of_condition stored_of_expression stored_of_function stored_of_tree d

  abbrev operands_of : List ((x : Condition) × Moves x) → List Condition
  operands_of xs = map (λ o. o.0) xs

  all-tame : (xs : List ((x : Condition) × Moves x)) → list_all itself (map (names_only test) (operands_of xs)) ≡ true
      → (list_all itself (map is_plain (map (moved to) (operands_of xs))) ≡ true)
      × (all_stored (map stored_in_condition (map (moved to) (operands_of xs))) ≡ [])
  all-tame [] e = (refl, refl)
  all-tame (x ∷ xs) e =
      let p = and_true (names_only test x.0) (list_all itself (map (names_only test) (operands_of xs))) e in
      let one = x.1 p.0 in
      let rest = all-tame xs p.1 in
      ((λ i. one.0 i && rest.0 i), (λ i. one.1 i ++ rest.1 i))

  abbrev IsTameNode : Node Condition-F → Type 0
  IsTameNode d = (condition_plain (plain_layer d) ≡ true) × (stored_of_condition (stored_layer d) ≡ [])

  node-tame : (y : Parts Condition-F) → condition_plain (condition_asked test (condition_of y)) ≡ true
      → IsTameNode (condition_over to (condition_of y))
  node-tame (Condition-F.Or operands) e = all-tame operands e
  node-tame (Condition-F.And operands) e = all-tame operands e
  node-tame (Condition-F.Not operand) e = operand.1 e
  node-tame (Condition-F.IsTruth operand truth) e = operand.1 e
  node-tame (Condition-F.Compare op a b) e =
      let p = and_true (expression_names_only test a.0) (expression_names_only test b.0) e in
      let one = a.1 p.0 in
      let other = b.1 p.1 in
      ((λ i. one.0 i && other.0 i), (λ i. one.1 i ++ other.1 i))
  node-tame (Condition-F.Between operand low high) e =
      let p = and_true (expression_names_only test operand.0)
      (expression_names_only test low.0 && expression_names_only test high.0) e in
      let q = and_true (expression_names_only test low.0) (expression_names_only test high.0) p.1 in
      let one = operand.1 p.0 in
      let below = low.1 q.0 in
      let above = high.1 q.1 in
      ((λ i. one.0 i && (below.0 i && above.0 i)), (λ i. one.1 i ++ (below.1 i ++ above.1 i)))
  node-tame (Condition-F.InList operand values) e = operand.1 e
  node-tame (Condition-F.InQuery operand tree) e = absurd (cc (e))
  node-tame (Condition-F.Like operand pattern) e =
      let p = and_true (expression_names_only test operand.0) (expression_names_only test pattern.0) e in
      let one = operand.1 p.0 in
      let other = pattern.1 p.1 in
      ((λ i. one.0 i && other.0 i), (λ i. one.1 i ++ other.1 i))
  node-tame (Condition-F.IsNull operand) e = operand.1 e
  node-tame (Condition-F.Exists tree) e = absurd (cc (e))

  column-tame : (place : Place) → IsTameExpression (e.Column place.0 place.1)
  column-tame place = (plain-column place.0 place.1, known.expression_column place.0 place.1)

  condition_node : (x : Node Condition-F) (y : Parts Condition-F) → condition_of y ≡ x → Moves (roll-Condition x)
  condition_node x y is = subst (λ (z : Node Condition-F). Moves (roll-Condition z)) is
      (λ e. let p = node-tame y (sym (condition_names_be test (condition_of y)) ∙ e) in (
        ap is_plain (condition_moved_be to (condition_of y)) ∙ plain_be (condition_over to (condition_of y)) ∙ p.0,
        ap stored_in_condition (condition_moved_be to (condition_of y)) ∙ stored_be (condition_over to (condition_of y))
            ∙ p.1,
      ))

  plain_expression_be : (d : Node Expression-F) → is_plain_expression (roll-Expression d)
      ≡ expression_plain (map-Expression _ _ _ _ _ _ _ _ is_plain is_plain_expression is_plain_function is_plain_tree d)
  unfolding is_plain is_plain_expression is_plain_function is_plain_tree
  plain_expression_be d = fold-roll-Expression _ _ _ _ condition_plain expression_plain function_plain tree_plain d

  stored_expression_be : (d : Node Expression-F) → stored_in_expression (roll-Expression d)
      ≡ stored_of_expression (map-Expression _ _ _ _ _ _ _ _ stored_in_condition stored_in_expression stored_in_function
      stored_in_tree d)
  unfolding stored_in_condition stored_in_expression stored_in_function stored_in_tree
  stored_expression_be d = fold-roll-Expression _ _ _ _ stored_of_condition stored_of_expression stored_of_function
      stored_of_tree d

  expression-tame : (y : Parts Expression-F) → expression_names test (expression_asked test (expression_of y)) ≡ true
      → IsTameExpression (expression_moved to (expression_over to (expression_of y)))
  expression-tame (Expression-F.Constant x) h =
      (plain_expression_be (Expression-F.Constant x), stored_expression_be (Expression-F.Constant x))
  expression-tame (Expression-F.Column depth place) h = column-tame (to depth place)
  expression-tame (Expression-F.Calculation first others) h = absurd (cc (h))
  expression-tame (Expression-F.Concatenation first others) h = absurd (cc (h))
  expression-tame (Expression-F.Negation operand) h = absurd (cc (h))
  expression-tame (Expression-F.Scalar tree) h = absurd (cc (h))

  expression_node : (x : Node Expression-F) (y : Parts Expression-F) → expression_of y ≡ x
      → MovesExpression (roll-Expression x)
  expression_node x y is = subst (λ (z : Node Expression-F). MovesExpression (roll-Expression z)) is
      (λ h. let p = expression-tame y (sym (expression_names_be test (expression_of y)) ∙ h) in (
        ap is_plain_expression (expression_moved_be to (expression_of y)) ∙ p.0,
        ap stored_in_expression (expression_moved_be to (expression_of y)) ∙ p.1,
      ))

  pub moved-tame : (condition : Condition) → Moves condition
  moved-tame = ind-Condition Moves MovesExpression (λ f. Unit {0}) (λ t. Unit {0}) condition_node expression_node
      (λ x y is. tt) (λ x y is. tt)
