-- A plain condition with its columns moved means at other rows what it means at its own: by
-- induction over the trees.
use Rattle.std.proofs.Common.{◌≡◌, refl, ap, sym, ◌∙◌, subst, ℕ, Bool, true, false, ◌&&◌, List, [], ◌∷◌, map, Ok}
use Rattle.std.specs.List.{list_all}
use Rattle.sqlval.specs.declared.value.Value.{Value}
use Rattle.sqlval.specs.declared.truth.Truth.{Truth}
use Rattle.sqlval.specs.declared.truth.Truth.TheVariants.{True}
use Rattle.sqlval.specs.Comparison.{comparison}
use Rattle.sqlval.specs.Like.{like_of}
use Rattle.sqlval.specs.Truth.{truth_not, truth_is, truth_of}
use Rattle.sqlval.specs.Value.{is_null}
use Rattle.sqlval.specs.declared.comparison.CompOp.TheVariants.{GreaterOrEqual, LessOrEqual}
use Rattle.algebra.specs.declared.tree.Condition.{Condition, Condition-F, roll-Condition, map-Condition, fold-roll-Condition, ind-Condition}
use Rattle.algebra.specs.declared.tree.Expression.{Expression, Expression-F, roll-Expression, map-Expression, fold-roll-Expression}
use Rattle.algebra.specs.declared.tree.SetFunction.{SetFunction, fold-SetFunction, roll-SetFunction}
use Rattle.algebra.specs.declared.tree.Tree.{Tree, Tree-F, fold-Tree, roll-Tree}
use Rattle.algebra.specs.Meaning.{Layer, TreeMeaning, condition_step, expression_step, value_by, truth_by}
use Rattle.algebra.specs.Raising.{Test, itself, condition_plain, function_plain, tree_plain}
use Rattle.algebra.proofs.Nodes as means
use Rattle.algebra_laws.proofs.RolledTrees.{Node, condition_meant, condition_rolled, expression_meant, expression_rolled}
use Rattle.denote.specs.Condition.{both, either, conjunction, disjunction, among}
use Rattle.denote.specs.Evaluation.{Env, Evaluation, ◌>>=◌}
use Rattle.denote.specs.Expression.{column}
use Rattle.rules.specs.Columns.{Place, expression_names, expression_names_only, names_only, expression_moved, moved_expression, moved}

pub and_true : (a b : Bool) → (a && b) ≡ true → (a ≡ true) × (b ≡ true)
and_true true b e = (refl, e)
and_true false b e = absurd (cc)

-- ---- the folds at a node

module _ (test : ℕ → ℕ → Bool) where
  abbrev function_asked : SetFunction → Bool
  function_asked = fold-SetFunction _ _ _ _ condition_plain (expression_names test) function_plain tree_plain

  abbrev tree_asked : Tree → Bool
  tree_asked = fold-Tree _ _ _ _ condition_plain (expression_names test) function_plain tree_plain

  abbrev pub condition_asked : Node Condition-F → Test Condition-F
  condition_asked d = map-Condition _ _ _ _ _ _ _ _ (names_only test) (expression_names_only test) function_asked
      tree_asked d

  pub condition_names_be : (d : Node Condition-F)
      → names_only test (roll-Condition d) ≡ condition_plain (condition_asked d)
  unfolding names_only expression_names_only
  condition_names_be d = fold-roll-Condition _ _ _ _ condition_plain (expression_names test) function_plain tree_plain d

  abbrev pub expression_asked : Node Expression-F → Test Expression-F
  expression_asked d = map-Expression _ _ _ _ _ _ _ _ (names_only test) (expression_names_only test) function_asked
      tree_asked d

  pub expression_names_be : (d : Node Expression-F) → expression_names_only test (roll-Expression d)
      ≡ expression_names test (expression_asked d)
  unfolding names_only expression_names_only
  expression_names_be d = fold-roll-Expression _ _ _ _ condition_plain (expression_names test) function_plain tree_plain
      d

module _ (to : ℕ → ℕ → Place) where
  abbrev pub function_moved : SetFunction → SetFunction
  function_moved = fold-SetFunction _ _ _ _ roll-Condition (expression_moved to) roll-SetFunction roll-Tree

  abbrev pub tree_moved : Tree → Tree
  tree_moved = fold-Tree _ _ _ _ roll-Condition (expression_moved to) roll-SetFunction roll-Tree

  abbrev pub condition_over : Node Condition-F → Node Condition-F
  condition_over d = map-Condition _ _ _ _ _ _ _ _ (moved to) (moved_expression to) function_moved tree_moved d

  pub condition_moved_be : (d : Node Condition-F) → moved to (roll-Condition d) ≡ roll-Condition (condition_over d)
  unfolding moved moved_expression
  condition_moved_be d = fold-roll-Condition _ _ _ _ roll-Condition (expression_moved to) roll-SetFunction roll-Tree d

  abbrev pub expression_over : Node Expression-F → Node Expression-F
  expression_over d = map-Expression _ _ _ _ _ _ _ _ (moved to) (moved_expression to) function_moved tree_moved d

  pub expression_moved_be : (d : Node Expression-F)
      → moved_expression to (roll-Expression d) ≡ expression_moved to (expression_over d)
  unfolding moved moved_expression
  expression_moved_be d = fold-roll-Expression _ _ _ _ roll-Condition (expression_moved to) roll-SetFunction roll-Tree d

-- ---- the law: where each column that passes the test is, at the other rows, the one that takes
-- its place

module _ (step : Layer Tree-F → TreeMeaning) (test : ℕ → ℕ → Bool) (to : ℕ → ℕ → Place) (env other : Env)
    (found : (depth place : ℕ) → test depth place ≡ true → column other (to depth place).0 (to depth place).1
    ≡ column env depth place) where
  abbrev MovesCondition : Condition → Type 0
  MovesCondition x = names_only test x ≡ true → truth_by step (moved to x) other ≡ truth_by step x env

  abbrev MovesExpression : Expression → Type 0
  MovesExpression x = expression_names_only test x ≡ true → value_by step (moved_expression to x) other
      ≡ value_by step x env

  abbrev Parts : ((A B C D : Type 0) → Type 0) → Type 0
  Parts T = T ((x : Condition) × MovesCondition x) ((x : Expression) × MovesExpression x) (SetFunction × Unit {0})
      (Tree × Unit {0})

  abbrev condition_of : Parts Condition-F → Node Condition-F
  condition_of y = map-Condition _ _ _ _ _ _ _ _ (λ p. p.0) (λ p. p.0) (λ p. p.0) (λ p. p.0) y

  abbrev expression_of : Parts Expression-F → Node Expression-F
  expression_of y = map-Expression _ _ _ _ _ _ _ _ (λ p. p.0) (λ p. p.0) (λ p. p.0) (λ p. p.0) y

  both-moved : (x y a b : Evaluation Truth) → x ≡ y → a ≡ b → (x >>= (λ t. both t a)) ≡ (y >>= (λ t. both t b))
  both-moved x y a b e f = λ i. e i >>= (λ t. both t (f i))

  either-moved : (x y a b : Evaluation Truth) → x ≡ y → a ≡ b → (x >>= (λ t. either t a)) ≡ (y >>= (λ t. either t b))
  either-moved x y a b e f = λ i. e i >>= (λ t. either t (f i))

  all-and : (xs : List ((x : Condition) × MovesCondition x))
      → list_all itself (map (names_only test) (map (λ (o : (x : Condition) × MovesCondition x). o.0) xs)) ≡ true
      → conjunction (map (truth_by step) (map (moved to) (map (λ (o : (x : Condition) × MovesCondition x). o.0) xs)))
      other ≡ conjunction (map (truth_by step) (map (λ (o : (x : Condition) × MovesCondition x). o.0) xs)) env
  all-and [] e = refl
  all-and (x ∷ xs) e =
      let c = and_true (names_only test x.0)
      (list_all itself (map (names_only test) (map (λ (o : (x : Condition) × MovesCondition x). o.0) xs))) e in
      both-moved _ _ _ _ (x.1 c.0) (all-and xs c.1)

  all-or : (xs : List ((x : Condition) × MovesCondition x))
      → list_all itself (map (names_only test) (map (λ (o : (x : Condition) × MovesCondition x). o.0) xs)) ≡ true
      → disjunction (map (truth_by step) (map (moved to) (map (λ (o : (x : Condition) × MovesCondition x). o.0) xs)))
      other ≡ disjunction (map (truth_by step) (map (λ (o : (x : Condition) × MovesCondition x). o.0) xs)) env
  all-or [] e = refl
  all-or (x ∷ xs) e =
      let c = and_true (names_only test x.0)
      (list_all itself (map (names_only test) (map (λ (o : (x : Condition) × MovesCondition x). o.0) xs))) e in
      either-moved _ _ _ _ (x.1 c.0) (all-or xs c.1)

  condition_moves : (y : Parts Condition-F) → condition_plain (condition_asked test (condition_of y)) ≡ true
      → condition_step (condition_meant step (condition_over to (condition_of y))) other
      ≡ condition_step (condition_meant step (condition_of y)) env
  condition_moves (Condition-F.Or operands) e = all-or operands e
  condition_moves (Condition-F.And operands) e = all-and operands e
  condition_moves (Condition-F.Not operand) e = ap (λ (v : Evaluation Truth). v >>= (λ t. Ok (truth_not t)))
      (operand.1 e)
  condition_moves (Condition-F.IsTruth operand truth) e =
      ap (λ (v : Evaluation Truth). v >>= (λ t. Ok (truth_is t truth))) (operand.1 e)
  condition_moves (Condition-F.Compare op a b) e =
      let c = and_true (expression_names_only test a.0) (expression_names_only test b.0) e in
      λ i. a.1 c.0 i >>= (λ x. b.1 c.1 i >>= (λ y. Ok (comparison op x y)))
  condition_moves (Condition-F.Between operand low high) e =
      let c = and_true (expression_names_only test operand.0)
      (expression_names_only test low.0 && expression_names_only test high.0) e in
      let d = and_true (expression_names_only test low.0) (expression_names_only test high.0) c.1 in
      λ i. (operand.1 c.0 i >>= (λ x. low.1 d.0 i >>= (λ y. Ok (comparison GreaterOrEqual x y))))
      >>= (λ t. both t ((operand.1 c.0 i >>= (λ x. high.1 d.1 i >>= (λ y. Ok (comparison LessOrEqual x y)))) >>=
      (λ t. both t (Ok True))))
  condition_moves (Condition-F.InList operand values) e =
      ap (λ (v : Evaluation Value). v >>= (λ x. Ok (among x values))) (operand.1 e)
  condition_moves (Condition-F.InQuery operand tree) e = absurd (cc)
  condition_moves (Condition-F.Like operand pattern) e =
      let c = and_true (expression_names_only test operand.0) (expression_names_only test pattern.0) e in
      λ i. operand.1 c.0 i >>= (λ x. pattern.1 c.1 i >>= (λ y. Ok (like_of x y)))
  condition_moves (Condition-F.IsNull operand) e = ap (λ (v : Evaluation Value). v >>= (λ x. Ok (truth_of (is_null x))))
      (operand.1 e)
  condition_moves (Condition-F.Exists tree) e = absurd (cc)

  expression_moves : (y : Parts Expression-F) → expression_names test (expression_asked test (expression_of y)) ≡ true
      → value_by step (expression_moved to (expression_over to (expression_of y))) other
      ≡ expression_step (expression_meant step (expression_of y)) env
  expression_moves (Expression-F.Constant x) e = ap (λ f. f other) (expression_rolled step (Expression-F.Constant x))
  expression_moves (Expression-F.Column depth place) e = means.value_column step (to depth place).0
      (to depth place).1 other ∙ ap (λ x. Ok x) (found depth place e)
  expression_moves (Expression-F.Calculation first others) e = absurd (cc)
  expression_moves (Expression-F.Concatenation first others) e = absurd (cc)
  expression_moves (Expression-F.Negation operand) e = absurd (cc)
  expression_moves (Expression-F.Scalar tree) e = absurd (cc)

  condition_node : (x : Node Condition-F) (y : Parts Condition-F) → condition_of y ≡ x
      → MovesCondition (roll-Condition x)
  condition_node x y is = subst (λ (z : Node Condition-F). MovesCondition (roll-Condition z)) is
      (λ e. ap (λ c. truth_by step c other) (condition_moved_be to (condition_of y))
      ∙ ap (λ f. f other) (condition_rolled step (condition_over to (condition_of y)))
      ∙ condition_moves y (sym (condition_names_be test (condition_of y)) ∙ e)
      ∙ sym (ap (λ f. f env) (condition_rolled step (condition_of y))))

  expression_node : (x : Node Expression-F) (y : Parts Expression-F) → expression_of y ≡ x
      → MovesExpression (roll-Expression x)
  expression_node x y is = subst (λ (z : Node Expression-F). MovesExpression (roll-Expression z)) is
      (λ e. ap (λ c. value_by step c other) (expression_moved_be to (expression_of y))
      ∙ expression_moves y (sym (expression_names_be test (expression_of y)) ∙ e)
      ∙ sym (ap (λ f. f env) (expression_rolled step (expression_of y))))

  pub conditions-move : (x : Condition) → MovesCondition x
  conditions-move = ind-Condition MovesCondition MovesExpression (λ f. Unit {0})
      (λ t. Unit {0}) condition_node expression_node (λ x y is. tt) (λ x y is. tt)
