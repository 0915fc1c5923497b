-- A plain condition means the same at rows whose columns that it names are the same: by induction
-- over the trees.
use Rattle.std.proofs.Common.{◌≡◌, refl, ap, sym, ◌∙◌, subst, ℕ, Bool, true, ◌&&◌, List, [], ◌∷◌, map, Ok}
use Rattle.std.specs.List.{list_all}
use Rattle.sqlval.specs.declared.value.Value.{Value}
use Rattle.sqlval.specs.declared.truth.Truth.{Truth}
use Rattle.sqlval.specs.declared.truth.Truth.TheVariants.{True}
use Rattle.sqlval.specs.Comparison.{comparison}
use Rattle.sqlval.specs.Like.{like_of}
use Rattle.sqlval.specs.Truth.{truth_not, truth_is, truth_of}
use Rattle.sqlval.specs.Value.{is_null}
use Rattle.sqlval.specs.declared.comparison.CompOp.TheVariants.{GreaterOrEqual, LessOrEqual}
use Rattle.algebra.specs.declared.tree.Condition.{Condition, Condition-F, roll-Condition, map-Condition, ind-Condition}
use Rattle.algebra.specs.declared.tree.Expression.{Expression, Expression-F, roll-Expression, map-Expression}
use Rattle.algebra.specs.declared.tree.SetFunction.{SetFunction}
use Rattle.algebra.specs.declared.tree.Tree.{Tree, Tree-F}
use Rattle.algebra.specs.Meaning.{Layer, TreeMeaning, condition_step, expression_step, value_by, truth_by}
use Rattle.algebra.specs.Raising.{itself, condition_plain}
use Rattle.algebra_laws.proofs.RolledTrees.{Node, condition_meant, condition_rolled, expression_meant, expression_rolled}
use Rattle.denote.specs.Condition.{both, either, conjunction, disjunction, among}
use Rattle.denote.specs.Evaluation.{Env, Evaluation, ◌>>=◌}
use Rattle.denote.specs.Expression.{column}
use Rattle.rules.specs.Columns.{expression_names, expression_names_only, names_only}
use Rattle.same_laws.proofs.Moved.{condition_asked, condition_names_be, expression_asked, expression_names_be, and_true}

-- ---- the law

module _ (step : Layer Tree-F → TreeMeaning) (test : ℕ → ℕ → Bool) (env other : Env)
    (found : (depth place : ℕ) → test depth place ≡ true → column other depth place ≡ column env depth place) where
  abbrev SeesCondition : Condition → Type 0
  SeesCondition x = names_only test x ≡ true → truth_by step x other ≡ truth_by step x env

  abbrev SeesExpression : Expression → Type 0
  SeesExpression x = expression_names_only test x ≡ true → value_by step x other ≡ value_by step x env

  abbrev Parts : ((A B C D : Type 0) → Type 0) → Type 0
  Parts T = T ((x : Condition) × SeesCondition x) ((x : Expression) × SeesExpression x) (SetFunction × Unit {0})
      (Tree × Unit {0})

  abbrev condition_of : Parts Condition-F → Node Condition-F
  condition_of y = map-Condition _ _ _ _ _ _ _ _ (λ p. p.0) (λ p. p.0) (λ p. p.0) (λ p. p.0) y

  abbrev expression_of : Parts Expression-F → Node Expression-F
  expression_of y = map-Expression _ _ _ _ _ _ _ _ (λ p. p.0) (λ p. p.0) (λ p. p.0) (λ p. p.0) y

  both-same : (x y a b : Evaluation Truth) → x ≡ y → a ≡ b → (x >>= (λ t. both t a)) ≡ (y >>= (λ t. both t b))
  both-same x y a b e f = λ i. e i >>= (λ t. both t (f i))

  either-same : (x y a b : Evaluation Truth) → x ≡ y → a ≡ b → (x >>= (λ t. either t a)) ≡ (y >>= (λ t. either t b))
  either-same x y a b e f = λ i. e i >>= (λ t. either t (f i))

  all-and : (xs : List ((x : Condition) × SeesCondition x))
      → list_all itself (map (names_only test) (map (λ (o : (x : Condition) × SeesCondition x). o.0) xs)) ≡ true
      → conjunction (map (truth_by step) (map (λ (o : (x : Condition) × SeesCondition x). o.0) xs)) other
      ≡ conjunction (map (truth_by step) (map (λ (o : (x : Condition) × SeesCondition x). o.0) xs)) env
  all-and [] e = refl
  all-and (x ∷ xs) e =
      let c = and_true (names_only test x.0)
      (list_all itself (map (names_only test) (map (λ (o : (x : Condition) × SeesCondition x). o.0) xs))) e in
      both-same _ _ _ _ (x.1 c.0) (all-and xs c.1)

  all-or : (xs : List ((x : Condition) × SeesCondition x))
      → list_all itself (map (names_only test) (map (λ (o : (x : Condition) × SeesCondition x). o.0) xs)) ≡ true
      → disjunction (map (truth_by step) (map (λ (o : (x : Condition) × SeesCondition x). o.0) xs)) other
      ≡ disjunction (map (truth_by step) (map (λ (o : (x : Condition) × SeesCondition x). o.0) xs)) env
  all-or [] e = refl
  all-or (x ∷ xs) e =
      let c = and_true (names_only test x.0)
      (list_all itself (map (names_only test) (map (λ (o : (x : Condition) × SeesCondition x). o.0) xs))) e in
      either-same _ _ _ _ (x.1 c.0) (all-or xs c.1)

  condition_sees : (y : Parts Condition-F) → condition_plain (condition_asked test (condition_of y)) ≡ true
      → condition_step (condition_meant step (condition_of y)) other
      ≡ condition_step (condition_meant step (condition_of y)) env
  condition_sees (Condition-F.Or operands) e = all-or operands e
  condition_sees (Condition-F.And operands) e = all-and operands e
  condition_sees (Condition-F.Not operand) e = ap (λ (v : Evaluation Truth). v >>= (λ t. Ok (truth_not t)))
      (operand.1 e)
  condition_sees (Condition-F.IsTruth operand truth) e =
      ap (λ (v : Evaluation Truth). v >>= (λ t. Ok (truth_is t truth))) (operand.1 e)
  condition_sees (Condition-F.Compare op a b) e =
      let c = and_true (expression_names_only test a.0) (expression_names_only test b.0) e in
      λ i. a.1 c.0 i >>= (λ x. b.1 c.1 i >>= (λ y. Ok (comparison op x y)))
  condition_sees (Condition-F.Between operand low high) e =
      let c = and_true (expression_names_only test operand.0)
      (expression_names_only test low.0 && expression_names_only test high.0) e in
      let d = and_true (expression_names_only test low.0) (expression_names_only test high.0) c.1 in
      λ i. (operand.1 c.0 i >>= (λ x. low.1 d.0 i >>= (λ y. Ok (comparison GreaterOrEqual x y))))
      >>= (λ t. both t ((operand.1 c.0 i >>= (λ x. high.1 d.1 i >>= (λ y. Ok (comparison LessOrEqual x y)))) >>=
      (λ t. both t (Ok True))))
  condition_sees (Condition-F.InList operand values) e = ap (λ (v : Evaluation Value). v >>= (λ x. Ok (among x values)))
      (operand.1 e)
  condition_sees (Condition-F.InQuery operand tree) e = absurd (cc)
  condition_sees (Condition-F.Like operand pattern) e =
      let c = and_true (expression_names_only test operand.0) (expression_names_only test pattern.0) e in
      λ i. operand.1 c.0 i >>= (λ x. pattern.1 c.1 i >>= (λ y. Ok (like_of x y)))
  condition_sees (Condition-F.IsNull operand) e = ap (λ (v : Evaluation Value). v >>= (λ x. Ok (truth_of (is_null x))))
      (operand.1 e)
  condition_sees (Condition-F.Exists tree) e = absurd (cc)

  expression_sees : (y : Parts Expression-F) → expression_names test (expression_asked test (expression_of y)) ≡ true
      → expression_step (expression_meant step (expression_of y)) other
      ≡ expression_step (expression_meant step (expression_of y)) env
  expression_sees (Expression-F.Constant x) e = refl
  expression_sees (Expression-F.Column depth place) e = ap (λ x. Ok x) (found depth place e)
  expression_sees (Expression-F.Calculation first others) e = absurd (cc)
  expression_sees (Expression-F.Concatenation first others) e = absurd (cc)
  expression_sees (Expression-F.Negation operand) e = absurd (cc)
  expression_sees (Expression-F.Scalar tree) e = absurd (cc)

  condition_node : (x : Node Condition-F) (y : Parts Condition-F) → condition_of y ≡ x
      → SeesCondition (roll-Condition x)
  condition_node x y is = subst (λ (z : Node Condition-F). SeesCondition (roll-Condition z)) is
      (λ e. ap (λ f. f other) (condition_rolled step (condition_of y))
      ∙ condition_sees y (sym (condition_names_be test (condition_of y)) ∙ e)
      ∙ sym (ap (λ f. f env) (condition_rolled step (condition_of y))))

  expression_node : (x : Node Expression-F) (y : Parts Expression-F) → expression_of y ≡ x
      → SeesExpression (roll-Expression x)
  expression_node x y is = subst (λ (z : Node Expression-F). SeesExpression (roll-Expression z)) is
      (λ e. ap (λ f. f other) (expression_rolled step (expression_of y))
      ∙ expression_sees y (sym (expression_names_be test (expression_of y)) ∙ e)
      ∙ sym (ap (λ f. f env) (expression_rolled step (expression_of y))))

  pub conditions-see : (x : Condition) → SeesCondition x
  conditions-see = ind-Condition SeesCondition SeesExpression (λ f. Unit {0})
      (λ t. Unit {0}) condition_node expression_node (λ x y is. tt) (λ x y is. tt)
