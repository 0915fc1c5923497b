-- Plain conditions cannot raise: by induction over the trees.
use Rattle.std.proofs.Common.{◌≡◌, refl, sym, ◌∙◌, subst, Bool, true, false, ◌||◌, ◌&&◌, List, [], ◌∷◌, map}
use Rattle.std.specs.List.{list_all}
use Rattle.algebra.specs.declared.tree.Condition.{Condition, Condition-F, roll-Condition, map-Condition, fold-roll-Condition, ind-Condition}
use Rattle.algebra.specs.declared.tree.Expression.{Expression, Expression-F, roll-Expression, map-Expression, fold-roll-Expression}
use Rattle.algebra.specs.declared.tree.SetFunction.{SetFunction, SetFunction-F}
use Rattle.algebra.specs.declared.tree.Tree.{Tree, Tree-F}
use Rattle.algebra.specs.Raising.{Test, itself, some_may, condition_may, expression_may, condition_may_raise, expression_may_raise, condition_plain, expression_plain, function_plain, tree_plain, is_plain, is_plain_expression, is_plain_function, is_plain_tree}
use Rattle.algebra_laws.proofs.RolledTrees.{Node}
use Rattle.algebra_laws.proofs.Safe.{condition_tested, condition_may_be, expression_tested, expression_may_be}

abbrev condition_asked : Node Condition-F → Test Condition-F
condition_asked d = map-Condition _ _ _ _ _ _ _ _ is_plain is_plain_expression is_plain_function is_plain_tree d

condition_plain_be : (d : Node Condition-F) → is_plain (roll-Condition d) ≡ condition_plain (condition_asked d)
unfolding is_plain is_plain_expression is_plain_function is_plain_tree
condition_plain_be d = fold-roll-Condition _ _ _ _ condition_plain expression_plain function_plain tree_plain d

abbrev expression_asked : Node Expression-F → Test Expression-F
expression_asked d = map-Expression _ _ _ _ _ _ _ _ is_plain is_plain_expression is_plain_function is_plain_tree d

expression_plain_be : (d : Node Expression-F) → is_plain_expression (roll-Expression d) ≡ expression_plain (expression_asked d)
unfolding is_plain is_plain_expression is_plain_function is_plain_tree
expression_plain_be d = fold-roll-Expression _ _ _ _ condition_plain expression_plain function_plain tree_plain d

and_true : (a b : Bool) → (a && b) ≡ true → (a ≡ true) × (b ≡ true)
and_true true b e = (refl, e)
and_true false b e = absurd (cc)

neither : (a b : Bool) → a ≡ false → b ≡ false → (a || b) ≡ false
neither a b e f = rw (e, f) refl

none_may : {X C : Type 0} (asked tested : C → Bool) (part : X → C) (xs : List X) → ((x : X) → asked (part x) ≡ true → tested (part x) ≡ false)
    → list_all itself (map asked (map part xs)) ≡ true → some_may (map tested (map part xs)) ≡ false
none_may asked tested part [] h e = refl
none_may asked tested part (x ∷ xs) h e =
    let c = and_true (asked (part x)) (list_all itself (map asked (map part xs))) e in
    neither (tested (part x)) (some_may (map tested (map part xs))) (h x c.0) (none_may asked tested part xs h c.1)

abbrev Denied : Condition → Type 0
Denied c = is_plain c ≡ true → condition_may_raise c ≡ false

abbrev DeniedExpression : Expression → Type 0
DeniedExpression e = is_plain_expression e ≡ true → expression_may_raise e ≡ false

abbrev Parts : ((A B C D : Type 0) → Type 0) → Type 0
Parts T = T ((c : Condition) × Denied c) ((e : Expression) × DeniedExpression e) (SetFunction × Unit {0}) (Tree × Unit {0})

abbrev condition_of : Parts Condition-F → Node Condition-F
condition_of y = map-Condition _ _ _ _ _ _ _ _ (λ p. p.0) (λ p. p.0) (λ p. p.0) (λ p. p.0) y

abbrev expression_of : Parts Expression-F → Node Expression-F
expression_of y = map-Expression _ _ _ _ _ _ _ _ (λ p. p.0) (λ p. p.0) (λ p. p.0) (λ p. p.0) y

condition_denied : (y : Parts Condition-F) → condition_plain (condition_asked (condition_of y)) ≡ true → condition_may (condition_tested (condition_of y)) ≡ false
condition_denied (Condition-F.Or operands) e = none_may is_plain condition_may_raise (λ (o : (c : Condition) × Denied c). o.0) operands (λ o. o.1) e
condition_denied (Condition-F.And operands) e = none_may is_plain condition_may_raise (λ (o : (c : Condition) × Denied c). o.0) operands (λ o. o.1) e
condition_denied (Condition-F.Not operand) e = operand.1 e
condition_denied (Condition-F.IsTruth operand truth) e = operand.1 e
condition_denied (Condition-F.Compare op a b) e =
    let c = and_true (is_plain_expression a.0) (is_plain_expression b.0) e in neither (expression_may_raise a.0) (expression_may_raise b.0) (a.1 c.0) (b.1 c.1)
condition_denied (Condition-F.Between operand low high) e =
    let c = and_true (is_plain_expression operand.0) (is_plain_expression low.0 && is_plain_expression high.0) e in
    let d = and_true (is_plain_expression low.0) (is_plain_expression high.0) c.1 in
    neither (expression_may_raise operand.0) (expression_may_raise low.0 || expression_may_raise high.0) (operand.1 c.0)
    (neither (expression_may_raise low.0) (expression_may_raise high.0) (low.1 d.0) (high.1 d.1))
condition_denied (Condition-F.InList operand values) e = operand.1 e
condition_denied (Condition-F.InQuery operand tree) e = absurd (cc)
condition_denied (Condition-F.Like operand pattern) e =
    let c = and_true (is_plain_expression operand.0) (is_plain_expression pattern.0) e in neither (expression_may_raise operand.0) (expression_may_raise pattern.0) (operand.1 c.0) (pattern.1 c.1)
condition_denied (Condition-F.IsNull operand) e = operand.1 e
condition_denied (Condition-F.Exists tree) e = absurd (cc)

expression_denied : (y : Parts Expression-F) → expression_plain (expression_asked (expression_of y)) ≡ true → expression_may (expression_tested (expression_of y)) ≡ false
expression_denied (Expression-F.Constant x) e = refl
expression_denied (Expression-F.Column depth place) e = refl
expression_denied (Expression-F.Calculation first others) e = absurd (cc)
expression_denied (Expression-F.Concatenation first others) e = absurd (cc)
expression_denied (Expression-F.Negation operand) e = absurd (cc)
expression_denied (Expression-F.Scalar tree) e = absurd (cc)

condition_node : (x : Node Condition-F) (y : Parts Condition-F) → condition_of y ≡ x → Denied (roll-Condition x)
condition_node x y is = subst (λ (z : Node Condition-F). Denied (roll-Condition z)) is
    (λ e. condition_may_be (condition_of y) ∙ condition_denied y (sym (condition_plain_be (condition_of y)) ∙ e))

expression_node : (x : Node Expression-F) (y : Parts Expression-F) → expression_of y ≡ x → DeniedExpression (roll-Expression x)
expression_node x y is = subst (λ (z : Node Expression-F). DeniedExpression (roll-Expression z)) is
    (λ e. expression_may_be (expression_of y) ∙ expression_denied y (sym (expression_plain_be (expression_of y)) ∙ e))

pub plain-denied : (c : Condition) → Denied c
plain-denied = ind-Condition Denied DeniedExpression (λ f. Unit {0}) (λ t. Unit {0}) condition_node expression_node (λ x y is. tt) (λ x y is. tt)
