-- A plain condition has no subquery.
use Rattle.std.proofs.Common.{◌≡◌, refl, sym, subst, ap, ◌∙◌, List, [], ◌∷◌, ◌++◌, map, true, ◌&&◌}
use Rattle.std.specs.List.{list_all}
use Rattle.algebra.specs.Raising.{itself, Test, condition_plain, expression_plain, function_plain, tree_plain, is_plain, is_plain_expression, is_plain_function, is_plain_tree}
use Rattle.algebra.specs.declared.tree.Condition.{Condition, Condition-F, roll-Condition, map-Condition, fold-roll-Condition, ind-Condition}
use Rattle.algebra.specs.declared.tree.Expression.{Expression, Expression-F, roll-Expression, map-Expression, fold-roll-Expression}
use Rattle.algebra.specs.declared.tree.SetFunction.{SetFunction}
use Rattle.algebra.specs.declared.tree.Tree.{Tree}
use Rattle.rewrite_laws.proofs.PathLaws.{condition_be, condition_parts, expression_be, expression_parts}
use Rattle.rules.specs.Nodes.{Node}
use Rattle.rules.specs.Paths.{condition_inside, expression_inside, in_condition, in_expression, trees_of}
use Rattle.same_laws.proofs.Moved.{and_true}
use Rattle.planner.specs.Looks.{IsBare}

abbrev Bare : Condition → Type 0
Bare condition = is_plain condition ≡ true → IsBare (in_condition condition)

abbrev BareExpression : Expression → Type 0
BareExpression expression = is_plain_expression expression ≡ true → IsBare (in_expression expression)

abbrev Parts : ((A B C D : Type 0) → Type 0) → Type 0
Parts T = T ((x : Condition) × Bare x) ((x : Expression) × BareExpression x) (SetFunction × Unit {0}) (Tree × Unit {0})

abbrev condition_of : Parts Condition-F → Node Condition-F
condition_of y = map-Condition _ _ _ _ _ _ _ _ (λ p. p.0) (λ p. p.0) (λ p. p.0) (λ p. p.0) y

abbrev expression_of : Parts Expression-F → Node Expression-F
expression_of y = map-Expression _ _ _ _ _ _ _ _ (λ p. p.0) (λ p. p.0) (λ p. p.0) (λ p. p.0) y

abbrev pub plain_layer : Node Condition-F → Test Condition-F
plain_layer d = map-Condition _ _ _ _ _ _ _ _ is_plain is_plain_expression is_plain_function is_plain_tree d

pub plain_be : (d : Node Condition-F) → is_plain (roll-Condition d) ≡ condition_plain (plain_layer d)
unfolding is_plain is_plain_expression is_plain_function is_plain_tree
plain_be d = fold-roll-Condition _ _ _ _ condition_plain expression_plain function_plain tree_plain d

abbrev plain_expression_layer : Node Expression-F → Test Expression-F
plain_expression_layer d = map-Expression _ _ _ _ _ _ _ _ is_plain is_plain_expression is_plain_function is_plain_tree d

plain_expression_be : (d : Node Expression-F) → is_plain_expression (roll-Expression d) ≡ expression_plain (plain_expression_layer d)
unfolding is_plain is_plain_expression is_plain_function is_plain_tree
plain_expression_be d = fold-roll-Expression _ _ _ _ condition_plain expression_plain function_plain tree_plain d

abbrev operands_of : List ((x : Condition) × Bare x) → List Condition
operands_of xs = map (λ o. o.0) xs

all-bare : (xs : List ((x : Condition) × Bare x)) → list_all itself (map is_plain (operands_of xs)) ≡ true
    → trees_of (map in_condition (operands_of xs)) ≡ []
all-bare [] e = refl
all-bare (x ∷ xs) e =
    let p = and_true (is_plain x.0) (list_all itself (map is_plain (operands_of xs))) e in
    let one = x.1 p.0 in
    let rest = all-bare xs p.1 in
    λ i. one i ++ rest i

node-bare : (y : Parts Condition-F) → condition_plain (plain_layer (condition_of y)) ≡ true
    → (condition_inside (condition_parts (condition_of y))).trees ≡ []
node-bare (Condition-F.Or operands) e = all-bare operands e
node-bare (Condition-F.And operands) e = all-bare operands e
node-bare (Condition-F.Not operand) e = operand.1 e
node-bare (Condition-F.IsTruth operand truth) e = operand.1 e
node-bare (Condition-F.Compare op a b) e =
    let p = and_true (is_plain_expression a.0) (is_plain_expression b.0) e in
    let one = a.1 p.0 in
    let other = b.1 p.1 in
    λ i. one i ++ other i
node-bare (Condition-F.Between operand low high) e =
    let p = and_true (is_plain_expression operand.0) (is_plain_expression low.0 && is_plain_expression high.0) e in
    let q = and_true (is_plain_expression low.0) (is_plain_expression high.0) p.1 in
    let one = operand.1 p.0 in
    let below = low.1 q.0 in
    let above = high.1 q.1 in
    λ i. one i ++ (below i ++ above i)
node-bare (Condition-F.InList operand values) e = operand.1 e
node-bare (Condition-F.InQuery operand tree) e = absurd (cc (e))
node-bare (Condition-F.Like operand pattern) e =
    let p = and_true (is_plain_expression operand.0) (is_plain_expression pattern.0) e in
    let one = operand.1 p.0 in
    let other = pattern.1 p.1 in
    λ i. one i ++ other i
node-bare (Condition-F.IsNull operand) e = operand.1 e
node-bare (Condition-F.Exists tree) e = absurd (cc (e))

expression-bare : (y : Parts Expression-F) → expression_plain (plain_expression_layer (expression_of y)) ≡ true
    → (expression_inside (expression_parts (expression_of y))).trees ≡ []
expression-bare (Expression-F.Constant x) e = refl
expression-bare (Expression-F.Column depth place) e = refl
expression-bare (Expression-F.Calculation first others) e = absurd (cc (e))
expression-bare (Expression-F.Concatenation first others) e = absurd (cc (e))
expression-bare (Expression-F.Negation operand) e = absurd (cc (e))
expression-bare (Expression-F.Scalar tree) e = absurd (cc (e))

condition_node : (x : Node Condition-F) (y : Parts Condition-F) → condition_of y ≡ x → Bare (roll-Condition x)
condition_node x y is = subst (λ (z : Node Condition-F). Bare (roll-Condition z)) is
    (λ e. ap (λ z. z.trees) (condition_be (condition_of y)) ∙ node-bare y (sym (plain_be (condition_of y)) ∙ e))

expression_node : (x : Node Expression-F) (y : Parts Expression-F) → expression_of y ≡ x → BareExpression (roll-Expression x)
expression_node x y is = subst (λ (z : Node Expression-F). BareExpression (roll-Expression z)) is
    (λ e. ap (λ z. z.trees) (expression_be (expression_of y)) ∙ expression-bare y (sym (plain_expression_be (expression_of y)) ∙ e))

pub plain-bare : (condition : Condition) → Bare condition
plain-bare = ind-Condition Bare BareExpression (λ f. Unit {0}) (λ t. Unit {0}) condition_node expression_node
    (λ x y is. tt) (λ x y is. tt)
