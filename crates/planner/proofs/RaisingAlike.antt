-- What is told beside the quiet of conditions, whether a part may raise, is what the definition
-- says: by induction over the trees.
use Rattle.std.proofs.Common.{◌≡◌, refl, subst, ap, sym, ◌∙◌, Bool, ◌||◌, List, [], ◌∷◌, map}
use Rattle.algebra.specs.Raising.{itself, some_may, Test, condition_may, expression_may, function_may, tree_may, condition_may_raise, expression_may_raise, function_may_raise, tree_may_raise}
use Rattle.algebra.specs.declared.tree.Condition.{Condition, Condition-F, roll-Condition, map-Condition, fold-roll-Condition, fold-Condition, ind-Condition}
use Rattle.algebra.specs.declared.tree.Expression.{Expression, Expression-F, roll-Expression, map-Expression, fold-roll-Expression, fold-Expression}
use Rattle.algebra.specs.declared.tree.SetFunction.{SetFunction, SetFunction-F, roll-SetFunction, map-SetFunction, fold-roll-SetFunction, fold-SetFunction}
use Rattle.algebra.specs.declared.tree.Tree.{Tree, Tree-F, roll-Tree, map-Tree, fold-roll-Tree, fold-Tree}
use Rattle.rules.specs.Nodes.{Node}
use Rattle.rules.specs.Quiet.{Calm, CalmLayer, may_of, calm_condition, calm_expression, calm_function, calm_tree}

-- ---- the folds at a node

abbrev pub calm_c : Condition → Bool
calm_c = fold-Condition _ _ _ _ calm_condition calm_expression calm_function calm_tree

abbrev pub calm_e : Expression → Calm
calm_e = fold-Expression _ _ _ _ calm_condition calm_expression calm_function calm_tree

abbrev pub calm_f : SetFunction → Calm
calm_f = fold-SetFunction _ _ _ _ calm_condition calm_expression calm_function calm_tree

abbrev pub calm_t : Tree → Calm
calm_t = fold-Tree _ _ _ _ calm_condition calm_expression calm_function calm_tree

abbrev condition_calm : Node Condition-F → CalmLayer Condition-F
condition_calm d = map-Condition _ _ _ _ _ _ _ _ calm_c calm_e calm_f calm_t d

calm_condition_be : (d : Node Condition-F) → calm_c (roll-Condition d) ≡ calm_condition (condition_calm d)
calm_condition_be d = fold-roll-Condition _ _ _ _ calm_condition calm_expression calm_function calm_tree d

abbrev expression_calm : Node Expression-F → CalmLayer Expression-F
expression_calm d = map-Expression _ _ _ _ _ _ _ _ calm_c calm_e calm_f calm_t d

calm_expression_be : (d : Node Expression-F) → calm_e (roll-Expression d) ≡ calm_expression (expression_calm d)
calm_expression_be d = fold-roll-Expression _ _ _ _ calm_condition calm_expression calm_function calm_tree d

abbrev function_calm : Node SetFunction-F → CalmLayer SetFunction-F
function_calm d = map-SetFunction _ _ _ _ _ _ _ _ calm_c calm_e calm_f calm_t d

calm_function_be : (d : Node SetFunction-F) → calm_f (roll-SetFunction d) ≡ calm_function (function_calm d)
calm_function_be d = fold-roll-SetFunction _ _ _ _ calm_condition calm_expression calm_function calm_tree d

abbrev tree_calm : Node Tree-F → CalmLayer Tree-F
tree_calm d = map-Tree _ _ _ _ _ _ _ _ calm_c calm_e calm_f calm_t d

calm_tree_be : (d : Node Tree-F) → calm_t (roll-Tree d) ≡ calm_tree (tree_calm d)
calm_tree_be d = fold-roll-Tree _ _ _ _ calm_condition calm_expression calm_function calm_tree d

abbrev condition_raising : Node Condition-F → Test Condition-F
condition_raising d = map-Condition _ _ _ _ _ _ _ _ condition_may_raise expression_may_raise function_may_raise
    tree_may_raise d

may_condition_be : (d : Node Condition-F) → condition_may_raise (roll-Condition d) ≡ condition_may (condition_raising d)
unfolding condition_may_raise expression_may_raise function_may_raise tree_may_raise
may_condition_be d = fold-roll-Condition _ _ _ _ condition_may expression_may function_may tree_may d

abbrev expression_raising : Node Expression-F → Test Expression-F
expression_raising d = map-Expression _ _ _ _ _ _ _ _ condition_may_raise expression_may_raise function_may_raise
    tree_may_raise d

may_expression_be : (d : Node Expression-F)
    → expression_may_raise (roll-Expression d) ≡ expression_may (expression_raising d)
unfolding condition_may_raise expression_may_raise function_may_raise tree_may_raise
may_expression_be d = fold-roll-Expression _ _ _ _ condition_may expression_may function_may tree_may d

abbrev function_raising : Node SetFunction-F → Test SetFunction-F
function_raising d = map-SetFunction _ _ _ _ _ _ _ _ condition_may_raise expression_may_raise function_may_raise
    tree_may_raise d

may_function_be : (d : Node SetFunction-F)
    → function_may_raise (roll-SetFunction d) ≡ function_may (function_raising d)
unfolding condition_may_raise expression_may_raise function_may_raise tree_may_raise
may_function_be d = fold-roll-SetFunction _ _ _ _ condition_may expression_may function_may tree_may d

abbrev tree_raising : Node Tree-F → Test Tree-F
tree_raising d = map-Tree _ _ _ _ _ _ _ _ condition_may_raise expression_may_raise function_may_raise tree_may_raise d

may_tree_be : (d : Node Tree-F) → tree_may_raise (roll-Tree d) ≡ tree_may (tree_raising d)
unfolding condition_may_raise expression_may_raise function_may_raise tree_may_raise
may_tree_be d = fold-roll-Tree _ _ _ _ condition_may expression_may function_may tree_may d

-- ---- the induction

abbrev AlikeCondition : Condition → Type 0
AlikeCondition x = calm_c x ≡ condition_may_raise x

abbrev AlikeExpression : Expression → Type 0
AlikeExpression x = (calm_e x).may ≡ expression_may_raise x

abbrev AlikeFunction : SetFunction → Type 0
AlikeFunction x = (calm_f x).may ≡ function_may_raise x

abbrev AlikeTree : Tree → Type 0
AlikeTree x = (calm_t x).may ≡ tree_may_raise x

abbrev Parts : ((A B C D : Type 0) → Type 0) → Type 0
Parts T = T ((x : Condition) × AlikeCondition x) ((x : Expression) × AlikeExpression x)
    ((x : SetFunction) × AlikeFunction x) ((x : Tree) × AlikeTree x)

abbrev condition_of : Parts Condition-F → Node Condition-F
condition_of y = map-Condition _ _ _ _ _ _ _ _ (λ p. p.0) (λ p. p.0) (λ p. p.0) (λ p. p.0) y

abbrev expression_of : Parts Expression-F → Node Expression-F
expression_of y = map-Expression _ _ _ _ _ _ _ _ (λ p. p.0) (λ p. p.0) (λ p. p.0) (λ p. p.0) y

abbrev function_part : Parts SetFunction-F → Node SetFunction-F
function_part y = map-SetFunction _ _ _ _ _ _ _ _ (λ p. p.0) (λ p. p.0) (λ p. p.0) (λ p. p.0) y

abbrev tree_of : Parts Tree-F → Node Tree-F
tree_of y = map-Tree _ _ _ _ _ _ _ _ (λ p. p.0) (λ p. p.0) (λ p. p.0) (λ p. p.0) y

conditions-alike : (xs : List ((x : Condition) × AlikeCondition x))
    → some_may (map itself (map calm_c (map (λ (o : (x : Condition) × AlikeCondition x). o.0) xs)))
    ≡ some_may (map condition_may_raise (map (λ (o : (x : Condition) × AlikeCondition x). o.0) xs))
conditions-alike [] = refl
conditions-alike (x ∷ xs) = λ i. x.1 i || conditions-alike xs i

expressions-alike : (xs : List ((x : Expression) × AlikeExpression x))
    → some_may (map may_of (map calm_e (map (λ (o : (x : Expression) × AlikeExpression x). o.0) xs)))
    ≡ some_may (map expression_may_raise (map (λ (o : (x : Expression) × AlikeExpression x). o.0) xs))
expressions-alike [] = refl
expressions-alike (x ∷ xs) = λ i. x.1 i || expressions-alike xs i

functions-alike : (xs : List ((x : SetFunction) × AlikeFunction x))
    → some_may (map may_of (map calm_f (map (λ (o : (x : SetFunction) × AlikeFunction x). o.0) xs)))
    ≡ some_may (map function_may_raise (map (λ (o : (x : SetFunction) × AlikeFunction x). o.0) xs))
functions-alike [] = refl
functions-alike (x ∷ xs) = λ i. x.1 i || functions-alike xs i

condition-alike : (y : Parts Condition-F)
    → calm_condition (condition_calm (condition_of y)) ≡ condition_may (condition_raising (condition_of y))
condition-alike (Condition-F.Or operands) = conditions-alike operands
condition-alike (Condition-F.And operands) = conditions-alike operands
condition-alike (Condition-F.Not operand) = operand.1
condition-alike (Condition-F.IsTruth operand truth) = operand.1
condition-alike (Condition-F.Compare op a b) = λ i. a.1 i || b.1 i
condition-alike (Condition-F.Between operand low high) = λ i. operand.1 i || (low.1 i || high.1 i)
condition-alike (Condition-F.InList operand values) = operand.1
condition-alike (Condition-F.InQuery operand tree) = λ i. operand.1 i || tree.1 i
condition-alike (Condition-F.Like operand pattern) = λ i. operand.1 i || pattern.1 i
condition-alike (Condition-F.IsNull operand) = operand.1
condition-alike (Condition-F.Exists tree) = tree.1

expression-alike : (y : Parts Expression-F) → (calm_expression (expression_calm (expression_of y))).may
    ≡ expression_may (expression_raising (expression_of y))
expression-alike (Expression-F.Constant x) = refl
expression-alike (Expression-F.Column depth place) = refl
expression-alike (Expression-F.Calculation first others) = refl
expression-alike (Expression-F.Concatenation first others) = refl
expression-alike (Expression-F.Negation operand) = refl
expression-alike (Expression-F.Scalar tree) = refl

tree-alike : (y : Parts Tree-F) → (calm_tree (tree_calm (tree_of y))).may ≡ tree_may (tree_raising (tree_of y))
tree-alike (Tree-F.Scan table) = refl
tree-alike (Tree-F.Filter condition rows) = λ i. condition.1 i || rows.1 i
tree-alike (Tree-F.Product left right) = λ i. left.1 i || right.1 i
tree-alike (Tree-F.Inner on left right) = λ i. on.1 i || (left.1 i || right.1 i)
tree-alike (Tree-F.Left on left right width) = λ i. on.1 i || (left.1 i || right.1 i)
tree-alike (Tree-F.Half on left right) = λ i. on.1 i || (left.1 i || right.1 i)
tree-alike (Tree-F.OppositeHalf on left right) = λ i. on.1 i || (left.1 i || right.1 i)
tree-alike (Tree-F.Group columns functions rows) = λ i. functions-alike functions i || rows.1 i
tree-alike (Tree-F.Project items rows) = λ i. expressions-alike items i || rows.1 i
tree-alike (Tree-F.Distinct rows) = rows.1
tree-alike (Tree-F.Set op left right) = λ i. left.1 i || right.1 i
tree-alike (Tree-F.Sort keys rows) = rows.1
tree-alike (Tree-F.Seek table columns key) = refl
tree-alike (Tree-F.Range table columns low high) = refl
tree-alike (Tree-F.IndexLoop on left places table columns) = λ i. on.1 i || left.1 i
tree-alike (Tree-F.HashJoin on left right left_places right_places) = λ i. on.1 i || (left.1 i || right.1 i)
tree-alike (Tree-F.Member operand is_negated members rows) = λ i. operand.1 i || (members.1 i || rows.1 i)

condition_node : (x : Node Condition-F) (y : Parts Condition-F) → condition_of y ≡ x → AlikeCondition (roll-Condition x)
condition_node x y is = subst (λ (z : Node Condition-F). AlikeCondition (roll-Condition z)) is
    (calm_condition_be (condition_of y) ∙ condition-alike y ∙ sym (may_condition_be (condition_of y)))

expression_node : (x : Node Expression-F) (y : Parts Expression-F) → expression_of y ≡ x
    → AlikeExpression (roll-Expression x)
expression_node x y is = subst (λ (z : Node Expression-F). AlikeExpression (roll-Expression z)) is
    (ap (λ (z : Calm). z.may) (calm_expression_be (expression_of y)) ∙ expression-alike y
    ∙ sym (may_expression_be (expression_of y)))

function_node : (x : Node SetFunction-F) (y : Parts SetFunction-F) → function_part y ≡ x
    → AlikeFunction (roll-SetFunction x)
function_node x y is = subst (λ (z : Node SetFunction-F). AlikeFunction (roll-SetFunction z)) is
    (ap (λ (z : Calm). z.may) (calm_function_be (function_part y)) ∙ sym (may_function_be (function_part y)))

tree_node : (x : Node Tree-F) (y : Parts Tree-F) → tree_of y ≡ x → AlikeTree (roll-Tree x)
tree_node x y is = subst (λ (z : Node Tree-F). AlikeTree (roll-Tree z)) is
    (ap (λ (z : Calm). z.may) (calm_tree_be (tree_of y)) ∙ tree-alike y ∙ sym (may_tree_be (tree_of y)))

pub raises-alike : (x : Condition) → calm_c x ≡ condition_may_raise x
raises-alike = ind-Condition AlikeCondition AlikeExpression AlikeFunction AlikeTree condition_node expression_node
    function_node tree_node
