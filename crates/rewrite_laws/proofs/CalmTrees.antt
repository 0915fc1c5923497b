-- A tree all of whose conditions are plain has no condition that may raise: by induction over the
-- trees.
use Rattle.algebra.specs.Raising.{itself, Test, condition_plain, function_plain, tree_plain, is_plain, is_plain_expression, is_plain_function, is_plain_tree, expression_plain, some_may}
use Rattle.algebra.specs.declared.tree.Condition.{Condition, Condition-F, roll-Condition, map-Condition, fold-roll-Condition, fold-Condition}
use Rattle.algebra.specs.declared.tree.Expression.{Expression, Expression-F, roll-Expression, map-Expression, fold-roll-Expression, the_lemmas, fold-Expression}
use Rattle.algebra.specs.declared.tree.SetFunction.{SetFunction, SetFunction-F, roll-SetFunction, map-SetFunction, fold-roll-SetFunction, fold-SetFunction}
use Rattle.algebra.specs.declared.tree.Tree.{Tree, Tree-F, roll-Tree, map-Tree, ind-Tree, fold-roll-Tree, fold-Tree, out-Tree}
use Rattle.denote.specs.Group.{members}
use Rattle.operator_laws.specs.Same.{Every}
use Rattle.rewrite_laws.proofs.Found.{some-is}
use Rattle.rewrite_laws.proofs.PathLaws.{expression_parts, expression_be, function_parts, function_be}
use Rattle.rewrite_laws.proofs.Whole.{trees-same}
use Rattle.rules.specs.Certain.{own_conditions, AllPlain}
use Rattle.rules.specs.Conjuncts.{others}
use Rattle.rules.specs.JoinKeys.{left_places, right_places}
use Rattle.rules.specs.Nodes.{Node}
use Rattle.rules.specs.Paths.{Inside, expression_inside, function_inside, in_condition, in_expression, in_function, node_inside, in_node, trees_of, node_at}
use Rattle.rules.specs.Quiet.{Calm, CalmLayer, all_calm, calm_condition, calm_in_expression, calm_expression, calm_in_function, calm_function, calm_in_tree, calm_tree, calm_at, conditions_quiet}
use Rattle.same_laws.proofs.Moved.{and_true}
use Rattle.std.proofs.Common.{◌≡◌, refl, sym, subst, ap, ◌∙◌, ℕ, zero, suc, Bool, List, [], ◌∷◌, ◌++◌, map, flat_map, Option, true, false, not, ◌&&◌, ◌||◌, Some, None, rules}
use Rattle.std.specs.List.{list_all}
use Rattle.std.specs.Prelude.{slice_get, option_and_then}
use Rattle.typing.specs.declared.typed.Arithmetic.{Arithmetic}

-- ---- what holds at all nodes of a tree holds at all nodes of its parts

every-found : {X : Type 0} (P : X → Type 0) (xs : List X) → ((n : ℕ) (x : X) → slice_get xs n ≡ Some x → P x)
    → Every P xs
every-found P [] h = tt
every-found P (x ∷ xs) h = (h zero x refl, every-found P xs (λ n y e. h (suc n) y e))

every-first : {X : Type 0} (P : X → Type 0) (xs ys : List X) → Every P (xs ++ ys) → Every P xs
every-first P [] ys h = tt
every-first P (x ∷ xs) ys h = (h.0, every-first P xs ys h.1)

every-last : {X : Type 0} (P : X → Type 0) (xs ys : List X) → Every P (xs ++ ys) → Every P ys
every-last P [] ys h = h
every-last P (x ∷ xs) ys h = every-last P xs ys h.1

pub parts-plain : (tree : Tree) → AllPlain tree → Every AllPlain (in_node tree).trees
parts-plain tree h = every-found AllPlain (in_node tree).trees
    (λ n part e path node f. h (n ∷ path) node (ap (option_and_then (node_at path)) e ∙ f))

-- so does what stands at the end of a path
pub node-plain : (path : List ℕ) (tree node : Tree) → node_at path tree ≡ Some node → AllPlain tree → AllPlain node
node-plain [] tree node e h = subst AllPlain (some-is e) h
node-plain (place ∷ path) tree node e h = at (slice_get (in_node tree).trees place) refl e
    (λ part is f. node-plain path part node f (below part is))
  where
    below : (part : Tree) → slice_get (in_node tree).trees place ≡ Some part → AllPlain part
    below part is further other g = h (place ∷ further) other (ap (option_and_then (node_at further)) is ∙ g)

    at : (found : Option Tree) → slice_get (in_node tree).trees place ≡ found
        → option_and_then (node_at path) found ≡ Some node
        → ((part : Tree) → slice_get (in_node tree).trees place ≡ Some part → node_at path part ≡ Some node
        → AllPlain node) → AllPlain node
    at None is f k = absurd (cc (f))
    at (Some part) is f k = k part is f

-- ---- the folds

abbrev calm_c : Condition → Bool
calm_c = fold-Condition _ _ _ _ calm_condition calm_expression calm_function calm_tree

abbrev calm_e : Expression → Calm
calm_e = fold-Expression _ _ _ _ calm_condition calm_expression calm_function calm_tree

abbrev calm_f : SetFunction → Calm
calm_f = fold-SetFunction _ _ _ _ calm_condition calm_expression calm_function calm_tree

abbrev calm_t : Tree → Calm
calm_t = fold-Tree _ _ _ _ calm_condition calm_expression calm_function calm_tree

calm-is : (tree : Tree) → calm_at tree ≡ calm_t tree
unfolding calm_at
calm-is tree = refl

abbrev condition_calm : Node Condition-F → CalmLayer Condition-F
condition_calm d = map-Condition _ _ _ _ _ _ _ _ calm_c calm_e calm_f calm_t d

calm_condition_be : (d : Node Condition-F) → calm_c (roll-Condition d) ≡ calm_condition (condition_calm d)
calm_condition_be d = fold-roll-Condition _ _ _ _ calm_condition calm_expression calm_function calm_tree d

abbrev expression_calm : Node Expression-F → CalmLayer Expression-F
expression_calm d = map-Expression _ _ _ _ _ _ _ _ calm_c calm_e calm_f calm_t d

calm_expression_be : (d : Node Expression-F) → calm_e (roll-Expression d) ≡ calm_expression (expression_calm d)
calm_expression_be d = fold-roll-Expression _ _ _ _ calm_condition calm_expression calm_function calm_tree d

abbrev function_calm : Node SetFunction-F → CalmLayer SetFunction-F
function_calm d = map-SetFunction _ _ _ _ _ _ _ _ calm_c calm_e calm_f calm_t d

calm_function_be : (d : Node SetFunction-F) → calm_f (roll-SetFunction d) ≡ calm_function (function_calm d)
calm_function_be d = fold-roll-SetFunction _ _ _ _ calm_condition calm_expression calm_function calm_tree d

abbrev tree_calm : Node Tree-F → CalmLayer Tree-F
tree_calm d = map-Tree _ _ _ _ _ _ _ _ calm_c calm_e calm_f calm_t d

calm_tree_be : (d : Node Tree-F) → calm_t (roll-Tree d) ≡ calm_tree (tree_calm d)
calm_tree_be d = fold-roll-Tree _ _ _ _ calm_condition calm_expression calm_function calm_tree d

abbrev plain_layer : Node Condition-F → Test Condition-F
plain_layer d = map-Condition _ _ _ _ _ _ _ _ is_plain is_plain_expression is_plain_function is_plain_tree d

plain_be : (d : Node Condition-F) → is_plain (roll-Condition d) ≡ condition_plain (plain_layer d)
unfolding is_plain is_plain_expression is_plain_function is_plain_tree
plain_be d = fold-roll-Condition _ _ _ _ condition_plain expression_plain function_plain tree_plain d

abbrev plain_expression_layer : Node Expression-F → Test Expression-F
plain_expression_layer d = map-Expression _ _ _ _ _ _ _ _ is_plain is_plain_expression is_plain_function is_plain_tree d

plain_expression_be : (d : Node Expression-F)
    → is_plain_expression (roll-Expression d) ≡ expression_plain (plain_expression_layer d)
unfolding is_plain is_plain_expression is_plain_function is_plain_tree
plain_expression_be d = fold-roll-Expression _ _ _ _ condition_plain expression_plain function_plain tree_plain d

-- ---- the induction

abbrev CalmCondition : Condition → Type 0
CalmCondition x = is_plain x ≡ true → calm_c x ≡ false

abbrev CalmExpression : Expression → Type 0
CalmExpression x = (is_plain_expression x ≡ true → (calm_e x).may ≡ false) × (Every AllPlain (in_expression x).trees
    → (calm_e x).calm ≡ true)

abbrev CalmFunction : SetFunction → Type 0
CalmFunction x = Every AllPlain (in_function x).trees → (calm_f x).calm ≡ true

abbrev CalmTree : Tree → Type 0
CalmTree x = AllPlain x → (calm_t x).calm ≡ true

abbrev Parts : ((A B C D : Type 0) → Type 0) → Type 0
Parts T = T ((x : Condition) × CalmCondition x) ((x : Expression) × CalmExpression x)
    ((x : SetFunction) × CalmFunction x) ((x : Tree) × CalmTree x)

abbrev condition_of : Parts Condition-F → Node Condition-F
condition_of y = map-Condition _ _ _ _ _ _ _ _ (λ p. p.0) (λ p. p.0) (λ p. p.0) (λ p. p.0) y

abbrev expression_of : Parts Expression-F → Node Expression-F
expression_of y = map-Expression _ _ _ _ _ _ _ _ (λ p. p.0) (λ p. p.0) (λ p. p.0) (λ p. p.0) y

abbrev function_part : Parts SetFunction-F → Node SetFunction-F
function_part y = map-SetFunction _ _ _ _ _ _ _ _ (λ p. p.0) (λ p. p.0) (λ p. p.0) (λ p. p.0) y

abbrev tree_of : Parts Tree-F → Node Tree-F
tree_of y = map-Tree _ _ _ _ _ _ _ _ (λ p. p.0) (λ p. p.0) (λ p. p.0) (λ p. p.0) y

none-may : (xs : List ((x : Condition) × CalmCondition x))
    → list_all itself (map is_plain (map (λ (o : (x : Condition) × CalmCondition x). o.0) xs)) ≡ true
    → some_may (map itself (map calm_c (map (λ (o : (x : Condition) × CalmCondition x). o.0) xs))) ≡ false
none-may [] h = refl
none-may (x ∷ xs) h =
    let p = and_true (is_plain x.0)
    (list_all itself (map is_plain (map (λ (o : (x : Condition) × CalmCondition x). o.0) xs))) h in
    λ i. x.1 p.0 i || none-may xs p.1 i

condition-calm : (y : Parts Condition-F) → condition_plain (plain_layer (condition_of y)) ≡ true
    → calm_condition (condition_calm (condition_of y)) ≡ false
condition-calm (Condition-F.Or operands) h = none-may operands h
condition-calm (Condition-F.And operands) h = none-may operands h
condition-calm (Condition-F.Not operand) h = operand.1 h
condition-calm (Condition-F.IsTruth operand truth) h = operand.1 h
condition-calm (Condition-F.Compare op a b) h =
    let p = and_true (is_plain_expression a.0) (is_plain_expression b.0) h in λ i. a.1.0 p.0 i || b.1.0 p.1 i
condition-calm (Condition-F.Between operand low high) h =
    let p = and_true (is_plain_expression operand.0) (is_plain_expression low.0 && is_plain_expression high.0) h in
    let q = and_true (is_plain_expression low.0) (is_plain_expression high.0) p.1 in
    λ i. operand.1.0 p.0 i || (low.1.0 q.0 i || high.1.0 q.1 i)
condition-calm (Condition-F.InList operand values) h = operand.1.0 h
condition-calm (Condition-F.InQuery operand tree) h = absurd (cc (h))
condition-calm (Condition-F.Like operand pattern) h =
    let p = and_true (is_plain_expression operand.0) (is_plain_expression pattern.0) h in λ i. operand.1.0 p.0 i ||
    pattern.1.0 p.1 i
condition-calm (Condition-F.IsNull operand) h = operand.1.0 h
condition-calm (Condition-F.Exists tree) h = absurd (cc (h))

expression-may : (y : Parts Expression-F) → expression_plain (plain_expression_layer (expression_of y)) ≡ true
    → (calm_expression (expression_calm (expression_of y))).may ≡ false
expression-may (Expression-F.Constant x) h = refl
expression-may (Expression-F.Column depth place) h = refl
expression-may (Expression-F.Calculation first others) h = absurd (cc (h))
expression-may (Expression-F.Concatenation first others) h = absurd (cc (h))
expression-may (Expression-F.Negation operand) h = absurd (cc (h))
expression-may (Expression-F.Scalar tree) h = absurd (cc (h))

items-calm : (xs : List ((x : Expression) × CalmExpression x))
    → Every AllPlain (trees_of (map in_expression (map (λ (o : (x : Expression) × CalmExpression x). o.0) xs)))
    → all_calm (map calm_e (map (λ (o : (x : Expression) × CalmExpression x). o.0) xs)) ≡ true
items-calm [] h = refl
items-calm (x ∷ xs) h =
    let more = trees_of (map in_expression (map (λ (o : (x : Expression) × CalmExpression x). o.0) xs)) in
    λ i. x.1.1 (every-first AllPlain (in_expression x.0).trees more h) i && items-calm xs
    (every-last AllPlain (in_expression x.0).trees more h) i

next-calm : (xs : List (Arithmetic × ((x : Expression) × CalmExpression x)))
    → Every AllPlain (flat_map (λ (o : Arithmetic × Inside Expression). o.1.trees)
    (map (λ (o : Arithmetic × Expression). (o.0, in_expression o.1))
    (map (λ (o : Arithmetic × ((x : Expression) × CalmExpression x)). (o.0, o.1.0)) xs)))
    → list_all (λ (other : Arithmetic × Calm). other.1.calm)
    (map (λ (o : Arithmetic × Expression). (o.0, calm_e o.1))
    (map (λ (o : Arithmetic × ((x : Expression) × CalmExpression x)). (o.0, o.1.0)) xs)) ≡ true
next-calm [] h = refl
next-calm (x ∷ xs) h =
    let more = flat_map (λ (o : Arithmetic × Inside Expression). o.1.trees)
    (map (λ (o : Arithmetic × Expression). (o.0, in_expression o.1))
    (map (λ (o : Arithmetic × ((x : Expression) × CalmExpression x)). (o.0, o.1.0)) xs)) in
    λ i. x.1.1.1 (every-first AllPlain (in_expression x.1.0).trees more h) i && next-calm xs
    (every-last AllPlain (in_expression x.1.0).trees more h) i

functions-calm : (xs : List ((x : SetFunction) × CalmFunction x))
    → Every AllPlain (trees_of (map in_function (map (λ (o : (x : SetFunction) × CalmFunction x). o.0) xs)))
    → all_calm (map calm_f (map (λ (o : (x : SetFunction) × CalmFunction x). o.0) xs)) ≡ true
functions-calm [] h = refl
functions-calm (x ∷ xs) h =
    let more = trees_of (map in_function (map (λ (o : (x : SetFunction) × CalmFunction x). o.0) xs)) in
    λ i. x.1 (every-first AllPlain (in_function x.0).trees more h) i && functions-calm xs
    (every-last AllPlain (in_function x.0).trees more h) i

expression-calm : (y : Parts Expression-F)
    → Every AllPlain (expression_inside (expression_parts (expression_of y))).trees
    → calm_in_expression (expression_calm (expression_of y)) ≡ true
expression-calm (Expression-F.Constant x) h = refl
expression-calm (Expression-F.Column depth place) h = refl
expression-calm (Expression-F.Calculation first others) h = λ i.
    first.1.1 (every-first AllPlain (in_expression first.0).trees _ h) i && next-calm others
    (every-last AllPlain (in_expression first.0).trees _ h) i
expression-calm (Expression-F.Concatenation first others) h = λ i.
    first.1.1 (every-first AllPlain (in_expression first.0).trees _ h) i && items-calm others
    (every-last AllPlain (in_expression first.0).trees _ h) i
expression-calm (Expression-F.Negation operand) h = operand.1.1 h
expression-calm (Expression-F.Scalar tree) h = tree.1 (subst AllPlain (trees-same tree.0) h.0)

function-calm : (y : Parts SetFunction-F) → Every AllPlain (function_inside (function_parts (function_part y))).trees
    → calm_in_function (function_calm (function_part y)) ≡ true
function-calm SetFunction-F.CountRows h = refl
function-calm (SetFunction-F.Over function is_distinct argument) h = argument.1.1 h

abbrev inside_of : Node Tree-F → Inside Tree
inside_of d = node_inside (map-Tree _ _ _ _ _ _ _ _ in_condition in_expression in_function (λ x. x) d)

-- the condition of a node is quiet
one-quiet : (condition : (x : Condition) × CalmCondition x) → list_all is_plain (condition.0 ∷ []) ≡ true
    → not (calm_c condition.0) ≡ true
one-quiet condition h = ap not (condition.1 (and_true (is_plain condition.0) true h).0)

tree-calm : (y : Parts Tree-F) → list_all is_plain (own_conditions (tree_of y)) ≡ true
    → Every AllPlain (inside_of (tree_of y)).trees → calm_in_tree (tree_calm (tree_of y)) ≡ true
tree-calm (Tree-F.Scan table) h k = refl
tree-calm (Tree-F.Filter condition rows) h k = λ i. one-quiet condition h i && rows.1 k.0 i
tree-calm (Tree-F.Product left right) h k = λ i. left.1 k.0 i && right.1 k.1.0 i
tree-calm (Tree-F.Inner on left right) h k = λ i. one-quiet on h i && (left.1 k.0 i && right.1 k.1.0 i)
tree-calm (Tree-F.Left on left right width) h k = λ i. one-quiet on h i && (left.1 k.0 i && right.1 k.1.0 i)
tree-calm (Tree-F.Half on left right) h k = λ i. one-quiet on h i && (left.1 k.0 i && right.1 k.1.0 i)
tree-calm (Tree-F.OppositeHalf on left right) h k = λ i. one-quiet on h i && (left.1 k.0 i && right.1 k.1.0 i)
tree-calm (Tree-F.Group columns functions rows) h k = λ i. functions-calm functions k.1 i && rows.1 k.0 i
tree-calm (Tree-F.Project items rows) h k = λ i. items-calm items k.1 i && rows.1 k.0 i
tree-calm (Tree-F.Distinct rows) h k = rows.1 k.0
tree-calm (Tree-F.Set op left right) h k = λ i. left.1 k.0 i && right.1 k.1.0 i
tree-calm (Tree-F.Sort keys rows) h k = rows.1 k.0
tree-calm (Tree-F.Seek table columns key) h k = refl
tree-calm (Tree-F.Range table columns low high) h k = refl
tree-calm (Tree-F.IndexLoop on left places table columns) h k = λ i. one-quiet on h i && left.1 k.0 i
tree-calm (Tree-F.HashJoin on left right left_places right_places) h k =
    λ i. one-quiet on h i && (left.1 k.0 i && right.1 k.1.0 i)
tree-calm (Tree-F.Member operand is_negated members rows) h k =
    λ i. operand.1.1 k.1.1 i && (members.1 k.1.0 i && rows.1 k.0 i)

condition_node : (x : Node Condition-F) (y : Parts Condition-F) → condition_of y ≡ x → CalmCondition (roll-Condition x)
condition_node x y is = subst (λ (z : Node Condition-F). CalmCondition (roll-Condition z)) is
    (λ h. calm_condition_be (condition_of y) ∙ condition-calm y (sym (plain_be (condition_of y)) ∙ h))

expression_node : (x : Node Expression-F) (y : Parts Expression-F) → expression_of y ≡ x
    → CalmExpression (roll-Expression x)
expression_node x y is = subst (λ (z : Node Expression-F). CalmExpression (roll-Expression z)) is (
  (λ h. ap (λ (z : Calm). z.may) (calm_expression_be (expression_of y))
      ∙ expression-may y (sym (plain_expression_be (expression_of y)) ∙ h)),
  (λ h. ap (λ (z : Calm). z.calm) (calm_expression_be (expression_of y))
      ∙ expression-calm y (subst (λ (p : Inside Expression). Every AllPlain p.trees)
      (expression_be (expression_of y)) h)),
)

function_node : (x : Node SetFunction-F) (y : Parts SetFunction-F) → function_part y ≡ x
    → CalmFunction (roll-SetFunction x)
function_node x y is = subst (λ (z : Node SetFunction-F). CalmFunction (roll-SetFunction z)) is
    (λ h. ap (λ (z : Calm). z.calm) (calm_function_be (function_part y))
    ∙ function-calm y (subst (λ (p : Inside SetFunction). Every AllPlain p.trees)
    (function_be (function_part y)) h))

out-rolled : (d : Node Tree-F) → out-Tree (roll-Tree d) ≡ d
out-rolled d = search (rules, the_lemmas)

tree_node : (x : Node Tree-F) (y : Parts Tree-F) → tree_of y ≡ x → CalmTree (roll-Tree x)
tree_node x y is = subst (λ (z : Node Tree-F). CalmTree (roll-Tree z)) is
    (λ h. ap (λ (z : Calm). z.calm) (calm_tree_be (tree_of y))
    ∙ tree-calm y (ap (λ d. list_all is_plain (own_conditions d)) (sym (out-rolled (tree_of y)))
    ∙ h [] (roll-Tree (tree_of y)) refl)
    (subst (λ (d : Node Tree-F). Every AllPlain (inside_of d).trees) (out-rolled (tree_of y))
    (parts-plain (roll-Tree (tree_of y)) h)))

calm-trees : (x : Tree) → CalmTree x
calm-trees = ind-Tree CalmCondition CalmExpression CalmFunction CalmTree condition_node expression_node function_node
    tree_node

-- a tree whose conditions are all plain
pub plain-quiet-tree : (tree : Tree) → AllPlain tree → conditions_quiet tree ≡ true
plain-quiet-tree tree h = ap (λ (z : Calm). z.calm) (calm-is tree) ∙ calm-trees tree h
