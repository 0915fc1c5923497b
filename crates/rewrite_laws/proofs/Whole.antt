-- A node taken apart and put together again is the node: by induction over the trees.
use Rattle.algebra.specs.declared.tree.Condition.{Condition, Condition-F, roll-Condition, map-Condition, ind-Condition}
use Rattle.algebra.specs.declared.tree.Expression.{Expression, Expression-F, roll-Expression, map-Expression, ind-Expression}
use Rattle.algebra.specs.declared.tree.SetFunction.{SetFunction, SetFunction-F, roll-SetFunction, map-SetFunction, ind-SetFunction}
use Rattle.algebra.specs.declared.tree.Tree.{Tree, Tree-F, roll-Tree, map-Tree, ind-Tree, fold-roll-Tree, out-Tree, roll-out-Tree}
use Rattle.denote.specs.Group.{members}
use Rattle.rewrite_laws.proofs.PathLaws.{tree_whole, condition_parts, condition_be, expression_parts, expression_be, function_parts, function_be, applied-keeps}
use Rattle.rules.specs.JoinKeys.{left_places, right_places}
use Rattle.rules.specs.Nodes.{Node}
use Rattle.rules.specs.Paths.{Inside, itself, pairs_same, InsideLayer, condition_inside, expression_inside, function_inside, tree_inside, in_condition, in_expression, in_function, node_inside, in_node, applied_at}
use Rattle.rules.specs.Same.{Keeps}
use Rattle.std.proofs.Common.{◌≡◌, refl, subst, ap, ◌∙◌, ℕ, List, [], ◌∷◌, map, Option, Some}
use Rattle.typing.specs.declared.typed.Arithmetic.{Arithmetic}

abbrev tree_layer : Node Tree-F → InsideLayer Tree-F
tree_layer d = map-Tree _ _ _ _ _ _ _ _ in_condition in_expression in_function tree_whole d

tree_be : (d : Node Tree-F) → tree_whole (roll-Tree d) ≡ tree_inside (tree_layer d)
unfolding in_condition in_expression in_function
tree_be d = fold-roll-Tree _ _ _ _ condition_inside expression_inside function_inside tree_inside d

abbrev SameCondition : Condition → Type 0
SameCondition x = (in_condition x).same ≡ x

abbrev SameExpression : Expression → Type 0
SameExpression x = (in_expression x).same ≡ x

abbrev SameFunction : SetFunction → Type 0
SameFunction x = (in_function x).same ≡ x

abbrev SameTree : Tree → Type 0
SameTree x = tree_whole x ≡ x

abbrev Parts : ((A B C D : Type 0) → Type 0) → Type 0
Parts T = T ((x : Condition) × SameCondition x) ((x : Expression) × SameExpression x)
    ((x : SetFunction) × SameFunction x) ((x : Tree) × SameTree x)

abbrev condition_of : Parts Condition-F → Node Condition-F
condition_of y = map-Condition _ _ _ _ _ _ _ _ (λ p. p.0) (λ p. p.0) (λ p. p.0) (λ p. p.0) y

abbrev expression_of : Parts Expression-F → Node Expression-F
expression_of y = map-Expression _ _ _ _ _ _ _ _ (λ p. p.0) (λ p. p.0) (λ p. p.0) (λ p. p.0) y

abbrev function_of_part : Parts SetFunction-F → Node SetFunction-F
function_of_part y = map-SetFunction _ _ _ _ _ _ _ _ (λ p. p.0) (λ p. p.0) (λ p. p.0) (λ p. p.0) y

abbrev tree_of : Parts Tree-F → Node Tree-F
tree_of y = map-Tree _ _ _ _ _ _ _ _ (λ p. p.0) (λ p. p.0) (λ p. p.0) (λ p. p.0) y

same_list : {X : Type 0} (inside : X → Inside X) (xs : List ((x : X) × ((inside x).same ≡ x)))
    → itself (map inside (map (λ (o : (x : X) × ((inside x).same ≡ x)). o.0) xs))
    ≡ map (λ (o : (x : X) × ((inside x).same ≡ x)). o.0) xs
same_list inside [] = refl
same_list inside (x ∷ xs) = λ i. x.1 i ∷ same_list inside xs i

same_pairs : (xs : List (Arithmetic × ((x : Expression) × SameExpression x)))
    → pairs_same (map (λ (o : Arithmetic × Expression). (o.0, in_expression o.1))
    (map (λ (o : Arithmetic × ((x : Expression) × SameExpression x)). (o.0, o.1.0)) xs))
    ≡ map (λ (o : Arithmetic × ((x : Expression) × SameExpression x)). (o.0, o.1.0)) xs
same_pairs [] = refl
same_pairs (x ∷ xs) = λ i. (x.0, x.1.1 i) ∷ same_pairs xs i

condition_same : (y : Parts Condition-F) → (condition_inside (condition_parts (condition_of y))).same
    ≡ roll-Condition (condition_of y)
unfolding roll-Condition denote.Hole.Carrier.roll
condition_same (Condition-F.Or operands) = λ i. roll-Condition (Condition-F.Or (same_list in_condition operands i))
condition_same (Condition-F.And operands) = λ i. roll-Condition (Condition-F.And (same_list in_condition operands i))
condition_same (Condition-F.Not operand) = λ i. roll-Condition (Condition-F.Not (operand.1 i))
condition_same (Condition-F.IsTruth operand truth) = λ i. roll-Condition (Condition-F.IsTruth (operand.1 i) truth)
condition_same (Condition-F.Compare op a b) = λ i. roll-Condition (Condition-F.Compare op (a.1 i) (b.1 i))
condition_same (Condition-F.Between operand low high) =
    λ i. roll-Condition (Condition-F.Between (operand.1 i) (low.1 i) (high.1 i))
condition_same (Condition-F.InList operand values) = λ i. roll-Condition (Condition-F.InList (operand.1 i) values)
condition_same (Condition-F.InQuery operand tree) = λ i. roll-Condition (Condition-F.InQuery (operand.1 i) (tree.1 i))
condition_same (Condition-F.Like operand pattern) = λ i. roll-Condition (Condition-F.Like (operand.1 i) (pattern.1 i))
condition_same (Condition-F.IsNull operand) = λ i. roll-Condition (Condition-F.IsNull (operand.1 i))
condition_same (Condition-F.Exists tree) = λ i. roll-Condition (Condition-F.Exists (tree.1 i))

expression_same : (y : Parts Expression-F) → (expression_inside (expression_parts (expression_of y))).same
    ≡ roll-Expression (expression_of y)
unfolding roll-Expression denote.Hole.Carrier.roll
expression_same (Expression-F.Constant x) = refl
expression_same (Expression-F.Column depth place) = refl
expression_same (Expression-F.Calculation first others) =
    λ i. roll-Expression (Expression-F.Calculation (first.1 i) (same_pairs others i))
expression_same (Expression-F.Concatenation first others) =
    λ i. roll-Expression (Expression-F.Concatenation (first.1 i) (same_list in_expression others i))
expression_same (Expression-F.Negation operand) = λ i. roll-Expression (Expression-F.Negation (operand.1 i))
expression_same (Expression-F.Scalar tree) = λ i. roll-Expression (Expression-F.Scalar (tree.1 i))

function_same : (y : Parts SetFunction-F) → (function_inside (function_parts (function_of_part y))).same
    ≡ roll-SetFunction (function_of_part y)
unfolding roll-SetFunction denote.Hole.Carrier.roll
function_same SetFunction-F.CountRows = refl
function_same (SetFunction-F.Over function is_distinct argument) =
    λ i. roll-SetFunction (SetFunction-F.Over function is_distinct (argument.1 i))

tree_same : (y : Parts Tree-F) → tree_inside (tree_layer (tree_of y)) ≡ roll-Tree (tree_of y)
tree_same (Tree-F.Scan table) = refl
tree_same (Tree-F.Filter condition tree) = λ i. roll-Tree (Tree-F.Filter (condition.1 i) (tree.1 i))
tree_same (Tree-F.Product left right) = λ i. roll-Tree (Tree-F.Product (left.1 i) (right.1 i))
tree_same (Tree-F.Inner on left right) = λ i. roll-Tree (Tree-F.Inner (on.1 i) (left.1 i) (right.1 i))
tree_same (Tree-F.Left on left right width) = λ i. roll-Tree (Tree-F.Left (on.1 i) (left.1 i) (right.1 i) width)
tree_same (Tree-F.Half on left right) = λ i. roll-Tree (Tree-F.Half (on.1 i) (left.1 i) (right.1 i))
tree_same (Tree-F.OppositeHalf on left right) = λ i. roll-Tree (Tree-F.OppositeHalf (on.1 i) (left.1 i) (right.1 i))
tree_same (Tree-F.Group columns functions rows) =
    λ i. roll-Tree (Tree-F.Group columns (same_list in_function functions i) (rows.1 i))
tree_same (Tree-F.Project items tree) = λ i. roll-Tree (Tree-F.Project (same_list in_expression items i) (tree.1 i))
tree_same (Tree-F.Distinct tree) = λ i. roll-Tree (Tree-F.Distinct (tree.1 i))
tree_same (Tree-F.Set op left right) = λ i. roll-Tree (Tree-F.Set op (left.1 i) (right.1 i))
tree_same (Tree-F.Sort keys tree) = λ i. roll-Tree (Tree-F.Sort keys (tree.1 i))
tree_same (Tree-F.Seek table columns key) = refl
tree_same (Tree-F.Range table columns low high) = refl
tree_same (Tree-F.IndexLoop on left places table columns) =
    λ i. roll-Tree (Tree-F.IndexLoop (on.1 i) (left.1 i) places table columns)
tree_same (Tree-F.HashJoin on left right left_places right_places) =
    λ i. roll-Tree (Tree-F.HashJoin (on.1 i) (left.1 i) (right.1 i) left_places right_places)
tree_same (Tree-F.Member operand is_negated members rows) =
    λ i. roll-Tree (Tree-F.Member (operand.1 i) is_negated (members.1 i) (rows.1 i))

condition_node : (x : Node Condition-F) (y : Parts Condition-F) → condition_of y ≡ x → SameCondition (roll-Condition x)
condition_node x y is = subst (λ (z : Node Condition-F). SameCondition (roll-Condition z)) is
    (ap (λ (p : Inside Condition). p.same) (condition_be (condition_of y)) ∙ condition_same y)

expression_node : (x : Node Expression-F) (y : Parts Expression-F) → expression_of y ≡ x
    → SameExpression (roll-Expression x)
expression_node x y is = subst (λ (z : Node Expression-F). SameExpression (roll-Expression z)) is
    (ap (λ (p : Inside Expression). p.same) (expression_be (expression_of y)) ∙ expression_same y)

function_node : (x : Node SetFunction-F) (y : Parts SetFunction-F) → function_of_part y ≡ x
    → SameFunction (roll-SetFunction x)
function_node x y is = subst (λ (z : Node SetFunction-F). SameFunction (roll-SetFunction z)) is
    (ap (λ (p : Inside SetFunction). p.same) (function_be (function_of_part y)) ∙ function_same y)

tree_node : (x : Node Tree-F) (y : Parts Tree-F) → tree_of y ≡ x → SameTree (roll-Tree x)
tree_node x y is = subst (λ (z : Node Tree-F). SameTree (roll-Tree z)) is (tree_be (tree_of y) ∙ tree_same y)

pub conditions-same : (x : Condition) → SameCondition x
conditions-same = ind-Condition SameCondition SameExpression SameFunction SameTree condition_node expression_node
    function_node tree_node

pub expressions-same : (x : Expression) → SameExpression x
expressions-same = ind-Expression SameCondition SameExpression SameFunction SameTree condition_node expression_node
    function_node tree_node

pub functions-same : (x : SetFunction) → SameFunction x
functions-same = ind-SetFunction SameCondition SameExpression SameFunction SameTree condition_node expression_node
    function_node tree_node

list-same : {X : Type 0} (inside : X → Inside X) → ((x : X) → (inside x).same ≡ x) → (xs : List X)
    → itself (map inside xs) ≡ xs
list-same inside h [] = refl
list-same inside h (x ∷ xs) = λ i. h x i ∷ list-same inside h xs i

node_same : (d : Node Tree-F)
    → (node_inside (map-Tree _ _ _ _ _ _ _ _ in_condition in_expression in_function (λ x. x) d)).same ≡ roll-Tree d
unfolding roll-Tree denote.Hole.Carrier.roll
node_same (Tree-F.Scan table) = refl
node_same (Tree-F.Filter condition tree) = λ i. roll-Tree (Tree-F.Filter (conditions-same condition i) tree)
node_same (Tree-F.Product left right) = refl
node_same (Tree-F.Inner on left right) = λ i. roll-Tree (Tree-F.Inner (conditions-same on i) left right)
node_same (Tree-F.Left on left right width) = λ i. roll-Tree (Tree-F.Left (conditions-same on i) left right width)
node_same (Tree-F.Half on left right) = λ i. roll-Tree (Tree-F.Half (conditions-same on i) left right)
node_same (Tree-F.OppositeHalf on left right) = λ i. roll-Tree (Tree-F.OppositeHalf (conditions-same on i) left right)
node_same (Tree-F.Group columns functions rows) =
    λ i. roll-Tree (Tree-F.Group columns (list-same in_function functions-same functions i) rows)
node_same (Tree-F.Project items tree) =
    λ i. roll-Tree (Tree-F.Project (list-same in_expression expressions-same items i) tree)
node_same (Tree-F.Distinct tree) = refl
node_same (Tree-F.Set op left right) = refl
node_same (Tree-F.Sort keys tree) = refl
node_same (Tree-F.Seek table columns key) = refl
node_same (Tree-F.Range table columns low high) = refl
node_same (Tree-F.IndexLoop on left places table columns) =
    λ i. roll-Tree (Tree-F.IndexLoop (conditions-same on i) left places table columns)
node_same (Tree-F.HashJoin on left right left_places right_places) =
    λ i. roll-Tree (Tree-F.HashJoin (conditions-same on i) left right left_places right_places)
node_same (Tree-F.Member operand is_negated members rows) =
    λ i. roll-Tree (Tree-F.Member (expressions-same operand i) is_negated members rows)

pub nodes-same : (tree : Tree) → (in_node tree).same ≡ tree
nodes-same tree = node_same (out-Tree tree) ∙ roll-out-Tree tree

-- soundness of the whole walk
pub walks-keep : (here : Tree → Option Tree) → ((old new : Tree) → here old ≡ Some new → Keeps new old)
    → (path : List ℕ) (old new : Tree) → applied_at here path old ≡ Some new → Keeps new old
walks-keep here keeps path old new e = applied-keeps nodes-same here keeps path old new e

pub trees-same : (x : Tree) → SameTree x
trees-same = ind-Tree SameCondition SameExpression SameFunction SameTree condition_node expression_node function_node
    tree_node
