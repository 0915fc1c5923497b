-- A condition whose columns stay where they are is the same condition: by induction over the trees.
use Rattle.std.proofs.Common.{◌≡◌, refl, subst, ◌∙◌, ℕ, List, [], ◌∷◌, map}
use Rattle.typing.specs.declared.typed.Arithmetic.{Arithmetic}
use Rattle.algebra.specs.declared.tree.Condition.{Condition, Condition-F, roll-Condition, map-Condition, fold-roll-Condition, ind-Condition}
use Rattle.algebra.specs.declared.tree.Expression.{Expression, Expression-F, roll-Expression, map-Expression, fold-Expression, fold-roll-Expression, ind-Expression}
use Rattle.algebra.specs.declared.tree.SetFunction.{SetFunction, SetFunction-F, roll-SetFunction, map-SetFunction, fold-SetFunction, fold-roll-SetFunction, ind-SetFunction}
use Rattle.algebra.specs.declared.tree.Tree.{Tree, Tree-F, roll-Tree, map-Tree, fold-Tree, fold-roll-Tree, ind-Tree}
use Rattle.rules.specs.Columns.{expression_moved, moved, moved_expression}
use Rattle.rules.specs.Nodes.{Node}
use Rattle.moved_conditions.specs.Shifted.{where_it_is}

abbrev stay : Condition → Condition
stay = moved where_it_is

abbrev stay_expression : Expression → Expression
stay_expression = moved_expression where_it_is

abbrev stay_function : SetFunction → SetFunction
stay_function = fold-SetFunction _ _ _ _ roll-Condition (expression_moved where_it_is) roll-SetFunction roll-Tree

abbrev stay_tree : Tree → Tree
stay_tree = fold-Tree _ _ _ _ roll-Condition (expression_moved where_it_is) roll-SetFunction roll-Tree

condition_be : (d : Node Condition-F)
    → stay (roll-Condition d) ≡ roll-Condition (map-Condition _ _ _ _ _ _ _ _ stay stay_expression stay_function stay_tree d)
unfolding moved moved_expression
condition_be d = fold-roll-Condition _ _ _ _ roll-Condition (expression_moved where_it_is) roll-SetFunction roll-Tree d

expression_be : (d : Node Expression-F) → stay_expression (roll-Expression d)
    ≡ expression_moved where_it_is (map-Expression _ _ _ _ _ _ _ _ stay stay_expression stay_function stay_tree d)
unfolding moved moved_expression
expression_be d = fold-roll-Expression _ _ _ _ roll-Condition (expression_moved where_it_is) roll-SetFunction roll-Tree d

function_be : (d : Node SetFunction-F) → stay_function (roll-SetFunction d)
    ≡ roll-SetFunction (map-SetFunction _ _ _ _ _ _ _ _ stay stay_expression stay_function stay_tree d)
unfolding moved moved_expression
function_be d = fold-roll-SetFunction _ _ _ _ roll-Condition (expression_moved where_it_is) roll-SetFunction roll-Tree d

tree_be : (d : Node Tree-F)
    → stay_tree (roll-Tree d) ≡ roll-Tree (map-Tree _ _ _ _ _ _ _ _ stay stay_expression stay_function stay_tree d)
unfolding moved moved_expression
tree_be d = fold-roll-Tree _ _ _ _ roll-Condition (expression_moved where_it_is) roll-SetFunction roll-Tree d

abbrev Parts : ((A B C D : Type 0) → Type 0) → Type 0
Parts T = T ((x : Condition) × (stay x ≡ x)) ((x : Expression) × (stay_expression x ≡ x))
    ((x : SetFunction) × (stay_function x ≡ x)) ((x : Tree) × (stay_tree x ≡ x))

abbrev condition_of : Parts Condition-F → Node Condition-F
condition_of y = map-Condition _ _ _ _ _ _ _ _ (λ p. p.0) (λ p. p.0) (λ p. p.0) (λ p. p.0) y

abbrev expression_of : Parts Expression-F → Node Expression-F
expression_of y = map-Expression _ _ _ _ _ _ _ _ (λ p. p.0) (λ p. p.0) (λ p. p.0) (λ p. p.0) y

abbrev function_of_part : Parts SetFunction-F → Node SetFunction-F
function_of_part y = map-SetFunction _ _ _ _ _ _ _ _ (λ p. p.0) (λ p. p.0) (λ p. p.0) (λ p. p.0) y

abbrev tree_of : Parts Tree-F → Node Tree-F
tree_of y = map-Tree _ _ _ _ _ _ _ _ (λ p. p.0) (λ p. p.0) (λ p. p.0) (λ p. p.0) y

same_list : {X : Type 0} (f : X → X) (xs : List ((x : X) × (f x ≡ x)))
    → map f (map (λ (o : (x : X) × (f x ≡ x)). o.0) xs) ≡ map (λ (o : (x : X) × (f x ≡ x)). o.0) xs
same_list f [] = refl
same_list f (x ∷ xs) = λ i. x.1 i ∷ same_list f xs i

same_pairs : (xs : List (Arithmetic × ((x : Expression) × (stay_expression x ≡ x))))
    → map {B = Arithmetic × Expression} (λ (o : Arithmetic × Expression). (o.0, stay_expression o.1))
    (map {B = Arithmetic × Expression} (λ (o : Arithmetic × ((x : Expression) × (stay_expression x ≡ x))). (o.0, o.1.0)) xs)
    ≡ map {B = Arithmetic × Expression} (λ (o : Arithmetic × ((x : Expression) × (stay_expression x ≡ x))). (o.0, o.1.0)) xs
same_pairs [] = refl
same_pairs (x ∷ xs) = λ i. (x.0, x.1.1 i) ∷ same_pairs xs i

condition_same : (y : Parts Condition-F)
    → roll-Condition (map-Condition _ _ _ _ _ _ _ _ stay stay_expression stay_function stay_tree (condition_of y))
    ≡ roll-Condition (condition_of y)
condition_same (Condition-F.Or operands) = λ i. roll-Condition (Condition-F.Or (same_list stay operands i))
condition_same (Condition-F.And operands) = λ i. roll-Condition (Condition-F.And (same_list stay operands i))
condition_same (Condition-F.Not operand) = λ i. roll-Condition (Condition-F.Not (operand.1 i))
condition_same (Condition-F.IsTruth operand truth) = λ i. roll-Condition (Condition-F.IsTruth (operand.1 i) truth)
condition_same (Condition-F.Compare op a b) = λ i. roll-Condition (Condition-F.Compare op (a.1 i) (b.1 i))
condition_same (Condition-F.Between operand low high) =
    λ i. roll-Condition (Condition-F.Between (operand.1 i) (low.1 i) (high.1 i))
condition_same (Condition-F.InList operand values) = λ i. roll-Condition (Condition-F.InList (operand.1 i) values)
condition_same (Condition-F.InQuery operand tree) = λ i. roll-Condition (Condition-F.InQuery (operand.1 i) (tree.1 i))
condition_same (Condition-F.Like operand pattern) = λ i. roll-Condition (Condition-F.Like (operand.1 i) (pattern.1 i))
condition_same (Condition-F.IsNull operand) = λ i. roll-Condition (Condition-F.IsNull (operand.1 i))
condition_same (Condition-F.Exists tree) = λ i. roll-Condition (Condition-F.Exists (tree.1 i))

expression_same : (y : Parts Expression-F)
    → expression_moved where_it_is (map-Expression _ _ _ _ _ _ _ _ stay stay_expression stay_function stay_tree (expression_of y))
    ≡ roll-Expression (expression_of y)
unfolding roll-Expression denote.Hole.Carrier.roll
expression_same (Expression-F.Constant x) = refl
expression_same (Expression-F.Column depth place) = refl
expression_same (Expression-F.Calculation first others) =
    λ i. roll-Expression (Expression-F.Calculation (first.1 i) (same_pairs others i))
expression_same (Expression-F.Concatenation first others) =
    λ i. roll-Expression (Expression-F.Concatenation (first.1 i) (same_list stay_expression others i))
expression_same (Expression-F.Negation operand) = λ i. roll-Expression (Expression-F.Negation (operand.1 i))
expression_same (Expression-F.Scalar tree) = λ i. roll-Expression (Expression-F.Scalar (tree.1 i))

function_same : (y : Parts SetFunction-F)
    → roll-SetFunction (map-SetFunction _ _ _ _ _ _ _ _ stay stay_expression stay_function stay_tree (function_of_part y))
    ≡ roll-SetFunction (function_of_part y)
function_same SetFunction-F.CountRows = refl
function_same (SetFunction-F.Over function is_distinct argument) =
    λ i. roll-SetFunction (SetFunction-F.Over function is_distinct (argument.1 i))

tree_same : (y : Parts Tree-F)
    → roll-Tree (map-Tree _ _ _ _ _ _ _ _ stay stay_expression stay_function stay_tree (tree_of y)) ≡ roll-Tree (tree_of y)
tree_same (Tree-F.Scan table) = refl
tree_same (Tree-F.Filter condition tree) = λ i. roll-Tree (Tree-F.Filter (condition.1 i) (tree.1 i))
tree_same (Tree-F.Product left right) = λ i. roll-Tree (Tree-F.Product (left.1 i) (right.1 i))
tree_same (Tree-F.Inner on left right) = λ i. roll-Tree (Tree-F.Inner (on.1 i) (left.1 i) (right.1 i))
tree_same (Tree-F.Left on left right width) = λ i. roll-Tree (Tree-F.Left (on.1 i) (left.1 i) (right.1 i) width)
tree_same (Tree-F.Half on left right) = λ i. roll-Tree (Tree-F.Half (on.1 i) (left.1 i) (right.1 i))
tree_same (Tree-F.OppositeHalf on left right) = λ i. roll-Tree (Tree-F.OppositeHalf (on.1 i) (left.1 i) (right.1 i))
tree_same (Tree-F.Group columns functions rows) =
    λ i. roll-Tree (Tree-F.Group columns (same_list stay_function functions i) (rows.1 i))
tree_same (Tree-F.Project items tree) = λ i. roll-Tree (Tree-F.Project (same_list stay_expression items i) (tree.1 i))
tree_same (Tree-F.Distinct tree) = λ i. roll-Tree (Tree-F.Distinct (tree.1 i))
tree_same (Tree-F.Set op left right) = λ i. roll-Tree (Tree-F.Set op (left.1 i) (right.1 i))
tree_same (Tree-F.Sort keys tree) = λ i. roll-Tree (Tree-F.Sort keys (tree.1 i))
tree_same (Tree-F.Seek table columns key) = refl
tree_same (Tree-F.Range table columns low high) = refl
tree_same (Tree-F.IndexLoop on left places table columns) =
    λ i. roll-Tree (Tree-F.IndexLoop (on.1 i) (left.1 i) places table columns)
tree_same (Tree-F.HashJoin on left right left_places right_places) =
    λ i. roll-Tree (Tree-F.HashJoin (on.1 i) (left.1 i) (right.1 i) left_places right_places)
tree_same (Tree-F.Member operand is_negated members rows) =
    λ i. roll-Tree (Tree-F.Member (operand.1 i) is_negated (members.1 i) (rows.1 i))

condition_node : (x : Node Condition-F) (y : Parts Condition-F) → condition_of y ≡ x → stay (roll-Condition x) ≡ roll-Condition x
condition_node x y is = subst (λ (z : Node Condition-F). stay (roll-Condition z) ≡ roll-Condition z) is
    (condition_be (condition_of y) ∙ condition_same y)

expression_node : (x : Node Expression-F) (y : Parts Expression-F) → expression_of y ≡ x
    → stay_expression (roll-Expression x) ≡ roll-Expression x
expression_node x y is = subst (λ (z : Node Expression-F). stay_expression (roll-Expression z) ≡ roll-Expression z) is
    (expression_be (expression_of y) ∙ expression_same y)

function_node : (x : Node SetFunction-F) (y : Parts SetFunction-F) → function_of_part y ≡ x
    → stay_function (roll-SetFunction x) ≡ roll-SetFunction x
function_node x y is = subst (λ (z : Node SetFunction-F). stay_function (roll-SetFunction z) ≡ roll-SetFunction z) is
    (function_be (function_of_part y) ∙ function_same y)

tree_node : (x : Node Tree-F) (y : Parts Tree-F) → tree_of y ≡ x → stay_tree (roll-Tree x) ≡ roll-Tree x
tree_node x y is = subst (λ (z : Node Tree-F). stay_tree (roll-Tree z) ≡ roll-Tree z) is (tree_be (tree_of y) ∙ tree_same y)

pub moved-nowhere : (condition : Condition) → moved where_it_is condition ≡ condition
moved-nowhere = ind-Condition (λ x. stay x ≡ x) (λ x. stay_expression x ≡ x) (λ x. stay_function x ≡ x) (λ x. stay_tree x ≡ x)
    condition_node expression_node function_node tree_node
