-- The parts of a node in the order of paths, a tree with another part, and what a rule makes at the
-- end of a path.
use Rattle.std.specs.Prelude.{ℕ, ◌-◌, nat_lt, if◌then◌else◌, List, [], ◌∷◌, ◌++◌, map, flat_map, length, slice_get, Option, Some, option_and_then}
use Rattle.std.specs.Option.{option_map}
use Rattle.algebra.specs.declared.tree.Expression.{Expression, Expression-F, fold-Expression}
use Rattle.algebra.specs.declared.tree.Expression.TheVariants as e
use Rattle.algebra.specs.declared.tree.Condition.{Condition, Condition-F, fold-Condition}
use Rattle.algebra.specs.declared.tree.Condition.TheVariants as c
use Rattle.algebra.specs.declared.tree.SetFunction.{SetFunction, SetFunction-F, fold-SetFunction}
use Rattle.algebra.specs.declared.tree.SetFunction.TheVariants as f
use Rattle.algebra.specs.declared.tree.Tree.{Tree, Tree-F, map-Tree, roll-Tree, out-Tree}
use Rattle.algebra.specs.declared.tree.Tree.TheVariants as t

-- A part of a node: itself, its subqueries in the order of the text, and the part with another tree
-- in the place of one of these.
pub record Inside (X : Type 0) : Type 0 where
  pub same : X
  pub trees : List Tree
  pub changed : ℕ → Tree → X

abbrev pub itself : {X : Type 0} → List (Inside X) → List X
itself = map (λ x. x.same)

abbrev pub trees_of : {X : Type 0} → List (Inside X) → List Tree
trees_of = flat_map (λ x. x.trees)

-- the n-th subquery of one part, or of what comes behind it
abbrev pub first_or_rest : {X Y : Type 0} → Inside X → ℕ → (ℕ → Y) → (ℕ → Y) → Y
first_or_rest x n first rest = if nat_lt n (length x.trees) then first n else rest (n - length x.trees)

abbrev pub list_changed : {X : Type 0} → List (Inside X) → ℕ → Tree → List X
list_changed [] n tree = []
list_changed (x ∷ xs) n tree = first_or_rest x n (λ n. x.changed n tree ∷ itself xs)
    (λ n. x.same ∷ list_changed xs n tree)

abbrev pub pairs_same : {O X : Type 0} → List (O × Inside X) → List (O × X)
pairs_same = map (λ o. (o.0, o.1.same))

abbrev pub pairs_changed : {O X : Type 0} → List (O × Inside X) → ℕ → Tree → List (O × X)
pairs_changed [] n tree = []
pairs_changed (x ∷ xs) n tree = first_or_rest x.1 n (λ n. (x.0, x.1.changed n tree) ∷ pairs_same xs)
    (λ n. (x.0, x.1.same) ∷ pairs_changed xs n tree)

-- ---- one part, two parts, a part and a list, a subquery alone

abbrev pub alone : {X Z : Type 0} → (X → Z) → Inside X → Inside Z
alone made x = record { same = made x.same; trees = x.trees; changed = λ n tree. made (x.changed n tree) }

abbrev pub two : {X Y Z : Type 0} → (X → Y → Z) → Inside X → Inside Y → Inside Z
two made x y = record {
  same = made x.same y.same;
  trees = x.trees ++ y.trees;
  changed =
      λ n tree. first_or_rest x n (λ n. made (x.changed n tree) y.same) (λ n. made x.same (y.changed n tree));
}

abbrev pub several : {X Z : Type 0} → (List X → Z) → List (Inside X) → Inside Z
several made xs = record {
  same = made (itself xs);
  trees = trees_of xs;
  changed =
      λ n tree. made (list_changed xs n tree);
}

abbrev pub no_part : {Z : Type 0} → Z → Inside Z
no_part z = record { same = z; trees = []; changed = λ n tree. z }

abbrev pub subquery : {Z : Type 0} → (Tree → Z) → Tree → Inside Z
subquery made tree = record { same = made tree; trees = tree ∷ []; changed = λ n tree. made tree }

-- a list as a part of something
abbrev pub as_list : {X : Type 0} → List (Inside X) → Inside (List X)
as_list xs = several (λ ys. ys) xs

abbrev pub as_pairs : {O X : Type 0} → List (O × Inside X) → Inside (List (O × X))
as_pairs xs = record { same = pairs_same xs; trees = flat_map (λ o. o.1.trees) xs; changed = pairs_changed xs }

-- ---- nodes: subqueries stay what they are, and are not looked into

abbrev pub InsideLayer : ((A B C D : Type 0) → Type 0) → Type 0
InsideLayer T = T (Inside Condition) (Inside Expression) (Inside SetFunction) Tree

abbrev pub expression_inside : InsideLayer Expression-F → Inside Expression
expression_inside (Expression-F.Constant x) = no_part (e.Constant x)
expression_inside (Expression-F.Column depth place) = no_part (e.Column depth place)
expression_inside (Expression-F.Calculation first others) = two e.Calculation first (as_pairs others)
expression_inside (Expression-F.Concatenation first others) = two e.Concatenation first (as_list others)
expression_inside (Expression-F.Negation operand) = alone e.Negation operand
expression_inside (Expression-F.Scalar tree) = subquery e.Scalar tree

abbrev pub condition_inside : InsideLayer Condition-F → Inside Condition
condition_inside (Condition-F.Or operands) = several c.Or operands
condition_inside (Condition-F.And operands) = several c.And operands
condition_inside (Condition-F.Not operand) = alone c.Not operand
condition_inside (Condition-F.IsTruth operand truth) = alone (λ x. c.IsTruth x truth) operand
condition_inside (Condition-F.Compare op a b) = two (c.Compare op) a b
condition_inside (Condition-F.Between operand low high) =
    two (λ x (p : Expression × Expression). c.Between x p.0 p.1) operand (two (λ a b. (a, b)) low high)
condition_inside (Condition-F.InList operand values) = alone (λ x. c.InList x values) operand
condition_inside (Condition-F.InQuery operand tree) = two c.InQuery operand (subquery (λ t. t) tree)
condition_inside (Condition-F.Like operand pattern) = two c.Like operand pattern
condition_inside (Condition-F.IsNull operand) = alone c.IsNull operand
condition_inside (Condition-F.Exists tree) = subquery c.Exists tree

abbrev pub function_inside : InsideLayer SetFunction-F → Inside SetFunction
function_inside SetFunction-F.CountRows = no_part f.CountRows
function_inside (SetFunction-F.Over function is_distinct argument) = alone (f.Over function is_distinct) argument

abbrev pub tree_inside : InsideLayer Tree-F → Tree
tree_inside d = roll-Tree (map-Tree _ _ _ _ _ _ _ _ (λ x. x.same) (λ x. x.same) (λ x. x.same) (λ x. x) d)

unfoldable pub in_expression : Expression → Inside Expression
in_expression = fold-Expression _ _ _ _ condition_inside expression_inside function_inside tree_inside

unfoldable pub in_condition : Condition → Inside Condition
in_condition = fold-Condition _ _ _ _ condition_inside expression_inside function_inside tree_inside

unfoldable pub in_function : SetFunction → Inside SetFunction
in_function = fold-SetFunction _ _ _ _ condition_inside expression_inside function_inside tree_inside

-- a child, as a part
abbrev pub child : Tree → Inside Tree
child tree = subquery (λ t. t) tree

-- the children, left first, and then the subqueries
abbrev pub node_inside : InsideLayer Tree-F → Inside Tree
node_inside (Tree-F.Scan table) = no_part (t.Scan table)
node_inside (Tree-F.Filter condition tree) = two (λ s x. t.Filter x s) (child tree) condition
node_inside (Tree-F.Product left right) = two t.Product (child left) (child right)
node_inside (Tree-F.Inner on left right) = two (λ (s : Tree × Tree) x. t.Inner x s.0 s.1)
    (two (λ l r. (l, r)) (child left) (child right)) on
node_inside (Tree-F.Left on left right width) = two (λ (s : Tree × Tree) x. t.Left x s.0 s.1 width)
    (two (λ l r. (l, r)) (child left) (child right)) on
node_inside (Tree-F.Half on left right) = two (λ (s : Tree × Tree) x. t.Half x s.0 s.1)
    (two (λ l r. (l, r)) (child left) (child right)) on
node_inside (Tree-F.OppositeHalf on left right) = two (λ (s : Tree × Tree) x. t.OppositeHalf x s.0 s.1)
    (two (λ l r. (l, r)) (child left) (child right)) on
node_inside (Tree-F.Group columns functions rows) = two (λ s x. t.Group columns x s) (child rows) (as_list functions)
node_inside (Tree-F.Project items tree) = two (λ s x. t.Project x s) (child tree) (as_list items)
node_inside (Tree-F.Distinct tree) = alone t.Distinct (child tree)
node_inside (Tree-F.Set op left right) = two (t.Set op) (child left) (child right)
node_inside (Tree-F.Sort keys tree) = alone (t.Sort keys) (child tree)
node_inside (Tree-F.Seek table columns key) = no_part (t.Seek table columns key)
node_inside (Tree-F.Range table columns low high) = no_part (t.Range table columns low high)
node_inside (Tree-F.IndexLoop on left places table columns) = two (λ s x. t.IndexLoop x s places table columns)
    (child left) on
node_inside (Tree-F.HashJoin on left right left_places right_places) =
    two (λ (s : Tree × Tree) x. t.HashJoin x s.0 s.1 left_places right_places)
    (two (λ l r. (l, r)) (child left) (child right)) on
node_inside (Tree-F.Member operand is_negated members rows) = two (λ (s : Tree × Tree) x. t.Member x is_negated s.1 s.0)
    (two (λ r m. (r, m)) (child rows) (child members)) operand

abbrev pub in_node : Tree → Inside Tree
in_node tree = node_inside (map-Tree _ _ _ _ _ _ _ _ in_condition in_expression in_function (λ x. x) (out-Tree tree))

-- ---- paths

-- the tree at a path, if there is one
abbrev pub node_at : List ℕ → Tree → Option Tree
node_at [] tree = Some tree
node_at (place ∷ path) tree = option_and_then (node_at path) (slice_get (in_node tree).trees place)

-- what is made at the end of a path
abbrev pub applied_at : (Tree → Option Tree) → List ℕ → Tree → Option Tree
applied_at here [] tree = here tree
applied_at here (place ∷ path) tree =
    option_and_then (λ part. option_map ((in_node tree).changed place) (applied_at here path part))
    (slice_get (in_node tree).trees place)
