-- What is made at the end of a path keeps the whole, where it keeps the node that stands there: by
-- induction over conditions and expressions, and over the path.
use Rattle.algebra.specs.declared.tree.Condition.{Condition, Condition-F, roll-Condition, map-Condition, fold-roll-Condition, ind-Condition}
use Rattle.algebra.specs.declared.tree.Expression.{Expression, Expression-F, roll-Expression, map-Expression, fold-roll-Expression, ind-Expression}
use Rattle.algebra.specs.declared.tree.SetFunction.{SetFunction, SetFunction-F, roll-SetFunction, map-SetFunction, fold-roll-SetFunction, ind-SetFunction}
use Rattle.algebra.specs.declared.tree.Tree.{Tree, Tree-F, map-Tree, fold-Tree, out-Tree}
use Rattle.denote.specs.Group.{members}
use Rattle.denote.specs.Outcome.{whole}
use Rattle.operator_laws.specs.Same.{Each}
use Rattle.rewrite_laws.proofs.Inside.{split-place, Good, good-none, good-subquery, good-alone, good-two, AllGood, list-good, good-several}
use Rattle.rewrite_laws.proofs.Parts.{KeepsNext, or-keeps, test-keeps, compare-keeps, between-keeps, in_list-keeps, like-keeps, null-keeps, negation-keeps, scalar_same, concatenation-keeps, calculation-keeps, over-keeps}
use Rattle.rules.specs.JoinKeys.{left_places, right_places}
use Rattle.rules.specs.Nodes.{Node}
use Rattle.rules.specs.Paths.{Inside, pairs_same, InsideLayer, condition_inside, expression_inside, function_inside, tree_inside, in_condition, in_expression, in_function, node_inside, in_node, applied_at, pairs_changed, two, subquery, as_list, as_pairs, child}
use Rattle.rules.specs.Same.{Keeps, KeepsCondition, KeepsExpression, KeepsFunction}
use Rattle.std.proofs.Common.{◌≡◌, refl, sym, subst, ◌∙◌, ℕ, Bool, List, [], ◌∷◌, map, flat_map, Option, true, false, length, Some, None}
use Rattle.std.specs.Option.{option_map}
use Rattle.std.specs.Prelude.{◌-◌, nat_lt, if◌then◌else◌, slice_get, option_and_then}
use Rattle.typing.specs.declared.typed.Arithmetic.{Arithmetic}
use Rattle.algebra.specs.declared.tree.Condition.TheVariants as c
use Rattle.same_laws.proofs.Composed as composed
use Rattle.algebra.specs.declared.tree.Expression.TheVariants as e
use Rattle.algebra.specs.declared.tree.SetFunction.TheVariants as f
use Rattle.algebra.specs.declared.tree.Tree.TheVariants as t

-- ---- the fold at a node

abbrev pub tree_whole : Tree → Tree
tree_whole = fold-Tree _ _ _ _ condition_inside expression_inside function_inside tree_inside

abbrev pub condition_parts : Node Condition-F → InsideLayer Condition-F
condition_parts d = map-Condition _ _ _ _ _ _ _ _ in_condition in_expression in_function tree_whole d

pub condition_be : (d : Node Condition-F) → in_condition (roll-Condition d) ≡ condition_inside (condition_parts d)
unfolding in_condition in_expression in_function
condition_be d = fold-roll-Condition _ _ _ _ condition_inside expression_inside function_inside tree_inside d

abbrev pub expression_parts : Node Expression-F → InsideLayer Expression-F
expression_parts d = map-Expression _ _ _ _ _ _ _ _ in_condition in_expression in_function tree_whole d

pub expression_be : (d : Node Expression-F) → in_expression (roll-Expression d) ≡ expression_inside (expression_parts d)
unfolding in_condition in_expression in_function
expression_be d = fold-roll-Expression _ _ _ _ condition_inside expression_inside function_inside tree_inside d

abbrev pub function_parts : Node SetFunction-F → InsideLayer SetFunction-F
function_parts d = map-SetFunction _ _ _ _ _ _ _ _ in_condition in_expression in_function tree_whole d

pub function_be : (d : Node SetFunction-F) → in_function (roll-SetFunction d) ≡ function_inside (function_parts d)
unfolding in_condition in_expression in_function
function_be d = fold-roll-SetFunction _ _ _ _ condition_inside expression_inside function_inside tree_inside d

-- ---- lists as parts

as_list-good : {X : Type 0} (R : X → X → Type 0) → ((a : X) → R a a) → (xs : List (Inside X)) → AllGood R xs
    → Good (Each R) (as_list xs)
as_list-good R r xs g n old new e k = list-good R r xs g n old new e k

pairs-same : (xs : List (Arithmetic × Inside Expression)) → Each KeepsNext (pairs_same xs) (pairs_same xs)
pairs-same [] = tt
pairs-same (x ∷ xs) = ((refl, composed.expression-refl x.1.same), pairs-same xs)

abbrev NextGood : List (Arithmetic × Inside Expression) → Type 0
NextGood [] = Unit {0}
NextGood (x ∷ xs) = Good KeepsExpression x.1 × NextGood xs

pairs-good : (xs : List (Arithmetic × Inside Expression)) → NextGood xs → Good (Each KeepsNext) (as_pairs xs)
pairs-good [] g n old new e k = tt
pairs-good (x ∷ xs) g n old new e k =
    at (nat_lt n (length x.1.trees))
    (sym (split-place x.1.trees (flat_map (λ (o : Arithmetic × Inside Expression). o.1.trees) xs) n) ∙ e)
    (λ m f. pairs-good xs g.1 m old new f k)
  where
    at : (b : Bool) → (if b then slice_get x.1.trees n else slice_get
        (flat_map (λ (o : Arithmetic × Inside Expression). o.1.trees) xs) (n - length x.1.trees)) ≡ Some old
        → ((m : ℕ) → slice_get (flat_map (λ (o : Arithmetic × Inside Expression). o.1.trees) xs) m ≡ Some old
        → Each KeepsNext (pairs_changed xs m new) (pairs_same xs))
        → Each KeepsNext (if b then (x.0, x.1.changed n new) ∷ pairs_same xs else (x.0, x.1.same) ∷ pairs_changed xs
        (n - length x.1.trees) new) ((x.0, x.1.same) ∷ pairs_same xs)
    at true f rest = ((refl, g.0 n old new f k), pairs-same xs)
    at false f rest = ((refl, composed.expression-refl x.1.same), rest (n - length x.1.trees) f)

-- two sides
abbrev Both : {X Y : Type 0} → (X → X → Type 0) → (Y → Y → Type 0) → (X × Y) → (X × Y) → Type 0
Both R S p q = R p.0 q.0 × S p.1 q.1

sides-good : {X Y : Type 0} (R : X → X → Type 0) (S : Y → Y → Type 0) (x : Inside X) (y : Inside Y) → ((a : X) → R a a)
    → ((b : Y) → S b b) → Good R x → Good S y → Good (Both R S) (two (λ a b. (a, b)) x y)
sides-good R S x y r s g h = good-two R S (Both R S) (λ a b. (a, b)) x y (λ a b p q k l. (k, l)) r s g h

-- ---- the induction

abbrev GoodCondition : Condition → Type 0
GoodCondition x = Good KeepsCondition (in_condition x)

abbrev GoodExpression : Expression → Type 0
GoodExpression x = Good KeepsExpression (in_expression x)

abbrev GoodFunction : SetFunction → Type 0
GoodFunction x = Good KeepsFunction (in_function x)

abbrev Parts : ((A B C D : Type 0) → Type 0) → Type 0
Parts T = T ((x : Condition) × GoodCondition x) ((x : Expression) × GoodExpression x)
    ((x : SetFunction) × GoodFunction x) (Tree × Unit {0})

abbrev condition_of : Parts Condition-F → Node Condition-F
condition_of y = map-Condition _ _ _ _ _ _ _ _ (λ p. p.0) (λ p. p.0) (λ p. p.0) (λ p. p.0) y

abbrev expression_of : Parts Expression-F → Node Expression-F
expression_of y = map-Expression _ _ _ _ _ _ _ _ (λ p. p.0) (λ p. p.0) (λ p. p.0) (λ p. p.0) y

abbrev function_of_part : Parts SetFunction-F → Node SetFunction-F
function_of_part y = map-SetFunction _ _ _ _ _ _ _ _ (λ p. p.0) (λ p. p.0) (λ p. p.0) (λ p. p.0) y

all-conditions : (xs : List ((x : Condition) × GoodCondition x))
    → AllGood KeepsCondition (map in_condition (map (λ (o : (x : Condition) × GoodCondition x). o.0) xs))
all-conditions [] = tt
all-conditions (x ∷ xs) = (x.1, all-conditions xs)

all-expressions : (xs : List ((x : Expression) × GoodExpression x))
    → AllGood KeepsExpression (map in_expression (map (λ (o : (x : Expression) × GoodExpression x). o.0) xs))
all-expressions [] = tt
all-expressions (x ∷ xs) = (x.1, all-expressions xs)

all-next : (xs : List (Arithmetic × ((x : Expression) × GoodExpression x)))
    → NextGood (map (λ (o : Arithmetic × Expression). (o.0, in_expression o.1))
    (map (λ (o : Arithmetic × ((x : Expression) × GoodExpression x)). (o.0, o.1.0)) xs))
all-next [] = tt
all-next (x ∷ xs) = (x.1.1, all-next xs)

next-refl : (xs : List (Arithmetic × Expression)) → Each KeepsNext xs xs
next-refl [] = tt
next-refl (x ∷ xs) = ((refl, composed.expression-refl x.1), next-refl xs)

list-refl : (xs : List Expression) → Each KeepsExpression xs xs
list-refl [] = tt
list-refl (x ∷ xs) = (composed.expression-refl x, list-refl xs)

condition_good : (y : Parts Condition-F) → Good KeepsCondition (condition_inside (condition_parts (condition_of y)))
condition_good (Condition-F.Or operands) =
    good-several KeepsCondition KeepsCondition c.Or _ or-keeps composed.condition-refl (all-conditions operands)
condition_good (Condition-F.And operands) = good-several KeepsCondition KeepsCondition c.And _ composed.and-keeps
    composed.condition-refl (all-conditions operands)
condition_good (Condition-F.Not operand) = good-alone KeepsCondition KeepsCondition c.Not
    (in_condition operand.0) composed.not-keeps operand.1
condition_good (Condition-F.IsTruth operand truth) = good-alone KeepsCondition KeepsCondition (λ x. c.IsTruth x truth)
    (in_condition operand.0) (test-keeps truth) operand.1
condition_good (Condition-F.Compare op a b) = good-two KeepsExpression KeepsExpression KeepsCondition (c.Compare op)
    (in_expression a.0) (in_expression b.0) (compare-keeps op) composed.expression-refl composed.expression-refl a.1 b.1
condition_good (Condition-F.Between operand low high) =
    good-two KeepsExpression (Both KeepsExpression KeepsExpression) KeepsCondition
    (λ x (p : Expression × Expression). c.Between x p.0 p.1) (in_expression operand.0)
    (two (λ a b. (a, b)) (in_expression low.0) (in_expression high.0))
    (λ a b p q h k. between-keeps a b p.0 q.0 p.1 q.1 h k.0 k.1) composed.expression-refl
    (λ p. (composed.expression-refl p.0, composed.expression-refl p.1)) operand.1
    (sides-good KeepsExpression KeepsExpression (in_expression low.0) (in_expression high.0) composed.expression-refl
    composed.expression-refl low.1 high.1)
condition_good (Condition-F.InList operand values) = good-alone KeepsExpression KeepsCondition (λ x. c.InList x values)
    (in_expression operand.0) (in_list-keeps values) operand.1
condition_good (Condition-F.InQuery operand tree) =
    good-two KeepsExpression Keeps KeepsCondition c.InQuery (in_expression operand.0)
    (subquery (λ t. t) (tree_whole tree.0)) composed.in_query-keeps composed.expression-refl composed.keeps-refl
    operand.1
    (good-subquery Keeps (λ t. t) (tree_whole tree.0) (λ new old k. k))
condition_good (Condition-F.Like operand pattern) = good-two KeepsExpression KeepsExpression KeepsCondition c.Like
    (in_expression operand.0) (in_expression pattern.0) like-keeps composed.expression-refl composed.expression-refl
    operand.1 pattern.1
condition_good (Condition-F.IsNull operand) = good-alone KeepsExpression KeepsCondition c.IsNull
    (in_expression operand.0) null-keeps operand.1
condition_good (Condition-F.Exists tree) = good-subquery KeepsCondition c.Exists
    (tree_whole tree.0) composed.exists-keeps

expression_good : (y : Parts Expression-F)
    → Good KeepsExpression (expression_inside (expression_parts (expression_of y)))
expression_good (Expression-F.Constant x) = good-none KeepsExpression (e.Constant x)
expression_good (Expression-F.Column depth place) = good-none KeepsExpression (e.Column depth place)
expression_good (Expression-F.Calculation first others) =
    good-two KeepsExpression (Each KeepsNext) KeepsExpression e.Calculation (in_expression first.0)
    (as_pairs _) calculation-keeps composed.expression-refl next-refl first.1 (pairs-good _ (all-next others))
expression_good (Expression-F.Concatenation first others) =
    good-two KeepsExpression (Each KeepsExpression) KeepsExpression e.Concatenation (in_expression first.0)
    (as_list _) concatenation-keeps composed.expression-refl list-refl first.1
    (as_list-good KeepsExpression composed.expression-refl _ (all-expressions others))
expression_good (Expression-F.Negation operand) = good-alone KeepsExpression KeepsExpression e.Negation
    (in_expression operand.0) negation-keeps operand.1
expression_good (Expression-F.Scalar tree) = good-subquery KeepsExpression e.Scalar (tree_whole tree.0)
    (λ new old k. composed.scalar-keeps new old k (scalar_same new old))

function_good : (y : Parts SetFunction-F) → Good KeepsFunction (function_inside (function_parts (function_of_part y)))
function_good SetFunction-F.CountRows = good-none KeepsFunction f.CountRows
function_good (SetFunction-F.Over function is_distinct argument) = good-alone KeepsExpression KeepsFunction
    (f.Over function is_distinct) (in_expression argument.0) (over-keeps function is_distinct) argument.1

condition_node : (x : Node Condition-F) (y : Parts Condition-F) → condition_of y ≡ x → GoodCondition (roll-Condition x)
condition_node x y is = subst (λ (z : Node Condition-F). GoodCondition (roll-Condition z)) is
    (subst (λ (p : Inside Condition). Good KeepsCondition p) (sym (condition_be (condition_of y))) (condition_good y))

expression_node : (x : Node Expression-F) (y : Parts Expression-F) → expression_of y ≡ x
    → GoodExpression (roll-Expression x)
expression_node x y is = subst (λ (z : Node Expression-F). GoodExpression (roll-Expression z)) is
    (subst (λ (p : Inside Expression). Good KeepsExpression p) (sym (expression_be (expression_of y)))
    (expression_good y))

function_node : (x : Node SetFunction-F) (y : Parts SetFunction-F) → function_of_part y ≡ x
    → GoodFunction (roll-SetFunction x)
function_node x y is = subst (λ (z : Node SetFunction-F). GoodFunction (roll-SetFunction z)) is
    (subst (λ (p : Inside SetFunction). Good KeepsFunction p) (sym (function_be (function_of_part y)))
    (function_good y))

pub conditions-good : (x : Condition) → GoodCondition x
conditions-good = ind-Condition GoodCondition GoodExpression GoodFunction (λ t. Unit {0}) condition_node expression_node
    function_node (λ x y is. tt)

pub expressions-good : (x : Expression) → GoodExpression x
expressions-good = ind-Expression GoodCondition GoodExpression GoodFunction
    (λ t. Unit {0}) condition_node expression_node function_node (λ x y is. tt)

pub functions-good : (x : SetFunction) → GoodFunction x
functions-good = ind-SetFunction GoodCondition GoodExpression GoodFunction
    (λ t. Unit {0}) condition_node expression_node function_node (λ x y is. tt)

-- ---- nodes of trees

functions-refl : (xs : List SetFunction) → Each KeepsFunction xs xs
functions-refl [] = tt
functions-refl (x ∷ xs) = (composed.function-refl x, functions-refl xs)

all-of-expressions : (xs : List Expression) → AllGood KeepsExpression (map in_expression xs)
all-of-expressions [] = tt
all-of-expressions (x ∷ xs) = (expressions-good x, all-of-expressions xs)

all-of-functions : (xs : List SetFunction) → AllGood KeepsFunction (map in_function xs)
all-of-functions [] = tt
all-of-functions (x ∷ xs) = (functions-good x, all-of-functions xs)

child-good : (tree : Tree) → Good Keeps (child tree)
child-good tree = good-subquery Keeps (λ t. t) tree (λ new old k. k)

abbrev Sides : Tree × Tree → Tree × Tree → Type 0
Sides = Both Keeps Keeps

both-good : (l r : Tree) → Good Sides (two (λ l r. (l, r)) (child l) (child r))
both-good l r = sides-good Keeps Keeps (child l) (child r) composed.keeps-refl composed.keeps-refl (child-good l)
    (child-good r)

sides-refl : (p : Tree × Tree) → Sides p p
sides-refl p = (composed.keeps-refl p.0, composed.keeps-refl p.1)

abbrev tree_parts : Node Tree-F → InsideLayer Tree-F
tree_parts d = map-Tree _ _ _ _ _ _ _ _ in_condition in_expression in_function (λ x. x) d

node_good : (d : Node Tree-F) → Good Keeps (node_inside (tree_parts d))
node_good (Tree-F.Scan table) = good-none Keeps (t.Scan table)
node_good (Tree-F.Filter condition tree) =
    good-two Keeps KeepsCondition Keeps (λ s x. t.Filter x s) (child tree) (in_condition condition)
    (λ a b p q h k. composed.filter-keeps p q a b k h) composed.keeps-refl composed.condition-refl (child-good tree)
    (conditions-good condition)
node_good (Tree-F.Product left right) = good-two Keeps Keeps Keeps t.Product (child left) (child right)
    (λ a b p q h k. composed.product-keeps a b p q h k) composed.keeps-refl composed.keeps-refl (child-good left)
    (child-good right)
node_good (Tree-F.Inner on left right) =
    good-two Sides KeepsCondition Keeps (λ (s : Tree × Tree) x. t.Inner x s.0 s.1)
    (two (λ l r. (l, r)) (child left) (child right)) (in_condition on)
    (λ a b p q h k. composed.inner-keeps p q a.0 b.0 a.1 b.1 k h.0 h.1)
    sides-refl composed.condition-refl (both-good left right) (conditions-good on)
node_good (Tree-F.Left on left right width) =
    good-two Sides KeepsCondition Keeps (λ (s : Tree × Tree) x. t.Left x s.0 s.1 width)
    (two (λ l r. (l, r)) (child left) (child right)) (in_condition on)
    (λ a b p q h k. composed.left-keeps p q a.0 b.0 a.1 b.1 k h.0 h.1 width)
    sides-refl composed.condition-refl (both-good left right) (conditions-good on)
node_good (Tree-F.Half on left right) =
    good-two Sides KeepsCondition Keeps (λ (s : Tree × Tree) x. t.Half x s.0 s.1)
    (two (λ l r. (l, r)) (child left) (child right)) (in_condition on)
    (λ a b p q h k. composed.half-keeps p q a.0 b.0 a.1 b.1 k h.0 h.1)
    sides-refl composed.condition-refl (both-good left right) (conditions-good on)
node_good (Tree-F.OppositeHalf on left right) =
    good-two Sides KeepsCondition Keeps (λ (s : Tree × Tree) x. t.OppositeHalf x s.0 s.1)
    (two (λ l r. (l, r)) (child left) (child right)) (in_condition on)
    (λ a b p q h k. composed.opposite-keeps p q a.0 b.0 a.1 b.1 k h.0 h.1)
    sides-refl composed.condition-refl (both-good left right) (conditions-good on)
node_good (Tree-F.Group columns functions rows) =
    good-two Keeps (Each KeepsFunction) Keeps (λ s x. t.Group columns x s) (child rows)
    (as_list (map in_function functions)) (λ a b p q h k. composed.group-keeps columns p q a b k h)
    composed.keeps-refl functions-refl
    (child-good rows) (as_list-good KeepsFunction composed.function-refl (map in_function functions)
    (all-of-functions functions))
node_good (Tree-F.Project items tree) =
    good-two Keeps (Each KeepsExpression) Keeps (λ s x. t.Project x s) (child tree) (as_list (map in_expression items))
    (λ a b p q h k. composed.project-keeps p q a b k h) composed.keeps-refl list-refl
    (child-good tree) (as_list-good KeepsExpression composed.expression-refl (map in_expression items)
    (all-of-expressions items))
node_good (Tree-F.Distinct tree) = good-alone Keeps Keeps t.Distinct (child tree) composed.distinct-keeps
    (child-good tree)
node_good (Tree-F.Set op left right) = good-two Keeps Keeps Keeps (t.Set op) (child left) (child right)
    (λ a b p q h k. composed.set-keeps op a b p q h k) composed.keeps-refl composed.keeps-refl (child-good left)
    (child-good right)
node_good (Tree-F.Sort keys tree) = good-alone Keeps Keeps (t.Sort keys) (child tree) (composed.sort-keeps keys)
    (child-good tree)
node_good (Tree-F.Seek table columns key) = good-none Keeps (t.Seek table columns key)
node_good (Tree-F.Range table columns low high) = good-none Keeps (t.Range table columns low high)
node_good (Tree-F.IndexLoop on left places table columns) =
    good-two Keeps KeepsCondition Keeps (λ s x. t.IndexLoop x s places table columns) (child left) (in_condition on)
    (λ a b p q h k. composed.index_loop-keeps p q a b places table columns k h)
    composed.keeps-refl composed.condition-refl (child-good left) (conditions-good on)
node_good (Tree-F.HashJoin on left right left_places right_places) =
    good-two Sides KeepsCondition Keeps (λ (s : Tree × Tree) x. t.HashJoin x s.0 s.1 left_places right_places)
    (two (λ l r. (l, r)) (child left) (child right)) (in_condition on)
    (λ a b p q h k. composed.hash_join-keeps p q a.0 b.0 a.1 b.1 k h.0 h.1 left_places right_places) sides-refl
    composed.condition-refl (both-good left right) (conditions-good on)
node_good (Tree-F.Member operand is_negated members rows) =
    good-two Sides KeepsExpression Keeps (λ (s : Tree × Tree) x. t.Member x is_negated s.1 s.0)
    (two (λ r m. (r, m)) (child rows) (child members)) (in_expression operand)
    (λ a b p q h k. composed.member-keeps p q is_negated a.1 b.1 a.0 b.0 k h.1 h.0) sides-refl composed.expression-refl
    (both-good rows members) (expressions-good operand)

-- ---- paths

-- Where what stands at the end of a path may be replaced, so may the whole. It asks that a node
-- taken apart and put together again is the node.
pub applied-keeps : ((tree : Tree) → (in_node tree).same ≡ tree) → (here : Tree → Option Tree)
    → ((old new : Tree) → here old ≡ Some new → Keeps new old)
    → (path : List ℕ) (old new : Tree) → applied_at here path old ≡ Some new → Keeps new old
applied-keeps whole here keeps [] old new e = keeps old new e
applied-keeps whole here keeps (place ∷ path) old new e =
    at (slice_get (in_node old).trees place) refl e
    (λ part part-new f. applied-keeps whole here keeps path part part-new f)
  where
    some-is : {x y : Tree} → Some x ≡ Some y → x ≡ y
    some-is e = cc

    made : (part : Tree) → slice_get (in_node old).trees place ≡ Some part → (found : Option Tree)
        → applied_at here path part ≡ found → option_map ((in_node old).changed place) found ≡ Some new
        → ((part-new : Tree) → applied_at here path part ≡ Some part-new → Keeps part-new part) → Keeps new old
    made part there (Some part-new) is f k =
        subst (λ (z : Tree). Keeps z old) (some-is f)
        (subst (λ (z : Tree). Keeps ((in_node old).changed place part-new) z) (whole old)
        (node_good (out-Tree old) place part part-new there (k part-new is)))
    made part there None is f k = absurd (cc (f))

    at : (found : Option Tree) → slice_get (in_node old).trees place ≡ found
        → option_and_then (λ part. option_map ((in_node old).changed place) (applied_at here path part)) found
        ≡ Some new
        → ((part part-new : Tree) → applied_at here path part ≡ Some part-new → Keeps part-new part) → Keeps new old
    at (Some part) there f k = made part there (applied_at here path part) refl f (k part)
    at None there f k = absurd (cc (f))
