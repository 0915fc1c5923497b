-- Each node, taken apart into its parts in the order of paths, has in a place what is put there.
use Rattle.algebra.specs.declared.tree.Bound.{Bound}
use Rattle.algebra.specs.declared.tree.Condition.{Condition, Condition-F, roll-Condition, map-Condition, ind-Condition}
use Rattle.algebra.specs.declared.tree.Expression.{Expression, Expression-F, roll-Expression, map-Expression, ind-Expression, the_lemmas}
use Rattle.algebra.specs.declared.tree.SetFunction.{SetFunction, SetFunction-F, roll-SetFunction, map-SetFunction, ind-SetFunction}
use Rattle.algebra.specs.declared.tree.StoredTable.{StoredTable}
use Rattle.algebra.specs.declared.tree.Tree.{Tree, Tree-F, map-Tree, out-Tree}
use Rattle.denote.specs.Group.{members}
use Rattle.rewrite_laws.proofs.Inside.{split-place}
use Rattle.rewrite_laws.proofs.PathLaws.{tree_whole, condition_parts, condition_be, expression_parts, expression_be, function_parts, function_be}
use Rattle.rewrite_laws.proofs.There.{put, put-append, IsThere, there-none, there-subquery, there-alone, there-two, AllThere, there-several, sub_c, sub_e}
use Rattle.rewrite_laws.proofs.Whole.{trees-same}
use Rattle.rules.specs.Conjuncts.{others}
use Rattle.rules.specs.JoinKeys.{left_places, right_places}
use Rattle.rules.specs.Nodes.{Node}
use Rattle.rules.specs.Paths.{Inside, pairs_same, condition_inside, expression_inside, function_inside, in_condition, in_expression, in_function, node_inside, in_node, trees_of, pairs_changed, two, subquery, as_list, as_pairs, child}
use Rattle.sqlval.specs.declared.comparison.CompOp.{CompOp}
use Rattle.sqlval.specs.declared.truth.Truth.{Truth}
use Rattle.sqlval.specs.declared.value.Value.{Value}
use Rattle.std.proofs.Common.{◌≡◌, refl, sym, subst, ap, ◌∙◌, ℕ, Bool, List, [], ◌∷◌, ◌++◌, map, flat_map, Option, true, false, length, Some, rules}
use Rattle.std.proofs.lemmas.List.Folds.{flat_map-map}
use Rattle.std.specs.Prelude.{◌-◌, nat_lt, if◌then◌else◌, slice_get}
use Rattle.typing.specs.declared.typed.Arithmetic.{Arithmetic}
use Rattle.typing.specs.declared.typed.OrderKey.{OrderKey}
use Rattle.typing.specs.declared.typed.SetFunctionType.{SetFunctionType}
use Rattle.typing.specs.declared.typed.SetOperation.{SetOperation}
use Rattle.algebra.specs.declared.tree.Condition.TheVariants as c
use Rattle.algebra.specs.declared.tree.Expression.TheVariants as e
use Rattle.algebra.specs.declared.tree.SetFunction.TheVariants as f
use Rattle.algebra.specs.declared.tree.Tree.TheVariants as t

abbrev sub_f : SetFunction → List Tree
sub_f x = (in_function x).trees

abbrev sub_n : Tree → List Tree
sub_n x = (in_node x).trees

whole-is : (tree : Tree) → tree_whole tree ≡ tree
whole-is tree = trees-same tree

-- ---- the subqueries of what is put together

sub-or : (xs : List Condition) → sub_c (c.Or xs) ≡ trees_of (map in_condition xs)
unfolding in_condition in_expression in_function
sub-or xs = search (rules, the_lemmas)

sub-and : (xs : List Condition) → sub_c (c.And xs) ≡ trees_of (map in_condition xs)
unfolding in_condition in_expression in_function
sub-and xs = search (rules, the_lemmas)

sub-not : (x : Condition) → sub_c (c.Not x) ≡ sub_c x
unfolding in_condition in_expression in_function
sub-not x = search (rules, the_lemmas)

sub-test : (truth : Truth) (x : Condition) → sub_c (c.IsTruth x truth) ≡ sub_c x
unfolding in_condition in_expression in_function
sub-test truth x = search (rules, the_lemmas)

sub-compare : (op : CompOp) (a b : Expression) → sub_c (c.Compare op a b) ≡ sub_e a ++ sub_e b
unfolding in_condition in_expression in_function
sub-compare op a b = search (rules, the_lemmas)

sub-between : (x low high : Expression) → sub_c (c.Between x low high) ≡ sub_e x ++ (sub_e low ++ sub_e high)
unfolding in_condition in_expression in_function
sub-between x low high = search (rules, the_lemmas)

sub-in_list : (values : List Value) (x : Expression) → sub_c (c.InList x values) ≡ sub_e x
unfolding in_condition in_expression in_function
sub-in_list values x = search (rules, the_lemmas)

sub-in_whole : (x : Expression) (tree : Tree) → sub_c (c.InQuery x tree) ≡ sub_e x ++ (tree_whole tree ∷ [])
unfolding in_condition in_expression in_function
sub-in_whole x tree = search (rules, the_lemmas)

sub-in_query : (x : Expression) (tree : Tree) → sub_c (c.InQuery x tree) ≡ sub_e x ++ (tree ∷ [])
sub-in_query x tree = sub-in_whole x tree ∙ ap (λ z. sub_e x ++ (z ∷ [])) (whole-is tree)

sub-like : (a b : Expression) → sub_c (c.Like a b) ≡ sub_e a ++ sub_e b
unfolding in_condition in_expression in_function
sub-like a b = search (rules, the_lemmas)

sub-null : (x : Expression) → sub_c (c.IsNull x) ≡ sub_e x
unfolding in_condition in_expression in_function
sub-null x = search (rules, the_lemmas)

sub-exists_whole : (tree : Tree) → sub_c (c.Exists tree) ≡ tree_whole tree ∷ []
unfolding in_condition in_expression in_function
sub-exists_whole tree = search (rules, the_lemmas)

sub-exists : (tree : Tree) → sub_c (c.Exists tree) ≡ tree ∷ []
sub-exists tree = sub-exists_whole tree ∙ ap (λ z. z ∷ []) (whole-is tree)

sub-constant : (x : Value) → sub_e (e.Constant x) ≡ []
unfolding in_condition in_expression in_function
sub-constant x = search (rules, the_lemmas)

sub-column : (depth place : ℕ) → sub_e (e.Column depth place) ≡ []
unfolding in_condition in_expression in_function
sub-column depth place = search (rules, the_lemmas)

abbrev sub_o : Arithmetic × Expression → List Tree
sub_o o = sub_e o.1

sub-calculation : (first : Expression) (others : List (Arithmetic × Expression)) → sub_e (e.Calculation first others)
    ≡ sub_e first ++ flat_map (λ (o : Arithmetic × Inside Expression). o.1.trees)
    (map (λ (o : Arithmetic × Expression). (o.0, in_expression o.1)) others)
unfolding in_condition in_expression in_function
sub-calculation first others = search (rules, the_lemmas)

sub-concatenation : (first : Expression) (others : List Expression)
    → sub_e (e.Concatenation first others) ≡ sub_e first ++ trees_of (map in_expression others)
unfolding in_condition in_expression in_function
sub-concatenation first others = search (rules, the_lemmas)

sub-negation : (x : Expression) → sub_e (e.Negation x) ≡ sub_e x
unfolding in_condition in_expression in_function
sub-negation x = search (rules, the_lemmas)

sub-scalar_whole : (tree : Tree) → sub_e (e.Scalar tree) ≡ tree_whole tree ∷ []
unfolding in_condition in_expression in_function
sub-scalar_whole tree = search (rules, the_lemmas)

sub-scalar : (tree : Tree) → sub_e (e.Scalar tree) ≡ tree ∷ []
sub-scalar tree = sub-scalar_whole tree ∙ ap (λ z. z ∷ []) (whole-is tree)

sub-count : sub_f f.CountRows ≡ []
unfolding in_condition in_expression in_function
sub-count = search (rules, the_lemmas)

sub-over : (function : SetFunctionType) (is_distinct : Bool) (x : Expression)
    → sub_f (f.Over function is_distinct x) ≡ sub_e x
unfolding in_condition in_expression in_function
sub-over function is_distinct x = search (rules, the_lemmas)

-- ---- lists beside operators

flat-mapped : {X : Type 0} (inside : X → Inside X) (xs : List X)
    → trees_of (map inside xs) ≡ flat_map (λ x. (inside x).trees) xs
flat-mapped inside xs = flat_map-map (λ (x : Inside _). x.trees) inside xs

flat-pairs : (xs : List (Arithmetic × Expression))
    → flat_map (λ (o : Arithmetic × Inside Expression). o.1.trees)
    (map (λ (o : Arithmetic × Expression). (o.0, in_expression o.1)) xs) ≡ flat_map sub_o xs
flat-pairs [] = refl
flat-pairs (x ∷ xs) = ap (λ rest. sub_e x.1 ++ rest) (flat-pairs xs)

abbrev AllNextThere : List (Arithmetic × Inside Expression) → Type 0
AllNextThere [] = Unit {0}
AllNextThere (x ∷ xs) = IsThere sub_e x.1 × AllNextThere xs

pairs-whole : (xs : List (Arithmetic × Inside Expression)) → AllNextThere xs
    → flat_map sub_o (pairs_same xs) ≡ flat_map (λ (o : Arithmetic × Inside Expression). o.1.trees) xs
pairs-whole [] h = refl
pairs-whole (x ∷ xs) h = λ i. h.0.whole i ++ pairs-whole xs h.1 i

pairs-put : (xs : List (Arithmetic × Inside Expression)) → AllNextThere xs → (n : ℕ) (old new : Tree)
    → slice_get (flat_map (λ (o : Arithmetic × Inside Expression). o.1.trees) xs) n ≡ Some old
    → flat_map sub_o (pairs_changed xs n new) ≡ put (flat_map (λ (o : Arithmetic × Inside Expression). o.1.trees) xs) n
    new
pairs-put [] h n old new g = absurd (cc (g))
pairs-put (x ∷ xs) h n old new g =
    at (nat_lt n (length x.1.trees))
    (sym (split-place x.1.trees (flat_map (λ (o : Arithmetic × Inside Expression). o.1.trees) xs) n) ∙ g)
    (λ m k. pairs-put xs h.1 m old new k) (pairs-whole xs h.1)
    ∙ sym (put-append x.1.trees (flat_map (λ (o : Arithmetic × Inside Expression). o.1.trees) xs) n new)
  where
    at : (b : Bool) → (if b then slice_get x.1.trees n else slice_get
        (flat_map (λ (o : Arithmetic × Inside Expression). o.1.trees) xs) (n - length x.1.trees)) ≡ Some old
        → ((m : ℕ) → slice_get (flat_map (λ (o : Arithmetic × Inside Expression). o.1.trees) xs) m ≡ Some old
        → flat_map sub_o (pairs_changed xs m new)
        ≡ put (flat_map (λ (o : Arithmetic × Inside Expression). o.1.trees) xs) m new)
        → flat_map sub_o (pairs_same xs) ≡ flat_map (λ (o : Arithmetic × Inside Expression). o.1.trees) xs
        → flat_map sub_o (if b then (x.0, x.1.changed n new) ∷ pairs_same xs else (x.0, x.1.same) ∷ pairs_changed xs
        (n - length x.1.trees) new)
        ≡ (if b then put x.1.trees n new ++ flat_map (λ (o : Arithmetic × Inside Expression). o.1.trees) xs
        else x.1.trees ++ put (flat_map (λ (o : Arithmetic × Inside Expression). o.1.trees) xs)
        (n - length x.1.trees) new)
    at true k rest all = λ i. h.0.there n old new k i ++ all i
    at false k rest all = λ i. h.0.whole i ++ rest (n - length x.1.trees) k i

pairs-there : (xs : List (Arithmetic × Inside Expression)) → AllNextThere xs → IsThere (flat_map sub_o) (as_pairs xs)
pairs-there xs h = record { whole = pairs-whole xs h; there = λ n old new g. pairs-put xs h n old new g }

-- ---- the induction

abbrev ThereCondition : Condition → Type 0
ThereCondition x = IsThere sub_c (in_condition x)

abbrev ThereExpression : Expression → Type 0
ThereExpression x = IsThere sub_e (in_expression x)

abbrev ThereFunction : SetFunction → Type 0
ThereFunction x = IsThere sub_f (in_function x)

abbrev Parts : ((A B C D : Type 0) → Type 0) → Type 0
Parts T = T ((x : Condition) × ThereCondition x) ((x : Expression) × ThereExpression x)
    ((x : SetFunction) × ThereFunction x) (Tree × Unit {0})

abbrev condition_of : Parts Condition-F → Node Condition-F
condition_of y = map-Condition _ _ _ _ _ _ _ _ (λ p. p.0) (λ p. p.0) (λ p. p.0) (λ p. p.0) y

abbrev expression_of : Parts Expression-F → Node Expression-F
expression_of y = map-Expression _ _ _ _ _ _ _ _ (λ p. p.0) (λ p. p.0) (λ p. p.0) (λ p. p.0) y

abbrev function_part : Parts SetFunction-F → Node SetFunction-F
function_part y = map-SetFunction _ _ _ _ _ _ _ _ (λ p. p.0) (λ p. p.0) (λ p. p.0) (λ p. p.0) y

all-conditions : (xs : List ((x : Condition) × ThereCondition x))
    → AllThere sub_c (map in_condition (map (λ (o : (x : Condition) × ThereCondition x). o.0) xs))
all-conditions [] = tt
all-conditions (x ∷ xs) = (x.1, all-conditions xs)

all-expressions : (xs : List ((x : Expression) × ThereExpression x))
    → AllThere sub_e (map in_expression (map (λ (o : (x : Expression) × ThereExpression x). o.0) xs))
all-expressions [] = tt
all-expressions (x ∷ xs) = (x.1, all-expressions xs)

all-next : (xs : List (Arithmetic × ((x : Expression) × ThereExpression x)))
    → AllNextThere (map (λ (o : Arithmetic × Expression). (o.0, in_expression o.1))
    (map (λ (o : Arithmetic × ((x : Expression) × ThereExpression x)). (o.0, o.1.0)) xs))
all-next [] = tt
all-next (x ∷ xs) = (x.1.1, all-next xs)

abbrev one_tree : Tree → List Tree
one_tree tree = tree ∷ []

abbrev sub_ee : Expression × Expression → List Tree
sub_ee p = sub_e p.0 ++ sub_e p.1

condition-there : (y : Parts Condition-F) → IsThere sub_c (condition_inside (condition_parts (condition_of y)))
condition-there (Condition-F.Or operands) =
    there-several sub_c sub_c c.Or _ (λ ys. sub-or ys ∙ flat-mapped in_condition ys) (all-conditions operands)
condition-there (Condition-F.And operands) = there-several sub_c sub_c c.And _ (λ ys. sub-and ys
    ∙ flat-mapped in_condition ys) (all-conditions operands)
condition-there (Condition-F.Not operand) = there-alone sub_c sub_c c.Not (in_condition operand.0) sub-not operand.1
condition-there (Condition-F.IsTruth operand truth) = there-alone sub_c sub_c (λ x. c.IsTruth x truth)
    (in_condition operand.0) (sub-test truth) operand.1
condition-there (Condition-F.Compare op a b) = there-two sub_e sub_e sub_c (c.Compare op) (in_expression a.0)
    (in_expression b.0) (sub-compare op) a.1 b.1
condition-there (Condition-F.Between operand low high) =
    there-two sub_e sub_ee sub_c (λ x (p : Expression × Expression). c.Between x p.0 p.1) (in_expression operand.0)
    (two (λ a b. (a, b)) (in_expression low.0) (in_expression high.0))
    (λ x p. sub-between x p.0 p.1) operand.1
    (there-two sub_e sub_e sub_ee (λ a b. (a, b)) (in_expression low.0) (in_expression high.0)
    (λ a b. refl) low.1 high.1)
condition-there (Condition-F.InList operand values) = there-alone sub_e sub_c (λ x. c.InList x values)
    (in_expression operand.0) (sub-in_list values) operand.1
condition-there (Condition-F.InQuery operand tree) =
    there-two sub_e one_tree sub_c c.InQuery (in_expression operand.0) (subquery (λ t. t) (tree_whole tree.0))
    sub-in_query operand.1
    (there-subquery one_tree (λ t. t) (tree_whole tree.0) (λ x. refl))
condition-there (Condition-F.Like operand pattern) = there-two sub_e sub_e sub_c c.Like (in_expression operand.0)
    (in_expression pattern.0) sub-like operand.1 pattern.1
condition-there (Condition-F.IsNull operand) =
    there-alone sub_e sub_c c.IsNull (in_expression operand.0) sub-null operand.1
condition-there (Condition-F.Exists tree) = there-subquery sub_c c.Exists (tree_whole tree.0) sub-exists

expression-there : (y : Parts Expression-F) → IsThere sub_e (expression_inside (expression_parts (expression_of y)))
expression-there (Expression-F.Constant x) = there-none sub_e (e.Constant x) (sub-constant x)
expression-there (Expression-F.Column depth place) = there-none sub_e (e.Column depth place) (sub-column depth place)
expression-there (Expression-F.Calculation first others) =
    there-two sub_e (flat_map sub_o) sub_e e.Calculation (in_expression first.0) (as_pairs _)
    (λ x xs. sub-calculation x xs ∙ ap (λ rest. sub_e x ++ rest) (flat-pairs xs)) first.1
    (pairs-there _ (all-next others))
expression-there (Expression-F.Concatenation first others) =
    there-two sub_e (flat_map sub_e) sub_e e.Concatenation (in_expression first.0) (as_list _)
    (λ x xs. sub-concatenation x xs ∙ ap (λ rest. sub_e x ++ rest) (flat-mapped in_expression xs)) first.1
    (there-several sub_e (flat_map sub_e) (λ ys. ys) _ (λ ys. refl) (all-expressions others))
expression-there (Expression-F.Negation operand) = there-alone sub_e sub_e e.Negation
    (in_expression operand.0) sub-negation operand.1
expression-there (Expression-F.Scalar tree) = there-subquery sub_e e.Scalar (tree_whole tree.0) sub-scalar

function-there : (y : Parts SetFunction-F) → IsThere sub_f (function_inside (function_parts (function_part y)))
function-there SetFunction-F.CountRows = there-none sub_f f.CountRows sub-count
function-there (SetFunction-F.Over function is_distinct argument) =
    there-alone sub_e sub_f (f.Over function is_distinct) (in_expression argument.0)
    (sub-over function is_distinct) argument.1

condition_node : (x : Node Condition-F) (y : Parts Condition-F) → condition_of y ≡ x → ThereCondition (roll-Condition x)
condition_node x y is = subst (λ (z : Node Condition-F). ThereCondition (roll-Condition z)) is
    (subst (λ (p : Inside Condition). IsThere sub_c p) (sym (condition_be (condition_of y))) (condition-there y))

expression_node : (x : Node Expression-F) (y : Parts Expression-F) → expression_of y ≡ x
    → ThereExpression (roll-Expression x)
expression_node x y is = subst (λ (z : Node Expression-F). ThereExpression (roll-Expression z)) is
    (subst (λ (p : Inside Expression). IsThere sub_e p) (sym (expression_be (expression_of y))) (expression-there y))

function_node : (x : Node SetFunction-F) (y : Parts SetFunction-F) → function_part y ≡ x
    → ThereFunction (roll-SetFunction x)
function_node x y is = subst (λ (z : Node SetFunction-F). ThereFunction (roll-SetFunction z)) is
    (subst (λ (p : Inside SetFunction). IsThere sub_f p) (sym (function_be (function_part y))) (function-there y))

conditions-there : (x : Condition) → ThereCondition x
conditions-there = ind-Condition ThereCondition ThereExpression ThereFunction
    (λ t. Unit {0}) condition_node expression_node function_node (λ x y is. tt)

expressions-there : (x : Expression) → ThereExpression x
expressions-there = ind-Expression ThereCondition ThereExpression ThereFunction
    (λ t. Unit {0}) condition_node expression_node function_node (λ x y is. tt)

functions-there : (x : SetFunction) → ThereFunction x
functions-there = ind-SetFunction ThereCondition ThereExpression ThereFunction
    (λ t. Unit {0}) condition_node expression_node function_node (λ x y is. tt)

-- ---- nodes

all-of-expressions : (xs : List Expression) → AllThere sub_e (map in_expression xs)
all-of-expressions [] = tt
all-of-expressions (x ∷ xs) = (expressions-there x, all-of-expressions xs)

all-of-functions : (xs : List SetFunction) → AllThere sub_f (map in_function xs)
all-of-functions [] = tt
all-of-functions (x ∷ xs) = (functions-there x, all-of-functions xs)

child-there : (tree : Tree) → IsThere one_tree (child tree)
child-there tree = there-subquery one_tree (λ t. t) tree (λ x. refl)

abbrev sub_tt : Tree × Tree → List Tree
sub_tt p = p.0 ∷ p.1 ∷ []

sides-there : (l r : Tree) → IsThere sub_tt (two (λ l r. (l, r)) (child l) (child r))
sides-there l r = there-two one_tree one_tree sub_tt (λ l r. (l, r)) (child l) (child r) (λ a b. refl) (child-there l)
    (child-there r)

node-scan : (table : StoredTable) → sub_n (t.Scan table) ≡ []
node-scan table = search (rules, the_lemmas)

pub node-filter : (s : Tree) (x : Condition) → sub_n (t.Filter x s) ≡ one_tree s ++ sub_c x
node-filter s x = search (rules, the_lemmas)

node-product : (l r : Tree) → sub_n (t.Product l r) ≡ one_tree l ++ one_tree r
node-product l r = search (rules, the_lemmas)

node-inner : (s : Tree × Tree) (x : Condition) → sub_n (t.Inner x s.0 s.1) ≡ sub_tt s ++ sub_c x
node-inner s x = search (rules, the_lemmas)

node-left : (width : ℕ) (s : Tree × Tree) (x : Condition) → sub_n (t.Left x s.0 s.1 width) ≡ sub_tt s ++ sub_c x
node-left width s x = search (rules, the_lemmas)

node-half : (s : Tree × Tree) (x : Condition) → sub_n (t.Half x s.0 s.1) ≡ sub_tt s ++ sub_c x
node-half s x = search (rules, the_lemmas)

node-opposite : (s : Tree × Tree) (x : Condition) → sub_n (t.OppositeHalf x s.0 s.1) ≡ sub_tt s ++ sub_c x
node-opposite s x = search (rules, the_lemmas)

node-group : (columns : Option (List ℕ)) (s : Tree) (xs : List SetFunction)
    → sub_n (t.Group columns xs s) ≡ one_tree s ++ trees_of (map in_function xs)
node-group columns s xs = search (rules, the_lemmas)

node-project : (s : Tree) (xs : List Expression)
    → sub_n (t.Project xs s) ≡ one_tree s ++ trees_of (map in_expression xs)
node-project s xs = search (rules, the_lemmas)

node-distinct : (s : Tree) → sub_n (t.Distinct s) ≡ one_tree s
node-distinct s = search (rules, the_lemmas)

node-set : (op : SetOperation) (l r : Tree) → sub_n (t.Set op l r) ≡ one_tree l ++ one_tree r
node-set op l r = search (rules, the_lemmas)

node-sort : (keys : List OrderKey) (s : Tree) → sub_n (t.Sort keys s) ≡ one_tree s
node-sort keys s = search (rules, the_lemmas)

node-seek : (table : StoredTable) (columns : List ℕ) (key : List Value) → sub_n (t.Seek table columns key) ≡ []
node-seek table columns key = search (rules, the_lemmas)

node-range : (table : StoredTable) (columns : List ℕ) (low high : Option Bound)
    → sub_n (t.Range table columns low high) ≡ []
node-range table columns low high = search (rules, the_lemmas)

node-index_loop : (places : List ℕ) (table : StoredTable) (columns : List ℕ) (s : Tree) (x : Condition)
    → sub_n (t.IndexLoop x s places table columns) ≡ one_tree s ++ sub_c x
node-index_loop places table columns s x = search (rules, the_lemmas)

node-hash_join : (places columns : List ℕ) (s : Tree × Tree) (x : Condition)
    → sub_n (t.HashJoin x s.0 s.1 places columns) ≡ sub_tt s ++ sub_c x
node-hash_join places columns s x = search (rules, the_lemmas)

node-member : (is_negated : Bool) (s : Tree × Tree) (x : Expression)
    → sub_n (t.Member x is_negated s.1 s.0) ≡ sub_tt s ++ sub_e x
node-member is_negated s x = search (rules, the_lemmas)

node-there : (d : Node Tree-F)
    → IsThere sub_n (node_inside (map-Tree _ _ _ _ _ _ _ _ in_condition in_expression in_function (λ x. x) d))
node-there (Tree-F.Scan table) = there-none sub_n (t.Scan table) (node-scan table)
node-there (Tree-F.Filter condition tree) = there-two one_tree sub_c sub_n (λ s x. t.Filter x s) (child tree)
    (in_condition condition) node-filter (child-there tree) (conditions-there condition)
node-there (Tree-F.Product left right) = there-two one_tree one_tree sub_n t.Product (child left)
    (child right) node-product (child-there left) (child-there right)
node-there (Tree-F.Inner on left right) =
    there-two sub_tt sub_c sub_n (λ (s : Tree × Tree) x. t.Inner x s.0 s.1)
    (two (λ l r. (l, r)) (child left) (child right)) (in_condition on) node-inner (sides-there left right)
    (conditions-there on)
node-there (Tree-F.Left on left right width) =
    there-two sub_tt sub_c sub_n (λ (s : Tree × Tree) x. t.Left x s.0 s.1 width)
    (two (λ l r. (l, r)) (child left) (child right)) (in_condition on) (node-left width) (sides-there left right)
    (conditions-there on)
node-there (Tree-F.Half on left right) =
    there-two sub_tt sub_c sub_n (λ (s : Tree × Tree) x. t.Half x s.0 s.1)
    (two (λ l r. (l, r)) (child left) (child right)) (in_condition on) node-half (sides-there left right)
    (conditions-there on)
node-there (Tree-F.OppositeHalf on left right) =
    there-two sub_tt sub_c sub_n (λ (s : Tree × Tree) x. t.OppositeHalf x s.0 s.1)
    (two (λ l r. (l, r)) (child left) (child right)) (in_condition on) node-opposite (sides-there left right)
    (conditions-there on)
node-there (Tree-F.Group columns functions rows) =
    there-two one_tree (flat_map sub_f) sub_n (λ s x. t.Group columns x s) (child rows) (as_list _)
    (λ s xs. node-group columns s xs ∙ ap (λ rest. one_tree s ++ rest) (flat-mapped in_function xs))
    (child-there rows)
    (there-several sub_f (flat_map sub_f) (λ ys. ys) _ (λ ys. refl) (all-of-functions functions))
node-there (Tree-F.Project items tree) =
    there-two one_tree (flat_map sub_e) sub_n (λ s x. t.Project x s) (child tree) (as_list _) (λ s xs. node-project s xs
    ∙ ap (λ rest. one_tree s ++ rest) (flat-mapped in_expression xs)) (child-there tree)
    (there-several sub_e (flat_map sub_e) (λ ys. ys) _ (λ ys. refl) (all-of-expressions items))
node-there (Tree-F.Distinct tree) = there-alone one_tree sub_n t.Distinct (child tree) node-distinct (child-there tree)
node-there (Tree-F.Set op left right) = there-two one_tree one_tree sub_n (t.Set op) (child left) (child right)
    (node-set op) (child-there left) (child-there right)
node-there (Tree-F.Sort keys tree) = there-alone one_tree sub_n (t.Sort keys) (child tree) (node-sort keys)
    (child-there tree)
node-there (Tree-F.Seek table columns key) = there-none sub_n (t.Seek table columns key) (node-seek table columns key)
node-there (Tree-F.Range table columns low high) = there-none sub_n (t.Range table columns low high)
    (node-range table columns low high)
node-there (Tree-F.IndexLoop on left places table columns) =
    there-two one_tree sub_c sub_n (λ s x. t.IndexLoop x s places table columns) (child left) (in_condition on)
    (node-index_loop places table columns) (child-there left) (conditions-there on)
node-there (Tree-F.HashJoin on left right left_places right_places) =
    there-two sub_tt sub_c sub_n (λ (s : Tree × Tree) x. t.HashJoin x s.0 s.1 left_places right_places)
    (two (λ l r. (l, r)) (child left) (child right)) (in_condition on) (node-hash_join left_places right_places)
    (sides-there left right) (conditions-there on)
node-there (Tree-F.Member operand is_negated members rows) =
    there-two sub_tt sub_e sub_n (λ (s : Tree × Tree) x. t.Member x is_negated s.1 s.0)
    (two (λ r m. (r, m)) (child rows) (child members)) (in_expression operand) (node-member is_negated)
    (sides-there rows members) (expressions-there operand)

pub nodes-there : (tree : Tree) → IsThere (λ x. (in_node x).trees) (in_node tree)
nodes-there tree = node-there (out-Tree tree)
