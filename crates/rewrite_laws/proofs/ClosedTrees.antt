-- A tree has the same outcome in surroundings that are alike where it looks: by induction over the
-- trees. As `closed_trees` has it of listings: only Group and Project are not the same text.
use Rattle.algebra.specs.Joined.{half_join, keyed_join}
use Rattle.algebra.specs.Meaning.{Layer, TreeMeaning, MeantFunction, Rows, Argument, function_of, condition_step, expression_step, function_step, value_by, truth_by, function_by, tree_by}
use Rattle.algebra.specs.TreeOutcome.{outcome_step, tree_outcome}
use Rattle.algebra.specs.declared.tree.Condition.{Condition, Condition-F, roll-Condition, map-Condition, fold-roll-Condition}
use Rattle.algebra.specs.declared.tree.Expression.{Expression, Expression-F, roll-Expression, map-Expression, fold-roll-Expression}
use Rattle.algebra.specs.declared.tree.SetFunction.{SetFunction, SetFunction-F, roll-SetFunction, map-SetFunction, fold-roll-SetFunction}
use Rattle.algebra.specs.declared.tree.Tree.{Tree, Tree-F, roll-Tree, map-Tree, ind-Tree, fold-roll-Tree}
use Rattle.algebra_laws.proofs.RolledTrees.{condition_meant, condition_rolled, expression_meant, expression_rolled, function_meant, function_rolled, tree_meant, tree_rolled}
use Rattle.closed_trees.specs.Outside.{Depths, Deep, all_depths, outwards, depths_of_condition, depths_of_expression, depths_of_function, depths_of_tree, depths_in_condition, depths_in_expression, depths_in_function, depths_in_tree, SeeAlike}
use Rattle.denote.specs.Condition.{ConditionMeaning, conjunction, disjunction, both, either}
use Rattle.denote.specs.Evaluation.{Env, Evaluation, ◌>>=◌, together, joined}
use Rattle.denote.specs.Expression.{ExpressionMeaning, cell, chained, concatenation, scalar}
use Rattle.denote.specs.From.{inner_join, left_join}
use Rattle.denote.specs.Group.{keys_of, members, group_row}
use Rattle.denote.specs.Meaning.{Tables}
use Rattle.denote.specs.Outcome.{each, through}
use Rattle.denote.specs.Select.{values_of}
use Rattle.rules.specs.JoinKeys.{left_places, right_places}
use Rattle.rules.specs.Nodes.{Node}
use Rattle.sqlval.specs.Value.{Row}
use Rattle.sqlval.specs.declared.value.Value.{Value}
use Rattle.std.proofs.Common.{◌≡◌, refl, sym, subst, ap, ◌∙◌, ℕ, zero, suc, List, [], ◌∷◌, ◌++◌, map, flat_map, Option, Ok}
use Rattle.typing.specs.declared.typed.Arithmetic.{Arithmetic}

-- ---- alike surroundings

on_left : (env others : Env) (xs ys : Depths) → SeeAlike env others (xs ++ ys) → SeeAlike env others xs
on_left env others [] ys alike = tt
on_left env others (x ∷ xs) ys alike = (alike.0, on_left env others xs ys alike.1)

on_right : (env others : Env) (xs ys : Depths) → SeeAlike env others (xs ++ ys) → SeeAlike env others ys
on_right env others [] ys alike = alike
on_right env others (x ∷ xs) ys alike = on_right env others xs ys alike.1

-- with one row more
inward : (env others : Env) (row : Row) (depths : Depths) → SeeAlike env others (outwards depths)
    → SeeAlike (row ∷ env) (row ∷ others) depths
inward env others row [] alike = tt
inward env others row (zero ∷ depths) alike = (refl, inward env others row depths alike)
inward env others row (suc depth ∷ depths) alike = (alike.0, inward env others row depths alike.1)

pub outwards-append : (xs ys : Depths) → outwards (xs ++ ys) ≡ outwards xs ++ outwards ys
outwards-append [] ys = refl
outwards-append (zero ∷ xs) ys = outwards-append xs ys
outwards-append (suc depth ∷ xs) ys = ap (λ more. depth ∷ more) (outwards-append xs ys)

-- ---- meanings that are held fast at some surroundings

abbrev frozen : {M : Type 0} → Env → (Env → M) → Env → M
frozen env meaning = λ _. meaning env

abbrev first_row : Env → Row
first_row [] = []
first_row (row ∷ rows) = row

-- but for the row that comes first
abbrev around : {M : Type 0} → Env → (Env → M) → Env → M
around env meaning = λ inner. meaning (first_row inner ∷ env)

abbrev seen_from : Env → MeantFunction → MeantFunction
seen_from env Rows = Rows
seen_from env (Argument function is_distinct argument) = Argument function is_distinct (around env argument)

-- what stands beside something, changed
abbrev at_second : {B A M : Type 0} → (A → M) → B × A → B × M
at_second f o = (o.0, f o.1)

abbrev without_proof : {B A : Type 0} {P : A → Type 0} → B × ((x : A) × P x) → B × A
without_proof o = (o.0, o.1.0)

conjunction-frozen : (parts : List ConditionMeaning) (env : Env)
    → conjunction (map (frozen env) parts) [] ≡ conjunction parts env
conjunction-frozen [] env = refl
conjunction-frozen (part ∷ parts) env = ap (λ rest. part env >>= (λ x. both x rest)) (conjunction-frozen parts env)

disjunction-frozen : (parts : List ConditionMeaning) (env : Env)
    → disjunction (map (frozen env) parts) [] ≡ disjunction parts env
disjunction-frozen [] env = refl
disjunction-frozen (part ∷ parts) env = ap (λ rest. part env >>= (λ x. either x rest)) (disjunction-frozen parts env)

chained-frozen : (parts : List (Arithmetic × ExpressionMeaning)) (x : Evaluation Value) (env : Env)
    → chained x (map (at_second {B = Arithmetic} (frozen env)) parts) [] ≡ chained x parts env
chained-frozen [] x env = refl
chained-frozen ((op, part) ∷ parts) x env = chained-frozen parts _ env

concatenation-frozen : (parts : List ExpressionMeaning) (x : Evaluation Value) (env : Env)
    → concatenation x (map (frozen env) parts) [] ≡ concatenation x parts env
concatenation-frozen [] x env = refl
concatenation-frozen (part ∷ parts) x env = concatenation-frozen parts _ env

values-frozen : (parts : List ExpressionMeaning) (env : Env)
    → values_of (map (frozen env) parts) [] ≡ values_of parts env
values-frozen [] env = refl
values-frozen (part ∷ parts) env = ap (λ rest. joined (part env) rest) (values-frozen parts env)

functions-seen : (functions : List MeantFunction) (env : Env) (rows : List Row)
    → map (λ function. function [] rows) (map function_of (map (seen_from env) functions))
    ≡ map (λ function. function env rows) (map function_of functions)
functions-seen [] env rows = refl
functions-seen (Rows ∷ functions) env rows = ap (λ more. function_of Rows env rows ∷ more)
    (functions-seen functions env rows)
functions-seen (Argument function is_distinct argument ∷ functions) env rows =
    ap (λ more. function_of (Argument function is_distinct argument) env rows ∷ more)
    (functions-seen functions env rows)

groups-seen : (columns : Option (List ℕ)) (functions : List MeantFunction) (env : Env) (rows : List Row)
    → each (group_row columns (map function_of (map (seen_from env) functions)) [] rows) (keys_of columns rows)
    ≡ each (group_row columns (map function_of functions) env rows) (keys_of columns rows)
groups-seen columns functions env rows =
    λ i. each (λ key. together (functions-seen functions env (members columns key rows) i) >>=
    (λ values. Ok ((key ++ values) ∷ []))) (keys_of columns rows)

-- ---- the depths of a node

abbrev condition_deep : Node Condition-F → Deep Condition-F
condition_deep d = map-Condition _ _ _ _ _ _ _ _ depths_in_condition depths_in_expression depths_in_function
    depths_in_tree d

condition_depths_rolled : (d : Node Condition-F)
    → depths_in_condition (roll-Condition d) ≡ depths_of_condition (condition_deep d)
unfolding depths_in_condition depths_in_expression depths_in_function depths_in_tree
condition_depths_rolled d = fold-roll-Condition _ _ _ _ depths_of_condition depths_of_expression depths_of_function
    depths_of_tree d

abbrev expression_deep : Node Expression-F → Deep Expression-F
expression_deep d = map-Expression _ _ _ _ _ _ _ _ depths_in_condition depths_in_expression depths_in_function
    depths_in_tree d

expression_depths_rolled : (d : Node Expression-F)
    → depths_in_expression (roll-Expression d) ≡ depths_of_expression (expression_deep d)
unfolding depths_in_condition depths_in_expression depths_in_function depths_in_tree
expression_depths_rolled d = fold-roll-Expression _ _ _ _ depths_of_condition depths_of_expression depths_of_function
    depths_of_tree d

abbrev function_deep : Node SetFunction-F → Deep SetFunction-F
function_deep d = map-SetFunction _ _ _ _ _ _ _ _ depths_in_condition depths_in_expression depths_in_function
    depths_in_tree d

function_depths_rolled : (d : Node SetFunction-F)
    → depths_in_function (roll-SetFunction d) ≡ depths_of_function (function_deep d)
unfolding depths_in_condition depths_in_expression depths_in_function depths_in_tree
function_depths_rolled d = fold-roll-SetFunction _ _ _ _ depths_of_condition depths_of_expression depths_of_function
    depths_of_tree d

abbrev tree_deep : Node Tree-F → Deep Tree-F
tree_deep d = map-Tree _ _ _ _ _ _ _ _ depths_in_condition depths_in_expression depths_in_function depths_in_tree d

tree_depths_rolled : (d : Node Tree-F) → depths_in_tree (roll-Tree d) ≡ depths_of_tree (tree_deep d)
unfolding depths_in_condition depths_in_expression depths_in_function depths_in_tree
tree_depths_rolled d = fold-roll-Tree _ _ _ _ depths_of_condition depths_of_expression depths_of_function depths_of_tree
    d

module _ (tables : Tables) where
  abbrev step : Layer Tree-F → TreeMeaning
  step = outcome_step tables

  -- what it gives is the same in surroundings that are alike at these depths
  abbrev SeesAlike : {A M : Type 0} → (A → Depths) → (A → Env → M) → A → Type 0
  SeesAlike depths f x = (env others : Env) → SeeAlike env others (depths x) → f x env ≡ f x others

  abbrev SameCondition : Condition → Type 0
  SameCondition c = SeesAlike depths_in_condition (truth_by step) c

  abbrev SameExpression : Expression → Type 0
  SameExpression e = SeesAlike depths_in_expression (value_by step) e

  abbrev SameFunction : SetFunction → Type 0
  SameFunction f = (env others : Env) → SeeAlike env others (outwards (depths_in_function f))
      → seen_from env (function_by step f) ≡ seen_from others (function_by step f)

  abbrev SameTree : Tree → Type 0
  SameTree t = SeesAlike depths_in_tree (tree_by step) t

  -- parts one after another
  all_same : {A M : Type 0} (depths : A → Depths) (f : A → Env → M) (xs : List ((x : A) × SeesAlike depths f x))
      (env others : Env)
      → SeeAlike env others (all_depths (map depths (map (λ (o : (x : A) × SeesAlike depths f x). o.0) xs)))
      → map (frozen env) (map f (map (λ (o : (x : A) × SeesAlike depths f x). o.0) xs))
      ≡ map (frozen others) (map f (map (λ (o : (x : A) × SeesAlike depths f x). o.0) xs))
  all_same depths f [] env others alike = refl
  all_same {A} depths f (x ∷ xs) env others alike =
      let rest = all_depths (map depths (map (λ (o : (x : A) × SeesAlike depths f x). o.0) xs)) in
      let here = x.1 env others (on_left env others (depths x.0) rest alike) in
      let later = all_same depths f xs env others (on_right env others (depths x.0) rest alike) in
      λ i. (λ _. here i) ∷ later i

  -- parts with something beside each
  all_same_beside : {B A M : Type 0} (depths : A → Depths) (f : A → Env → M)
      (xs : List (B × ((x : A) × SeesAlike depths f x))) (env others : Env)
      → SeeAlike env others (flat_map (λ (o : B × Depths). o.1)
      (map (at_second {B = B} depths) (map (without_proof {B = B} {P = SeesAlike depths f}) xs)))
      → map (at_second {B = B} (frozen env))
      (map (at_second {B = B} f) (map (without_proof {B = B} {P = SeesAlike depths f}) xs))
      ≡ map (at_second {B = B} (frozen others))
      (map (at_second {B = B} f) (map (without_proof {B = B} {P = SeesAlike depths f}) xs))
  all_same_beside depths f [] env others alike = refl
  all_same_beside {B} {A} {M} depths f (x ∷ xs) env others alike =
      let rest : Depths = flat_map (λ (o : B × Depths). o.1)
      (map (at_second {B = B} depths) (map (without_proof {B = B} {P = SeesAlike depths f}) xs)) in
      let here : f x.1.0 env ≡ f x.1.0 others = x.1.1 env others (on_left env others (depths x.1.0) rest alike) in
      let later : map (at_second {B = B} (frozen env))
      (map (at_second {B = B} f) (map (without_proof {B = B} {P = SeesAlike depths f}) xs))
      ≡ map (at_second {B = B} (frozen others))
      (map (at_second {B = B} f) (map (without_proof {B = B} {P = SeesAlike depths f}) xs))
      = all_same_beside depths f xs env others (on_right env others (depths x.1.0) rest alike) in
      λ i. beside_it x.0 (here i) ∷ later i
    where
      beside_it : B → M → B × (Env → M)
      beside_it b m = (b, λ _. m)

  -- set functions one after another
  all_seen : (xs : List ((f : SetFunction) × SameFunction f)) (env others : Env)
      → SeeAlike env others (outwards
      (all_depths (map depths_in_function (map (λ (o : (f : SetFunction) × SameFunction f). o.0) xs))))
      → map (seen_from env) (map (function_by step) (map (λ (o : (f : SetFunction) × SameFunction f). o.0) xs))
      ≡ map (seen_from others) (map (function_by step) (map (λ (o : (f : SetFunction) × SameFunction f). o.0) xs))
  all_seen [] env others alike = refl
  all_seen (x ∷ xs) env others alike =
      let rest = all_depths (map depths_in_function (map (λ (o : (f : SetFunction) × SameFunction f). o.0) xs)) in
      let both_parts = subst (SeeAlike env others) (outwards-append (depths_in_function x.0) rest) alike in
      let here = x.1 env others (on_left env others (outwards (depths_in_function x.0)) (outwards rest) both_parts) in
      let later = all_seen xs env others
      (on_right env others (outwards (depths_in_function x.0)) (outwards rest) both_parts) in
      λ i. here i ∷ later i

  abbrev Parts : ((A B C D : Type 0) → Type 0) → Type 0
  Parts T = T ((c : Condition) × SameCondition c) ((e : Expression) × SameExpression e)
      ((f : SetFunction) × SameFunction f) ((t : Tree) × SameTree t)

  abbrev condition_of : Parts Condition-F → Node Condition-F
  condition_of y = map-Condition _ _ _ _ _ _ _ _ (λ p. p.0) (λ p. p.0) (λ p. p.0) (λ p. p.0) y

  abbrev expression_of : Parts Expression-F → Node Expression-F
  expression_of y = map-Expression _ _ _ _ _ _ _ _ (λ p. p.0) (λ p. p.0) (λ p. p.0) (λ p. p.0) y

  abbrev set_function_of : Parts SetFunction-F → Node SetFunction-F
  set_function_of y = map-SetFunction _ _ _ _ _ _ _ _ (λ p. p.0) (λ p. p.0) (λ p. p.0) (λ p. p.0) y

  abbrev tree_of : Parts Tree-F → Node Tree-F
  tree_of y = map-Tree _ _ _ _ _ _ _ _ (λ p. p.0) (λ p. p.0) (λ p. p.0) (λ p. p.0) y

  abbrev operands_of : (operands : List ((c : Condition) × SameCondition c)) → List ConditionMeaning
  operands_of operands = map (truth_by step) (map (λ (o : (c : Condition) × SameCondition c). o.0) operands)

  condition_parts : (y : Parts Condition-F) (env others : Env)
      → SeeAlike env others (depths_of_condition (condition_deep (condition_of y)))
      → condition_step (condition_meant step (condition_of y)) env
      ≡ condition_step (condition_meant step (condition_of y)) others
  condition_parts (Condition-F.Or operands) env others alike =
      sym (disjunction-frozen (operands_of operands) env)
      ∙ (λ i. disjunction (all_same depths_in_condition (truth_by step) operands env others alike i) [])
      ∙ disjunction-frozen (operands_of operands) others
  condition_parts (Condition-F.And operands) env others alike =
      sym (conjunction-frozen (operands_of operands) env)
      ∙ (λ i. conjunction (all_same depths_in_condition (truth_by step) operands env others alike i) [])
      ∙ conjunction-frozen (operands_of operands) others
  condition_parts (Condition-F.Not operand) env others alike =
      λ i. condition_step (Condition-F.Not (λ _. operand.1 env others alike i)) []
  condition_parts (Condition-F.IsTruth operand truth) env others alike =
      λ i. condition_step (Condition-F.IsTruth (λ _. operand.1 env others alike i) truth) []
  condition_parts (Condition-F.Compare op a b) env others alike =
      let x = a.1 env others (on_left env others (depths_in_expression a.0) (depths_in_expression b.0) alike) in
      let y = b.1 env others (on_right env others (depths_in_expression a.0) (depths_in_expression b.0) alike) in
      λ i. condition_step (Condition-F.Compare op (λ _. x i) (λ _. y i)) []
  condition_parts (Condition-F.Between a low high) env others alike =
      let bounds = on_right env others (depths_in_expression a.0)
      (depths_in_expression low.0 ++ depths_in_expression high.0) alike in
      let x = a.1 env others (on_left env others (depths_in_expression a.0)
      (depths_in_expression low.0 ++ depths_in_expression high.0) alike) in
      let y = low.1 env others (on_left env others (depths_in_expression low.0) (depths_in_expression high.0) bounds) in
      let z = high.1 env others (on_right env others (depths_in_expression low.0) (depths_in_expression high.0) bounds)
      in
      λ i. condition_step (Condition-F.Between (λ _. x i) (λ _. y i) (λ _. z i)) []
  condition_parts (Condition-F.InList operand values) env others alike =
      λ i. condition_step (Condition-F.InList (λ _. operand.1 env others alike i) values) []
  condition_parts (Condition-F.InQuery operand tree) env others alike =
      let x = operand.1 env others (on_left env others (depths_in_expression operand.0) (depths_in_tree tree.0) alike)
      in
      let rows = tree.1 env others (on_right env others (depths_in_expression operand.0) (depths_in_tree tree.0) alike)
      in
      λ i. condition_step (Condition-F.InQuery (λ _. x i) (λ _. rows i)) []
  condition_parts (Condition-F.Like operand pattern) env others alike =
      let x = operand.1 env others
      (on_left env others (depths_in_expression operand.0) (depths_in_expression pattern.0) alike) in
      let y = pattern.1 env others
      (on_right env others (depths_in_expression operand.0) (depths_in_expression pattern.0) alike) in
      λ i. condition_step (Condition-F.Like (λ _. x i) (λ _. y i)) []
  condition_parts (Condition-F.IsNull operand) env others alike =
      λ i. condition_step (Condition-F.IsNull (λ _. operand.1 env others alike i)) []
  condition_parts (Condition-F.Exists tree) env others alike =
      λ i. condition_step (Condition-F.Exists (λ _. tree.1 env others alike i)) []

  expression_parts : (y : Parts Expression-F) (env others : Env)
      → SeeAlike env others (depths_of_expression (expression_deep (expression_of y)))
      → expression_step (expression_meant step (expression_of y)) env
      ≡ expression_step (expression_meant step (expression_of y)) others
  expression_parts (Expression-F.Constant x) env others alike = refl
  expression_parts (Expression-F.Column depth place) env others alike = λ i. Ok (cell (alike.0 i) place)
  expression_parts (Expression-F.Calculation x more) env others alike =
      let operands : List (Arithmetic × Expression) =
      map (λ (o : Arithmetic × ((e : Expression) × SameExpression e)). (o.0, o.1.0)) more in
      let rest = flat_map (λ (o : Arithmetic × Depths). o.1)
      (map (λ (o : Arithmetic × Expression). (o.0, depths_in_expression o.1)) operands) in
      let first = x.1 env others (on_left env others (depths_in_expression x.0) rest alike) in
      let found = all_same_beside depths_in_expression (value_by step) more env others
      (on_right env others (depths_in_expression x.0) rest alike) in
      let meant = map (λ (o : Arithmetic × Expression). (o.0, value_by step o.1)) operands in
      sym (chained-frozen meant (value_by step x.0 env) env) ∙ (λ i. chained (first i) (found i) [])
      ∙ chained-frozen meant (value_by step x.0 others) others
  expression_parts (Expression-F.Concatenation x more) env others alike =
      let operands = map (λ (o : (e : Expression) × SameExpression e). o.0) more in
      let rest = all_depths (map depths_in_expression operands) in
      let first = x.1 env others (on_left env others (depths_in_expression x.0) rest alike) in
      let found = all_same depths_in_expression (value_by step) more env others
      (on_right env others (depths_in_expression x.0) rest alike) in
      sym (concatenation-frozen (map (value_by step) operands) (value_by step x.0 env) env)
      ∙ (λ i. concatenation (first i) (found i) [])
      ∙ concatenation-frozen (map (value_by step) operands) (value_by step x.0 others) others
  expression_parts (Expression-F.Negation operand) env others alike =
      λ i. expression_step (Expression-F.Negation (λ _. operand.1 env others alike i)) []
  expression_parts (Expression-F.Scalar tree) env others alike = λ i. scalar (tree.1 env others alike i)

  function_parts : (y : Parts SetFunction-F) (env others : Env)
      → SeeAlike env others (outwards (depths_of_function (function_deep (set_function_of y))))
      → seen_from env (function_step (function_meant step (set_function_of y)))
      ≡ seen_from others (function_step (function_meant step (set_function_of y)))
  function_parts SetFunction-F.CountRows env others alike = refl
  function_parts (SetFunction-F.Over function is_distinct argument) env others alike =
      λ i. Argument function is_distinct
      (λ inner. argument.1 (first_row inner ∷ env) (first_row inner ∷ others)
      (inward env others (first_row inner) (depths_in_expression argument.0) alike) i)

  -- a condition at one row more
  at_rows : (on : (c : Condition) × SameCondition c) (env others : Env)
      → SeeAlike env others (outwards (depths_in_condition on.0))
      → around env (truth_by step on.0) ≡ around others (truth_by step on.0)
  at_rows on env others alike = λ i inner. on.1 (first_row inner ∷ env) (first_row inner ∷ others)
      (inward env others (first_row inner) (depths_in_condition on.0) alike) i

  -- ON and two sides
  two_sides : (on : (c : Condition) × SameCondition c) (left right : (t : Tree) × SameTree t) (env others : Env)
      → SeeAlike env others (outwards (depths_in_condition on.0) ++ (depths_in_tree left.0 ++ depths_in_tree right.0))
      → (around env (truth_by step on.0) ≡ around others (truth_by step on.0))
      × ((tree_by step left.0 env ≡ tree_by step left.0 others)
      × (tree_by step right.0 env ≡ tree_by step right.0 others))
  two_sides on left right env others alike =
      let sides = on_right env others (outwards (depths_in_condition on.0))
      (depths_in_tree left.0 ++ depths_in_tree right.0) alike in (
        at_rows on env others (on_left env others (outwards (depths_in_condition on.0))
            (depths_in_tree left.0 ++ depths_in_tree right.0) alike),
        (
          left.1 env others (on_left env others (depths_in_tree left.0) (depths_in_tree right.0) sides),
          right.1 env others (on_right env others (depths_in_tree left.0) (depths_in_tree right.0) sides),
        ),
      )

  tree_same : (y : Parts Tree-F) (env others : Env) → SeeAlike env others (depths_of_tree (tree_deep (tree_of y)))
      → step (tree_meant step (tree_of y)) env ≡ step (tree_meant step (tree_of y)) others
  unfolding inner_join left_join half_join keyed_join
  tree_same (Tree-F.Scan table) env others alike = refl
  tree_same (Tree-F.Filter condition tree) env others alike =
      let on = at_rows condition env others
      (on_left env others (outwards (depths_in_condition condition.0)) (depths_in_tree tree.0) alike) in
      let rows = tree.1 env others
      (on_right env others (outwards (depths_in_condition condition.0)) (depths_in_tree tree.0) alike) in
      λ i. step (Tree-F.Filter (on i) (λ _. rows i)) []
  tree_same (Tree-F.Product left right) env others alike =
      let l = left.1 env others (on_left env others (depths_in_tree left.0) (depths_in_tree right.0) alike) in
      let r = right.1 env others (on_right env others (depths_in_tree left.0) (depths_in_tree right.0) alike) in
      λ i. step (Tree-F.Product (λ _. l i) (λ _. r i)) []
  tree_same (Tree-F.Inner on left right) env others alike = let same =
      two_sides on left right env others alike in λ i. step
      (Tree-F.Inner (same.0 i) (λ _. same.1.0 i) (λ _. same.1.1 i)) []
  tree_same (Tree-F.Left on left right width) env others alike = let same =
      two_sides on left right env others alike in λ i. step
      (Tree-F.Left (same.0 i) (λ _. same.1.0 i) (λ _. same.1.1 i) width) []
  tree_same (Tree-F.Half on left right) env others alike = let same =
      two_sides on left right env others alike in λ i. step (Tree-F.Half (same.0 i) (λ _. same.1.0 i) (λ _. same.1.1 i))
      []
  tree_same (Tree-F.OppositeHalf on left right) env others alike = let same =
      two_sides on left right env others alike in λ i. step
      (Tree-F.OppositeHalf (same.0 i) (λ _. same.1.0 i) (λ _. same.1.1 i)) []
  tree_same (Tree-F.Group columns functions rows) env others alike =
      let parts = map (λ (o : (f : SetFunction) × SameFunction f). o.0) functions in
      let depths = outwards (all_depths (map depths_in_function parts)) in
      let meant = map (function_by step) parts in
      let found = all_seen functions env others (on_left env others depths (depths_in_tree rows.0) alike) in
      let part = rows.1 env others (on_right env others depths (depths_in_tree rows.0) alike) in
      (λ i. through (tree_by step rows.0 env) (λ members. sym (groups-seen columns meant env members) i))
      ∙ (λ i. through (part i)
      (λ members. each (group_row columns (map function_of (found i)) [] members) (keys_of columns members)))
      ∙ (λ i. through (tree_by step rows.0 others) (λ members. groups-seen columns meant others members i))
  tree_same (Tree-F.Project items tree) env others alike =
      let parts = map (λ (o : (e : Expression) × SameExpression e). o.0) items in
      let depths = all_depths (map depths_in_expression parts) in
      let meant = map (value_by step) parts in
      let part = tree.1 env others (on_right env others (outwards depths) (depths_in_tree tree.0) alike) in
      let seen = on_left env others (outwards depths) (depths_in_tree tree.0) alike in
      let at_row : (row : Row) → values_of meant (row ∷ env) ≡ values_of meant (row ∷ others) =
      λ row. sym (values-frozen meant (row ∷ env))
      ∙ (λ i. values_of (all_same depths_in_expression (value_by step) items (row ∷ env) (row ∷ others)
      (inward env others row depths seen) i) []) ∙ values-frozen meant (row ∷ others) in
      λ i. through (part i) (each (λ row. at_row row i >>= (λ values. Ok (values ∷ []))))
  tree_same (Tree-F.Distinct tree) env others alike = λ i. step (Tree-F.Distinct (λ _. tree.1 env others alike i)) []
  tree_same (Tree-F.Set op left right) env others alike =
      let l = left.1 env others (on_left env others (depths_in_tree left.0) (depths_in_tree right.0) alike) in
      let r = right.1 env others (on_right env others (depths_in_tree left.0) (depths_in_tree right.0) alike) in
      λ i. step (Tree-F.Set op (λ _. l i) (λ _. r i)) []
  tree_same (Tree-F.Sort keys tree) env others alike = λ i. step (Tree-F.Sort keys (λ _. tree.1 env others alike i)) []
  tree_same (Tree-F.Seek table columns key) env others alike = refl
  tree_same (Tree-F.Range table columns low high) env others alike = refl
  tree_same (Tree-F.IndexLoop on left places table columns) env others alike =
      let same_on = at_rows on env others
      (on_left env others (outwards (depths_in_condition on.0)) (depths_in_tree left.0) alike) in
      let same_left = left.1 env others
      (on_right env others (outwards (depths_in_condition on.0)) (depths_in_tree left.0) alike) in
      λ i. step (Tree-F.IndexLoop (same_on i) (λ _. same_left i) places table columns) []
  tree_same (Tree-F.HashJoin on left right left_places right_places) env others alike =
      let same = two_sides on left right env others alike in λ i. step
      (Tree-F.HashJoin (same.0 i) (λ _. same.1.0 i) (λ _. same.1.1 i) left_places right_places) []
  tree_same (Tree-F.Member operand is_negated members rows) env others alike =
      let depths = outwards (depths_in_expression operand.0) in
      let sides = on_right env others depths (depths_in_tree members.0 ++ depths_in_tree rows.0) alike in
      let seen = on_left env others depths (depths_in_tree members.0 ++ depths_in_tree rows.0) alike in
      let same_operand : around env (value_by step operand.0) ≡ around others (value_by step operand.0) =
      λ i inner. operand.1 (first_row inner ∷ env) (first_row inner ∷ others)
      (inward env others (first_row inner) (depths_in_expression operand.0) seen) i in
      let same_members = members.1 env others
      (on_left env others (depths_in_tree members.0) (depths_in_tree rows.0) sides) in
      let same_rows = rows.1 env others (on_right env others (depths_in_tree members.0) (depths_in_tree rows.0) sides)
      in
      λ i. step (Tree-F.Member (same_operand i) is_negated (λ _. same_members i) (λ _. same_rows i)) []

  condition_node : (x : Node Condition-F) (y : Parts Condition-F) → condition_of y ≡ x
      → SameCondition (roll-Condition x)
  condition_node x y is =
      subst (λ (z : Node Condition-F). SameCondition (roll-Condition z)) is
      (λ env others alike. (λ i. condition_rolled step (condition_of y) i env)
      ∙ condition_parts y env others (subst (SeeAlike env others) (condition_depths_rolled (condition_of y)) alike)
      ∙ (λ i. sym (condition_rolled step (condition_of y)) i others))

  expression_node : (x : Node Expression-F) (y : Parts Expression-F) → expression_of y ≡ x
      → SameExpression (roll-Expression x)
  expression_node x y is =
      subst (λ (z : Node Expression-F). SameExpression (roll-Expression z)) is
      (λ env others alike. (λ i. expression_rolled step (expression_of y) i env)
      ∙ expression_parts y env others (subst (SeeAlike env others) (expression_depths_rolled (expression_of y)) alike)
      ∙ (λ i. sym (expression_rolled step (expression_of y)) i others))

  function_node : (x : Node SetFunction-F) (y : Parts SetFunction-F) → set_function_of y ≡ x
      → SameFunction (roll-SetFunction x)
  function_node x y is =
      subst (λ (z : Node SetFunction-F). SameFunction (roll-SetFunction z)) is
      (λ env others alike. ap (seen_from env) (function_rolled step (set_function_of y))
      ∙ function_parts y env others
      (subst (λ depths. SeeAlike env others (outwards depths)) (function_depths_rolled (set_function_of y)) alike)
      ∙ ap (seen_from others) (sym (function_rolled step (set_function_of y))))

  tree_node : (x : Node Tree-F) (y : Parts Tree-F) → tree_of y ≡ x → SameTree (roll-Tree x)
  tree_node x y is =
      subst (λ (z : Node Tree-F). SameTree (roll-Tree z)) is
      (λ env others alike. (λ i. tree_rolled step (tree_of y) i env)
      ∙ tree_same y env others (subst (SeeAlike env others) (tree_depths_rolled (tree_of y)) alike)
      ∙ (λ i. sym (tree_rolled step (tree_of y)) i others))

  pub trees-see : (t : Tree) → SameTree t
  trees-see = ind-Tree SameCondition SameExpression SameFunction SameTree condition_node expression_node function_node
      tree_node

  pub closed-alike : (t : Tree) → depths_in_tree t ≡ [] → (env others : Env)
      → tree_outcome tables t env ≡ tree_outcome tables t others
  closed-alike t none env others = trees-see t env others (subst (SeeAlike env others) (sym none) tt)
