-- A tree lists the same over tables that agree where it reads: by induction over the trees.
use Rattle.std.proofs.Common.{◌≡◌, refl, sym, subst, ap, ◌∙◌, ℕ, Bool, List, [], ◌∷◌, ◌++◌, map, flat_map, Contains, Option}
use Rattle.std.proofs.lemmas.List.Elements.{Contains-append_left, Contains-append_right, Contains-push}
use Rattle.typing.specs.declared.typed.Arithmetic.{Arithmetic}
use Rattle.algebra.specs.declared.tree.Condition.{Condition, Condition-F, roll-Condition, map-Condition, ind-Condition, fold-roll-Condition}
use Rattle.algebra.specs.declared.tree.Expression.{Expression, Expression-F, roll-Expression, map-Expression, ind-Expression, fold-roll-Expression}
use Rattle.algebra.specs.declared.tree.SetFunction.{SetFunction, SetFunction-F, roll-SetFunction, map-SetFunction, ind-SetFunction, fold-roll-SetFunction}
use Rattle.algebra.specs.declared.tree.Tree.{Tree, Tree-F, roll-Tree, map-Tree, ind-Tree, fold-roll-Tree}
use Rattle.algebra.specs.Meaning.{Layer, TreeMeaning, MeantFunction, Argument, condition_step, expression_step, function_step, value_by, truth_by, function_by, tree_by}
use Rattle.algebra.specs.Listing.{listing_step, tree_listing, listed_rows, onwards, in_order, pairs_of}
use Rattle.algebra.specs.Joined.{matching}
use Rattle.algebra.specs.Bounds.{rows_within}
use Rattle.algebra.specs.Sorted.{sorted, ascending}
use Rattle.sqlval.specs.Matching.{rows_matching}
use Rattle.sqlval.specs.Value.{Row}
use Rattle.denote.specs.Condition.{ConditionMeaning}
use Rattle.denote.specs.Evaluation.{Env}
use Rattle.denote.specs.Expression.{ExpressionMeaning}
use Rattle.denote.specs.Meaning.{Tables}
use Rattle.algebra_laws.proofs.RolledTrees.{Node, condition_meant, condition_rolled, expression_meant, expression_rolled, function_meant, function_rolled, tree_meant, tree_rolled}
use Rattle.tree_tables.specs.TablesRead.{Names, Named, all_names, names_of_condition, names_of_expression, names_of_function, names_of_tree, tables_in_condition, tables_in_expression, tables_in_function, tables_in_tree, Agree}

-- ---- the names of a node

abbrev condition_named : Node Condition-F → Named Condition-F
condition_named d = map-Condition _ _ _ _ _ _ _ _ tables_in_condition tables_in_expression tables_in_function tables_in_tree d

condition_names_rolled : (d : Node Condition-F) → tables_in_condition (roll-Condition d) ≡ names_of_condition (condition_named d)
unfolding tables_in_condition tables_in_expression tables_in_function tables_in_tree
condition_names_rolled d = fold-roll-Condition _ _ _ _ names_of_condition names_of_expression names_of_function names_of_tree d

abbrev expression_named : Node Expression-F → Named Expression-F
expression_named d = map-Expression _ _ _ _ _ _ _ _ tables_in_condition tables_in_expression tables_in_function tables_in_tree d

expression_names_rolled : (d : Node Expression-F) → tables_in_expression (roll-Expression d) ≡ names_of_expression (expression_named d)
unfolding tables_in_condition tables_in_expression tables_in_function tables_in_tree
expression_names_rolled d = fold-roll-Expression _ _ _ _ names_of_condition names_of_expression names_of_function names_of_tree d

abbrev function_named : Node SetFunction-F → Named SetFunction-F
function_named d = map-SetFunction _ _ _ _ _ _ _ _ tables_in_condition tables_in_expression tables_in_function tables_in_tree d

function_names_rolled : (d : Node SetFunction-F) → tables_in_function (roll-SetFunction d) ≡ names_of_function (function_named d)
unfolding tables_in_condition tables_in_expression tables_in_function tables_in_tree
function_names_rolled d = fold-roll-SetFunction _ _ _ _ names_of_condition names_of_expression names_of_function names_of_tree d

abbrev tree_named : Node Tree-F → Named Tree-F
tree_named d = map-Tree _ _ _ _ _ _ _ _ tables_in_condition tables_in_expression tables_in_function tables_in_tree d

tree_names_rolled : (d : Node Tree-F) → tables_in_tree (roll-Tree d) ≡ names_of_tree (tree_named d)
unfolding tables_in_condition tables_in_expression tables_in_function tables_in_tree
tree_names_rolled d = fold-roll-Tree _ _ _ _ names_of_condition names_of_expression names_of_function names_of_tree d

-- what stands beside something, changed
abbrev at_second : {B A M : Type 0} → (A → M) → B × A → B × M
at_second f o = (o.0, f o.1)

abbrev without_proof : {B A : Type 0} {P : A → Type 0} → B × ((x : A) × P x) → B × A
without_proof o = (o.0, o.1.0)

abbrev beside : {B M : Type 0} → B → M → B × M
beside b m = (b, m)

module _ (tables others : Tables) where
  abbrev first : Layer Tree-F → TreeMeaning
  first = listing_step tables

  abbrev second : Layer Tree-F → TreeMeaning
  second = listing_step others

  -- ---- agreement on some names and on others

  on_left : (xs ys : Names) → Agree tables others (xs ++ ys) → Agree tables others xs
  on_left xs ys agree name among = agree name (Contains-append_left xs ys name among)

  on_right : (xs ys : Names) → Agree tables others (xs ++ ys) → Agree tables others ys
  on_right xs ys agree name among = agree name (Contains-append_right xs ys name among)

  abbrev SameAt : {A M : Type 0} → (A → Names) → (A → M) → (A → M) → A → Type 0
  SameAt names f g x = Agree tables others (names x) → f x ≡ g x

  -- parts one after another
  all_same : {A M : Type 0} (names : A → Names) (f g : A → M) (xs : List ((x : A) × SameAt names f g x))
      → Agree tables others (all_names (map names (map (λ (o : (x : A) × SameAt names f g x). o.0) xs)))
      → map f (map (λ (o : (x : A) × SameAt names f g x). o.0) xs) ≡ map g (map (λ (o : (x : A) × SameAt names f g x). o.0) xs)
  all_same names f g [] agree = refl
  all_same {A} names f g (x ∷ xs) agree =
      let rest = all_names (map names (map (λ (o : (x : A) × SameAt names f g x). o.0) xs)) in
      λ i. x.1 (on_left (names x.0) rest agree) i ∷ all_same names f g xs (on_right (names x.0) rest agree) i

  -- parts with something beside each
  all_same_beside : {B A M : Type 0} (names : A → Names) (f g : A → M) (xs : List (B × ((x : A) × SameAt names f g x)))
      → Agree tables others (flat_map (λ (o : B × Names). o.1) (map (at_second {B = B} names) (map (without_proof {B = B} {P = SameAt names f g}) xs)))
      → map (at_second {B = B} f) (map (without_proof {B = B} {P = SameAt names f g}) xs) ≡ map (at_second {B = B} g) (map (without_proof {B = B} {P = SameAt names f g}) xs)
  all_same_beside names f g [] agree = refl
  all_same_beside {B} {A} {M} names f g (x ∷ xs) agree =
      let rest : Names = flat_map (λ (o : B × Names). o.1) (map (at_second {B = B} names) (map (without_proof {B = B} {P = SameAt names f g}) xs)) in
      let here : f x.1.0 ≡ g x.1.0 = x.1.1 (on_left (names x.1.0) rest agree) in
      let later : map (at_second {B = B} f) (map (without_proof {B = B} {P = SameAt names f g}) xs) ≡ map (at_second {B = B} g) (map (without_proof {B = B} {P = SameAt names f g}) xs) = all_same_beside names f g xs (on_right (names x.1.0) rest agree) in
      λ i. beside x.0 (here i) ∷ later i

  abbrev SameCondition : Condition → Type 0
  SameCondition c = SameAt tables_in_condition (truth_by first) (truth_by second) c

  abbrev SameExpression : Expression → Type 0
  SameExpression e = SameAt tables_in_expression (value_by first) (value_by second) e

  abbrev SameFunction : SetFunction → Type 0
  SameFunction f = SameAt tables_in_function (function_by first) (function_by second) f

  abbrev SameTree : Tree → Type 0
  SameTree t = SameAt tables_in_tree (tree_by first) (tree_by second) t

  abbrev Parts : ((A B C D : Type 0) → Type 0) → Type 0
  Parts T = T ((c : Condition) × SameCondition c) ((e : Expression) × SameExpression e) ((f : SetFunction) × SameFunction f) ((t : Tree) × SameTree t)

  abbrev condition_of : Parts Condition-F → Node Condition-F
  condition_of y = map-Condition _ _ _ _ _ _ _ _ (λ p. p.0) (λ p. p.0) (λ p. p.0) (λ p. p.0) y

  abbrev expression_of : Parts Expression-F → Node Expression-F
  expression_of y = map-Expression _ _ _ _ _ _ _ _ (λ p. p.0) (λ p. p.0) (λ p. p.0) (λ p. p.0) y

  abbrev set_function_of : Parts SetFunction-F → Node SetFunction-F
  set_function_of y = map-SetFunction _ _ _ _ _ _ _ _ (λ p. p.0) (λ p. p.0) (λ p. p.0) (λ p. p.0) y

  abbrev tree_of : Parts Tree-F → Node Tree-F
  tree_of y = map-Tree _ _ _ _ _ _ _ _ (λ p. p.0) (λ p. p.0) (λ p. p.0) (λ p. p.0) y

  condition_parts : (y : Parts Condition-F) → Agree tables others (names_of_condition (condition_named (condition_of y)))
      → condition_meant first (condition_of y) ≡ condition_meant second (condition_of y)
  condition_parts (Condition-F.Or operands) agree = λ i. Condition-F.Or (all_same tables_in_condition (truth_by first) (truth_by second) operands agree i)
  condition_parts (Condition-F.And operands) agree = λ i. Condition-F.And (all_same tables_in_condition (truth_by first) (truth_by second) operands agree i)
  condition_parts (Condition-F.Not operand) agree = λ i. Condition-F.Not (operand.1 agree i)
  condition_parts (Condition-F.IsTruth operand truth) agree = λ i. Condition-F.IsTruth (operand.1 agree i) truth
  condition_parts (Condition-F.Compare op a b) agree =
      λ i. Condition-F.Compare op (a.1 (on_left (tables_in_expression a.0) (tables_in_expression b.0) agree) i) (b.1 (on_right (tables_in_expression a.0) (tables_in_expression b.0) agree) i)
  condition_parts (Condition-F.Between x low high) agree =
      let bounds = on_right (tables_in_expression x.0) (tables_in_expression low.0 ++ tables_in_expression high.0) agree in
      λ i. Condition-F.Between (x.1 (on_left (tables_in_expression x.0) (tables_in_expression low.0 ++ tables_in_expression high.0) agree) i)
      (low.1 (on_left (tables_in_expression low.0) (tables_in_expression high.0) bounds) i) (high.1 (on_right (tables_in_expression low.0) (tables_in_expression high.0) bounds) i)
  condition_parts (Condition-F.InList operand values) agree = λ i. Condition-F.InList (operand.1 agree i) values
  condition_parts (Condition-F.InQuery operand tree) agree =
      λ i. Condition-F.InQuery (operand.1 (on_left (tables_in_expression operand.0) (tables_in_tree tree.0) agree) i) (tree.1 (on_right (tables_in_expression operand.0) (tables_in_tree tree.0) agree) i)
  condition_parts (Condition-F.Like operand pattern) agree =
      λ i. Condition-F.Like (operand.1 (on_left (tables_in_expression operand.0) (tables_in_expression pattern.0) agree) i) (pattern.1 (on_right (tables_in_expression operand.0) (tables_in_expression pattern.0) agree) i)
  condition_parts (Condition-F.IsNull operand) agree = λ i. Condition-F.IsNull (operand.1 agree i)
  condition_parts (Condition-F.Exists tree) agree = λ i. Condition-F.Exists (tree.1 agree i)

  expression_parts : (y : Parts Expression-F) → Agree tables others (names_of_expression (expression_named (expression_of y)))
      → expression_meant first (expression_of y) ≡ expression_meant second (expression_of y)
  expression_parts (Expression-F.Constant x) agree = refl
  expression_parts (Expression-F.Column depth place) agree = refl
  expression_parts (Expression-F.Calculation x more) agree =
      let rest = flat_map (λ (o : Arithmetic × Names). o.1) (map (λ (o : Arithmetic × Expression). (o.0, tables_in_expression o.1)) (map (λ (o : Arithmetic × ((e : Expression) × SameExpression e)). (o.0, o.1.0)) more)) in
      λ i. Expression-F.Calculation (x.1 (on_left (tables_in_expression x.0) rest agree) i)
      (all_same_beside tables_in_expression (value_by first) (value_by second) more (on_right (tables_in_expression x.0) rest agree) i)
  expression_parts (Expression-F.Concatenation x more) agree =
      let rest = all_names (map tables_in_expression (map (λ (o : (e : Expression) × SameExpression e). o.0) more)) in
      λ i. Expression-F.Concatenation (x.1 (on_left (tables_in_expression x.0) rest agree) i)
      (all_same tables_in_expression (value_by first) (value_by second) more (on_right (tables_in_expression x.0) rest agree) i)
  expression_parts (Expression-F.Negation operand) agree = λ i. Expression-F.Negation (operand.1 agree i)
  expression_parts (Expression-F.Scalar tree) agree = λ i. Expression-F.Scalar (tree.1 agree i)

  function_parts : (y : Parts SetFunction-F) → Agree tables others (names_of_function (function_named (set_function_of y)))
      → function_meant first (set_function_of y) ≡ function_meant second (set_function_of y)
  function_parts SetFunction-F.CountRows agree = refl
  function_parts (SetFunction-F.Over function is_distinct argument) agree = λ i. SetFunction-F.Over function is_distinct (argument.1 agree i)

  -- ON and two sides
  two_sides : (on : (c : Condition) × SameCondition c) (left right : (t : Tree) × SameTree t) → Agree tables others (tables_in_condition on.0 ++ (tables_in_tree left.0 ++ tables_in_tree right.0))
      → (truth_by first on.0 ≡ truth_by second on.0) × ((tree_by first left.0 ≡ tree_by second left.0) × (tree_by first right.0 ≡ tree_by second right.0))
  two_sides on left right agree =
      let sides = on_right (tables_in_condition on.0) (tables_in_tree left.0 ++ tables_in_tree right.0) agree in (
        on.1 (on_left (tables_in_condition on.0) (tables_in_tree left.0 ++ tables_in_tree right.0) agree),
        (left.1 (on_left (tables_in_tree left.0) (tables_in_tree right.0) sides), right.1 (on_right (tables_in_tree left.0) (tables_in_tree right.0) sides)),
      )

  the_table : (name : List ℕ) → Agree tables others (name ∷ []) → tables name ≡ others name
  the_table name agree = agree name (Contains-push [] name)

  tree_same : (y : Parts Tree-F) → Agree tables others (names_of_tree (tree_named (tree_of y))) → first (tree_meant first (tree_of y)) ≡ second (tree_meant second (tree_of y))
  tree_same (Tree-F.Scan table) agree = λ i env. listed_rows (the_table table.name agree i)
  tree_same (Tree-F.Filter condition tree) agree =
      let on = condition.1 (on_left (tables_in_condition condition.0) (tables_in_tree tree.0) agree) in
      let rows = tree.1 (on_right (tables_in_condition condition.0) (tables_in_tree tree.0) agree) in
      λ i. first (Tree-F.Filter (on i) (rows i))
  tree_same (Tree-F.Product left right) agree =
      let l = left.1 (on_left (tables_in_tree left.0) (tables_in_tree right.0) agree) in
      let r = right.1 (on_right (tables_in_tree left.0) (tables_in_tree right.0) agree) in
      λ i. first (Tree-F.Product (l i) (r i))
  tree_same (Tree-F.Inner on left right) agree = let same = two_sides on left right agree in λ i. first (Tree-F.Inner (same.0 i) (same.1.0 i) (same.1.1 i))
  tree_same (Tree-F.Left on left right width) agree = let same = two_sides on left right agree in λ i. first (Tree-F.Left (same.0 i) (same.1.0 i) (same.1.1 i) width)
  tree_same (Tree-F.Half on left right) agree = let same = two_sides on left right agree in λ i. first (Tree-F.Half (same.0 i) (same.1.0 i) (same.1.1 i))
  tree_same (Tree-F.OppositeHalf on left right) agree = let same = two_sides on left right agree in λ i. first (Tree-F.OppositeHalf (same.0 i) (same.1.0 i) (same.1.1 i))
  tree_same (Tree-F.Group columns functions rows) agree =
      let names = all_names (map tables_in_function (map (λ (o : (f : SetFunction) × SameFunction f). o.0) functions)) in
      let found = all_same tables_in_function (function_by first) (function_by second) functions (on_left names (tables_in_tree rows.0) agree) in
      let part = rows.1 (on_right names (tables_in_tree rows.0) agree) in
      λ i. first (Tree-F.Group columns (found i) (part i))
  tree_same (Tree-F.Project items tree) agree =
      let names = all_names (map tables_in_expression (map (λ (o : (e : Expression) × SameExpression e). o.0) items)) in
      let found = all_same tables_in_expression (value_by first) (value_by second) items (on_left names (tables_in_tree tree.0) agree) in
      let part = tree.1 (on_right names (tables_in_tree tree.0) agree) in
      λ i. first (Tree-F.Project (found i) (part i))
  tree_same (Tree-F.Distinct tree) agree = λ i. first (Tree-F.Distinct (tree.1 agree i))
  tree_same (Tree-F.Set op left right) agree =
      let l = left.1 (on_left (tables_in_tree left.0) (tables_in_tree right.0) agree) in
      let r = right.1 (on_right (tables_in_tree left.0) (tables_in_tree right.0) agree) in
      λ i. first (Tree-F.Set op (l i) (r i))
  tree_same (Tree-F.Sort keys tree) agree = λ i. first (Tree-F.Sort keys (tree.1 agree i))
  tree_same (Tree-F.Seek table columns key) agree = λ i env. listed_rows (rows_matching columns key (the_table table.name agree i))
  tree_same (Tree-F.Range table columns low high) agree = λ i env. listed_rows (sorted (ascending columns) (rows_within columns low high (the_table table.name agree i)))
  tree_same (Tree-F.IndexLoop on left places table columns) agree =
      let sides = on_right (tables_in_condition on.0) (tables_in_tree left.0 ++ table.name ∷ []) agree in
      let same_on = on.1 (on_left (tables_in_condition on.0) (tables_in_tree left.0 ++ table.name ∷ []) agree) in
      let same_left = left.1 (on_left (tables_in_tree left.0) (table.name ∷ []) sides) in
      let rows = the_table table.name (on_right (tables_in_tree left.0) (table.name ∷ []) sides) in
      λ i env. onwards (same_left i env) (in_order (λ row. pairs_of (same_on i) env (matching places columns (rows i) row) row))
  tree_same (Tree-F.HashJoin on left right left_places right_places) agree =
      let same = two_sides on left right agree in λ i. first (Tree-F.HashJoin (same.0 i) (same.1.0 i) (same.1.1 i) left_places right_places)
  tree_same (Tree-F.Member operand is_negated members rows) agree =
      let parts = on_right (tables_in_expression operand.0) (tables_in_tree members.0 ++ tables_in_tree rows.0) agree in
      let same_operand = operand.1 (on_left (tables_in_expression operand.0) (tables_in_tree members.0 ++ tables_in_tree rows.0) agree) in
      let same_members = members.1 (on_left (tables_in_tree members.0) (tables_in_tree rows.0) parts) in
      let same_rows = rows.1 (on_right (tables_in_tree members.0) (tables_in_tree rows.0) parts) in
      λ i. first (Tree-F.Member (same_operand i) is_negated (same_members i) (same_rows i))

  condition_node : (x : Node Condition-F) (y : Parts Condition-F) → condition_of y ≡ x → SameCondition (roll-Condition x)
  condition_node x y is =
      subst (λ (z : Node Condition-F). SameCondition (roll-Condition z)) is
      (λ agree. condition_rolled first (condition_of y)
      ∙ ap condition_step (condition_parts y (subst (Agree tables others) (condition_names_rolled (condition_of y)) agree)) ∙ sym (condition_rolled second (condition_of y)))

  expression_node : (x : Node Expression-F) (y : Parts Expression-F) → expression_of y ≡ x → SameExpression (roll-Expression x)
  expression_node x y is =
      subst (λ (z : Node Expression-F). SameExpression (roll-Expression z)) is
      (λ agree. expression_rolled first (expression_of y)
      ∙ ap expression_step (expression_parts y (subst (Agree tables others) (expression_names_rolled (expression_of y)) agree)) ∙ sym (expression_rolled second (expression_of y)))

  function_node : (x : Node SetFunction-F) (y : Parts SetFunction-F) → set_function_of y ≡ x → SameFunction (roll-SetFunction x)
  function_node x y is =
      subst (λ (z : Node SetFunction-F). SameFunction (roll-SetFunction z)) is
      (λ agree. function_rolled first (set_function_of y)
      ∙ ap function_step (function_parts y (subst (Agree tables others) (function_names_rolled (set_function_of y)) agree)) ∙ sym (function_rolled second (set_function_of y)))

  tree_node : (x : Node Tree-F) (y : Parts Tree-F) → tree_of y ≡ x → SameTree (roll-Tree x)
  tree_node x y is =
      subst (λ (z : Node Tree-F). SameTree (roll-Tree z)) is
      (λ agree. tree_rolled first (tree_of y) ∙ tree_same y (subst (Agree tables others) (tree_names_rolled (tree_of y)) agree) ∙ sym (tree_rolled second (tree_of y)))

  pub trees-read : (t : Tree) → SameTree t
  trees-read = ind-Tree SameCondition SameExpression SameFunction SameTree condition_node expression_node function_node tree_node

  pub expressions-read : (e : Expression) → SameExpression e
  expressions-read = ind-Expression SameCondition SameExpression SameFunction SameTree condition_node expression_node function_node tree_node

  pub conditions-read : (c : Condition) → SameCondition c
  conditions-read = ind-Condition SameCondition SameExpression SameFunction SameTree condition_node expression_node function_node tree_node

  pub functions-read : (f : SetFunction) → SameFunction f
  functions-read = ind-SetFunction SameCondition SameExpression SameFunction SameTree condition_node expression_node function_node tree_node
