-- Trees mean the same when subqueries stand as what they give: by induction over the trees.
use Rattle.std.proofs.Common.{◌≡◌, refl, sym, subst, ap, ◌∙◌, not, List, [], ◌∷◌, map, Option, Some, None, Ok}
use Rattle.typing.specs.declared.typed.Arithmetic.{Arithmetic}
use Rattle.sqlval.specs.declared.truth.Truth.{Truth}
use Rattle.sqlval.specs.declared.value.Value.{Value}
use Rattle.sqlval.specs.declared.value.Value.TheVariants.{Null}
use Rattle.sqlval.specs.Truth.{truth_of}
use Rattle.sqlval.specs.Value.{Row}
use Rattle.algebra.specs.declared.tree.Condition.{Condition, Condition-F, roll-Condition, map-Condition, ind-Condition, fold-roll-Condition}
use Rattle.algebra.specs.declared.tree.Expression.{Expression, Expression-F, roll-Expression, map-Expression, ind-Expression, fold-roll-Expression}
use Rattle.algebra.specs.declared.tree.SetFunction.{SetFunction, SetFunction-F, roll-SetFunction, map-SetFunction, fold-roll-SetFunction}
use Rattle.algebra.specs.declared.tree.Tree.{Tree, Tree-F, roll-Tree, map-Tree, ind-Tree, fold-roll-Tree}
use Rattle.algebra.specs.Meaning.{Layer, TreeMeaning, Argument, condition_step, expression_step, function_step, value_by, truth_by, function_by, tree_by}
use Rattle.algebra.specs.Listing.{listing_step, listed_rows}
use Rattle.algebra.proofs.Nodes.{value_constant, value_column, value_calculation, value_concatenation, value_negation, value_scalar, truth_or, truth_and, truth_negation, truth_test, truth_compare, truth_between, truth_in_list, truth_in_query, truth_like, truth_null, truth_exists, tree_scan, tree_filter, tree_product, tree_inner, tree_left, tree_group, tree_project, tree_distinct, tree_set, tree_sort, tree_half, tree_opposite, tree_seek, tree_range, tree_index_loop, tree_hash_join, tree_member, function_rows, function_over}
use Rattle.denote.specs.Condition.{among, exists, first_column, is_empty, conjunction, disjunction}
use Rattle.denote.specs.Evaluation.{Env, Evaluation, ◌>>=◌}
use Rattle.denote.specs.declared.fault.Fault.{Fault}
use Rattle.denote.specs.Expression.{ExpressionMeaning, cell, chained, concatenation, negated, scalar}
use Rattle.denote.specs.Meaning.{Tables}
use Rattle.denote.specs.Outcome.{Outcome, whole}
use Rattle.algebra_laws.proofs.RolledTrees.{Node, condition_meant, condition_rolled, expression_meant, expression_rolled, function_meant, function_rolled, tree_meant, tree_rolled}
use Rattle.closed_trees.specs.Outside.{Depths, depths_in_tree}
use Rattle.closed_trees.proofs.Seeing.{closed-alike}
use Rattle.uncorrelated_subqueries.specs.Kept.{unfaulted, where_closed, lasting_rows, kept_scalar, kept_in, kept_exists, KeptLayer, condition_kept, expression_kept, function_kept, tree_kept, kept_condition, kept_expression, kept_function, kept_tree}

-- ---- what lasts

same_rows : (found rows : List Row) → Some found ≡ Some rows → found ≡ rows
same_rows found rows h = cc

abbrev outcome_with : List Row → List Fault → Outcome
outcome_with rows faults = record { rows = rows; faults = faults }

unfaulted-is : (o : Outcome) (faults : List Fault) (rows : List Row) → unfaulted (outcome_with o.rows faults) ≡ Some rows → outcome_with o.rows faults ≡ listed_rows rows
unfaulted-is o [] rows h = ap listed_rows (same_rows o.rows rows h)
unfaulted-is o (fault ∷ faults) rows h = absurd (cc)

closed-is : (depths : Depths) (o : Outcome) (rows : List Row) → where_closed depths (unfaulted o) ≡ Some rows → (depths ≡ []) × (o ≡ listed_rows rows)
closed-is [] o rows h = (refl, unfaulted-is o o.faults rows h)
closed-is (depth ∷ depths) o rows h = absurd (cc)

scalar-none : scalar (listed_rows []) ≡ Ok Null
unfolding scalar
scalar-none = refl

scalar-one : (row : Row) → scalar (listed_rows (row ∷ [])) ≡ Ok (cell row 0)
unfolding scalar
scalar-one row = refl

whole-listed : (rows : List Row) → whole (listed_rows rows) ≡ Ok rows
unfolding whole
whole-listed rows = refl

module _ (tables : Tables) where
  abbrev step : Layer Tree-F → TreeMeaning
  step = listing_step tables

  abbrev Lasts : Tree → Option (List Row) → Type 0
  Lasts x found = (rows : List Row) → found ≡ Some rows → (env : Env) → tree_by step x env ≡ listed_rows rows

  lasting : (x : Tree) → Lasts x (lasting_rows tables x)
  lasting x rows h env =
      let closed = closed-is (depths_in_tree x) (tree_by step x []) rows h in
      closed-alike tables x closed.0 env [] ∙ closed.1

  -- ---- subqueries

  scalar-kept : (found : Option (List Row)) (x : Tree) → Lasts x found → (env : Env) → value_by step (kept_scalar found x) env ≡ scalar (tree_by step x env)
  scalar-kept None x lasts env = value_scalar step x env
  scalar-kept (Some []) x lasts env = value_constant step Null env ∙ sym (ap scalar (lasts [] refl env) ∙ scalar-none)
  scalar-kept (Some (row ∷ [])) x lasts env = value_constant step (cell row 0) env ∙ sym (ap scalar (lasts (row ∷ []) refl env) ∙ scalar-one row)
  scalar-kept (Some (row ∷ other ∷ rows)) x lasts env = value_scalar step x env

  -- the whole subquery, at every row
  whole-kept : (rows : List Row) (x : Tree) → Lasts x (Some rows) → (env : Env) → whole (tree_by step x env) ≡ Ok rows
  whole-kept rows x lasts env = ap whole (lasts rows refl env) ∙ whole-listed rows

  abbrev in_rows : Evaluation Value → Evaluation (List Row) → Evaluation Truth
  in_rows operand rows = operand >>= (λ v. rows >>= (λ found. Ok (among v (first_column found))))

  in-kept : (found : Option (List Row)) (operand : Expression) (x : Tree) → Lasts x found → (env : Env)
      → truth_by step (kept_in found operand x) env ≡ in_rows (value_by step operand env) (whole (tree_by step x env))
  in-kept None operand x lasts env = truth_in_query step operand x env
  in-kept (Some rows) operand x lasts env = truth_in_list step operand (first_column rows) env ∙ (λ i. in_rows (value_by step operand env) (sym (whole-kept rows x lasts env) i))

  abbrev exists_rows : Evaluation (List Row) → Evaluation Truth
  exists_rows rows = rows >>= (λ found. Ok (truth_of (not (is_empty found))))

  exists-kept : (found : Option (List Row)) (x : Tree) → Lasts x found → (env : Env) → truth_by step (kept_exists found x) env ≡ exists (tree_by step x env)
  exists-kept None x lasts env = truth_exists step x env
  exists-kept (Some []) x lasts env = truth_or step [] env ∙ (λ i. exists_rows (sym (whole-kept [] x lasts env) i))
  exists-kept (Some (row ∷ rows)) x lasts env = truth_and step [] env ∙ (λ i. exists_rows (sym (whole-kept (row ∷ rows) x lasts env) i))

  -- ---- what a node is kept as

  abbrev condition_parts_kept : Node Condition-F → KeptLayer Condition-F
  condition_parts_kept d = map-Condition _ _ _ _ _ _ _ _ (kept_condition tables) (kept_expression tables) (kept_function tables) (kept_tree tables) d

  condition_kept_rolled : (d : Node Condition-F) → kept_condition tables (roll-Condition d) ≡ condition_kept tables (condition_parts_kept d)
  unfolding kept_condition kept_expression kept_function kept_tree
  condition_kept_rolled d = fold-roll-Condition _ _ _ _ (condition_kept tables) (expression_kept tables) (function_kept tables) (tree_kept tables) d

  abbrev expression_parts_kept : Node Expression-F → KeptLayer Expression-F
  expression_parts_kept d = map-Expression _ _ _ _ _ _ _ _ (kept_condition tables) (kept_expression tables) (kept_function tables) (kept_tree tables) d

  expression_kept_rolled : (d : Node Expression-F) → kept_expression tables (roll-Expression d) ≡ expression_kept tables (expression_parts_kept d)
  unfolding kept_condition kept_expression kept_function kept_tree
  expression_kept_rolled d = fold-roll-Expression _ _ _ _ (condition_kept tables) (expression_kept tables) (function_kept tables) (tree_kept tables) d

  abbrev function_parts_kept : Node SetFunction-F → KeptLayer SetFunction-F
  function_parts_kept d = map-SetFunction _ _ _ _ _ _ _ _ (kept_condition tables) (kept_expression tables) (kept_function tables) (kept_tree tables) d

  function_kept_rolled : (d : Node SetFunction-F) → kept_function tables (roll-SetFunction d) ≡ function_kept tables (function_parts_kept d)
  unfolding kept_condition kept_expression kept_function kept_tree
  function_kept_rolled d = fold-roll-SetFunction _ _ _ _ (condition_kept tables) (expression_kept tables) (function_kept tables) (tree_kept tables) d

  abbrev tree_parts_kept : Node Tree-F → KeptLayer Tree-F
  tree_parts_kept d = map-Tree _ _ _ _ _ _ _ _ (kept_condition tables) (kept_expression tables) (kept_function tables) (kept_tree tables) d

  tree_kept_rolled : (d : Node Tree-F) → kept_tree tables (roll-Tree d) ≡ tree_kept tables (tree_parts_kept d)
  unfolding kept_condition kept_expression kept_function kept_tree
  tree_kept_rolled d = fold-roll-Tree _ _ _ _ (condition_kept tables) (expression_kept tables) (function_kept tables) (tree_kept tables) d

  -- ---- the same meaning

  abbrev SameCondition : Condition → Type 0
  SameCondition x = truth_by step (kept_condition tables x) ≡ truth_by step x

  abbrev SameExpression : Expression → Type 0
  SameExpression x = value_by step (kept_expression tables x) ≡ value_by step x

  abbrev SameFunction : SetFunction → Type 0
  SameFunction x = function_by step (kept_function tables x) ≡ function_by step x

  abbrev SameTree : Tree → Type 0
  SameTree x = tree_by step (kept_tree tables x) ≡ tree_by step x

  abbrev Parts : ((A B C D : Type 0) → Type 0) → Type 0
  Parts T = T ((c : Condition) × SameCondition c) ((e : Expression) × SameExpression e) ((f : SetFunction) × SameFunction f) ((t : Tree) × SameTree t)

  abbrev condition_of : Parts Condition-F → Node Condition-F
  condition_of y = map-Condition _ _ _ _ _ _ _ _ (λ p. p.0) (λ p. p.0) (λ p. p.0) (λ p. p.0) y

  abbrev expression_of : Parts Expression-F → Node Expression-F
  expression_of y = map-Expression _ _ _ _ _ _ _ _ (λ p. p.0) (λ p. p.0) (λ p. p.0) (λ p. p.0) y

  abbrev set_function_of : Parts SetFunction-F → Node SetFunction-F
  set_function_of y = map-SetFunction _ _ _ _ _ _ _ _ (λ p. p.0) (λ p. p.0) (λ p. p.0) (λ p. p.0) y

  abbrev tree_of : Parts Tree-F → Node Tree-F
  tree_of y = map-Tree _ _ _ _ _ _ _ _ (λ p. p.0) (λ p. p.0) (λ p. p.0) (λ p. p.0) y

  -- parts one after another
  all_same : {A M : Type 0} (kept : A → A) (meant : A → M) (xs : List ((x : A) × (meant (kept x) ≡ meant x)))
      → map meant (map kept (map (λ (o : (x : A) × (meant (kept x) ≡ meant x)). o.0) xs)) ≡ map meant (map (λ (o : (x : A) × (meant (kept x) ≡ meant x)). o.0) xs)
  all_same kept meant [] = refl
  all_same kept meant (x ∷ xs) = λ i. x.1 i ∷ all_same kept meant xs i

  conditions_same : (xs : List ((c : Condition) × SameCondition c)) → map (truth_by step) (map (kept_condition tables) (map (λ (o : (c : Condition) × SameCondition c). o.0) xs)) ≡ map (truth_by step) (map (λ (o : (c : Condition) × SameCondition c). o.0) xs)
  conditions_same xs = all_same (kept_condition tables) (truth_by step) xs

  expressions_same : (xs : List ((e : Expression) × SameExpression e)) → map (value_by step) (map (kept_expression tables) (map (λ (o : (e : Expression) × SameExpression e). o.0) xs)) ≡ map (value_by step) (map (λ (o : (e : Expression) × SameExpression e). o.0) xs)
  expressions_same xs = all_same (kept_expression tables) (value_by step) xs

  functions_same : (xs : List ((f : SetFunction) × SameFunction f)) → map (function_by step) (map (kept_function tables) (map (λ (o : (f : SetFunction) × SameFunction f). o.0) xs)) ≡ map (function_by step) (map (λ (o : (f : SetFunction) × SameFunction f). o.0) xs)
  functions_same xs = all_same (kept_function tables) (function_by step) xs

  abbrev node_of : Arithmetic × ((e : Expression) × SameExpression e) → Arithmetic × Expression
  node_of o = (o.0, o.1.0)

  abbrev kept_of : Arithmetic × Expression → Arithmetic × Expression
  kept_of o = (o.0, kept_expression tables o.1)

  abbrev meant_of : Arithmetic × Expression → Arithmetic × ExpressionMeaning
  meant_of o = (o.0, value_by step o.1)

  abbrev beside : Arithmetic → ExpressionMeaning → Arithmetic × ExpressionMeaning
  beside op meaning = (op, meaning)

  operands_same : (xs : List (Arithmetic × ((e : Expression) × SameExpression e))) → map meant_of (map kept_of (map node_of xs)) ≡ map meant_of (map node_of xs)
  operands_same [] = refl
  operands_same (x ∷ xs) = let later : map meant_of (map kept_of (map node_of xs)) ≡ map meant_of (map node_of xs) = operands_same xs in λ i. beside x.0 (x.1.1 i) ∷ later i

  expression_same : (y : Parts Expression-F) (env : Env) → value_by step (expression_kept tables (expression_parts_kept (expression_of y))) env ≡ expression_step (expression_meant step (expression_of y)) env
  expression_same (Expression-F.Constant x) env = value_constant step x env
  expression_same (Expression-F.Column depth place) env = value_column step depth place env
  expression_same (Expression-F.Calculation x more) env =
      value_calculation step (kept_expression tables x.0) (map kept_of (map node_of more)) env ∙ (λ i. chained (x.1 i env) (operands_same more i) env)
  expression_same (Expression-F.Concatenation x more) env =
      value_concatenation step (kept_expression tables x.0) (map (kept_expression tables) (map (λ (o : (e : Expression) × SameExpression e). o.0) more)) env ∙ (λ i. concatenation (x.1 i env) (expressions_same more i) env)
  expression_same (Expression-F.Negation operand) env = value_negation step (kept_expression tables operand.0) env ∙ (λ i. operand.1 i env >>= negated)
  expression_same (Expression-F.Scalar tree) env =
      scalar-kept (lasting_rows tables (kept_tree tables tree.0)) (kept_tree tables tree.0) (lasting (kept_tree tables tree.0)) env ∙ (λ i. scalar (tree.1 i env))

  condition_same : (y : Parts Condition-F) (env : Env) → truth_by step (condition_kept tables (condition_parts_kept (condition_of y))) env ≡ condition_step (condition_meant step (condition_of y)) env
  condition_same (Condition-F.Or operands) env =
      truth_or step (map (kept_condition tables) (map (λ (o : (c : Condition) × SameCondition c). o.0) operands)) env ∙ (λ i. disjunction (conditions_same operands i) env)
  condition_same (Condition-F.And operands) env =
      truth_and step (map (kept_condition tables) (map (λ (o : (c : Condition) × SameCondition c). o.0) operands)) env ∙ (λ i. conjunction (conditions_same operands i) env)
  condition_same (Condition-F.Not operand) env = truth_negation step (kept_condition tables operand.0) env ∙ (λ i. condition_step (Condition-F.Not (operand.1 i)) env)
  condition_same (Condition-F.IsTruth operand truth) env = truth_test step (kept_condition tables operand.0) truth env ∙ (λ i. condition_step (Condition-F.IsTruth (operand.1 i) truth) env)
  condition_same (Condition-F.Compare op a b) env = truth_compare step op (kept_expression tables a.0) (kept_expression tables b.0) env ∙ (λ i. condition_step (Condition-F.Compare op (a.1 i) (b.1 i)) env)
  condition_same (Condition-F.Between x low high) env =
      truth_between step (kept_expression tables x.0) (kept_expression tables low.0) (kept_expression tables high.0) env ∙ (λ i. condition_step (Condition-F.Between (x.1 i) (low.1 i) (high.1 i)) env)
  condition_same (Condition-F.InList operand values) env = truth_in_list step (kept_expression tables operand.0) values env ∙ (λ i. condition_step (Condition-F.InList (operand.1 i) values) env)
  condition_same (Condition-F.InQuery operand tree) env =
      in-kept (lasting_rows tables (kept_tree tables tree.0)) (kept_expression tables operand.0) (kept_tree tables tree.0) (lasting (kept_tree tables tree.0)) env
      ∙ (λ i. condition_step (Condition-F.InQuery (operand.1 i) (tree.1 i)) env)
  condition_same (Condition-F.Like operand pattern) env =
      truth_like step (kept_expression tables operand.0) (kept_expression tables pattern.0) env ∙ (λ i. condition_step (Condition-F.Like (operand.1 i) (pattern.1 i)) env)
  condition_same (Condition-F.IsNull operand) env = truth_null step (kept_expression tables operand.0) env ∙ (λ i. condition_step (Condition-F.IsNull (operand.1 i)) env)
  condition_same (Condition-F.Exists tree) env =
      exists-kept (lasting_rows tables (kept_tree tables tree.0)) (kept_tree tables tree.0) (lasting (kept_tree tables tree.0)) env ∙ (λ i. exists (tree.1 i env))

  function_same : (y : Parts SetFunction-F) → function_by step (function_kept tables (function_parts_kept (set_function_of y))) ≡ function_step (function_meant step (set_function_of y))
  function_same SetFunction-F.CountRows = function_rows step
  function_same (SetFunction-F.Over function is_distinct argument) = function_over step function is_distinct (kept_expression tables argument.0) ∙ (λ i. Argument function is_distinct (argument.1 i))

  tree_same : (y : Parts Tree-F) → tree_by step (tree_kept tables (tree_parts_kept (tree_of y))) ≡ step (tree_meant step (tree_of y))
  tree_same (Tree-F.Scan table) = tree_scan step table
  tree_same (Tree-F.Filter on rows) = tree_filter step (kept_condition tables on.0) (kept_tree tables rows.0) ∙ (λ i. step (Tree-F.Filter (on.1 i) (rows.1 i)))
  tree_same (Tree-F.Product left right) = tree_product step (kept_tree tables left.0) (kept_tree tables right.0) ∙ (λ i. step (Tree-F.Product (left.1 i) (right.1 i)))
  tree_same (Tree-F.Inner on left right) =
      tree_inner step (kept_condition tables on.0) (kept_tree tables left.0) (kept_tree tables right.0) ∙ (λ i. step (Tree-F.Inner (on.1 i) (left.1 i) (right.1 i)))
  tree_same (Tree-F.Left on left right width) =
      tree_left step (kept_condition tables on.0) (kept_tree tables left.0) (kept_tree tables right.0) width ∙ (λ i. step (Tree-F.Left (on.1 i) (left.1 i) (right.1 i) width))
  tree_same (Tree-F.Half on left right) =
      tree_half step (kept_condition tables on.0) (kept_tree tables left.0) (kept_tree tables right.0) ∙ (λ i. step (Tree-F.Half (on.1 i) (left.1 i) (right.1 i)))
  tree_same (Tree-F.OppositeHalf on left right) =
      tree_opposite step (kept_condition tables on.0) (kept_tree tables left.0) (kept_tree tables right.0) ∙ (λ i. step (Tree-F.OppositeHalf (on.1 i) (left.1 i) (right.1 i)))
  tree_same (Tree-F.Group columns functions rows) =
      tree_group step columns (map (kept_function tables) (map (λ (o : (f : SetFunction) × SameFunction f). o.0) functions)) (kept_tree tables rows.0)
      ∙ (λ i. step (Tree-F.Group columns (functions_same functions i) (rows.1 i)))
  tree_same (Tree-F.Project items rows) =
      tree_project step (map (kept_expression tables) (map (λ (o : (e : Expression) × SameExpression e). o.0) items)) (kept_tree tables rows.0)
      ∙ (λ i. step (Tree-F.Project (expressions_same items i) (rows.1 i)))
  tree_same (Tree-F.Distinct rows) = tree_distinct step (kept_tree tables rows.0) ∙ (λ i. step (Tree-F.Distinct (rows.1 i)))
  tree_same (Tree-F.Set op left right) = tree_set step op (kept_tree tables left.0) (kept_tree tables right.0) ∙ (λ i. step (Tree-F.Set op (left.1 i) (right.1 i)))
  tree_same (Tree-F.Sort keys rows) = tree_sort step keys (kept_tree tables rows.0) ∙ (λ i. step (Tree-F.Sort keys (rows.1 i)))
  tree_same (Tree-F.Seek table columns key) = tree_seek step table columns key
  tree_same (Tree-F.Range table columns low high) = tree_range step table columns low high
  tree_same (Tree-F.IndexLoop on left places table columns) =
      tree_index_loop step (kept_condition tables on.0) (kept_tree tables left.0) places table columns ∙ (λ i. step (Tree-F.IndexLoop (on.1 i) (left.1 i) places table columns))
  tree_same (Tree-F.HashJoin on left right left_places right_places) =
      tree_hash_join step (kept_condition tables on.0) (kept_tree tables left.0) (kept_tree tables right.0) left_places right_places
      ∙ (λ i. step (Tree-F.HashJoin (on.1 i) (left.1 i) (right.1 i) left_places right_places))
  tree_same (Tree-F.Member operand is_negated members rows) =
      tree_member step (kept_expression tables operand.0) is_negated (kept_tree tables members.0) (kept_tree tables rows.0) ∙ (λ i. step (Tree-F.Member (operand.1 i) is_negated (members.1 i) (rows.1 i)))

  condition_whole : (y : Parts Condition-F) (env : Env) → truth_by step (kept_condition tables (roll-Condition (condition_of y))) env ≡ truth_by step (roll-Condition (condition_of y)) env
  condition_whole y env =
      ap (λ x. truth_by step x env) (condition_kept_rolled (condition_of y)) ∙ condition_same y env ∙ (λ i. sym (condition_rolled step (condition_of y)) i env)

  expression_whole : (y : Parts Expression-F) (env : Env) → value_by step (kept_expression tables (roll-Expression (expression_of y))) env ≡ value_by step (roll-Expression (expression_of y)) env
  expression_whole y env =
      ap (λ x. value_by step x env) (expression_kept_rolled (expression_of y)) ∙ expression_same y env ∙ (λ i. sym (expression_rolled step (expression_of y)) i env)

  condition_node : (x : Node Condition-F) (y : Parts Condition-F) → condition_of y ≡ x → SameCondition (roll-Condition x)
  condition_node x y is = subst (λ (z : Node Condition-F). SameCondition (roll-Condition z)) is (λ i env. condition_whole y env i)

  expression_node : (x : Node Expression-F) (y : Parts Expression-F) → expression_of y ≡ x → SameExpression (roll-Expression x)
  expression_node x y is = subst (λ (z : Node Expression-F). SameExpression (roll-Expression z)) is (λ i env. expression_whole y env i)

  function_node : (x : Node SetFunction-F) (y : Parts SetFunction-F) → set_function_of y ≡ x → SameFunction (roll-SetFunction x)
  function_node x y is =
      subst (λ (z : Node SetFunction-F). SameFunction (roll-SetFunction z)) is
      (ap (function_by step) (function_kept_rolled (set_function_of y)) ∙ function_same y ∙ sym (function_rolled step (set_function_of y)))

  tree_node : (x : Node Tree-F) (y : Parts Tree-F) → tree_of y ≡ x → SameTree (roll-Tree x)
  tree_node x y is =
      subst (λ (z : Node Tree-F). SameTree (roll-Tree z)) is (ap (tree_by step) (tree_kept_rolled (tree_of y)) ∙ tree_same y ∙ sym (tree_rolled step (tree_of y)))

  pub trees-same : (x : Tree) → SameTree x
  trees-same = ind-Tree SameCondition SameExpression SameFunction SameTree condition_node expression_node function_node tree_node

  pub conditions-same : (x : Condition) → SameCondition x
  conditions-same = ind-Condition SameCondition SameExpression SameFunction SameTree condition_node expression_node function_node tree_node

  pub expressions-same : (x : Expression) → SameExpression x
  expressions-same = ind-Expression SameCondition SameExpression SameFunction SameTree condition_node expression_node function_node tree_node
