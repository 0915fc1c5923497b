-- The listing of a whole tree stands to its outcome: by induction over the trees.
use Rattle.std.proofs.Common.{◌≡◌, refl, sym, subst, ap, ℕ, Bool, true, false, List, [], map, Option, Ok}
use Rattle.sqlval.specs.Like.{like_of}
use Rattle.sqlval.specs.Truth.{truth_not, truth_is, truth_of}
use Rattle.sqlval.specs.Value.{is_null}
use Rattle.typing.specs.declared.typed.Arithmetic.{Arithmetic}
use Rattle.algebra.specs.declared.tree.Condition.{Condition, Condition-F, roll-Condition, map-Condition, ind-Condition, fold-roll-Condition}
use Rattle.algebra.specs.declared.tree.Expression.{Expression, Expression-F, roll-Expression, map-Expression, ind-Expression, fold-roll-Expression}
use Rattle.algebra.specs.declared.tree.SetFunction.{SetFunction, SetFunction-F, roll-SetFunction, map-SetFunction, fold-roll-SetFunction}
use Rattle.algebra.specs.declared.tree.Tree.{Tree, Tree-F, roll-Tree, map-Tree, ind-Tree, fold-roll-Tree}
use Rattle.algebra.specs.Meaning.{Layer, TreeMeaning, MeantFunction, function_of, condition_step, expression_step, function_step, value_by, truth_by, function_by, tree_by}
use Rattle.algebra.specs.TreeOutcome.{outcome_step}
use Rattle.algebra.specs.Bounds.{rows_within}
use Rattle.algebra.specs.Joined.{matching, negated_if, is_member}
use Rattle.algebra.specs.Listing.{listing_step}
use Rattle.algebra.specs.Sorted.{sorted, ascending}
use Rattle.denote.specs.Condition.{ConditionMeaning, among, first_column}
use Rattle.denote.specs.Evaluation.{Env, ◌>>=◌}
use Rattle.denote.specs.Expression.{ExpressionMeaning, negated}
use Rattle.denote.specs.From.{kept_row}
use Rattle.denote.specs.Meaning.{Tables}
use Rattle.denote.specs.Outcome.{whole}
use Rattle.denote.specs.Select.{shown_row}
use Rattle.operator_laws.proofs.Same.{Each-mapped}
use Rattle.algebra_laws.proofs.RolledTrees.{Node, condition_meant, condition_rolled, expression_meant, expression_rolled, function_meant, function_rolled, tree_meant, tree_rolled}
use Rattle.algebra_laws.specs.Shown.{Shows, ShowsAt, Lists, ListsAt}
use Rattle.algebra_laws.proofs.Evaluations.{Shows-refl, ShowsNext, then-shows, two-shows, chained-shows, concatenation-shows, conjunction-shows, disjunction-shows, compared-shows, between-shows}
use Rattle.algebra_laws.proofs.Queries.{scalar-shows, exists-shows, in_query-shows}
use Rattle.algebra_laws.proofs.Rows.{through-lists, kept-shows, shown-shows}
use Rattle.algebra_laws.proofs.Joins.{Lists-refl, product-lists, inner-lists}
use Rattle.algebra_laws.proofs.Sides.{left-lists, half-lists, hash-lists, index-lists}
use Rattle.algebra_laws.proofs.Sets.{distinct-lists, set-lists, reordered-lists, sorted-permutes, range-lists}
use Rattle.algebra_laws.proofs.Groups.{ShowsFunction, group-lists}

module _ (tables : Tables) where
  abbrev listed : Layer Tree-F → TreeMeaning
  listed = listing_step tables

  abbrev denoted : Layer Tree-F → TreeMeaning
  denoted = outcome_step tables

  abbrev ShowsCondition : Condition → Type 0
  ShowsCondition c = ShowsAt (truth_by listed c) (truth_by denoted c)

  abbrev ShowsExpression : Expression → Type 0
  ShowsExpression e = ShowsAt (value_by listed e) (value_by denoted e)

  abbrev ShowsSetFunction : SetFunction → Type 0
  ShowsSetFunction f = ShowsFunction (function_by listed f) (function_by denoted f)

  abbrev ListsTree : Tree → Type 0
  ListsTree t = ListsAt (tree_by listed t) (tree_by denoted t)

  abbrev Parts : ((A B C D : Type 0) → Type 0) → Type 0
  Parts T = T ((c : Condition) × ShowsCondition c) ((e : Expression) × ShowsExpression e) ((f : SetFunction) × ShowsSetFunction f) ((t : Tree) × ListsTree t)

  abbrev condition_of : Parts Condition-F → Node Condition-F
  condition_of y = map-Condition _ _ _ _ _ _ _ _ (λ p. p.0) (λ p. p.0) (λ p. p.0) (λ p. p.0) y

  abbrev expression_of : Parts Expression-F → Node Expression-F
  expression_of y = map-Expression _ _ _ _ _ _ _ _ (λ p. p.0) (λ p. p.0) (λ p. p.0) (λ p. p.0) y

  abbrev set_function_of : Parts SetFunction-F → Node SetFunction-F
  set_function_of y = map-SetFunction _ _ _ _ _ _ _ _ (λ p. p.0) (λ p. p.0) (λ p. p.0) (λ p. p.0) y

  abbrev tree_of : Parts Tree-F → Node Tree-F
  tree_of y = map-Tree _ _ _ _ _ _ _ _ (λ p. p.0) (λ p. p.0) (λ p. p.0) (λ p. p.0) y

  condition_step-shows : (y : Parts Condition-F) → ShowsAt (condition_step (condition_meant listed (condition_of y))) (condition_step (condition_meant denoted (condition_of y)))
  condition_step-shows (Condition-F.Or operands) env =
      disjunction-shows (map (truth_by listed) (map (λ o. o.0) operands)) (map (truth_by denoted) (map (λ o. o.0) operands))
      (Each-mapped ShowsAt (truth_by listed) (truth_by denoted) (λ (o : (c : Condition) × ShowsCondition c). o.0) operands (λ o. o.1)) env
  condition_step-shows (Condition-F.And operands) env =
      conjunction-shows (map (truth_by listed) (map (λ o. o.0) operands)) (map (truth_by denoted) (map (λ o. o.0) operands))
      (Each-mapped ShowsAt (truth_by listed) (truth_by denoted) (λ (o : (c : Condition) × ShowsCondition c). o.0) operands (λ o. o.1)) env
  condition_step-shows (Condition-F.Not operand) env = then-shows (truth_by listed operand.0 env) (truth_by denoted operand.0 env) (λ v. Ok (truth_not v)) (operand.1 env)
  condition_step-shows (Condition-F.IsTruth operand truth) env = then-shows (truth_by listed operand.0 env) (truth_by denoted operand.0 env) (λ v. Ok (truth_is v truth)) (operand.1 env)
  condition_step-shows (Condition-F.Compare op a b) env = compared-shows op (value_by listed a.0) (value_by denoted a.0) (value_by listed b.0) (value_by denoted b.0) a.1 b.1 env
  condition_step-shows (Condition-F.Between x low high) env =
      between-shows (value_by listed x.0) (value_by denoted x.0) (value_by listed low.0) (value_by denoted low.0) (value_by listed high.0) (value_by denoted high.0) x.1 low.1 high.1 env
  condition_step-shows (Condition-F.InList operand values) env = then-shows (value_by listed operand.0 env) (value_by denoted operand.0 env) (λ x. Ok (among x values)) (operand.1 env)
  condition_step-shows (Condition-F.InQuery operand tree) env =
      in_query-shows (value_by listed operand.0 env) (value_by denoted operand.0 env) (tree_by listed tree.0 env) (tree_by denoted tree.0 env) (operand.1 env) (tree.1 env)
  condition_step-shows (Condition-F.Like operand pattern) env =
      two-shows (value_by listed operand.0) (value_by denoted operand.0) (value_by listed pattern.0) (value_by denoted pattern.0) (λ x y. Ok (like_of x y)) operand.1 pattern.1 env
  condition_step-shows (Condition-F.IsNull operand) env = then-shows (value_by listed operand.0 env) (value_by denoted operand.0 env) (λ x. Ok (truth_of (is_null x))) (operand.1 env)
  condition_step-shows (Condition-F.Exists tree) env = exists-shows (tree_by listed tree.0 env) (tree_by denoted tree.0 env) (tree.1 env)

  expression_step-shows : (y : Parts Expression-F) → ShowsAt (expression_step (expression_meant listed (expression_of y))) (expression_step (expression_meant denoted (expression_of y)))
  expression_step-shows (Expression-F.Constant x) env = refl
  expression_step-shows (Expression-F.Column depth place) env = refl
  expression_step-shows (Expression-F.Calculation first others) env =
      chained-shows (value_by listed first.0 env) (value_by denoted first.0 env) (map (λ o. (o.0, value_by listed o.1)) (map (λ o. (o.0, o.1.0)) others))
      (map (λ o. (o.0, value_by denoted o.1)) (map (λ o. (o.0, o.1.0)) others)) env (first.1 env)
      (Each-mapped ShowsNext (λ (o : Arithmetic × Expression). (o.0, value_by listed o.1)) (λ (o : Arithmetic × Expression). (o.0, value_by denoted o.1))
      (λ (o : Arithmetic × ((e : Expression) × ShowsExpression e)). (o.0, o.1.0)) others (λ o. (refl, o.1.1)))
  expression_step-shows (Expression-F.Concatenation first others) env =
      concatenation-shows (value_by listed first.0 env) (value_by denoted first.0 env) (map (value_by listed) (map (λ o. o.0) others))
      (map (value_by denoted) (map (λ o. o.0) others)) env (first.1 env)
      (Each-mapped ShowsAt (value_by listed) (value_by denoted) (λ (o : (e : Expression) × ShowsExpression e). o.0) others (λ o. o.1))
  expression_step-shows (Expression-F.Negation operand) env = then-shows (value_by listed operand.0 env) (value_by denoted operand.0 env) negated (operand.1 env)
  expression_step-shows (Expression-F.Scalar tree) env = scalar-shows (tree_by listed tree.0 env) (tree_by denoted tree.0 env) (tree.1 env)

  function_step-shows : (y : Parts SetFunction-F) → ShowsFunction (function_step (function_meant listed (set_function_of y))) (function_step (function_meant denoted (set_function_of y)))
  function_step-shows SetFunction-F.CountRows = tt
  function_step-shows (SetFunction-F.Over function is_distinct argument) = (refl, refl, argument.1)

  -- IN the rows of a tree, or not
  member-shows : (operand : (e : Expression) × ShowsExpression e) (is_negated : Bool) (members : (t : Tree) × ListsTree t) (env : Env)
      → ShowsAt (is_member (value_by listed operand.0) is_negated (tree_by listed members.0 env)) (is_member (value_by denoted operand.0) is_negated (tree_by denoted members.0 env))
  member-shows operand is_negated members env inner =
      then-shows (value_by listed operand.0 inner >>= (λ v. whole (tree_by listed members.0 env) >>= (λ rows. Ok (among v (first_column rows)))))
      (value_by denoted operand.0 inner >>= (λ v. whole (tree_by denoted members.0 env) >>= (λ rows. Ok (among v (first_column rows))))) (λ t. Ok (negated_if is_negated t))
      (in_query-shows (value_by listed operand.0 inner) (value_by denoted operand.0 inner) (tree_by listed members.0 env) (tree_by denoted members.0 env) (operand.1 inner) (members.1 env))

  tree_step-lists : (y : Parts Tree-F) → ListsAt (listed (tree_meant listed (tree_of y))) (denoted (tree_meant denoted (tree_of y)))
  tree_step-lists (Tree-F.Scan table) env = Lists-refl _
  tree_step-lists (Tree-F.Filter condition tree) env =
      through-lists (tree_by listed tree.0 env) (tree_by denoted tree.0 env) (kept_row (truth_by listed condition.0) env) (kept_row (truth_by denoted condition.0) env) (tree.1 env)
      (λ row. kept-shows (truth_by listed condition.0) (truth_by denoted condition.0) env row condition.1)
  tree_step-lists (Tree-F.Product left right) env = product-lists (tree_by listed left.0 env) (tree_by denoted left.0 env) (tree_by listed right.0 env) (tree_by denoted right.0 env) (left.1 env) (right.1 env)
  tree_step-lists (Tree-F.Inner on left right) env =
      inner-lists (truth_by listed on.0) (truth_by denoted on.0) env (tree_by listed left.0 env) (tree_by denoted left.0 env) (tree_by listed right.0 env) (tree_by denoted right.0 env) on.1 (left.1 env) (right.1 env)
  tree_step-lists (Tree-F.Left on left right width) env =
      left-lists (truth_by listed on.0) (truth_by denoted on.0) env width (tree_by listed left.0 env) (tree_by denoted left.0 env) (tree_by listed right.0 env) (tree_by denoted right.0 env) on.1 (left.1 env) (right.1 env)
  tree_step-lists (Tree-F.Group columns functions rows) env =
      group-lists columns (map (function_by listed) (map (λ o. o.0) functions)) (map (function_by denoted) (map (λ o. o.0) functions)) env (tree_by listed rows.0 env) (tree_by denoted rows.0 env)
      (Each-mapped ShowsFunction (function_by listed) (function_by denoted) (λ (o : (f : SetFunction) × ShowsSetFunction f). o.0) functions (λ o. o.1)) (rows.1 env)
  tree_step-lists (Tree-F.Project items tree) env =
      through-lists (tree_by listed tree.0 env) (tree_by denoted tree.0 env) (shown_row (map (value_by listed) (map (λ o. o.0) items)) env) (shown_row (map (value_by denoted) (map (λ o. o.0) items)) env) (tree.1 env)
      (λ row. shown-shows (map (value_by listed) (map (λ o. o.0) items)) (map (value_by denoted) (map (λ o. o.0) items)) env row
      (Each-mapped ShowsAt (value_by listed) (value_by denoted) (λ (o : (e : Expression) × ShowsExpression e). o.0) items (λ o. o.1)))
  tree_step-lists (Tree-F.Distinct tree) env = distinct-lists (tree_by listed tree.0 env) (tree_by denoted tree.0 env) (tree.1 env)
  tree_step-lists (Tree-F.Set op left right) env = set-lists op (tree_by listed left.0 env) (tree_by denoted left.0 env) (tree_by listed right.0 env) (tree_by denoted right.0 env) (left.1 env) (right.1 env)
  tree_step-lists (Tree-F.Half on left right) env =
      half-lists true (truth_by listed on.0) (truth_by denoted on.0) env (tree_by listed left.0 env) (tree_by denoted left.0 env) (tree_by listed right.0 env) (tree_by denoted right.0 env) on.1 (left.1 env) (right.1 env)
  tree_step-lists (Tree-F.OppositeHalf on left right) env =
      half-lists false (truth_by listed on.0) (truth_by denoted on.0) env (tree_by listed left.0 env) (tree_by denoted left.0 env) (tree_by listed right.0 env) (tree_by denoted right.0 env) on.1 (left.1 env) (right.1 env)
  tree_step-lists (Tree-F.Sort keys tree) env = reordered-lists (sorted keys) (sorted-permutes keys) (tree_by listed tree.0 env) (tree_by denoted tree.0 env) (tree.1 env)
  tree_step-lists (Tree-F.Seek table columns key) env = Lists-refl _
  tree_step-lists (Tree-F.Range table columns low high) env = range-lists (ascending columns) (rows_within columns low high (tables table.name))
  tree_step-lists (Tree-F.IndexLoop on left places table columns) env =
      index-lists (truth_by listed on.0) (truth_by denoted on.0) env (matching places columns (tables table.name)) (tree_by listed left.0 env) (tree_by denoted left.0 env) on.1 (left.1 env)
  tree_step-lists (Tree-F.HashJoin on left right left_places right_places) env =
      hash-lists (truth_by listed on.0) (truth_by denoted on.0) env left_places right_places (tree_by listed left.0 env) (tree_by denoted left.0 env) (tree_by listed right.0 env) (tree_by denoted right.0 env) on.1
      (left.1 env) (right.1 env)
  tree_step-lists (Tree-F.Member operand is_negated members rows) env =
      through-lists (tree_by listed rows.0 env) (tree_by denoted rows.0 env) (kept_row (is_member (value_by listed operand.0) is_negated (tree_by listed members.0 env)) env)
      (kept_row (is_member (value_by denoted operand.0) is_negated (tree_by denoted members.0 env)) env) (rows.1 env)
      (λ row. kept-shows (is_member (value_by listed operand.0) is_negated (tree_by listed members.0 env)) (is_member (value_by denoted operand.0) is_negated (tree_by denoted members.0 env)) env row
      (member-shows operand is_negated members env))

  condition_node : (x : Node Condition-F) (y : Parts Condition-F) → condition_of y ≡ x → ShowsCondition (roll-Condition x)
  condition_node x y is =
      subst (λ (z : Node Condition-F). ShowsCondition (roll-Condition z)) is
      (subst (λ (f : ConditionMeaning). ShowsAt f (truth_by denoted (roll-Condition (condition_of y)))) (sym (condition_rolled listed (condition_of y)))
      (subst (λ (g : ConditionMeaning). ShowsAt (condition_step (condition_meant listed (condition_of y))) g) (sym (condition_rolled denoted (condition_of y))) (condition_step-shows y)))

  expression_node : (x : Node Expression-F) (y : Parts Expression-F) → expression_of y ≡ x → ShowsExpression (roll-Expression x)
  expression_node x y is =
      subst (λ (z : Node Expression-F). ShowsExpression (roll-Expression z)) is
      (subst (λ (f : ExpressionMeaning). ShowsAt f (value_by denoted (roll-Expression (expression_of y)))) (sym (expression_rolled listed (expression_of y)))
      (subst (λ (g : ExpressionMeaning). ShowsAt (expression_step (expression_meant listed (expression_of y))) g) (sym (expression_rolled denoted (expression_of y))) (expression_step-shows y)))

  function_node : (x : Node SetFunction-F) (y : Parts SetFunction-F) → set_function_of y ≡ x → ShowsSetFunction (roll-SetFunction x)
  function_node x y is =
      subst (λ (z : Node SetFunction-F). ShowsSetFunction (roll-SetFunction z)) is
      (subst (λ (f : MeantFunction). ShowsFunction f (function_by denoted (roll-SetFunction (set_function_of y)))) (sym (function_rolled listed (set_function_of y)))
      (subst (λ (g : MeantFunction). ShowsFunction (function_step (function_meant listed (set_function_of y))) g) (sym (function_rolled denoted (set_function_of y))) (function_step-shows y)))

  tree_node : (x : Node Tree-F) (y : Parts Tree-F) → tree_of y ≡ x → ListsTree (roll-Tree x)
  tree_node x y is =
      subst (λ (z : Node Tree-F). ListsTree (roll-Tree z)) is
      (subst (λ (f : TreeMeaning). ListsAt f (tree_by denoted (roll-Tree (tree_of y)))) (sym (tree_rolled listed (tree_of y)))
      (subst (λ (g : TreeMeaning). ListsAt (listed (tree_meant listed (tree_of y))) g) (sym (tree_rolled denoted (tree_of y))) (tree_step-lists y)))

  pub trees-list : (t : Tree) → ListsTree t
  trees-list = ind-Tree ShowsCondition ShowsExpression ShowsSetFunction ListsTree condition_node expression_node function_node tree_node

  pub conditions-show : (c : Condition) → ShowsCondition c
  conditions-show = ind-Condition ShowsCondition ShowsExpression ShowsSetFunction ListsTree condition_node expression_node function_node tree_node

  pub expressions-show : (e : Expression) → ShowsExpression e
  expressions-show = ind-Expression ShowsCondition ShowsExpression ShowsSetFunction ListsTree condition_node expression_node function_node tree_node
