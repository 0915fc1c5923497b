-- Of each stored table that the tree of a query knows of, it knows what was described: by induction
-- over the typed trees.
use Rattle.std.proofs.Common.{◌≡◌, sym, ◌∙◌, subst, ap, ℕ, Bool, true, false, List, [], ◌∷◌, ◌++◌, map, flat_map, Option, Some, None}
use Rattle.typing.specs.declared.typed.Arithmetic.{Arithmetic}
use Rattle.typing.specs.declared.typed.OrderKey.{OrderKey}
use Rattle.typing.specs.declared.typed.OrderedQuery.{OrderedQuery}
use Rattle.typing.specs.declared.typed.SetOperation.{SetOperation}
use Rattle.typing.specs.declared.typed.Condition as typed_condition
use Rattle.typing.specs.declared.typed.Expression as typed_expression
use Rattle.typing.specs.declared.typed.Query as typed_query
use Rattle.typing.specs.declared.typed.SetFunction as typed_function
use Rattle.typing.specs.declared.typed.Source as typed_source
use Rattle.typing.specs.declared.typed.Grouping as typed_grouping
use Rattle.typing.specs.declared.typed.Item as typed_item
use Rattle.typing.specs.declared.typed.Select as typed_select
use Rattle.algebra.specs.declared.tree.StoredTable.{StoredTable}
use Rattle.algebra.specs.declared.tree.Expression.{Expression}
use Rattle.algebra.specs.declared.tree.Condition.{Condition}
use Rattle.algebra.specs.declared.tree.SetFunction.{SetFunction}
use Rattle.algebra.specs.declared.tree.Tree.{Tree}
use Rattle.algebra.specs.declared.tree.Tree.TheVariants as t
use Rattle.algebra.specs.Translated.{condition_tree, distinct_tree, expression_tree, filter_tree, function_tree, grouping_tree, query_tree, select_tree, set_tree, sorted_tree, source_tree, tree_of_condition, tree_of_expression, tree_of_function, tree_of_grouping, tree_of_item, tree_of_ordered, tree_of_query, tree_of_select, tree_of_source}
use Rattle.operator_laws.proofs.Rolled.{Node}
use Rattle.operator_laws.specs.Same.{Every}
use Rattle.rules.specs.Stored.{StoredTables, all_stored, stored_in_condition, stored_in_expression, stored_in_function, stored_in_tree}
use Rattle.rules.proofs.StoredNodes.{condition_and, condition_between, condition_compare, condition_exists, condition_in_list, condition_in_query, condition_like, condition_not, condition_null, condition_or, condition_test, expression_calculation, expression_column, expression_concatenation, expression_constant, expression_negation, expression_scalar, function_over, function_rows, tree_distinct, tree_filter, tree_group, tree_inner, tree_left, tree_product, tree_project, tree_scan, tree_set, tree_sort}
use Rattle.known_tables.proofs.Made.{condition_is, condition_made, expression_is, expression_made, function_is, function_made, grouping_is, grouping_made, item_is, item_made, query_is, query_made, select_is, select_made, source_is, source_made}

-- P holds of whatever is described
module _ (described : List ℕ → StoredTable) (P : StoredTable → Type 0) (holds : (name : List ℕ) → P (described name)) where
  abbrev All : StoredTables → Type 0
  All = Every P

  both : (xs ys : StoredTables) → All xs → All ys → All (xs ++ ys)
  both [] ys h k = k
  both (x ∷ xs) ys h k = (h.0, both xs ys h.1 k)

  abbrev ToldTree : Tree → Type 0
  ToldTree tree = All (stored_in_tree tree)

  abbrev ToldCondition : typed_condition.Condition → Type 0
  ToldCondition x = All (stored_in_condition (tree_of_condition described x))

  abbrev ToldExpression : typed_expression.Expression → Type 0
  ToldExpression x = All (stored_in_expression (tree_of_expression described x))

  abbrev ToldQuery : typed_query.Query → Type 0
  ToldQuery x = ToldTree (tree_of_query described x)

  abbrev ToldFunction : typed_function.SetFunction → Type 0
  ToldFunction x = All (stored_in_function (tree_of_function described x))

  abbrev ToldSource : typed_source.Source → Type 0
  ToldSource x = ToldTree (tree_of_source described x)

  abbrev ToldGrouping : typed_grouping.Grouping → Type 0
  ToldGrouping x = (tree : Tree) → ToldTree tree → ToldTree (tree_of_grouping described x tree)

  abbrev ToldItem : typed_item.Item → Type 0
  ToldItem x = All (stored_in_expression (tree_of_item described x))

  abbrev ToldSelect : typed_select.Select → Type 0
  ToldSelect x = ToldTree (tree_of_select described x)

  abbrev Parts : ((A B C D E F G H : Type 0) → Type 0) → Type 0
  Parts T =
      T ((x : typed_condition.Condition) × ToldCondition x) ((x : typed_expression.Expression) × ToldExpression x) ((x : typed_query.Query) × ToldQuery x)
      ((x : typed_function.SetFunction) × ToldFunction x) ((x : typed_source.Source) × ToldSource x) ((x : typed_grouping.Grouping) × ToldGrouping x)
      ((x : typed_item.Item) × ToldItem x) ((x : typed_select.Select) × ToldSelect x)

  abbrev condition_of : Parts typed_condition.Condition-F → Node typed_condition.Condition-F
  condition_of y = typed_condition.map-Condition _ _ _ _ _ _ _ _ _ _ _ _ _ _ _ _ (λ p. p.0) (λ p. p.0) (λ p. p.0) (λ p. p.0) (λ p. p.0) (λ p. p.0) (λ p. p.0) (λ p. p.0) y

  abbrev expression_of : Parts typed_expression.Expression-F → Node typed_expression.Expression-F
  expression_of y = typed_expression.map-Expression _ _ _ _ _ _ _ _ _ _ _ _ _ _ _ _ (λ p. p.0) (λ p. p.0) (λ p. p.0) (λ p. p.0) (λ p. p.0) (λ p. p.0) (λ p. p.0) (λ p. p.0) y

  abbrev query_of : Parts typed_query.Query-F → Node typed_query.Query-F
  query_of y = typed_query.map-Query _ _ _ _ _ _ _ _ _ _ _ _ _ _ _ _ (λ p. p.0) (λ p. p.0) (λ p. p.0) (λ p. p.0) (λ p. p.0) (λ p. p.0) (λ p. p.0) (λ p. p.0) y

  abbrev function_of : Parts typed_function.SetFunction-F → Node typed_function.SetFunction-F
  function_of y = typed_function.map-SetFunction _ _ _ _ _ _ _ _ _ _ _ _ _ _ _ _ (λ p. p.0) (λ p. p.0) (λ p. p.0) (λ p. p.0) (λ p. p.0) (λ p. p.0) (λ p. p.0) (λ p. p.0) y

  abbrev source_of : Parts typed_source.Source-F → Node typed_source.Source-F
  source_of y = typed_source.map-Source _ _ _ _ _ _ _ _ _ _ _ _ _ _ _ _ (λ p. p.0) (λ p. p.0) (λ p. p.0) (λ p. p.0) (λ p. p.0) (λ p. p.0) (λ p. p.0) (λ p. p.0) y

  abbrev grouping_of : Parts typed_grouping.Grouping-F → Node typed_grouping.Grouping-F
  grouping_of y = typed_grouping.map-Grouping _ _ _ _ _ _ _ _ _ _ _ _ _ _ _ _ (λ p. p.0) (λ p. p.0) (λ p. p.0) (λ p. p.0) (λ p. p.0) (λ p. p.0) (λ p. p.0) (λ p. p.0) y

  abbrev item_of : Parts typed_item.Item-F → Node typed_item.Item-F
  item_of y = typed_item.map-Item _ _ _ _ _ _ _ _ _ _ _ _ _ _ _ _ (λ p. p.0) (λ p. p.0) (λ p. p.0) (λ p. p.0) (λ p. p.0) (λ p. p.0) (λ p. p.0) (λ p. p.0) y

  abbrev select_of : Parts typed_select.Select-F → Node typed_select.Select-F
  select_of y = typed_select.map-Select _ _ _ _ _ _ _ _ _ _ _ _ _ _ _ _ (λ p. p.0) (λ p. p.0) (λ p. p.0) (λ p. p.0) (λ p. p.0) (λ p. p.0) (λ p. p.0) (λ p. p.0) y

  -- the parts of a list, each told
  each : {A B : Type 0} (stored : B → StoredTables) (made : A → B) (parts : List ((x : A) × All (stored (made x))))
      → All (all_stored (map stored (map made (map (λ p. p.0) parts))))
  each stored made [] = tt
  each stored made (part ∷ parts) = both _ _ part.1 (each stored made parts)

  operands : (parts : List (Arithmetic × ((x : typed_expression.Expression) × ToldExpression x)))
      → All (flat_map (λ (other : Arithmetic × Expression). stored_in_expression other.1)
      (map (λ (o : Arithmetic × typed_expression.Expression). (o.0, tree_of_expression described o.1))
      (map (λ (o : Arithmetic × ((x : typed_expression.Expression) × ToldExpression x)). (o.0, o.1.0)) parts)))
  operands [] = tt
  operands (part ∷ parts) = both _ _ part.1.1 (operands parts)

  condition_told : (y : Parts typed_condition.Condition-F)
      → All (stored_in_condition (condition_tree (condition_made described (condition_of y))))
  condition_told (typed_condition.Condition-F.Or parts) = rw (condition_or) (each stored_in_condition (tree_of_condition described) parts)
  condition_told (typed_condition.Condition-F.And parts) = rw (condition_and) (each stored_in_condition (tree_of_condition described) parts)
  condition_told (typed_condition.Condition-F.Not operand) = rw (condition_not) operand.1
  condition_told (typed_condition.Condition-F.IsTruth operand truth) = rw (condition_test) operand.1
  condition_told (typed_condition.Condition-F.Compare op a b) = rw (condition_compare) (both _ _ a.1 b.1)
  condition_told (typed_condition.Condition-F.Between operand low high) =
      rw (condition_between) (both _ _ operand.1 (both _ _ low.1 high.1))
  condition_told (typed_condition.Condition-F.InList operand values) = rw (condition_in_list) operand.1
  condition_told (typed_condition.Condition-F.InQuery operand query) = rw (condition_in_query) (both _ _ operand.1 query.1)
  condition_told (typed_condition.Condition-F.Like operand pattern) = rw (condition_like) (both _ _ operand.1 pattern.1)
  condition_told (typed_condition.Condition-F.IsNull operand) = rw (condition_null) operand.1
  condition_told (typed_condition.Condition-F.Exists query) = rw (condition_exists) query.1

  expression_told : (y : Parts typed_expression.Expression-F)
      → All (stored_in_expression (expression_tree (expression_made described (expression_of y))))
  expression_told (typed_expression.Expression-F.Constant x) = rw (expression_constant) tt
  expression_told (typed_expression.Expression-F.Column depth place) = rw (expression_column) tt
  expression_told (typed_expression.Expression-F.Calculation first others) =
      rw (expression_calculation) (both _ _ first.1 (operands others))
  expression_told (typed_expression.Expression-F.Concatenation first others) =
      rw (expression_concatenation) (both _ _ first.1 (each stored_in_expression (tree_of_expression described) others))
  expression_told (typed_expression.Expression-F.Negation operand) = rw (expression_negation) operand.1
  expression_told (typed_expression.Expression-F.Scalar query) = rw (expression_scalar) query.1

  function_told : (y : Parts typed_function.SetFunction-F)
      → All (stored_in_function (function_tree (function_made described (function_of y))))
  function_told typed_function.SetFunction-F.CountRows = rw (function_rows) tt
  function_told (typed_function.SetFunction-F.Over function is_distinct argument) = rw (function_over) argument.1

  source_told : (y : Parts typed_source.Source-F) → ToldTree (source_tree described (source_made described (source_of y)))
  source_told (typed_source.Source-F.Table name) = rw (tree_scan) (holds name, tt)
  source_told (typed_source.Source-F.Derived query) = query.1
  source_told (typed_source.Source-F.Product left right) = rw (tree_product) (both _ _ left.1 right.1)
  source_told (typed_source.Source-F.Inner on left right) = rw (tree_inner) (both _ _ on.1 (both _ _ left.1 right.1))
  source_told (typed_source.Source-F.Left on left right width) = rw (tree_left) (both _ _ on.1 (both _ _ left.1 right.1))

  -- ---- nodes over a tree that is told

  kept : (is_distinct : Bool) (parts : List ((x : typed_item.Item) × ToldItem x)) (tree : Tree) → ToldTree tree
      → ToldTree (distinct_tree is_distinct (t.Project (map (tree_of_item described) (map (λ p. p.0) parts)) tree))
  kept false parts tree h = rw (tree_project) (both _ _ (each stored_in_expression (tree_of_item described) parts) h)
  kept true parts tree h =
      rw (tree_distinct, tree_project) (both _ _ (each stored_in_expression (tree_of_item described) parts) h)

  grouping_told : (columns : Option (List ℕ)) (functions : List ((x : typed_function.SetFunction) × ToldFunction x))
      (having : Option ((x : typed_condition.Condition) × ToldCondition x)) (tree : Tree) → ToldTree tree
      → ToldTree (grouping_tree (grouping_made described (grouping_of (record { columns = columns; functions = functions; having = having }))) tree)
  grouping_told columns functions None tree h =
      rw (tree_group) (both _ _ (each stored_in_function (tree_of_function described) functions) h)
  grouping_told columns functions (Some having) tree h =
      rw (tree_filter, tree_group) (both _ _ having.1 (both _ _ (each stored_in_function (tree_of_function described) functions) h))

  sifted : (condition : (x : typed_condition.Condition) × ToldCondition x) (tree : Tree) → ToldTree tree
      → ToldTree (t.Filter (tree_of_condition described condition.0) tree)
  sifted condition tree h = rw (tree_filter) (both _ _ condition.1 h)

  select_told : (is_distinct : Bool) (items : List ((x : typed_item.Item) × ToldItem x)) (from : (x : typed_source.Source) × ToldSource x)
      (condition : Option ((x : typed_condition.Condition) × ToldCondition x)) (grouping : Option ((x : typed_grouping.Grouping) × ToldGrouping x))
      → ToldTree (select_tree (select_made described (select_of (record { distinct = is_distinct; items = items; from = from; filter = condition; grouping = grouping }))))
  select_told is_distinct items from None None = kept is_distinct items (tree_of_source described from.0) from.1
  select_told is_distinct items from (Some condition) None =
      kept is_distinct items (t.Filter (tree_of_condition described condition.0) (tree_of_source described from.0))
      (sifted condition (tree_of_source described from.0) from.1)
  select_told is_distinct items from None (Some grouping) =
      kept is_distinct items (tree_of_grouping described grouping.0 (tree_of_source described from.0)) (grouping.1 _ from.1)
  select_told is_distinct items from (Some condition) (Some grouping) =
      kept is_distinct items
      (tree_of_grouping described grouping.0 (t.Filter (tree_of_condition described condition.0) (tree_of_source described from.0)))
      (grouping.1 _ (sifted condition (tree_of_source described from.0) from.1))

  sets_told : (left : Tree) (others : List (SetOperation × ((x : typed_query.Query) × ToldQuery x))) → ToldTree left
      → ToldTree (set_tree left (map (λ (o : SetOperation × typed_query.Query). (o.0, tree_of_query described o.1))
      (map (λ (o : SetOperation × ((x : typed_query.Query) × ToldQuery x)). (o.0, o.1.0)) others)))
  sets_told left [] h = h
  sets_told left (o ∷ others) h = sets_told (t.Set o.0 left (tree_of_query described o.1.0)) others (rw (tree_set) (both _ _ h o.1.1))

  query_told : (y : Parts typed_query.Query-F) → ToldTree (query_tree (query_made described (query_of y)))
  query_told (typed_query.Query-F.Select select) = select.1
  query_told (typed_query.Query-F.Combined first others) = sets_told (tree_of_query described first.0) others first.1

  -- ---- each node, and the induction

  condition_node : (x : Node typed_condition.Condition-F) (y : Parts typed_condition.Condition-F) → condition_of y ≡ x → ToldCondition (typed_condition.roll-Condition x)
  condition_node x y is = subst (λ (z : Node typed_condition.Condition-F). ToldCondition (typed_condition.roll-Condition z)) is
      (subst (λ (c : Condition). All (stored_in_condition c)) (sym (condition_is described (condition_of y))) (condition_told y))

  expression_node : (x : Node typed_expression.Expression-F) (y : Parts typed_expression.Expression-F) → expression_of y ≡ x → ToldExpression (typed_expression.roll-Expression x)
  expression_node x y is = subst (λ (z : Node typed_expression.Expression-F). ToldExpression (typed_expression.roll-Expression z)) is
      (subst (λ (e : Expression). All (stored_in_expression e)) (sym (expression_is described (expression_of y))) (expression_told y))

  query_node : (x : Node typed_query.Query-F) (y : Parts typed_query.Query-F) → query_of y ≡ x → ToldQuery (typed_query.roll-Query x)
  query_node x y is = subst (λ (z : Node typed_query.Query-F). ToldQuery (typed_query.roll-Query z)) is
      (subst ToldTree (sym (query_is described (query_of y))) (query_told y))

  function_node : (x : Node typed_function.SetFunction-F) (y : Parts typed_function.SetFunction-F) → function_of y ≡ x → ToldFunction (typed_function.roll-SetFunction x)
  function_node x y is = subst (λ (z : Node typed_function.SetFunction-F). ToldFunction (typed_function.roll-SetFunction z)) is
      (subst (λ (f : SetFunction). All (stored_in_function f)) (sym (function_is described (function_of y))) (function_told y))

  source_node : (x : Node typed_source.Source-F) (y : Parts typed_source.Source-F) → source_of y ≡ x → ToldSource (typed_source.roll-Source x)
  source_node x y is = subst (λ (z : Node typed_source.Source-F). ToldSource (typed_source.roll-Source z)) is
      (subst ToldTree (sym (source_is described (source_of y))) (source_told y))

  grouping_node : (x : Node typed_grouping.Grouping-F) (y : Parts typed_grouping.Grouping-F) → grouping_of y ≡ x → ToldGrouping (typed_grouping.roll-Grouping x)
  grouping_node x y is = subst (λ (z : Node typed_grouping.Grouping-F). ToldGrouping (typed_grouping.roll-Grouping z)) is
      (λ tree h. subst (λ (made : Tree → Tree). ToldTree (made tree)) (sym (grouping_is described (grouping_of y)))
      (grouping_told y.columns y.functions y.having tree h))

  item_node : (x : Node typed_item.Item-F) (y : Parts typed_item.Item-F) → item_of y ≡ x → ToldItem (typed_item.roll-Item x)
  item_node x y is = subst (λ (z : Node typed_item.Item-F). ToldItem (typed_item.roll-Item z)) is
      (subst (λ (e : Expression). All (stored_in_expression e)) (sym (item_is described (item_of y))) y.expression.1)

  select_node : (x : Node typed_select.Select-F) (y : Parts typed_select.Select-F) → select_of y ≡ x → ToldSelect (typed_select.roll-Select x)
  select_node x y is = subst (λ (z : Node typed_select.Select-F). ToldSelect (typed_select.roll-Select z)) is
      (subst ToldTree (sym (select_is described (select_of y))) (select_told y.distinct y.items y.from y.filter y.grouping))

  queries-told : (x : typed_query.Query) → ToldQuery x
  queries-told = typed_query.ind-Query ToldCondition ToldExpression ToldQuery ToldFunction ToldSource ToldGrouping ToldItem ToldSelect
      condition_node expression_node query_node function_node source_node grouping_node item_node select_node

  pub ordered-told : (x : OrderedQuery) → All (stored_in_tree (tree_of_ordered described x))
  ordered-told x = at x.keys
    where
      at : (keys : List OrderKey) → ToldTree (sorted_tree keys (tree_of_query described x.query))
      at [] = queries-told x.query
      at (key ∷ keys) = rw (tree_sort) (queries-told x.query)
