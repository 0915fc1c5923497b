-- The tree of a query without ORDER BY has no order keys: by induction over the typed trees.
use Rattle.std.proofs.Common.{◌≡◌, refl, sym, ◌∙◌, subst, ap, ℕ, Bool, true, false, List, [], ◌∷◌, map, Option, Some, None}
use Rattle.typing.specs.declared.typed.SetOperation.{SetOperation}
use Rattle.typing.specs.declared.typed.Condition as typed_condition
use Rattle.typing.specs.declared.typed.Expression as typed_expression
use Rattle.typing.specs.declared.typed.Query as typed_query
use Rattle.typing.specs.declared.typed.SetFunction as typed_function
use Rattle.typing.specs.declared.typed.Source as typed_source
use Rattle.typing.specs.declared.typed.Grouping as typed_grouping
use Rattle.typing.specs.declared.typed.Item as typed_item
use Rattle.typing.specs.declared.typed.Select as typed_select
use Rattle.algebra.specs.declared.tree.StoredTable.{StoredTable}
use Rattle.algebra.specs.declared.tree.Condition.{Condition}
use Rattle.algebra.specs.declared.tree.Expression.{Expression}
use Rattle.algebra.specs.declared.tree.Tree.{Tree}
use Rattle.algebra.specs.declared.tree.Tree.TheVariants as t
use Rattle.algebra.specs.OrderKeys.{handed_on, column_of, order_keys}
use Rattle.algebra.proofs.KeyNodes.{keys_scan, keys_filter, keys_product, keys_inner, keys_left, keys_group, keys_project, keys_distinct, keys_set}
use Rattle.operator_laws.proofs.Rolled.{Node}
use Rattle.algebra.specs.Translated.{filter_tree, grouping_tree, grouped_tree, distinct_tree, set_tree, query_tree, source_tree, select_tree, tree_of_query, tree_of_condition, tree_of_expression, tree_of_source, tree_of_grouping, tree_of_item, tree_of_select}
use Rattle.algebra_laws.proofs.Made.{query_made, query_is, source_made, source_is, grouping_made, grouping_is, select_made, select_is}

-- what stands above a tree without keys
filtered-no_keys : (condition : Option Condition) (tree : Tree) → order_keys tree ≡ [] → order_keys (filter_tree condition tree) ≡ []
filtered-no_keys None tree e = e
filtered-no_keys (Some condition) tree e = keys_filter condition tree ∙ e

projected-no_keys : (is_distinct : Bool) (items : List Expression) (tree : Tree) → order_keys tree ≡ [] → order_keys (distinct_tree is_distinct (t.Project items tree)) ≡ []
projected-no_keys false items tree e = keys_project items tree ∙ ap (handed_on (map column_of items)) e
projected-no_keys true items tree e = keys_distinct (t.Project items tree)

sets-no_keys : (left : Tree) (others : List (SetOperation × Tree)) → order_keys left ≡ [] → order_keys (set_tree left others) ≡ []
sets-no_keys left [] e = e
sets-no_keys left (other ∷ others) e = sets-no_keys (t.Set other.0 left other.1) others (keys_set other.0 left other.1)

module _ (described : List ℕ → StoredTable) where
  abbrev HasNoKeys : typed_query.Query → Type 0
  HasNoKeys x = order_keys (tree_of_query described x) ≡ []

  abbrev HasNoKeysSource : typed_source.Source → Type 0
  HasNoKeysSource x = order_keys (tree_of_source described x) ≡ []

  abbrev MakesNoKeys : typed_grouping.Grouping → Type 0
  MakesNoKeys x = (tree : Tree) → order_keys tree ≡ [] → order_keys (tree_of_grouping described x tree) ≡ []

  abbrev HasNoKeysSelect : typed_select.Select → Type 0
  HasNoKeysSelect x = order_keys (tree_of_select described x) ≡ []

  abbrev Parts : ((A B C D E F G H : Type 0) → Type 0) → Type 0
  Parts T =
      T (typed_condition.Condition × Unit {0}) (typed_expression.Expression × Unit {0}) ((x : typed_query.Query) × HasNoKeys x) (typed_function.SetFunction × Unit {0})
      ((x : typed_source.Source) × HasNoKeysSource x) ((x : typed_grouping.Grouping) × MakesNoKeys x) (typed_item.Item × Unit {0}) ((x : typed_select.Select) × HasNoKeysSelect x)

  abbrev query_of : Parts typed_query.Query-F → Node typed_query.Query-F
  query_of y = typed_query.map-Query _ _ _ _ _ _ _ _ _ _ _ _ _ _ _ _ (λ p. p.0) (λ p. p.0) (λ p. p.0) (λ p. p.0) (λ p. p.0) (λ p. p.0) (λ p. p.0) (λ p. p.0) y

  abbrev source_of : Parts typed_source.Source-F → Node typed_source.Source-F
  source_of y = typed_source.map-Source _ _ _ _ _ _ _ _ _ _ _ _ _ _ _ _ (λ p. p.0) (λ p. p.0) (λ p. p.0) (λ p. p.0) (λ p. p.0) (λ p. p.0) (λ p. p.0) (λ p. p.0) y

  abbrev grouping_of : Parts typed_grouping.Grouping-F → Node typed_grouping.Grouping-F
  grouping_of y = typed_grouping.map-Grouping _ _ _ _ _ _ _ _ _ _ _ _ _ _ _ _ (λ p. p.0) (λ p. p.0) (λ p. p.0) (λ p. p.0) (λ p. p.0) (λ p. p.0) (λ p. p.0) (λ p. p.0) y

  abbrev select_of : Parts typed_select.Select-F → Node typed_select.Select-F
  select_of y = typed_select.map-Select _ _ _ _ _ _ _ _ _ _ _ _ _ _ _ _ (λ p. p.0) (λ p. p.0) (λ p. p.0) (λ p. p.0) (λ p. p.0) (λ p. p.0) (λ p. p.0) (λ p. p.0) y

  source-no_keys : (y : Parts typed_source.Source-F) → order_keys (source_tree described (source_made described (source_of y))) ≡ []
  source-no_keys (typed_source.Source-F.Table name) = keys_scan (described name)
  source-no_keys (typed_source.Source-F.Derived query) = query.1
  source-no_keys (typed_source.Source-F.Product left right) = keys_product _ _
  source-no_keys (typed_source.Source-F.Inner on left right) = keys_inner _ _ _
  source-no_keys (typed_source.Source-F.Left on left right width) = keys_left _ _ _ _

  grouping-no_keys : (columns : Option (List ℕ)) (functions : List (typed_function.SetFunction × Unit {0})) (having : Option (typed_condition.Condition × Unit {0})) (tree : Tree)
      → order_keys (grouping_tree (grouping_made described (grouping_of (record { columns = columns; functions = functions; having = having }))) tree) ≡ []
  grouping-no_keys columns functions None tree = keys_group _ _ tree
  grouping-no_keys columns functions (Some having) tree = keys_filter _ _ ∙ keys_group _ _ tree

  select-no_keys : (is_distinct : Bool) (items : List (typed_item.Item × Unit {0})) (from : (x : typed_source.Source) × HasNoKeysSource x)
      (condition : Option (typed_condition.Condition × Unit {0})) (grouping : Option ((x : typed_grouping.Grouping) × MakesNoKeys x))
      → order_keys (select_tree (select_made described (select_of (record { distinct = is_distinct; items = items; from = from; filter = condition; grouping = grouping })))) ≡ []
  select-no_keys is_distinct items from None None = projected-no_keys is_distinct _ (tree_of_source described from.0) from.1
  select-no_keys is_distinct items from (Some condition) None =
      projected-no_keys is_distinct _ (t.Filter (tree_of_condition described condition.0) (tree_of_source described from.0)) (keys_filter _ _ ∙ from.1)
  select-no_keys is_distinct items from None (Some grouping) =
      projected-no_keys is_distinct _ (tree_of_grouping described grouping.0 (tree_of_source described from.0)) (grouping.1 _ from.1)
  select-no_keys is_distinct items from (Some condition) (Some grouping) =
      projected-no_keys is_distinct _ (tree_of_grouping described grouping.0 (t.Filter (tree_of_condition described condition.0) (tree_of_source described from.0)))
      (grouping.1 _ (keys_filter _ _ ∙ from.1))

  query-no_keys : (y : Parts typed_query.Query-F) → order_keys (query_tree (query_made described (query_of y))) ≡ []
  query-no_keys (typed_query.Query-F.Select select) = select.1
  query-no_keys (typed_query.Query-F.Combined first others) = sets-no_keys (tree_of_query described first.0)
      (map (λ (o : SetOperation × typed_query.Query). (o.0, tree_of_query described o.1)) (map (λ (o : SetOperation × ((x : typed_query.Query) × HasNoKeys x)). (o.0, o.1.0)) others)) first.1

  -- ---- each node, and the induction

  query_node : (x : Node typed_query.Query-F) (y : Parts typed_query.Query-F) → query_of y ≡ x → HasNoKeys (typed_query.roll-Query x)
  query_node x y is = subst (λ (z : Node typed_query.Query-F). HasNoKeys (typed_query.roll-Query z)) is (ap order_keys (query_is described (query_of y)) ∙ query-no_keys y)

  source_node : (x : Node typed_source.Source-F) (y : Parts typed_source.Source-F) → source_of y ≡ x → HasNoKeysSource (typed_source.roll-Source x)
  source_node x y is = subst (λ (z : Node typed_source.Source-F). HasNoKeysSource (typed_source.roll-Source z)) is (ap order_keys (source_is described (source_of y)) ∙ source-no_keys y)

  grouping_node : (x : Node typed_grouping.Grouping-F) (y : Parts typed_grouping.Grouping-F) → grouping_of y ≡ x → MakesNoKeys (typed_grouping.roll-Grouping x)
  grouping_node x y is = subst (λ (z : Node typed_grouping.Grouping-F). MakesNoKeys (typed_grouping.roll-Grouping z)) is
      (λ tree e. ap (λ (made : Tree → Tree). order_keys (made tree)) (grouping_is described (grouping_of y)) ∙ grouping-no_keys y.columns y.functions y.having tree)

  select_node : (x : Node typed_select.Select-F) (y : Parts typed_select.Select-F) → select_of y ≡ x → HasNoKeysSelect (typed_select.roll-Select x)
  select_node x y is = subst (λ (z : Node typed_select.Select-F). HasNoKeysSelect (typed_select.roll-Select z)) is
      (ap order_keys (select_is described (select_of y)) ∙ select-no_keys y.distinct y.items y.from y.filter y.grouping)

  pub queries-no_keys : (x : typed_query.Query) → order_keys (tree_of_query described x) ≡ []
  queries-no_keys = typed_query.ind-Query (λ x. Unit {0}) (λ x. Unit {0}) HasNoKeys (λ x. Unit {0}) HasNoKeysSource MakesNoKeys (λ x. Unit {0}) HasNoKeysSelect
      (λ x y is. tt) (λ x y is. tt) query_node (λ x y is. tt) source_node grouping_node (λ x y is. tt) select_node
