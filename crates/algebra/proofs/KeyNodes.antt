-- The order keys of each node.
use Rattle.std.proofs.Common.{◌≡◌, ℕ, Bool, List, [], map, rules, Option}
use Rattle.sqlval.specs.declared.value.Value.{Value}
use Rattle.typing.specs.declared.typed.OrderKey.{OrderKey}
use Rattle.typing.specs.declared.typed.SetOperation.{SetOperation}
use Rattle.algebra.specs.declared.tree.StoredTable.{StoredTable}
use Rattle.algebra.specs.declared.tree.Bound.{Bound}
use Rattle.algebra.specs.declared.tree.Expression.{Expression}
use Rattle.algebra.specs.declared.tree.Condition.{Condition}
use Rattle.algebra.specs.declared.tree.SetFunction.{SetFunction}
use Rattle.algebra.specs.declared.tree.Tree.{Tree, the_lemmas}
use Rattle.algebra.specs.declared.tree.Tree.TheVariants as t
use Rattle.algebra.specs.OrderKeys.{handed_on, column_of, order_keys}
use Rattle.algebra.specs.Sorted.{ascending}

pub keys_scan : (table : StoredTable) → order_keys (t.Scan table) ≡ []
unfolding order_keys
keys_scan table = search (rules, the_lemmas)

pub keys_filter : (condition : Condition) (tree : Tree) → order_keys (t.Filter condition tree) ≡ order_keys tree
unfolding order_keys
keys_filter condition tree = search (rules, the_lemmas)

pub keys_product : (left right : Tree) → order_keys (t.Product left right) ≡ []
unfolding order_keys
keys_product left right = search (rules, the_lemmas)

pub keys_inner : (on : Condition) (left right : Tree) → order_keys (t.Inner on left right) ≡ []
unfolding order_keys
keys_inner on left right = search (rules, the_lemmas)

pub keys_left : (on : Condition) (left right : Tree) (width : ℕ) → order_keys (t.Left on left right width) ≡ []
unfolding order_keys
keys_left on left right width = search (rules, the_lemmas)

pub keys_half : (on : Condition) (left right : Tree) → order_keys (t.Half on left right) ≡ order_keys left
unfolding order_keys
keys_half on left right = search (rules, the_lemmas)

pub keys_opposite : (on : Condition) (left right : Tree) → order_keys (t.OppositeHalf on left right) ≡ order_keys left
unfolding order_keys
keys_opposite on left right = search (rules, the_lemmas)

pub keys_group : (columns : Option (List ℕ)) (functions : List SetFunction) (rows : Tree) → order_keys (t.Group columns functions rows) ≡ []
unfolding order_keys
keys_group columns functions rows = search (rules, the_lemmas)

pub keys_project : (items : List Expression) (tree : Tree) → order_keys (t.Project items tree) ≡ handed_on (map column_of items) (order_keys tree)
unfolding order_keys column_of
keys_project items tree = search (rules, the_lemmas)

pub keys_distinct : (tree : Tree) → order_keys (t.Distinct tree) ≡ []
unfolding order_keys
keys_distinct tree = search (rules, the_lemmas)

pub keys_set : (op : SetOperation) (left right : Tree) → order_keys (t.Set op left right) ≡ []
unfolding order_keys
keys_set op left right = search (rules, the_lemmas)

pub keys_sort : (keys : List OrderKey) (tree : Tree) → order_keys (t.Sort keys tree) ≡ keys
unfolding order_keys
keys_sort keys tree = search (rules, the_lemmas)

pub keys_seek : (table : StoredTable) (columns : List ℕ) (key : List Value) → order_keys (t.Seek table columns key) ≡ []
unfolding order_keys
keys_seek table columns key = search (rules, the_lemmas)

pub keys_range : (table : StoredTable) (columns : List ℕ) (low high : Option Bound) → order_keys (t.Range table columns low high) ≡ ascending columns
unfolding order_keys
keys_range table columns low high = search (rules, the_lemmas)

pub keys_index_loop : (on : Condition) (left : Tree) (places : List ℕ) (table : StoredTable) (columns : List ℕ) → order_keys (t.IndexLoop on left places table columns) ≡ []
unfolding order_keys
keys_index_loop on left places table columns = search (rules, the_lemmas)

pub keys_hash_join : (on : Condition) (left right : Tree) (left_places right_places : List ℕ) → order_keys (t.HashJoin on left right left_places right_places) ≡ []
unfolding order_keys
keys_hash_join on left right left_places right_places = search (rules, the_lemmas)

pub keys_member : (operand : Expression) (is_negated : Bool) (members rows : Tree) → order_keys (t.Member operand is_negated members rows) ≡ order_keys rows
unfolding order_keys
keys_member operand is_negated members rows = search (rules, the_lemmas)

pub ruleset key_nodes = (keys_scan, keys_filter, keys_product, keys_inner, keys_left, keys_half, keys_opposite, keys_group, keys_project, keys_distinct, keys_set, keys_sort, keys_seek, keys_range, keys_index_loop, keys_hash_join, keys_member)
