-- Of each node, how many columns its rows have.
use Rattle.std.proofs.Common.{◌≡◌, ℕ, ◌+◌, Bool, List, length, Option, Some, rules}
use Rattle.std.proofs.lemmas.List.{length-map}
use Rattle.sqlval.specs.declared.value.Value.{Value}
use Rattle.typing.specs.declared.typed.OrderKey.{OrderKey}
use Rattle.typing.specs.declared.typed.SetOperation.{SetOperation}
use Rattle.algebra.specs.declared.tree.Bound.{Bound}
use Rattle.algebra.specs.declared.tree.StoredTable.{StoredTable}
use Rattle.algebra.specs.declared.tree.Expression.{Expression, the_lemmas}
use Rattle.algebra.specs.declared.tree.Condition.{Condition}
use Rattle.algebra.specs.declared.tree.SetFunction.{SetFunction}
use Rattle.algebra.specs.declared.tree.Tree.{Tree}
use Rattle.algebra.specs.declared.tree.Tree.TheVariants as t
use Rattle.rules.specs.Width.{added, agreed, count_columns, width_of_tree}

pub wide_scan : (table : StoredTable) → width_of_tree (t.Scan table) ≡ Some table.width
unfolding width_of_tree
wide_scan table = search (rules, the_lemmas)

pub wide_filter : (condition : Condition) (tree : Tree) → width_of_tree (t.Filter condition tree) ≡ width_of_tree tree
unfolding width_of_tree
wide_filter condition tree = search (rules, the_lemmas)

pub wide_product : (left right : Tree)
    → width_of_tree (t.Product left right) ≡ added (width_of_tree left) (width_of_tree right)
unfolding width_of_tree
wide_product left right = search (rules, the_lemmas)

pub wide_inner : (on : Condition) (left right : Tree)
    → width_of_tree (t.Inner on left right) ≡ added (width_of_tree left) (width_of_tree right)
unfolding width_of_tree
wide_inner on left right = search (rules, the_lemmas)

pub wide_left : (on : Condition) (left right : Tree) (width : ℕ)
    → width_of_tree (t.Left on left right width)
    ≡ added (width_of_tree left) (agreed (width_of_tree right) (Some width))
unfolding width_of_tree
wide_left on left right width = search (rules, the_lemmas)

pub wide_half : (on : Condition) (left right : Tree) → width_of_tree (t.Half on left right) ≡ width_of_tree left
unfolding width_of_tree
wide_half on left right = search (rules, the_lemmas)

pub wide_opposite : (on : Condition) (left right : Tree)
    → width_of_tree (t.OppositeHalf on left right) ≡ width_of_tree left
unfolding width_of_tree
wide_opposite on left right = search (rules, the_lemmas)

pub wide_group : (columns : Option (List ℕ)) (functions : List SetFunction) (rows : Tree)
    → width_of_tree (t.Group columns functions rows) ≡ Some (count_columns columns + length functions)
unfolding width_of_tree
wide_group columns functions rows = search (rules, the_lemmas, length-map)

pub wide_project : (items : List Expression) (tree : Tree) → width_of_tree (t.Project items tree) ≡ Some (length items)
unfolding width_of_tree
wide_project items tree = search (rules, the_lemmas, length-map)

pub wide_distinct : (tree : Tree) → width_of_tree (t.Distinct tree) ≡ width_of_tree tree
unfolding width_of_tree
wide_distinct tree = search (rules, the_lemmas)

pub wide_set : (op : SetOperation) (left right : Tree)
    → width_of_tree (t.Set op left right) ≡ agreed (width_of_tree left) (width_of_tree right)
unfolding width_of_tree
wide_set op left right = search (rules, the_lemmas)

pub wide_sort : (keys : List OrderKey) (tree : Tree) → width_of_tree (t.Sort keys tree) ≡ width_of_tree tree
unfolding width_of_tree
wide_sort keys tree = search (rules, the_lemmas)

pub wide_seek : (table : StoredTable) (columns : List ℕ) (key : List Value)
    → width_of_tree (t.Seek table columns key) ≡ Some table.width
unfolding width_of_tree
wide_seek table columns key = search (rules, the_lemmas)

pub wide_range : (table : StoredTable) (columns : List ℕ) (low high : Option Bound)
    → width_of_tree (t.Range table columns low high) ≡ Some table.width
unfolding width_of_tree
wide_range table columns low high = search (rules, the_lemmas)

pub wide_index_loop : (on : Condition) (left : Tree) (places : List ℕ) (table : StoredTable) (columns : List ℕ)
    → width_of_tree (t.IndexLoop on left places table columns) ≡ added (width_of_tree left) (Some table.width)
unfolding width_of_tree
wide_index_loop on left places table columns = search (rules, the_lemmas)

pub wide_hash_join : (on : Condition) (left right : Tree) (left_places right_places : List ℕ)
    → width_of_tree (t.HashJoin on left right left_places right_places)
    ≡ added (width_of_tree left) (width_of_tree right)
unfolding width_of_tree
wide_hash_join on left right left_places right_places = search (rules, the_lemmas)

pub wide_member : (operand : Expression) (is_negated : Bool) (members rows : Tree)
    → width_of_tree (t.Member operand is_negated members rows) ≡ width_of_tree rows
unfolding width_of_tree
wide_member operand is_negated members rows = search (rules, the_lemmas)

pub ruleset width_nodes = (wide_scan, wide_filter, wide_product, wide_inner, wide_left, wide_half, wide_opposite, wide_group, wide_project, wide_distinct, wide_set, wide_sort, wide_seek, wide_range, wide_index_loop, wide_hash_join, wide_member)
