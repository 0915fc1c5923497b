-- One layer of trees.
use Rattle.std.proofs.Common.{◌≡◌, ℕ, Bool, List, Option, rules}
use Rattle.sqlval.specs.declared.value.Value.{Value}
use Rattle.typing.specs.declared.typed.OrderKey.{OrderKey}
use Rattle.typing.specs.declared.typed.SetOperation.{SetOperation}
use Rattle.algebra.specs.declared.tree.Bound.{Bound}
use Rattle.algebra.specs.declared.tree.Condition.{Condition}
use Rattle.algebra.specs.declared.tree.Expression.{Expression, the_lemmas}
use Rattle.algebra.specs.declared.tree.SetFunction.{SetFunction}
use Rattle.algebra.specs.declared.tree.StoredTable.{StoredTable}
use Rattle.algebra.specs.declared.tree.Tree.{Tree, Tree-F, out-Tree}
use Rattle.algebra.specs.declared.tree.Tree.TheVariants as t

pub out_scan : (table : StoredTable) → out-Tree (t.Scan table) ≡ Tree-F.Scan table
out_scan table = search (rules, the_lemmas)

pub out_filter : (condition : Condition) (rows : Tree)
    → out-Tree (t.Filter condition rows) ≡ Tree-F.Filter condition rows
out_filter condition rows = search (rules, the_lemmas)

pub out_product : (left right : Tree) → out-Tree (t.Product left right) ≡ Tree-F.Product left right
out_product left right = search (rules, the_lemmas)

pub out_inner : (on : Condition) (left right : Tree) → out-Tree (t.Inner on left right) ≡ Tree-F.Inner on left right
out_inner on left right = search (rules, the_lemmas)

pub out_left : (on : Condition) (left right : Tree) (width : ℕ)
    → out-Tree (t.Left on left right width) ≡ Tree-F.Left on left right width
out_left on left right width = search (rules, the_lemmas)

pub out_half : (on : Condition) (left right : Tree) → out-Tree (t.Half on left right) ≡ Tree-F.Half on left right
out_half on left right = search (rules, the_lemmas)

pub out_opposite : (on : Condition) (left right : Tree)
    → out-Tree (t.OppositeHalf on left right) ≡ Tree-F.OppositeHalf on left right
out_opposite on left right = search (rules, the_lemmas)

pub out_group : (columns : Option (List ℕ)) (functions : List SetFunction) (rows : Tree)
    → out-Tree (t.Group columns functions rows) ≡ Tree-F.Group columns functions rows
out_group columns functions rows = search (rules, the_lemmas)

pub out_project : (items : List Expression) (rows : Tree) → out-Tree (t.Project items rows) ≡ Tree-F.Project items rows
out_project items rows = search (rules, the_lemmas)

pub out_distinct : (rows : Tree) → out-Tree (t.Distinct rows) ≡ Tree-F.Distinct rows
out_distinct rows = search (rules, the_lemmas)

pub out_set : (op : SetOperation) (left right : Tree) → out-Tree (t.Set op left right) ≡ Tree-F.Set op left right
out_set op left right = search (rules, the_lemmas)

pub out_sort : (keys : List OrderKey) (rows : Tree) → out-Tree (t.Sort keys rows) ≡ Tree-F.Sort keys rows
out_sort keys rows = search (rules, the_lemmas)

pub out_seek : (table : StoredTable) (columns : List ℕ) (key : List Value)
    → out-Tree (t.Seek table columns key) ≡ Tree-F.Seek table columns key
out_seek table columns key = search (rules, the_lemmas)

pub out_range : (table : StoredTable) (columns : List ℕ) (low high : Option Bound)
    → out-Tree (t.Range table columns low high) ≡ Tree-F.Range table columns low high
out_range table columns low high = search (rules, the_lemmas)

pub out_index_loop : (on : Condition) (left : Tree) (places : List ℕ) (table : StoredTable) (columns : List ℕ)
    → out-Tree (t.IndexLoop on left places table columns) ≡ Tree-F.IndexLoop on left places table columns
out_index_loop on left places table columns = search (rules, the_lemmas)

pub out_hash_join : (on : Condition) (left right : Tree) (left_places right_places : List ℕ)
    → out-Tree (t.HashJoin on left right left_places right_places)
    ≡ Tree-F.HashJoin on left right left_places right_places
out_hash_join on left right left_places right_places = search (rules, the_lemmas)

pub out_member : (operand : Expression) (is_negated : Bool) (members rows : Tree)
    → out-Tree (t.Member operand is_negated members rows) ≡ Tree-F.Member operand is_negated members rows
out_member operand is_negated members rows = search (rules, the_lemmas)
