-- A node that is written out, opened.
use Rattle.std.proofs.Common.{◌≡◌, ℕ, List, Option, rules}
use Rattle.sqlval.specs.declared.value.Value.{Value}
use Rattle.typing.specs.declared.typed.OrderKey.{OrderKey}
use Rattle.typing.specs.declared.typed.SetOperation.{SetOperation}
use Rattle.algebra.specs.declared.tree.Bound.{Bound}
use Rattle.algebra.specs.declared.tree.Condition.{Condition}
use Rattle.algebra.specs.declared.tree.Expression.{Expression}
use Rattle.algebra.specs.declared.tree.SetFunction.{SetFunction}
use Rattle.algebra.specs.declared.tree.StoredTable.{StoredTable}
use Rattle.algebra.specs.declared.tree.Tree.{Tree, Tree-F, out-Tree, the_lemmas}
use Rattle.algebra.specs.declared.tree.Tree.TheVariants as t

pub out-scan : (table : StoredTable)
    → out-Tree (t.Scan table) ≡ Tree-F.Scan table
out-scan table = search (rules, the_lemmas)

pub out-filter : (condition : Condition) (rows : Tree)
    → out-Tree (t.Filter condition rows) ≡ Tree-F.Filter condition rows
out-filter condition rows = search (rules, the_lemmas)

pub out-product : (left right : Tree)
    → out-Tree (t.Product left right) ≡ Tree-F.Product left right
out-product left right = search (rules, the_lemmas)

pub out-inner : (on : Condition) (left right : Tree)
    → out-Tree (t.Inner on left right) ≡ Tree-F.Inner on left right
out-inner on left right = search (rules, the_lemmas)

pub out-left : (on : Condition) (left right : Tree) (width : ℕ)
    → out-Tree (t.Left on left right width) ≡ Tree-F.Left on left right width
out-left on left right width = search (rules, the_lemmas)

pub out-group : (columns : Option (List ℕ)) (functions : List SetFunction) (rows : Tree)
    → out-Tree (t.Group columns functions rows) ≡ Tree-F.Group columns functions rows
out-group columns functions rows = search (rules, the_lemmas)

pub out-project : (items : List Expression) (rows : Tree)
    → out-Tree (t.Project items rows) ≡ Tree-F.Project items rows
out-project items rows = search (rules, the_lemmas)

pub out-distinct : (rows : Tree)
    → out-Tree (t.Distinct rows) ≡ Tree-F.Distinct rows
out-distinct rows = search (rules, the_lemmas)

pub out-set : (op : SetOperation) (left right : Tree)
    → out-Tree (t.Set op left right) ≡ Tree-F.Set op left right
out-set op left right = search (rules, the_lemmas)

pub out-sort : (keys : List OrderKey) (rows : Tree)
    → out-Tree (t.Sort keys rows) ≡ Tree-F.Sort keys rows
out-sort keys rows = search (rules, the_lemmas)

pub out-seek : (table : StoredTable) (columns : List ℕ) (key : List Value)
    → out-Tree (t.Seek table columns key) ≡ Tree-F.Seek table columns key
out-seek table columns key = search (rules, the_lemmas)

pub out-range : (table : StoredTable) (columns : List ℕ) (low high : Option Bound)
    → out-Tree (t.Range table columns low high) ≡ Tree-F.Range table columns low high
out-range table columns low high = search (rules, the_lemmas)

pub out-index_loop : (on : Condition) (left : Tree) (places : List ℕ) (table : StoredTable) (columns : List ℕ)
    → out-Tree (t.IndexLoop on left places table columns) ≡ Tree-F.IndexLoop on left places table columns
out-index_loop on left places table columns = search (rules, the_lemmas)

pub out-hash_join : (on : Condition) (left right : Tree) (left_places right_places : List ℕ)
    → out-Tree (t.HashJoin on left right left_places right_places) ≡ Tree-F.HashJoin on left right left_places right_places
out-hash_join on left right left_places right_places = search (rules, the_lemmas)

pub ruleset opened = (out-scan, out-filter, out-product, out-inner, out-left, out-group, out-project, out-distinct, out-set, out-sort, out-seek, out-range, out-index_loop, out-hash_join)
