-- A node that is written out, opened.
use Rattle.std.proofs.Common.{◌≡◌, ℕ, Bool, List, Option, rules}
use Rattle.sqlval.specs.declared.value.Value.{Value}
use Rattle.typing.specs.declared.typed.OrderKey.{OrderKey}
use Rattle.typing.specs.declared.typed.SetOperation.{SetOperation}
use Rattle.algebra.specs.declared.tree.Bound.{Bound}
use Rattle.algebra.specs.declared.tree.StoredTable.{StoredTable}
use Rattle.algebra.specs.declared.tree.Expression.{Expression}
use Rattle.algebra.specs.declared.tree.Condition.{Condition}
use Rattle.algebra.specs.declared.tree.SetFunction.{SetFunction}
use Rattle.algebra.specs.declared.tree.Tree.{Tree, Tree-F, out-Tree, the_lemmas}
use Rattle.algebra.specs.declared.tree.Tree.TheVariants as t

pub scan : (table : StoredTable) → out-Tree (t.Scan table) ≡ Tree-F.Scan table
scan table = search (rules, the_lemmas)

pub filter : (condition : Condition) (rows : Tree) → out-Tree (t.Filter condition rows) ≡ Tree-F.Filter condition rows
filter condition rows = search (rules, the_lemmas)

pub product : (left right : Tree) → out-Tree (t.Product left right) ≡ Tree-F.Product left right
product left right = search (rules, the_lemmas)

pub inner : (on : Condition) (left right : Tree) → out-Tree (t.Inner on left right) ≡ Tree-F.Inner on left right
inner on left right = search (rules, the_lemmas)

pub left_join : (on : Condition) (left right : Tree) (width : ℕ)
    → out-Tree (t.Left on left right width) ≡ Tree-F.Left on left right width
left_join on left right width = search (rules, the_lemmas)

pub half : (on : Condition) (left right : Tree) → out-Tree (t.Half on left right) ≡ Tree-F.Half on left right
half on left right = search (rules, the_lemmas)

pub opposite : (on : Condition) (left right : Tree)
    → out-Tree (t.OppositeHalf on left right) ≡ Tree-F.OppositeHalf on left right
opposite on left right = search (rules, the_lemmas)

pub group : (columns : Option (List ℕ)) (functions : List SetFunction) (rows : Tree)
    → out-Tree (t.Group columns functions rows) ≡ Tree-F.Group columns functions rows
group columns functions rows = search (rules, the_lemmas)

pub project : (items : List Expression) (rows : Tree) → out-Tree (t.Project items rows) ≡ Tree-F.Project items rows
project items rows = search (rules, the_lemmas)

pub distinct : (rows : Tree) → out-Tree (t.Distinct rows) ≡ Tree-F.Distinct rows
distinct rows = search (rules, the_lemmas)

pub set : (op : SetOperation) (left right : Tree) → out-Tree (t.Set op left right) ≡ Tree-F.Set op left right
set op left right = search (rules, the_lemmas)

pub sort : (keys : List OrderKey) (rows : Tree) → out-Tree (t.Sort keys rows) ≡ Tree-F.Sort keys rows
sort keys rows = search (rules, the_lemmas)

pub seek : (table : StoredTable) (columns : List ℕ) (key : List Value)
    → out-Tree (t.Seek table columns key) ≡ Tree-F.Seek table columns key
seek table columns key = search (rules, the_lemmas)

pub range : (table : StoredTable) (columns : List ℕ) (low high : Option Bound)
    → out-Tree (t.Range table columns low high) ≡ Tree-F.Range table columns low high
range table columns low high = search (rules, the_lemmas)

pub index_loop : (on : Condition) (left : Tree) (places : List ℕ) (table : StoredTable) (columns : List ℕ)
    → out-Tree (t.IndexLoop on left places table columns) ≡ Tree-F.IndexLoop on left places table columns
index_loop on left places table columns = search (rules, the_lemmas)

pub hash_join : (on : Condition) (left right : Tree) (left_places right_places : List ℕ)
    → out-Tree (t.HashJoin on left right left_places right_places)
    ≡ Tree-F.HashJoin on left right left_places right_places
hash_join on left right left_places right_places = search (rules, the_lemmas)

pub member : (operand : Expression) (is_negated : Bool) (members rows : Tree)
    → out-Tree (t.Member operand is_negated members rows) ≡ Tree-F.Member operand is_negated members rows
member operand is_negated members rows = search (rules, the_lemmas)

pub ruleset nodes = (scan, filter, product, inner, left_join, half, opposite, group, project, distinct, set, sort, seek, range, index_loop, hash_join, member)
