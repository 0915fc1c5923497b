-- The tables that a plan reads by an index, node by node.
use Rattle.std.proofs.Common.{◌≡◌, ℕ, Bool, List, [], ◌∷◌, ◌++◌, Option, rules}
use Rattle.sqlval.specs.declared.value.Value.{Value}
use Rattle.typing.specs.declared.typed.OrderKey.{OrderKey}
use Rattle.typing.specs.declared.typed.SetOperation.{SetOperation}
use Rattle.algebra.specs.declared.tree.Bound.{Bound}
use Rattle.algebra.specs.declared.tree.Condition.{Condition}
use Rattle.algebra.specs.declared.tree.Expression.{Expression, the_lemmas}
use Rattle.algebra.specs.declared.tree.SetFunction.{SetFunction}
use Rattle.algebra.specs.declared.tree.StoredTable.{StoredTable}
use Rattle.algebra.specs.declared.tree.Tree.{Tree}
use Rattle.algebra.specs.declared.tree.Tree.TheVariants as t
use Rattle.places.specs.Indexes.{sought_in}

pub sought_scan : (table : StoredTable) → sought_in (t.Scan table) ≡ []
unfolding sought_in
sought_scan table = search (rules, the_lemmas)

pub sought_filter : (condition : Condition) (rows : Tree) → sought_in (t.Filter condition rows) ≡ sought_in rows
unfolding sought_in
sought_filter condition rows = search (rules, the_lemmas)

pub sought_product : (left right : Tree) → sought_in (t.Product left right) ≡ sought_in left ++ sought_in right
unfolding sought_in
sought_product left right = search (rules, the_lemmas)

pub sought_inner : (on : Condition) (left right : Tree)
    → sought_in (t.Inner on left right) ≡ sought_in left ++ sought_in right
unfolding sought_in
sought_inner on left right = search (rules, the_lemmas)

pub sought_left : (on : Condition) (left right : Tree) (width : ℕ)
    → sought_in (t.Left on left right width) ≡ sought_in left ++ sought_in right
unfolding sought_in
sought_left on left right width = search (rules, the_lemmas)

pub sought_half : (on : Condition) (left right : Tree)
    → sought_in (t.Half on left right) ≡ sought_in left ++ sought_in right
unfolding sought_in
sought_half on left right = search (rules, the_lemmas)

pub sought_opposite : (on : Condition) (left right : Tree)
    → sought_in (t.OppositeHalf on left right) ≡ sought_in left ++ sought_in right
unfolding sought_in
sought_opposite on left right = search (rules, the_lemmas)

pub sought_group : (columns : Option (List ℕ)) (functions : List SetFunction) (rows : Tree)
    → sought_in (t.Group columns functions rows) ≡ sought_in rows
unfolding sought_in
sought_group columns functions rows = search (rules, the_lemmas)

pub sought_project : (items : List Expression) (rows : Tree) → sought_in (t.Project items rows) ≡ sought_in rows
unfolding sought_in
sought_project items rows = search (rules, the_lemmas)

pub sought_distinct : (rows : Tree) → sought_in (t.Distinct rows) ≡ sought_in rows
unfolding sought_in
sought_distinct rows = search (rules, the_lemmas)

pub sought_set : (op : SetOperation) (left right : Tree)
    → sought_in (t.Set op left right) ≡ sought_in left ++ sought_in right
unfolding sought_in
sought_set op left right = search (rules, the_lemmas)

pub sought_sort : (keys : List OrderKey) (rows : Tree) → sought_in (t.Sort keys rows) ≡ sought_in rows
unfolding sought_in
sought_sort keys rows = search (rules, the_lemmas)

pub sought_seek : (table : StoredTable) (columns : List ℕ) (key : List Value)
    → sought_in (t.Seek table columns key) ≡ table ∷ []
unfolding sought_in
sought_seek table columns key = search (rules, the_lemmas)

pub sought_range : (table : StoredTable) (columns : List ℕ) (low high : Option Bound)
    → sought_in (t.Range table columns low high) ≡ table ∷ []
unfolding sought_in
sought_range table columns low high = search (rules, the_lemmas)

pub sought_loop : (on : Condition) (left : Tree) (places : List ℕ) (table : StoredTable) (columns : List ℕ)
    → sought_in (t.IndexLoop on left places table columns) ≡ sought_in left ++ table ∷ []
unfolding sought_in
sought_loop on left places table columns = search (rules, the_lemmas)

pub sought_hash : (on : Condition) (left right : Tree) (left_places right_places : List ℕ)
    → sought_in (t.HashJoin on left right left_places right_places) ≡ sought_in left ++ sought_in right
unfolding sought_in
sought_hash on left right left_places right_places = search (rules, the_lemmas)

pub sought_member : (operand : Expression) (is_negated : Bool) (members rows : Tree)
    → sought_in (t.Member operand is_negated members rows) ≡ sought_in members ++ sought_in rows
unfolding sought_in
sought_member operand is_negated members rows = search (rules, the_lemmas)
