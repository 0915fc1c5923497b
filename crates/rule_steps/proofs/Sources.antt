-- Of each node the table whose rows it gives, and of each item the column that it is.
use Rattle.std.proofs.Common.{◌≡◌, refl, ℕ, zero, suc, Bool, List, Option, Some, None, rules}
use Rattle.sqlval.specs.declared.value.Value.{Value}
use Rattle.typing.specs.declared.typed.Arithmetic.{Arithmetic}
use Rattle.typing.specs.declared.typed.OrderKey.{OrderKey}
use Rattle.typing.specs.declared.typed.SetOperation.{SetOperation}
use Rattle.algebra.specs.OrderKeys.{column_of, order_keys}
use Rattle.algebra.specs.declared.tree.Bound.{Bound}
use Rattle.algebra.specs.declared.tree.StoredTable.{StoredTable}
use Rattle.algebra.specs.declared.tree.Expression.{Expression}
use Rattle.algebra.specs.declared.tree.Expression.TheVariants as e
use Rattle.algebra.specs.declared.tree.Condition.{Condition}
use Rattle.algebra.specs.declared.tree.SetFunction.{SetFunction}
use Rattle.algebra.specs.declared.tree.Tree.{Tree, the_lemmas}
use Rattle.algebra.specs.declared.tree.Tree.TheVariants as t
use Rattle.rules.specs.OrderRules.{source_of}
use Rattle.rule_steps.specs.Found.{own_column}

pub scan : (table : StoredTable) → source_of (t.Scan table) ≡ Some table
unfolding source_of
scan table = search (rules, the_lemmas)

pub filter : (condition : Condition) (rows : Tree) → source_of (t.Filter condition rows) ≡ source_of rows
unfolding source_of
filter condition rows = search (rules, the_lemmas)

pub product : (left right : Tree) → source_of (t.Product left right) ≡ None
unfolding source_of
product left right = search (rules, the_lemmas)

pub inner : (on : Condition) (left right : Tree) → source_of (t.Inner on left right) ≡ None
unfolding source_of
inner on left right = search (rules, the_lemmas)

pub left_join : (on : Condition) (left right : Tree) (width : ℕ) → source_of (t.Left on left right width) ≡ None
unfolding source_of
left_join on left right width = search (rules, the_lemmas)

pub half : (on : Condition) (left right : Tree) → source_of (t.Half on left right) ≡ None
unfolding source_of
half on left right = search (rules, the_lemmas)

pub opposite : (on : Condition) (left right : Tree) → source_of (t.OppositeHalf on left right) ≡ None
unfolding source_of
opposite on left right = search (rules, the_lemmas)

pub group : (columns : Option (List ℕ)) (functions : List SetFunction) (rows : Tree)
    → source_of (t.Group columns functions rows) ≡ None
unfolding source_of
group columns functions rows = search (rules, the_lemmas)

pub project : (items : List Expression) (rows : Tree) → source_of (t.Project items rows) ≡ None
unfolding source_of
project items rows = search (rules, the_lemmas)

pub distinct : (rows : Tree) → source_of (t.Distinct rows) ≡ None
unfolding source_of
distinct rows = search (rules, the_lemmas)

pub set : (op : SetOperation) (left right : Tree) → source_of (t.Set op left right) ≡ None
unfolding source_of
set op left right = search (rules, the_lemmas)

pub sort : (keys : List OrderKey) (rows : Tree) → source_of (t.Sort keys rows) ≡ None
unfolding source_of
sort keys rows = search (rules, the_lemmas)

pub seek : (table : StoredTable) (columns : List ℕ) (key : List Value)
    → source_of (t.Seek table columns key) ≡ Some table
unfolding source_of
seek table columns key = search (rules, the_lemmas)

pub range : (table : StoredTable) (columns : List ℕ) (low high : Option Bound)
    → source_of (t.Range table columns low high) ≡ Some table
unfolding source_of
range table columns low high = search (rules, the_lemmas)

pub index_loop : (on : Condition) (left : Tree) (places : List ℕ) (table : StoredTable) (columns : List ℕ)
    → source_of (t.IndexLoop on left places table columns) ≡ None
unfolding source_of
index_loop on left places table columns = search (rules, the_lemmas)

pub hash_join : (on : Condition) (left right : Tree) (left_places right_places : List ℕ)
    → source_of (t.HashJoin on left right left_places right_places) ≡ None
unfolding source_of
hash_join on left right left_places right_places = search (rules, the_lemmas)

pub member : (operand : Expression) (is_negated : Bool) (members rows : Tree)
    → source_of (t.Member operand is_negated members rows) ≡ None
unfolding source_of
member operand is_negated members rows = search (rules, the_lemmas)

pub ruleset sources = (scan, filter, product, inner, left_join, half, opposite, group, project, distinct, set, sort, seek, range, index_loop, hash_join, member)

-- ---- items

pub constant : (x : Value) → column_of (e.Constant x) ≡ None
unfolding column_of order_keys
constant x = search (rules, the_lemmas)

pub column : (depth place : ℕ) → column_of (e.Column depth place) ≡ own_column depth place
unfolding column_of order_keys
column zero place = search (rules, the_lemmas)
column (suc depth) place = search (rules, the_lemmas)

pub calculation : (first : Expression) (others : List (Arithmetic × Expression))
    → column_of (e.Calculation first others) ≡ None
unfolding column_of order_keys
calculation first others = search (rules, the_lemmas)

pub concatenation : (first : Expression) (others : List Expression)
    → column_of (e.Concatenation first others) ≡ None
unfolding column_of order_keys
concatenation first others = search (rules, the_lemmas)

pub negation : (operand : Expression) → column_of (e.Negation operand) ≡ None
unfolding column_of order_keys
negation operand = search (rules, the_lemmas)

pub scalar : (tree : Tree) → column_of (e.Scalar tree) ≡ None
unfolding column_of order_keys
scalar tree = search (rules, the_lemmas)

pub ruleset columns = (constant, column, calculation, concatenation, negation, scalar)
