-- Rules by what is known of a table's rows: DISTINCT of rows that have their key (Q12), and a sort
-- in
-- the order of an index (Q15).
use Rattle.std.specs.Prelude.{ℕ, nat_eq, Bool, true, false, not, ◌&&◌, List, [], ◌∷◌, map, Option, Some, None}
use Rattle.std.specs.List.{list_all, list_any}
use Rattle.typing.specs.declared.typed.OrderKey.{OrderKey}
use Rattle.algebra.specs.declared.tree.Condition.{Condition-F}
use Rattle.algebra.specs.declared.tree.Expression.{Expression, Expression-F}
use Rattle.algebra.specs.declared.tree.SetFunction.{SetFunction-F}
use Rattle.algebra.specs.declared.tree.StoredTable.{StoredTable}
use Rattle.algebra.specs.declared.tree.Tree.{Tree, Tree-F, out-Tree, fold-Tree}
use Rattle.algebra.specs.declared.tree.Tree.TheVariants as t
use Rattle.algebra.specs.OrderKeys.{is_column, handed_on, column_of}
use Rattle.algebra.specs.Sorted.{ascending}
use Rattle.rules.specs.Nodes.{Node, given, first_found}

-- ---- Q12: DISTINCT of rows that have their whole primary key goes away

-- A node, in which a tree stands as the table whose rows it gives, each once at most.
abbrev pub SourceLayer : ((A B C D : Type 0) → Type 0) → Type 0
SourceLayer T = T (Unit {0}) (Unit {0}) (Unit {0}) (Option StoredTable)

abbrev pub source_condition : SourceLayer Condition-F → Unit {0}
source_condition condition = tt

abbrev pub source_expression : SourceLayer Expression-F → Unit {0}
source_expression expression = tt

abbrev pub source_function : SourceLayer SetFunction-F → Unit {0}
source_function function = tt

-- a stored table, and filters of one
abbrev pub source_step : SourceLayer Tree-F → Option StoredTable
source_step (Tree-F.Scan table) = Some table
source_step (Tree-F.Seek table columns key) = Some table
source_step (Tree-F.Range table columns low high) = Some table
source_step (Tree-F.Filter condition rows) = rows
source_step _ = None

unfoldable pub source_of : Tree → Option StoredTable
source_of = fold-Tree _ _ _ _ source_condition source_expression source_function source_step

-- whether one of these items is this column
abbrev pub is_item : List Expression → ℕ → Bool
is_item items column = list_any (is_column column) (map column_of items)

abbrev pub key_in : List Expression → Option (List ℕ) → Bool
key_in items None = false
key_in items (Some columns) = list_all (is_item items) columns

abbrev pub has_key : List Expression → Option StoredTable → Bool
has_key items None = false
has_key items (Some table) = key_in items table.key

-- Items may raise: rows with faults are in no outcome.
abbrev pub apart_at : Node Tree-F → Option Tree
apart_at (Tree-F.Project items rows) = given (has_key items (source_of rows)) (Some (t.Project items rows))
apart_at _ = None

abbrev pub distinct_dropped : Node Tree-F → Option Tree
distinct_dropped (Tree-F.Distinct rows) = apart_at (out-Tree rows)
distinct_dropped _ = None

abbrev pub drop_distinct : Tree → Option Tree
drop_distinct tree = distinct_dropped (out-Tree tree)

-- ---- Q15: a sort becomes a range in the order of an index

abbrev pub same_direction : Bool → Bool → Bool
same_direction true other = other
same_direction false other = not other

abbrev pub same_key : OrderKey → OrderKey → Bool
same_key key other = nat_eq key.place other.place && same_direction key.descending other.descending

-- whether the second keys begin with the first ones
abbrev pub keys_begin : List OrderKey → List OrderKey → Bool
keys_begin [] others = true
keys_begin (key ∷ keys) [] = false
keys_begin (key ∷ keys) (other ∷ others) = same_key key other && keys_begin keys others

-- by an index whose order, as far as the items hand it on, is the one that is asked for
abbrev pub ordered_by : List OrderKey → List Expression → StoredTable → List ℕ → Option Tree
ordered_by keys items table columns = given (keys_begin keys (handed_on (map column_of items) (ascending columns)))
    (Some (t.Project items (t.Range table columns None None)))

abbrev pub ordered_at : List OrderKey → List Expression → Node Tree-F → Option Tree
ordered_at keys items (Tree-F.Scan table) = first_found (ordered_by keys items table) table.indexes
ordered_at keys items _ = None

abbrev pub items_ordered : List OrderKey → Node Tree-F → Option Tree
items_ordered keys (Tree-F.Project items rows) = ordered_at keys items (out-Tree rows)
items_ordered keys _ = None

abbrev pub sort_dropped : Node Tree-F → Option Tree
sort_dropped (Tree-F.Sort keys rows) = items_ordered keys (out-Tree rows)
sort_dropped _ = None

abbrev pub sort_to_range : Tree → Option Tree
sort_to_range tree = sort_dropped (out-Tree tree)
