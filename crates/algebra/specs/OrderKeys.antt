-- The order keys of a tree: by which columns of its rows its listing is sorted.
use Rattle.std.specs.Prelude.{ℕ, nat_eq, zero, suc, Bool, true, false, List, [], ◌∷◌, Option, Some, None}
use Rattle.std.specs.List.{position_from}
use Rattle.typing.specs.declared.typed.OrderKey.{OrderKey}
use Rattle.algebra.specs.declared.tree.Expression.{Expression, Expression-F, fold-Expression}
use Rattle.algebra.specs.declared.tree.Condition.{Condition-F}
use Rattle.algebra.specs.declared.tree.SetFunction.{SetFunction-F}
use Rattle.algebra.specs.declared.tree.Tree.{Tree, Tree-F, fold-Tree}
use Rattle.algebra.specs.Sorted.{ascending}
use Rattle.algebra.specs.TreeOutcome.{tree_outcome}
use Rattle.denote.specs.Meaning.{Tables}
use Rattle.denote.specs.Outcome.{OrderedOutcome}

-- A node: of an expression stands here which column of the row it is, if it is one; of a tree its
-- keys.
abbrev pub KeyLayer : ((A B C D : Type 0) → Type 0) → Type 0
KeyLayer T = T (Unit {0}) (Option ℕ) (Unit {0}) (List OrderKey)

abbrev pub column_step : KeyLayer Expression-F → Option ℕ
column_step (Expression-F.Column zero place) = Some place
column_step (Expression-F.Column (suc depth) place) = None
column_step (Expression-F.Constant x) = None
column_step (Expression-F.Calculation first others) = None
column_step (Expression-F.Concatenation first others) = None
column_step (Expression-F.Negation operand) = None
column_step (Expression-F.Scalar keys) = None

abbrev pub condition_key_step : KeyLayer Condition-F → Unit {0}
condition_key_step condition = tt

abbrev pub function_key_step : KeyLayer SetFunction-F → Unit {0}
function_key_step function = tt

abbrev pub is_column : ℕ → Option ℕ → Bool
is_column place None = false
is_column place (Some other) = nat_eq place other

-- a key at its new place, before others; where the column is gone, there are no more
abbrev pub key_at : OrderKey → Option ℕ → List OrderKey → List OrderKey
key_at key None others = []
key_at key (Some place) others = record { place = place; descending = key.descending } ∷ others

-- the keys as far as their columns are among these; a column that is there twice, at its first
-- place
abbrev pub handed_on : List (Option ℕ) → List OrderKey → List OrderKey
handed_on items [] = []
handed_on items (key ∷ keys) = key_at key (position_from (is_column key.place) 0 items) (handed_on items keys)

-- a Sort and a Range make keys; what takes a tree's rows one by one hands its keys on
abbrev pub order_step : KeyLayer Tree-F → List OrderKey
order_step (Tree-F.Scan table) = []
order_step (Tree-F.Filter condition keys) = keys
order_step (Tree-F.Product left right) = []
order_step (Tree-F.Inner on left right) = []
order_step (Tree-F.Left on left right width) = []
order_step (Tree-F.Half on left right) = left
order_step (Tree-F.OppositeHalf on left right) = left
order_step (Tree-F.Group columns functions rows) = []
order_step (Tree-F.Project items keys) = handed_on items keys
order_step (Tree-F.Distinct keys) = []
order_step (Tree-F.Set op left right) = []
order_step (Tree-F.Sort keys below) = keys
order_step (Tree-F.Seek table columns key) = []
order_step (Tree-F.Range table columns low high) = ascending columns
order_step (Tree-F.IndexLoop on left places table columns) = []
order_step (Tree-F.HashJoin on left right left_places right_places) = []
order_step (Tree-F.Member operand is_negated members keys) = keys

-- which column of the innermost row an expression is, if it is one
unfoldable pub column_of : Expression → Option ℕ
column_of = fold-Expression _ _ _ _ condition_key_step column_step function_key_step order_step

unfoldable pub order_keys : Tree → List OrderKey
order_keys = fold-Tree _ _ _ _ condition_key_step column_step function_key_step order_step

-- the outcome of a whole tree, which stands inside no other
abbrev pub ordered_outcome : Tables → Tree → OrderedOutcome
ordered_outcome tables tree = record { unordered = tree_outcome tables tree []; keys = order_keys tree }
