-- Where the planner is sure to look rows up.
use Rattle.std.specs.Prelude.{◌≡◌, ◌⊎◌, ℕ, Bool, true, false, List, [], map, Option, Some, None, Contains}
use Rattle.sqlval.specs.declared.value.Value.{Value}
use Rattle.typing.specs.declared.typed.OrderKey.{OrderKey}
use Rattle.algebra.specs.declared.tree.Condition.{Condition}
use Rattle.algebra.specs.declared.tree.Expression.{Expression}
use Rattle.algebra.specs.declared.tree.SetFunction.{SetFunction}
use Rattle.algebra.specs.declared.tree.StoredTable.{StoredTable}
use Rattle.algebra.specs.declared.tree.Tree.{Tree, Tree-F, out-Tree}
use Rattle.algebra.specs.declared.tree.Tree.TheVariants as t
use Rattle.key_lookups.specs.Sought.{key_sought}
use Rattle.rules.specs.Applied.{here}
use Rattle.rules.specs.Nodes.{Node}
use Rattle.rules.specs.Paths.{Inside, applied_at, as_list, in_condition, in_expression, in_function}
use Rattle.rules.specs.declared.rule.Rule.{Rule}
use Rattle.rules.specs.declared.rule.Rule.TheVariants as by
use Rattle.rule_steps.specs.Attempted.{attempt}
use Rattle.planner.specs.Led.{path_of}

-- no subquery stands in it
abbrev pub IsBare : {X : Type 0} → Inside X → Type 0
IsBare part = part.trees ≡ []

-- This tree, and above it nodes of one child in which no subquery stands.
pub data Over (base : Tree) : Tree → Type 0 where
  alone : Over base base
  filter : (condition : Condition) (rows : Tree) → IsBare (in_condition condition) → Over base rows
      → Over base (t.Filter condition rows)
  group : (columns : Option (List ℕ)) (functions : List SetFunction) (rows : Tree)
      → IsBare (as_list (map in_function functions)) → Over base rows → Over base (t.Group columns functions rows)
  project : (items : List Expression) (rows : Tree) → IsBare (as_list (map in_expression items)) → Over base rows
      → Over base (t.Project items rows)
  distinct : (rows : Tree) → Over base rows → Over base (t.Distinct rows)
  sort : (keys : List OrderKey) (rows : Tree) → Over base rows → Over base (t.Sort keys rows)

-- The filter has no subquery, and asks for a key of an index.
pub record Wants (condition : Condition) (table : StoredTable) : Type 0 where
  pub bare : IsBare (in_condition condition)
  pub columns : List ℕ
  pub index : Contains table.indexes columns
  pub key : List Value
  pub sought : key_sought columns condition ≡ Some key

-- A query of one table, without a subquery, whose filter asks for a key of an index.
pub record Asks (condition : Condition) (table : StoredTable) (tree : Tree) : Type 0 where
  pub over : Over (t.Filter condition (t.Scan table)) tree
  pub wants : Wants condition table

-- It takes from the table just the rows that have a key which the filter asks for in an index.
pub record LooksUp (condition : Condition) (table : StoredTable) (plan : Tree) : Type 0 where
  pub columns : List ℕ
  pub index : Contains table.indexes columns
  pub key : List Value
  pub sought : key_sought columns condition ≡ Some key
  pub over : Over (t.Seek table columns key) plan

-- ---- on the way to it

-- the filter itself, or what looks up already
abbrev pub Nearly : Condition → StoredTable → Tree → Type 0
Nearly condition table tree = (tree ≡ t.Filter condition (t.Scan table)) ⊎ LooksUp condition table tree

-- what is left of a tree where a rule was tried at its root, or at a child of it
abbrev pub after : Bool → Rule → Option ℕ → Tree → Tree
after calm rule child tree = (attempt (applied_at (here calm rule) (path_of child) tree) tree).part

-- no rule is used at the root
abbrev pub Unused : Bool → Rule → Tree → Type 0
Unused calm rule tree = here calm rule tree ≡ None

abbrev pub is_filter : Node Tree-F → Bool
is_filter (Tree-F.Filter condition rows) = true
is_filter _ = false

abbrev pub is_inner : Node Tree-F → Bool
is_inner (Tree-F.Inner on left right) = true
is_inner _ = false

-- no join is made, and none is there to be regrouped
pub record MakesNoJoin (tree : Tree) : Type 0 where
  pub product : Unused false by.ProductToInner tree
  pub hash : Unused false by.InnerToHashJoin tree
  pub loop : Unused false by.InnerToIndexLoop tree
  pub inner : is_inner (out-Tree tree) ≡ false

-- no subquery is joined
pub record JoinsNoSubquery (tree : Tree) : Type 0 where
  pub exists : Unused false by.ExistsToHalf tree
  pub member : Unused false by.InToMember tree
  pub base : Tree
  pub leaf : is_filter (out-Tree base) ≡ false
  pub over : Over base tree
