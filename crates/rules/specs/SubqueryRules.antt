-- Rules of subqueries that stand alone in a filter: EXISTS (Q13) and IN (Q14), and their opposites.
use Rattle.std.specs.Prelude.{ℕ, Bool, true, false, not, ◌&&◌, List, [], ◌∷◌, Option, Some, None, option_and_then}
use Rattle.std.specs.List.{list_all}
use Rattle.algebra.specs.declared.tree.Condition.{Condition, Condition-F, out-Condition}
use Rattle.algebra.specs.declared.tree.Expression.{Expression}
use Rattle.algebra.specs.declared.tree.StoredTable.{StoredTable}
use Rattle.algebra.specs.declared.tree.Tree.{Tree, Tree-F, out-Tree}
use Rattle.algebra.specs.declared.tree.Tree.TheVariants as t
use Rattle.algebra.specs.Raising.{expression_may_raise}
use Rattle.closed_trees.specs.Outside.{Depths, depths_in_tree}
use Rattle.rules.specs.Columns.{names_only, moved, in_half, to_half}
use Rattle.rules.specs.Conjuncts.{quiet}
use Rattle.rules.specs.Nodes.{Node, given, at_filter}
use Rattle.rules.specs.Width.{width_of_tree}

-- ---- Q13: EXISTS becomes a half join, NOT EXISTS its opposite

-- the left rows with a match, or those without
abbrev pub half : Bool → Condition → Tree → Tree → Tree
half true on left right = t.Half on left right
half false on left right = t.OppositeHalf on left right

abbrev pub quiet_item : Expression → Bool
quiet_item item = not (expression_may_raise item)

-- Nothing in the subquery may raise, since a half join may end at the first match.
abbrev pub half_by : Bool → List Expression → Condition → StoredTable → Tree → ℕ → Option Tree
half_by wanted items condition table left w =
    given (quiet condition && (list_all quiet_item items && names_only (in_half w) condition))
    (Some (half wanted (moved (to_half w) condition) left (t.Scan table)))

abbrev pub half_of_table : Bool → List Expression → Condition → Tree → Node Tree-F → Option Tree
half_of_table wanted items condition left (Tree-F.Scan table) =
    option_and_then (half_by wanted items condition table left) (width_of_tree left)
half_of_table wanted items condition left _ = None

abbrev pub half_of_items : Bool → Tree → List Expression → Node Tree-F → Option Tree
half_of_items wanted left items (Tree-F.Filter condition rows) =
    half_of_table wanted items condition left (out-Tree rows)
half_of_items wanted left items _ = None

abbrev pub half_of_query : Bool → Tree → Node Tree-F → Option Tree
half_of_query wanted left (Tree-F.Project items rows) = half_of_items wanted left items (out-Tree rows)
half_of_query wanted left _ = None

abbrev pub half_under : Tree → Node Condition-F → Option Tree
half_under left (Condition-F.Exists query) = half_of_query false left (out-Tree query)
half_under left _ = None

abbrev pub half_at : Tree → Node Condition-F → Option Tree
half_at left (Condition-F.Exists query) = half_of_query true left (out-Tree query)
half_at left (Condition-F.Not operand) = half_under left (out-Condition operand)
half_at left _ = None

abbrev pub exists_to_half : Tree → Option Tree
exists_to_half tree = at_filter (λ condition rows. half_at rows (out-Condition condition)) (out-Tree tree)

-- ---- Q14: IN becomes a member node

abbrev pub is_closed : Depths → Bool
is_closed [] = true
is_closed (depth ∷ depths) = false

-- The subquery names no column outside itself, so it has one outcome for all rows. It may raise: at
-- a row it does so just where IN would.
abbrev pub member_of : Bool → Expression → Tree → Tree → Option Tree
member_of is_negated operand members rows =
    given (is_closed (depths_in_tree members)) (Some (t.Member operand is_negated members rows))

abbrev pub member_under : Tree → Node Condition-F → Option Tree
member_under rows (Condition-F.InQuery operand members) = member_of true operand members rows
member_under rows _ = None

abbrev pub member_at : Tree → Node Condition-F → Option Tree
member_at rows (Condition-F.InQuery operand members) = member_of false operand members rows
member_at rows (Condition-F.Not operand) = member_under rows (out-Condition operand)
member_at rows _ = None

abbrev pub in_to_member : Tree → Option Tree
in_to_member tree = at_filter (λ condition rows. member_at rows (out-Condition condition)) (out-Tree tree)
