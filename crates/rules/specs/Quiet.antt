-- Whether all conditions of a tree are denied to raise, at whatever depth they stand: those of its
-- nodes, and those of the subqueries in items and conditions.
use Rattle.std.specs.Prelude.{Bool, true, not, ◌&&◌, List}
use Rattle.std.specs.List.{list_all}
use Rattle.algebra.specs.declared.tree.Condition.{Condition-F, map-Condition}
use Rattle.algebra.specs.declared.tree.Expression.{Expression-F, map-Expression}
use Rattle.algebra.specs.declared.tree.SetFunction.{SetFunction-F, map-SetFunction}
use Rattle.algebra.specs.declared.tree.Tree.{Tree, Tree-F, fold-Tree, map-Tree}
use Rattle.algebra.specs.Raising.{itself, condition_may, expression_may, function_may, tree_may}

-- of a part: whether it may raise, and whether the conditions in it are all quiet
pub record Calm : Type 0 where
  pub may : Bool
  pub calm : Bool

-- a condition that may not raise has none in it that may
abbrev pub CalmLayer : ((A B C D : Type 0) → Type 0) → Type 0
CalmLayer T = T Bool Calm Calm Calm

abbrev pub may_of : Calm → Bool
may_of part = part.may

abbrev pub calm_of : Calm → Bool
calm_of part = part.calm

abbrev pub all_calm : List Calm → Bool
all_calm = list_all calm_of

abbrev pub calm_condition : CalmLayer Condition-F → Bool
calm_condition d = condition_may (map-Condition _ _ _ _ _ _ _ _ itself may_of may_of may_of d)

abbrev pub calm_in_expression : CalmLayer Expression-F → Bool
calm_in_expression (Expression-F.Constant x) = true
calm_in_expression (Expression-F.Column depth place) = true
calm_in_expression (Expression-F.Calculation first others) = first.calm && list_all (λ other. other.1.calm) others
calm_in_expression (Expression-F.Concatenation first others) = first.calm && all_calm others
calm_in_expression (Expression-F.Negation operand) = operand.calm
calm_in_expression (Expression-F.Scalar tree) = tree.calm

abbrev pub calm_expression : CalmLayer Expression-F → Calm
calm_expression d = record {
  may = expression_may (map-Expression _ _ _ _ _ _ _ _ itself may_of may_of may_of d);
  calm = calm_in_expression d;
}

abbrev pub calm_in_function : CalmLayer SetFunction-F → Bool
calm_in_function SetFunction-F.CountRows = true
calm_in_function (SetFunction-F.Over function is_distinct argument) = argument.calm

abbrev pub calm_function : CalmLayer SetFunction-F → Calm
calm_function d = record {
  may = function_may (map-SetFunction _ _ _ _ _ _ _ _ itself may_of may_of may_of d);
  calm = calm_in_function d;
}

abbrev pub calm_in_tree : CalmLayer Tree-F → Bool
calm_in_tree (Tree-F.Scan table) = true
calm_in_tree (Tree-F.Filter condition rows) = not condition && rows.calm
calm_in_tree (Tree-F.Product left right) = left.calm && right.calm
calm_in_tree (Tree-F.Inner on left right) = not on && (left.calm && right.calm)
calm_in_tree (Tree-F.Left on left right width) = not on && (left.calm && right.calm)
calm_in_tree (Tree-F.Half on left right) = not on && (left.calm && right.calm)
calm_in_tree (Tree-F.OppositeHalf on left right) = not on && (left.calm && right.calm)
calm_in_tree (Tree-F.Group columns functions rows) = all_calm functions && rows.calm
calm_in_tree (Tree-F.Project items rows) = all_calm items && rows.calm
calm_in_tree (Tree-F.Distinct rows) = rows.calm
calm_in_tree (Tree-F.Set op left right) = left.calm && right.calm
calm_in_tree (Tree-F.Sort keys rows) = rows.calm
calm_in_tree (Tree-F.Seek table columns key) = true
calm_in_tree (Tree-F.Range table columns low high) = true
calm_in_tree (Tree-F.IndexLoop on left places table columns) = not on && left.calm
calm_in_tree (Tree-F.HashJoin on left right left_places right_places) = not on && (left.calm && right.calm)
calm_in_tree (Tree-F.Member operand is_negated members rows) = operand.calm && (members.calm && rows.calm)

abbrev pub calm_tree : CalmLayer Tree-F → Calm
calm_tree d = record {
  may = tree_may (map-Tree _ _ _ _ _ _ _ _ itself may_of may_of may_of d);
  calm = calm_in_tree d;
}

unfoldable pub calm_at : Tree → Calm
calm_at = fold-Tree _ _ _ _ calm_condition calm_expression calm_function calm_tree

-- no condition of any node of the tree may raise
abbrev pub conditions_quiet : Tree → Bool
conditions_quiet tree = (calm_at tree).calm
