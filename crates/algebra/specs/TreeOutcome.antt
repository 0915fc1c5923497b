-- The outcome of a tree: node by node the operators of queries (ISO/IEC 9075:1992, 7.4 to 7.10).
use Rattle.std.specs.Prelude.{[], true, false, map}
use Rattle.sqlval.specs.Matching.{rows_matching}
use Rattle.algebra.specs.declared.tree.Condition.{Condition}
use Rattle.algebra.specs.declared.tree.Expression.{Expression}
use Rattle.algebra.specs.declared.tree.Tree.{Tree, Tree-F}
use Rattle.algebra.specs.Meaning.{Layer, TreeMeaning, function_of, value_by, truth_by, tree_by}
use Rattle.algebra.specs.Joined.{half_join, matching, keyed_join, is_member}
use Rattle.algebra.specs.Bounds.{rows_within}
use Rattle.denote.specs.Expression.{ExpressionMeaning}
use Rattle.denote.specs.Condition.{ConditionMeaning}
use Rattle.denote.specs.From.{kept, product, inner_join, left_join}
use Rattle.denote.specs.Meaning.{Tables}
use Rattle.denote.specs.Outcome.{each, through}
use Rattle.denote.specs.Group.{keys_of, group_row}
use Rattle.denote.specs.Select.{shown, only}
use Rattle.denote.specs.SetOperator.{set_operation}

module _ (tables : Tables) where
  abbrev pub outcome_step : Layer Tree-F → TreeMeaning
  outcome_step (Tree-F.Scan table) env = record { rows = tables table.name; faults = [] }
  outcome_step (Tree-F.Filter condition tree) env = through (tree env) (kept condition env)
  outcome_step (Tree-F.Product left right) env = product (left env) (right env)
  outcome_step (Tree-F.Inner on left right) env = inner_join on env (left env) (right env)
  outcome_step (Tree-F.Left on left right width) env = left_join on env width (left env) (right env)
  outcome_step (Tree-F.Half on left right) env = half_join true on env (left env) (right env)
  outcome_step (Tree-F.OppositeHalf on left right) env = half_join false on env (left env) (right env)
  outcome_step (Tree-F.Group columns functions rows) env =
      through (rows env) (λ found. each (group_row columns (map function_of functions) env found) (keys_of columns found))
  outcome_step (Tree-F.Project items tree) env = through (tree env) (shown items env)
  outcome_step (Tree-F.Distinct tree) env = only true (tree env)
  outcome_step (Tree-F.Set op left right) env = set_operation op (left env) (right env)
  outcome_step (Tree-F.Sort keys tree) env = tree env
  outcome_step (Tree-F.Seek table columns key) env = record { rows = rows_matching columns key (tables table.name); faults = [] }
  outcome_step (Tree-F.Range table columns low high) env = record { rows = rows_within columns low high (tables table.name); faults = [] }
  outcome_step (Tree-F.IndexLoop on left places table columns) env = keyed_join on env (matching places columns (tables table.name)) [] (left env)
  outcome_step (Tree-F.HashJoin on left right left_places right_places) env =
      keyed_join on env (matching left_places right_places (right env).rows) (right env).faults (left env)
  outcome_step (Tree-F.Member operand is_negated members rows) env = through (rows env) (kept (is_member operand is_negated (members env)) env)

  -- the rows of a tree and its faults, in the rows that stand outside it
  abbrev pub tree_outcome : Tree → TreeMeaning
  tree_outcome = tree_by outcome_step

  abbrev pub tree_truth : Condition → ConditionMeaning
  tree_truth = truth_by outcome_step

  abbrev pub tree_value : Expression → ExpressionMeaning
  tree_value = value_by outcome_step
