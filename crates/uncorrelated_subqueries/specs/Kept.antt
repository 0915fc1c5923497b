-- A tree in which subqueries stand as what they give, where that lasts: where a subquery names no
-- column outside itself and no fault ends its list, it is the same at every row. A scalar one then
-- is its value, IN stands over a list of values, and EXISTS is true or false. Subqueries are taken
-- from the innermost outwards. (ISO/IEC 9075:1992, 7.11, 8.4, 8.8, have a subquery evaluated
-- wherever it is asked. A fault is raised there alone, so a subquery with one stays what it is.)
use Rattle.std.specs.Prelude.{Bool, true, false, List, [], ◌∷◌, Option, Some, None, option_and_then}
use Rattle.std.specs.Option.{option_map}
use Rattle.sqlval.specs.declared.value.Value.{Value}
use Rattle.sqlval.specs.declared.value.Value.TheVariants.{Null}
use Rattle.sqlval.specs.Value.{Row}
use Rattle.algebra.specs.declared.tree.Expression.{Expression, Expression-F, fold-Expression}
use Rattle.algebra.specs.declared.tree.Expression.TheVariants as e
use Rattle.algebra.specs.declared.tree.Condition.{Condition, Condition-F, fold-Condition}
use Rattle.algebra.specs.declared.tree.Condition.TheVariants as c
use Rattle.algebra.specs.declared.tree.SetFunction.{SetFunction, SetFunction-F, fold-SetFunction}
use Rattle.algebra.specs.declared.tree.SetFunction.TheVariants as f
use Rattle.algebra.specs.declared.tree.Tree.{Tree, Tree-F, fold-Tree}
use Rattle.algebra.specs.declared.tree.Tree.TheVariants as t
use Rattle.algebra.specs.Listing.{tree_listing}
use Rattle.closed_trees.specs.Outside.{Depths, depths_in_tree}
use Rattle.denote.specs.Condition.{first_column}
use Rattle.denote.specs.Expression.{cell}
use Rattle.denote.specs.Meaning.{Tables}
use Rattle.denote.specs.Outcome.{Outcome}

-- ---- what lasts

-- the rows of a list, if no fault ends it
abbrev pub unfaulted : Outcome → Option (List Row)
unfaulted o = elim o.faults [ [] ↦ Some o.rows | fault ∷ faults ↦ None ]

-- if no column outside is named
abbrev pub where_closed : Depths → Option (List Row) → Option (List Row)
where_closed [] rows = rows
where_closed (depth ∷ depths) rows = None

-- the rows that a subquery gives at every row
abbrev pub lasting_rows : Tables → Tree → Option (List Row)
lasting_rows tables tree = where_closed (depths_in_tree tree) (unfaulted (tree_listing tables tree []))

-- ---- subqueries, or what they give

-- null where there is no row; more than one row is a fault, which is raised where the subquery is
-- asked
abbrev pub value_of_rows : List Row → Option Value
value_of_rows [] = Some Null
value_of_rows (row ∷ []) = Some (cell row 0)
value_of_rows (row ∷ other ∷ rows) = None

abbrev pub scalar_or_value : Option Value → Tree → Expression
scalar_or_value None tree = e.Scalar tree
scalar_or_value (Some value) tree = e.Constant value

abbrev pub kept_scalar : Option (List Row) → Tree → Expression
kept_scalar found tree = scalar_or_value (option_and_then value_of_rows found) tree

abbrev pub query_or_list : Option (List Value) → Expression → Tree → Condition
query_or_list None operand tree = c.InQuery operand tree
query_or_list (Some values) operand tree = c.InList operand values

abbrev pub kept_in : Option (List Row) → Expression → Tree → Condition
kept_in found operand tree = query_or_list (option_map first_column found) operand tree

abbrev pub has_rows : List Row → Bool
has_rows [] = false
has_rows (row ∷ rows) = true

-- AND of nothing is true, OR of nothing is false
abbrev pub constant_truth : Bool → Condition
constant_truth true = c.And []
constant_truth false = c.Or []

abbrev pub exists_or_truth : Option Bool → Tree → Condition
exists_or_truth None tree = c.Exists tree
exists_or_truth (Some truth) tree = constant_truth truth

abbrev pub kept_exists : Option (List Row) → Tree → Condition
kept_exists found tree = exists_or_truth (option_map has_rows found) tree

-- ---- all nodes: only subqueries change

abbrev pub KeptLayer : ((A B C D : Type 0) → Type 0) → Type 0
KeptLayer T = T Condition Expression SetFunction Tree

module _ (tables : Tables) where
  abbrev pub expression_kept : KeptLayer Expression-F → Expression
  expression_kept (Expression-F.Constant x) = e.Constant x
  expression_kept (Expression-F.Column depth place) = e.Column depth place
  expression_kept (Expression-F.Calculation first others) = e.Calculation first others
  expression_kept (Expression-F.Concatenation first others) = e.Concatenation first others
  expression_kept (Expression-F.Negation operand) = e.Negation operand
  expression_kept (Expression-F.Scalar tree) = kept_scalar (lasting_rows tables tree) tree

  abbrev pub condition_kept : KeptLayer Condition-F → Condition
  condition_kept (Condition-F.Or operands) = c.Or operands
  condition_kept (Condition-F.And operands) = c.And operands
  condition_kept (Condition-F.Not operand) = c.Not operand
  condition_kept (Condition-F.IsTruth operand truth) = c.IsTruth operand truth
  condition_kept (Condition-F.Compare op a b) = c.Compare op a b
  condition_kept (Condition-F.Between operand low high) = c.Between operand low high
  condition_kept (Condition-F.InList operand values) = c.InList operand values
  condition_kept (Condition-F.InQuery operand tree) = kept_in (lasting_rows tables tree) operand tree
  condition_kept (Condition-F.Like operand pattern) = c.Like operand pattern
  condition_kept (Condition-F.IsNull operand) = c.IsNull operand
  condition_kept (Condition-F.Exists tree) = kept_exists (lasting_rows tables tree) tree

  abbrev pub function_kept : KeptLayer SetFunction-F → SetFunction
  function_kept SetFunction-F.CountRows = f.CountRows
  function_kept (SetFunction-F.Over function is_distinct argument) = f.Over function is_distinct argument

  abbrev pub tree_kept : KeptLayer Tree-F → Tree
  tree_kept (Tree-F.Scan table) = t.Scan table
  tree_kept (Tree-F.Filter condition tree) = t.Filter condition tree
  tree_kept (Tree-F.Product left right) = t.Product left right
  tree_kept (Tree-F.Inner on left right) = t.Inner on left right
  tree_kept (Tree-F.Left on left right width) = t.Left on left right width
  tree_kept (Tree-F.Half on left right) = t.Half on left right
  tree_kept (Tree-F.OppositeHalf on left right) = t.OppositeHalf on left right
  tree_kept (Tree-F.Group columns functions rows) = t.Group columns functions rows
  tree_kept (Tree-F.Project items tree) = t.Project items tree
  tree_kept (Tree-F.Distinct tree) = t.Distinct tree
  tree_kept (Tree-F.Set op left right) = t.Set op left right
  tree_kept (Tree-F.Sort keys tree) = t.Sort keys tree
  tree_kept (Tree-F.Seek table columns key) = t.Seek table columns key
  tree_kept (Tree-F.Range table columns low high) = t.Range table columns low high
  tree_kept (Tree-F.IndexLoop on left places table columns) = t.IndexLoop on left places table columns
  tree_kept (Tree-F.HashJoin on left right left_places right_places) = t.HashJoin on left right left_places right_places
  tree_kept (Tree-F.Member operand is_negated members rows) = t.Member operand is_negated members rows

  unfoldable pub kept_expression : Expression → Expression
  kept_expression = fold-Expression _ _ _ _ condition_kept expression_kept function_kept tree_kept

  unfoldable pub kept_condition : Condition → Condition
  kept_condition = fold-Condition _ _ _ _ condition_kept expression_kept function_kept tree_kept

  unfoldable pub kept_function : SetFunction → SetFunction
  kept_function = fold-SetFunction _ _ _ _ condition_kept expression_kept function_kept tree_kept

  unfoldable pub kept_tree : Tree → Tree
  kept_tree = fold-Tree _ _ _ _ condition_kept expression_kept function_kept tree_kept
