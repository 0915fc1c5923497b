-- The listing of a tree: its rows in the order in which they come, ended by at most one fault. It
-- is written as an outcome in which the order of rows counts, and of the faults there is at most
-- one. That rows without ORDER BY come in this order, and that of several faults this one is shown,
-- is our own choice (ISO/IEC 9075:1992, 13.1, 22.1, leave both open).
use Rattle.std.specs.Prelude.{ℕ, nat_lt, Bool, true, false, if◌then◌else◌, List, [], ◌∷◌, ◌++◌, map, flat_map, Option, Result, Ok, Err}
use Rattle.sqlval.specs.Value.{Row}
use Rattle.sqlval.specs.Matching.{rows_matching}
use Rattle.typing.specs.declared.typed.SetOperation.{SetOperation}
use Rattle.typing.specs.declared.typed.SetOperator.{SetOperator}
use Rattle.typing.specs.declared.typed.SetOperator.TheVariants.{Union, Except, Intersect}
use Rattle.algebra.specs.declared.tree.Condition.{Condition}
use Rattle.algebra.specs.declared.tree.Expression.{Expression}
use Rattle.algebra.specs.declared.tree.Tree.{Tree, Tree-F}
use Rattle.algebra.specs.Meaning.{Layer, TreeMeaning, MeantFunction, Rows, Argument, function_of, value_by, truth_by, tree_by}
use Rattle.algebra.specs.Joined.{half_row, matching, is_member}
use Rattle.algebra.specs.Bounds.{rows_within}
use Rattle.algebra.specs.Sorted.{sorted, ascending}
use Rattle.denote.specs.declared.fault.Fault.{Fault}
use Rattle.denote.specs.Bag.{distinct, times}
use Rattle.denote.specs.Evaluation.{Env, Evaluation, faults_in}
use Rattle.denote.specs.Expression.{ExpressionMeaning}
use Rattle.denote.specs.Condition.{ConditionMeaning}
use Rattle.denote.specs.From.{kept_row, beside, padded}
use Rattle.denote.specs.Group.{keys_of, group_row}
use Rattle.denote.specs.Meaning.{Tables}
use Rattle.denote.specs.Outcome.{Outcome, nothing_at_all}
use Rattle.denote.specs.Select.{shown_row}
use Rattle.denote.specs.SetOperator.{multiplicity}

-- ---- lists that may end by a fault

-- the first of several faults
abbrev pub first_only : List Fault → List Fault
first_only [] = []
first_only (fault ∷ faults) = fault ∷ []

-- rows without a fault
abbrev pub listed_rows : List Row → Outcome
listed_rows rows = record { rows = rows; faults = [] }

-- no row, and a fault, if there is one
abbrev pub end_by : List Fault → Outcome
end_by faults = record { rows = []; faults = first_only faults }

-- rows, or a fault that ends the list
abbrev pub ended : Evaluation (List Row) → Outcome
ended (Ok rows) = listed_rows rows
ended (Err faults) = end_by faults

-- what stands where a list ends without a fault
abbrev pub unless_ended : List Fault → Outcome → Outcome
unless_ended [] next = next
unless_ended (fault ∷ faults) next = end_by (fault ∷ faults)

-- one list after another; a fault of the first ends both
abbrev pub then_list : Outcome → Outcome → Outcome
then_list first next = let rest = unless_ended first.faults next in record { rows = first.rows ++ rest.rows; faults = rest.faults }

-- each row gives a list, one after another
abbrev pub in_order : (Row → Outcome) → List Row → Outcome
in_order list [] = nothing_at_all
in_order list (row ∷ rows) = then_list (list row) (in_order list rows)

-- each row gives rows or faults
abbrev pub row_by_row : (Row → Evaluation (List Row)) → List Row → Outcome
row_by_row at = in_order (λ row. ended (at row))

-- what is made of the rows of a part as they come, and then the part's own end
abbrev pub onwards : Outcome → (List Row → Outcome) → Outcome
onwards part made = then_list (made part.rows) (end_by part.faults)

-- what takes a part whole: the part's fault stands before all rows
abbrev pub whole_first : Outcome → (List Row → Outcome) → Outcome
whole_first part made = unless_ended part.faults (made part.rows)

-- the reply that shows a list: its rows, or its fault
abbrev pub reply_of : Outcome → Result (List Row) Fault
reply_of listed = elim listed.faults [ [] ↦ Ok listed.rows | fault ∷ faults ↦ Err fault ]

-- ---- joins

-- the pairs of a row, at which ON is true
abbrev pub pairs_of : ConditionMeaning → Env → List Row → Row → Outcome
pairs_of on env others row = row_by_row (kept_row on env) (beside row others)

-- and after them the row with nulls, if it is unmatched
abbrev pub padded_pairs_of : ConditionMeaning → Env → ℕ → List Row → Row → Outcome
padded_pairs_of on env width others row = then_list (pairs_of on env others row) (listed_rows (padded on env width others row))

-- by left rows; the right side is taken whole before them
abbrev pub by_left_rows : Outcome → Outcome → (List Row → Row → Outcome) → Outcome
by_left_rows left right pairs = whole_first right (λ others. onwards left (in_order (pairs others)))

-- ---- groups

-- the faults of a set function's argument at a row
abbrev pub argument_faults : MeantFunction → Env → List Fault
argument_faults Rows env = []
argument_faults (Argument function is_distinct argument) env = faults_in (argument env)

-- of all rows, and of the functions at each
abbrev pub all_argument_faults : List MeantFunction → Env → List Row → List Fault
all_argument_faults functions env rows = flat_map (λ row. flat_map (λ function. argument_faults function (row ∷ env)) functions) rows

-- The groups by their first rows. Before all of them a fault of an argument, by rows and then
-- functions; else one of a set function's range, by groups and then functions.
abbrev pub groups_listed : Option (List ℕ) → List MeantFunction → Env → List Row → Outcome
groups_listed columns functions env rows =
    unless_ended (all_argument_faults functions env rows)
    (whole_first (row_by_row (group_row columns (map function_of functions) env rows) (keys_of columns rows)) listed_rows)

-- ---- set operators

-- of alike rows the first, as many as are allowed; `before` are the rows before these
abbrev pub firsts : (Row → ℕ) → List Row → List Row → List Row
firsts allowed before [] = []
firsts allowed before (row ∷ rows) =
    if nat_lt (times row before) (allowed row) then row ∷ firsts allowed (row ∷ before) rows else firsts allowed (row ∷ before) rows

-- UNION goes through the right side too
abbrev pub sides : SetOperator → List Row → List Row → List Row
sides Union left right = left ++ right
sides Except left right = left
sides Intersect left right = left

-- the rows of the left side and for UNION then the right's, of alike rows the first, as many as the
-- operator says
abbrev pub combined_in_order : SetOperation → List Row → List Row → List Row
combined_in_order op left right = firsts (λ row. multiplicity op.operator op.all (times row left) (times row right)) [] (sides op.operator left right)

-- ---- trees

module _ (tables : Tables) where
  abbrev pub listing_step : Layer Tree-F → TreeMeaning
  listing_step (Tree-F.Scan table) env = listed_rows (tables table.name)
  listing_step (Tree-F.Filter condition tree) env = onwards (tree env) (row_by_row (kept_row condition env))
  listing_step (Tree-F.Product left right) env = by_left_rows (left env) (right env) (λ others row. listed_rows (beside row others))
  listing_step (Tree-F.Inner on left right) env = by_left_rows (left env) (right env) (pairs_of on env)
  listing_step (Tree-F.Left on left right width) env = by_left_rows (left env) (right env) (padded_pairs_of on env width)
  listing_step (Tree-F.Half on left right) env = by_left_rows (left env) (right env) (λ others row. ended (half_row true on env others row))
  listing_step (Tree-F.OppositeHalf on left right) env = by_left_rows (left env) (right env) (λ others row. ended (half_row false on env others row))
  listing_step (Tree-F.Group columns functions rows) env = whole_first (rows env) (groups_listed columns functions env)
  listing_step (Tree-F.Project items tree) env = onwards (tree env) (row_by_row (shown_row items env))
  listing_step (Tree-F.Distinct tree) env = record { rows = distinct (tree env).rows; faults = first_only (tree env).faults }
  listing_step (Tree-F.Set op left right) env =
      whole_first (left env) (λ rows. whole_first (right env) (λ others. listed_rows (combined_in_order op rows others)))
  listing_step (Tree-F.Sort keys tree) env = whole_first (tree env) (λ rows. listed_rows (sorted keys rows))
  listing_step (Tree-F.Seek table columns key) env = listed_rows (rows_matching columns key (tables table.name))
  listing_step (Tree-F.Range table columns low high) env = listed_rows (sorted (ascending columns) (rows_within columns low high (tables table.name)))
  listing_step (Tree-F.IndexLoop on left places table columns) env =
      onwards (left env) (in_order (λ row. pairs_of on env (matching places columns (tables table.name) row) row))
  listing_step (Tree-F.HashJoin on left right left_places right_places) env =
      by_left_rows (left env) (right env) (λ others row. pairs_of on env (matching left_places right_places others row) row)
  listing_step (Tree-F.Member operand is_negated members rows) env = onwards (rows env) (row_by_row (kept_row (is_member operand is_negated (members env)) env))

  -- the rows of a tree in their order, in the rows that stand outside it
  abbrev pub tree_listing : Tree → TreeMeaning
  tree_listing = tree_by listing_step

  abbrev pub truth_listing : Condition → ConditionMeaning
  truth_listing = truth_by listing_step

  abbrev pub value_listing : Expression → ExpressionMeaning
  value_listing = value_by listing_step
