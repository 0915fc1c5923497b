-- The trees of an UPDATE and of a DELETE (ISO/IEC 9075:1992, 13.7, 13.10), and the tables that they
-- name.
use Rattle.std.specs.Prelude.{◌≡◌, [], ◌++◌, map, Option, Some, None}
use Rattle.typing.specs.declared.statement.Assignment.{Assignment}
use Rattle.typing.specs.declared.statement.Update.{Update}
use Rattle.typing.specs.declared.typed.Condition as typed_condition
use Rattle.algebra.specs.declared.tree.Condition.{Condition}
use Rattle.algebra.specs.declared.tree.Expression.{Expression}
use Rattle.algebra.specs.TreeOutcome.{tree_truth}
use Rattle.denote.specs.Meaning.{Tables, truth_at}
use Rattle.operator_laws.specs.Same.{Agree, Each, IfBoth}
use Rattle.tree_tables.specs.TablesRead.{Names, tables_in_condition}
use Rattle.query_answers.specs.Sources.{MeansExpression, tables_in_row}
use Rattle.update_delete.specs.declared.change.RowUpdate.{RowUpdate}

-- over these tables a tree has the truth value of a condition at each row, or the same faults
abbrev pub MeansCondition : Tables → Condition → typed_condition.Condition → Type 0
MeansCondition tables tree asked = Agree (tree_truth tables tree) (truth_at tables asked)

-- and one of an assignment the value of its source
abbrev pub MeansSource : Tables → Expression → Assignment → Type 0
MeansSource tables tree a = MeansExpression tables tree a.source

-- a tree of the condition, if there is one
pub record IsFilterOf (tables : Tables) (asked : Option typed_condition.Condition) (filter : Option Condition) : Type 0 where
  pub means : IfBoth (MeansCondition tables) filter asked

-- likewise trees of an UPDATE
pub record IsUpdateOf (tables : Tables) (u : Update) (made : RowUpdate) : Type 0 where
  pub filter : IfBoth (MeansCondition tables) made.filter u.filter
  pub columns : made.columns ≡ map (λ a. a.column) u.assignments
  pub sources : Each (MeansSource tables) made.sources u.assignments

-- the tables that they name
abbrev pub tables_in_filter : Option Condition → Names
tables_in_filter None = []
tables_in_filter (Some tree) = tables_in_condition tree

abbrev pub tables_in_update : RowUpdate → Names
tables_in_update made = tables_in_filter made.filter ++ tables_in_row made.sources
