-- The sources of VALUES and the conditions of CHECKs as trees, and the rows that they give.
use Rattle.std.specs.Prelude.{◌≡◌, ℕ, List, [], ◌∷◌, ◌++◌, map, flat_map}
use Rattle.sqlval.specs.Value.{Row}
use Rattle.sqlval.specs.declared.truth.Truth.{Truth}
use Rattle.sqlval.specs.declared.value.Value.{Value}
use Rattle.typing.specs.declared.typed.Condition as typed_condition
use Rattle.typing.specs.declared.typed.Expression as typed_expression
use Rattle.algebra.specs.declared.tree.Condition.{Condition}
use Rattle.algebra.specs.declared.tree.Expression.{Expression}
use Rattle.algebra.specs.declared.tree.StoredTable.{StoredTable}
use Rattle.algebra.specs.Listing.{truth_listing, value_listing}
use Rattle.algebra.specs.Translated.{tree_of_condition}
use Rattle.algebra.specs.TreeOutcome.{tree_value}
use Rattle.denote.specs.declared.fault.Fault.{Fault}
use Rattle.denote.specs.Database.{Table}
use Rattle.denote.specs.Evaluation.{Evaluation, ◌>>=◌, faults_in, together, unless}
use Rattle.denote.specs.Meaning.{Tables, value_of}
use Rattle.denote.specs.StoredRow.{key_faults, record_faults, row_with}
use Rattle.operator_laws.specs.Same.{Agree, Each}
use Rattle.tree_tables.specs.TablesRead.{Names, all_names, tables_in_expression}

-- over these tables a tree has the value of an expression at each row, or the same faults
abbrev pub MeansExpression : Tables → Expression → typed_expression.Expression → Type 0
MeansExpression tables tree asked = Agree (tree_value tables tree) (value_of tables asked)

-- trees of the sources, row by row
pub record AreTreesOf (tables : Tables) (rows : List (List typed_expression.Expression)) (trees : List (List Expression)) : Type 0 where
  pub mean : Each (Each (MeansExpression tables)) trees rows

-- the trees of the conditions of CHECKs, whatever they know of tables beside their names
pub record AreChecksOf (conditions : List typed_condition.Condition) (checks : List Condition) : Type 0 where
  pub described : List ℕ → StoredTable
  pub names : (name : List ℕ) → (described name).name ≡ name
  pub are : checks ≡ map (tree_of_condition described) conditions

-- the tables that sources name
abbrev pub tables_in_row : List Expression → Names
tables_in_row sources = all_names (map tables_in_expression sources)

abbrev pub tables_in_rows : List (List Expression) → Names
tables_in_rows rows = all_names (map tables_in_row rows)

-- ---- what trees give

-- a source sees no row
abbrev pub source_value : Tables → Expression → Evaluation Value
source_value tables source = value_listing tables source []

-- a CHECK sees its row, and no table
abbrev pub check_truth : Row → Condition → Evaluation Truth
check_truth row check = truth_listing (λ _. []) check (row ∷ [])

abbrev pub check_faults : List Condition → Row → List Fault
check_faults checks row = flat_map (λ check. faults_in (check_truth row check)) checks

-- what a table is to hold, but for its constraints
abbrev pub faults_at : List Condition → Table → Row → List Fault
faults_at checks table row = check_faults checks row ++ (record_faults row ++ flat_map (λ index. key_faults row index.columns) table.indexes)

abbrev pub admitted_row : List Condition → Table → Evaluation Row → Evaluation Row
admitted_row checks table row = row >>= (λ r. unless (faults_at checks table r) r)

abbrev pub row_given : Tables → List Condition → Table → List ℕ → List Expression → Evaluation Row
row_given tables checks table places sources = admitted_row checks table (row_with table.columns places (map (source_value tables) sources) [])

abbrev pub rows_given : Tables → List Condition → Table → List ℕ → List (List Expression) → Evaluation (List Row)
rows_given tables checks table places rows = together (map (row_given tables checks table places) rows)
