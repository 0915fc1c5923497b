-- What the rows that trees give are of VALUES.
use Rattle.std.specs.Prelude.{◌≡◌, ℕ, List, Ok}
use Rattle.refusals.specs.declared.refusal.Refusal.{Refusal}
use Rattle.sqlval.specs.Value.{Row}
use Rattle.typing.specs.declared.statement.InsertSource.TheVariants.{Values}
use Rattle.typing.specs.declared.typed.Condition as typed_condition
use Rattle.typing.specs.declared.typed.Expression as typed_expression
use Rattle.algebra.specs.declared.tree.Condition.{Condition}
use Rattle.algebra.specs.declared.tree.Expression.{Expression}
use Rattle.denote.specs.Change.{inserted_rows}
use Rattle.denote.specs.Database.{Table}
use Rattle.denote.specs.Evaluation.{Evaluation, faults_in}
use Rattle.denote.specs.Meaning.{Tables}
use Rattle.tree_tables.specs.TablesRead.{Agree}
use Rattle.query_answers.specs.Refused.{GivesFaults}
use Rattle.query_answers.specs.Sources.{AreTreesOf, AreChecksOf, tables_in_rows}

-- Over whatever tables that have the rows which were lent, and of whatever VALUES these are the
-- trees over them.
abbrev pub OfValues : Tables → List Condition → Table → List ℕ → List (List Expression)
    → (Evaluation (List Row) → Type 0) → Type 0
OfValues lent checks table columns trees P =
    (tables : Tables) (conditions : List typed_condition.Condition) (rows : List (List typed_expression.Expression))
    → Agree lent tables (tables_in_rows trees)
    → AreTreesOf tables rows trees → AreChecksOf conditions checks
    → P (inserted_rows conditions tables table columns (Values rows))

-- just these rows are stored
abbrev pub Stores : List Row → Evaluation (List Row) → Type 0
Stores stored meant = meant ≡ Ok stored

-- one of the faults, or want of memory
abbrev pub RefusesRows : Refusal → Evaluation (List Row) → Type 0
RefusesRows refusal meant = GivesFaults (faults_in meant) refusal
