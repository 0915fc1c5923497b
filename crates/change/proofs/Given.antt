-- The rows that an INSERT is given, and what it is refused for before they are stored.
use Rattle.std.proofs.Common.{◌≡◌, ◌∙◌, sym, ap, subst, ℕ, List, [], ◌++◌, length, Some, Ok, Err, inl, inr, Contains, arith}
use Rattle.std.specs.FinMap.{get}
use Rattle.refusals.specs.declared.refusal.Refusal.{Refusal}
use Rattle.sqlval.specs.declared.schema.Table as declared
use Rattle.sqlval.specs.Value.{Row}
use Rattle.typing.specs.declared.statement.Change.TheVariants as does
use Rattle.typing.specs.declared.statement.Insert.{Insert}
use Rattle.typing.specs.declared.statement.InsertSource.{InsertSource}
use Rattle.typing.specs.declared.statement.InsertSource.TheVariants as from
use Rattle.typing.specs.declared.typed.Condition.{Condition}
use Rattle.typing.specs.declared.typed.Expression.{Expression}
use Rattle.denote.specs.declared.fault.Fault.{Fault}
use Rattle.denote.specs.Change.{Changed, changed, on_table, insert_into, inserted_rows, unless_raised, with_rows, IsRaised}
use Rattle.denote.specs.Database.{Table, Database, CheckReading, table_of}
use Rattle.denote.specs.Evaluation.{Evaluation, faults_in}
use Rattle.denote.specs.Meaning.{Tables}
use Rattle.denote.specs.SchemaOf.{Declares}
use Rattle.operator_laws.proofs.Permuting.{Permutes-refl}
use Rattle.session_definitions.specs.Refusals.{IsReserved}
use Rattle.query_answers.specs.Gives.{RefusesRows, Stores}
use Rattle.query_answers.specs.Refused.{GivesFaults}
use Rattle.constraints.specs.Changed.{RefusesChange}
use Rattle.table_changes.specs.Given.{AreGiven}
use Rattle.change.specs.Sources.{stored_of}

-- the rows of VALUES for a table as it is declared
pub same_rows : (d : declared.Table) (table : Table) → Declares d table → (checks : List Condition) (tables : Tables) (places : List ℕ) (values : List (List Expression))
    → inserted_rows checks tables (table_of d []) places (from.Values values) ≡ inserted_rows checks tables table places (from.Values values)
same_rows d table h checks tables places values =
    λ j. inserted_rows checks tables (record { columns = h.columns j; constraints = table.constraints; indexes = h.indexes j; rows = [] }) places (from.Values values)

module _ (reading : CheckReading) (db : Database) (i : Insert) (table : Table) (there : get db i.table ≡ Some table) where
  pub raised_in : (fault : Fault) → Contains (faults_in (stored_of reading db i table i.source)) fault → IsRaised (changed reading db (does.Insert i)) fault
  raised_in fault one =
      subst (λ (c : Changed). IsRaised c fault) (sym (ap (λ o. on_table db o (insert_into reading db i)) there)) (by (stored_of reading db i table i.source) one)
    where
      by : (e : Evaluation (List Row)) → Contains (faults_in e) fault → IsRaised (unless_raised e (λ rows. with_rows reading db i.table table (table.rows ++ rows) (length rows))) fault
      by (Ok rows) one = absurd (let below = one.1 in omega (arith, below))
      by (Err faults) one = one

  pub refuses_as : (refusal : Refusal) → GivesFaults (faults_in (stored_of reading db i table i.source)) refusal → RefusesChange reading db (does.Insert i) refusal
  refuses_as refusal (inl e) = RefusesChange.withheld (subst IsReserved (sym e) tt)
  refuses_as refusal (inr h) = RefusesChange.raises h.0 h.1 (raised_in h.0 h.2)

  pub refuses_values : (values : List (List Expression)) (refusal : Refusal) → i.source ≡ from.Values values → RefusesRows refusal (stored_of reading db i table (from.Values values))
      → RefusesChange reading db (does.Insert i) refusal
  refuses_values values refusal source h =
      refuses_as refusal (subst (λ (s : InsertSource). GivesFaults (faults_in (stored_of reading db i table s)) refusal) (sym source) h)

  pub given_values : (values : List (List Expression)) (rows : List Row) → i.source ≡ from.Values values → Stores rows (stored_of reading db i table (from.Values values)) → AreGiven reading db i rows
  given_values values rows source stores = record {
    table = table;
    there = there;
    meant = rows;
    given = ap (stored_of reading db i table) source ∙ stores;
    order = Permutes-refl rows;
  }
