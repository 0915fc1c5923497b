-- The rows that answer a query, as sources of VALUES.
use Rattle.std.proofs.Common.{◌≡◌, ◌∙◌, refl, sym, ap, subst, ℕ, List, [], ◌∷◌, ◌++◌, map, Some, Ok, Err, inl, inr, Contains, arith}
use Rattle.std.proofs.lemmas.List.Elements.{Contains-append_left}
use Rattle.std.specs.FinMap.{get}
use Rattle.refusals.specs.declared.refusal.Refusal.{Refusal}
use Rattle.sqlval.specs.declared.value.Value.{Value}
use Rattle.sqlval.specs.Value.{Row}
use Rattle.typing.specs.declared.statement.Change.TheVariants as does
use Rattle.typing.specs.declared.statement.Insert.{Insert}
use Rattle.typing.specs.declared.statement.InsertSource.TheVariants as from
use Rattle.typing.specs.declared.typed.Condition.{Condition}
use Rattle.typing.specs.declared.typed.Expression.TheVariants as typed
use Rattle.typing.specs.declared.typed.Query.{Query}
use Rattle.algebra.specs.declared.tree.Expression.TheVariants.{Constant}
use Rattle.algebra.specs.TreeOutcome.{outcome_step}
use Rattle.algebra.proofs.Nodes.{value_constant as tree_constant}
use Rattle.denote.specs.declared.fault.Fault.{Fault}
use Rattle.denote.specs.Answer.{Answers}
use Rattle.denote.specs.Change.{inserted_rows}
use Rattle.denote.specs.Database.{Table, Database, CheckReading, checks_of, rows_in}
use Rattle.denote.specs.Evaluation.{Evaluation, adding, faults_in, together}
use Rattle.denote.specs.Meaning.{Tables, query_outcome, value_of}
use Rattle.denote.specs.Query.{denotes}
use Rattle.denote.specs.StoredRow.{inserted_row}
use Rattle.denote.proofs.Nodes.{value_constant}
use Rattle.operator_laws.specs.Same.{Each, IsSameBag}
use Rattle.operator_laws.proofs.Same.{IsSameValue-refl, together-rows}
use Rattle.tree_tables.specs.TablesRead.{Agree}
use Rattle.tree_tables.proofs.Nodes.{expression_constant as names_of_constant}
use Rattle.query_answers.specs.Planned.{unordered}
use Rattle.query_answers.specs.Refused.{GivesFaults, MayRefuse}
use Rattle.query_answers.specs.Sources.{AreTreesOf, MeansExpression, tables_in_row, tables_in_rows}
use Rattle.constraints.specs.Changed.{RefusesChange}
use Rattle.table_changes.specs.Given.{AreGiven}
use Rattle.change.specs.Listed.{constants, constants_of, typed_row, typed_rows}
use Rattle.change.specs.Sources.{stored_of}
use Rattle.change.proofs.Given.{raised_in, refuses_as}

-- ---- rows as sources

-- a constant has its value over any tables
module _ (tables : Tables) where
  constant_means : (value : Value) → MeansExpression tables (Constant value) (typed.Constant value)
  constant_means value env = rw (tree_constant (outcome_step tables) value env, value_constant tables env value) (IsSameValue-refl (Ok value))

  row_means : (row : Row) → Each (MeansExpression tables) (constants_of row) (typed_row row)
  row_means [] = tt
  row_means (value ∷ row) = (constant_means value, row_means row)

  rows_mean : (rows : List Row) → Each (Each (MeansExpression tables)) (constants rows) (typed_rows rows)
  rows_mean [] = tt
  rows_mean (row ∷ rows) = (row_means row, rows_mean rows)

-- constants are trees of constants
pub are_trees : (tables : Tables) (rows : List Row) → AreTreesOf tables (typed_rows rows) (constants rows)
are_trees tables rows = record { mean = rows_mean tables rows }

-- constants name no tables
row_names : (row : Row) → tables_in_row (constants_of row) ≡ []
row_names [] = refl
row_names (value ∷ row) = λ i. names_of_constant value i ++ row_names row i

rows_names : (rows : List Row) → tables_in_rows (constants rows) ≡ []
rows_names [] = refl
rows_names (row ∷ rows) = λ i. row_names row i ++ rows_names rows i

pub all_agree : (tables others : Tables) (rows : List Row) → Agree tables others (tables_in_rows (constants rows))
all_agree tables others rows = λ name among. none name (subst (λ (names : List (List ℕ)). Contains names name) (rows_names rows) among)
  where
    none : (name : List ℕ) → Contains [] name → tables name ≡ others name
    none name among = absurd (let below = among.1 in omega (arith, below))

module _ (checks : List Condition) (tables : Tables) (table : Table) (places : List ℕ) where
  row_values : (row : Row) → map (λ source. value_of tables source []) (typed_row row) ≡ map {B = Evaluation Value} (λ value. Ok value) row
  row_values [] = refl
  row_values (value ∷ row) = λ i. value_constant tables [] value i ∷ row_values row i

  rows_values : (rows : List Row) → map (λ sources. inserted_row checks table places (map (λ source. value_of tables source []) sources)) (typed_rows rows)
      ≡ map (λ row. inserted_row checks table places (map Ok row)) rows
  rows_values [] = refl
  rows_values (row ∷ rows) = λ i. inserted_row checks table places (row_values row i) ∷ rows_values rows i

  -- VALUES of constants store what the rows do
  pub constants_stored : (rows : List Row) → inserted_rows checks tables table places (from.Values (typed_rows rows)) ≡ together (map (λ row. inserted_row checks table places (map Ok row)) rows)
  constants_stored rows = ap together (rows_values rows)

-- ---- the rows of a query

adding_has : {A : Type 0} (faults : List Fault) (x : Evaluation A) (fault : Fault) → Contains faults fault → Contains (faults_in (adding faults x)) fault
adding_has [] x fault one = absurd (let below = one.1 in omega (arith, below))
adding_has (f ∷ faults) x fault one = Contains-append_left (f ∷ faults) (faults_in x) fault one

module _ (reading : CheckReading) (db : Database) (i : Insert) (table : Table) (there : get db i.table ≡ Some table) (query : Query) (source : i.source ≡ from.Query query) where
  stores : Row → Evaluation Row
  stores row = inserted_row (checks_of reading i.table table) table i.columns (map Ok row)

  stored_is : (query_outcome (rows_in db) query []).faults ≡ [] → stored_of reading db i table i.source ≡ together (map stores (query_outcome (rows_in db) query []).rows)
  unfolding stores
  stored_is none =
      ap (stored_of reading db i table) source ∙ ap (λ (faults : List Fault). adding faults (together (map stores (query_outcome (rows_in db) query []).rows))) none

  pub given_query : (rows given : List Row) → Answers (Ok rows) (denotes db (unordered query))
      → stored_of reading db i table (from.Values (typed_rows rows)) ≡ Ok given → AreGiven reading db i given
  unfolding stores
  given_query rows given whole is =
      let o = query_outcome (rows_in db) query [] in
      let same : together (map stores rows) ≡ Ok given = sym (constants_stored (checks_of reading i.table table) (rows_in db) table i.columns rows) ∙ is in
      by (together (map stores o.rows)) refl
      (subst (λ (x : Evaluation (List Row)). IsSameBag (together (map stores o.rows)) x) same (together-rows stores stores o.rows rows (λ z. IsSameValue-refl (stores z)) whole.1))
      (stored_is whole.0)
    where
      by : (x : Evaluation (List Row)) → together (map stores (query_outcome (rows_in db) query []).rows) ≡ x → IsSameBag x (Ok given)
          → stored_of reading db i table i.source ≡ together (map stores (query_outcome (rows_in db) query []).rows) → AreGiven reading db i given
      by (Ok meant) found order stored_so = record { table = table; there = there; meant = meant; given = stored_so ∙ found; order = order }
      by (Err faults) found order stored_so = absurd order

  pub refuses_query : (rows : List Row) (refusal : Refusal) → Answers (Ok rows) (denotes db (unordered query))
      → GivesFaults (faults_in (stored_of reading db i table (from.Values (typed_rows rows)))) refusal → RefusesChange reading db (does.Insert i) refusal
  unfolding stores
  refuses_query rows refusal whole (inl memory) = refuses_as reading db i table there refusal (inl memory)
  refuses_query rows refusal whole (inr h) =
      let o = query_outcome (rows_in db) query [] in
      let among = subst (λ (x : Evaluation (List Row)). Contains (faults_in x) h.0) (constants_stored (checks_of reading i.table table) (rows_in db) table i.columns rows) h.2 in
      refuses_as reading db i table there refusal (inr (
        h.0,
        h.1,
        subst (λ (x : Evaluation (List Row)). Contains (faults_in x) h.0) (sym (stored_is whole.0))
            (by h.0 (together (map stores o.rows)) (together (map stores rows)) (together-rows stores stores o.rows rows (λ z. IsSameValue-refl (stores z)) whole.1) among),
      ))
    where
      by : (fault : Fault) (x y : Evaluation (List Row)) → IsSameBag x y → Contains (faults_in y) fault → Contains (faults_in x) fault
      by fault (Ok meant) (Ok rows) same one = one
      by fault (Ok meant) (Err faults) same one = absurd same
      by fault (Err faults) (Ok rows) same one = absurd same
      by fault (Err faults) (Err others) same one = (same fault).1 one

  pub refuses_fault : (refusal : Refusal) → MayRefuse (query_outcome (rows_in db) query []).faults refusal → RefusesChange reading db (does.Insert i) refusal
  refuses_fault refusal (inl reserved) = RefusesChange.withheld reserved
  refuses_fault refusal (inr h) =
      let o = query_outcome (rows_in db) query [] in
      let one = adding_has o.faults (together (map (λ row. inserted_row (checks_of reading i.table table) table i.columns (map Ok row)) o.rows)) h.0 h.2 in
      RefusesChange.raises h.0 h.1 (raised_in reading db i table there h.0
      (subst (λ (x : Evaluation (List Row)). Contains (faults_in x) h.0) (sym (ap (stored_of reading db i table) source)) one))
