-- What the trees of VALUES give shows what the definition gives.
use Rattle.std.proofs.Common.{◌≡◌, ◌∙◌, refl, sym, ap, subst, ℕ, zero, suc, ◌≤◌, take, length, List, [], ◌∷◌, ◌++◌, map, Option, Some, None, Ok, Err, Contains, inr, arith}
use Rattle.std.specs.Prelude.{◌==◌, flat_map, position, slice_get, option_and_then}
use Rattle.std.specs.List.{enumerate_from}
use Rattle.std.proofs.lemmas.List.Elements.{Contains-append_left, Contains-append_right}
use Rattle.refusals.specs.declared.refusal.Refusal.{Refusal}
use Rattle.sqlval.specs.declared.schema.Column.{Column}
use Rattle.sqlval.specs.declared.schema.Schema.{Schema}
use Rattle.sqlval.specs.declared.schema.Table as stored
use Rattle.sqlval.specs.declared.value.Value.{Value}
use Rattle.sqlval.specs.Schema.{table_place}
use Rattle.sqlval.specs.Storing.{stored as stored_as}
use Rattle.sqlval.specs.Value.{Row}
use Rattle.typing.specs.declared.statement.InsertSource.TheVariants.{Values}
use Rattle.typing.specs.declared.typed.Condition as typed_condition
use Rattle.typing.specs.declared.typed.Expression as typed_expression
use Rattle.algebra.specs.declared.tree.Condition.{Condition}
use Rattle.algebra.specs.declared.tree.Expression.{Expression}
use Rattle.algebra.specs.declared.tree.StoredTable.{StoredTable}
use Rattle.algebra.specs.Described.{described_in, known_of, table_at}
use Rattle.algebra.specs.Listing.{truth_listing, value_listing}
use Rattle.algebra.specs.Translated.{tree_of_condition}
use Rattle.algebra.specs.TreeOutcome.{tree_value}
use Rattle.algebra_laws.specs.Shown.{IsShown, Shows, ShowsAt}
use Rattle.algebra_laws.proofs.Evaluations.{IsShown-refl, IsShown-append, faults_in-shown, follows, then-shows, together-shows}
use Rattle.algebra_laws.proofs.Trees.{expressions-show}
use Rattle.denote.specs.Bag.{HasSame}
use Rattle.denote.specs.declared.fault.Fault.{Fault}
use Rattle.denote.specs.Change.{inserted_rows}
use Rattle.denote.specs.Database.{Table, check_at}
use Rattle.denote.specs.Evaluation.{Evaluation, faults_in, given, together, unless}
use Rattle.denote.specs.Expression.{cell}
use Rattle.denote.specs.Meaning.{Tables, truth_at, value_of}
use Rattle.denote.specs.StoredRow.{admitted, given_for, inserted_row, key_faults, record_faults, row_faults, row_with, value_for}
use Rattle.operator_laws.specs.Same.{Each, IsSameValue}
use Rattle.operator_laws.proofs.Same.{Each-maps, HasSame-some}
use Rattle.session_definitions.specs.Refusals.{refusal_of}
use Rattle.tree_tables.specs.TablesRead.{Agree, tables_in_expression}
use Rattle.query_answers.specs.Refused.{GivesFaults}
use Rattle.query_answers.specs.Sources.{AreTreesOf, AreChecksOf, MeansExpression, tables_in_row, tables_in_rows, source_value, check_truth, check_faults, faults_at, admitted_row, row_given, rows_given}

-- the laws, as the calls of them say
abbrev pub TruthsShow : Type 0
TruthsShow = (described : List ℕ → StoredTable) → ((name : List ℕ) → (described name).name ≡ name) → (tables : Tables) (x : typed_condition.Condition)
    → ShowsAt (truth_listing tables (tree_of_condition described x)) (truth_at tables x)

abbrev pub ValuesRead : Type 0
ValuesRead = (tables others : Tables) (x : Expression) → Agree tables others (tables_in_expression x) → value_listing tables x ≡ value_listing others x

-- ---- the rows are those over all tables

module _ (read : ValuesRead) (lent tables : Tables) where
  same_sources : (sources : List Expression) → Agree lent tables (tables_in_row sources) → map {B = Evaluation Value} (source_value lent) sources ≡ map {B = Evaluation Value} (source_value tables) sources
  same_sources [] agree = refl
  same_sources (x ∷ xs) agree =
      let here = read lent tables x (λ name among. agree name (Contains-append_left (tables_in_expression x) (tables_in_row xs) name among)) in
      let later = same_sources xs (λ name among. agree name (Contains-append_right (tables_in_expression x) (tables_in_row xs) name among)) in
      λ i. here i [] ∷ later i

  pub same_rows : (checks : List Condition) (table : Table) (places : List ℕ) (rows : List (List Expression)) → Agree lent tables (tables_in_rows rows)
      → map {B = Evaluation Row} (row_given lent checks table places) rows ≡ map {B = Evaluation Row} (row_given tables checks table places) rows
  same_rows checks table places [] agree = refl
  same_rows checks table places (x ∷ xs) agree =
      let here = same_sources x (λ name among. agree name (Contains-append_left (tables_in_row x) (tables_in_rows xs) name among)) in
      let later = same_rows checks table places xs (λ name among. agree name (Contains-append_right (tables_in_row x) (tables_in_rows xs) name among)) in
      λ i. admitted_row checks table (row_with table.columns places (here i) []) ∷ later i

-- ---- a row of values that show others

-- nothing in both, or a value that shows the other
abbrev Alike : Option (Evaluation Value) → Option (Evaluation Value) → Type 0
Alike None None = Unit {0}
Alike None (Some y) = ⊥
Alike (Some x) None = ⊥
Alike (Some x) (Some y) = Shows x y

get-alike : (xs ys : List (Evaluation Value)) → Each Shows xs ys → (k : ℕ) → Alike (slice_get xs k) (slice_get ys k)
get-alike [] [] h k = tt
get-alike [] (y ∷ ys) h k = absurd h
get-alike (x ∷ xs) [] h k = absurd h
get-alike (x ∷ xs) (y ∷ ys) h zero = h.0
get-alike (x ∷ xs) (y ∷ ys) h (suc k) = get-alike xs ys h.1 k

given-alike : (place : ℕ) (columns : List ℕ) (xs ys : List (Evaluation Value)) → Each Shows xs ys → Alike (given_for place columns xs) (given_for place columns ys)
given-alike place columns xs ys h = at (position (λ column. column == place) columns)
  where
    at : (found : Option ℕ) → Alike (option_and_then (slice_get xs) found) (option_and_then (slice_get ys) found)
    at None = tt
    at (Some k) = get-alike xs ys h k

value-shows : (x y : Option (Evaluation Value)) (column : Column) (old : Value) → Alike x y → Shows (value_for x column old) (value_for y column old)
value-shows None None column old h = refl
value-shows None (Some y) column old h = absurd h
value-shows (Some x) None column old h = absurd h
value-shows (Some x) (Some y) column old h = then-shows x y (λ v. given (stored_as v column.column_type)) h

row-shows : (columns : List Column) (places : List ℕ) (xs ys : List (Evaluation Value)) (old : Row) → Each Shows xs ys → Shows (row_with columns places xs old) (row_with columns places ys old)
row-shows columns places xs ys old h =
    let one = λ (c : ℕ × Column). value_for (given_for c.0 places xs) c.1 (cell old c.0) in
    let other = λ (c : ℕ × Column). value_for (given_for c.0 places ys) c.1 (cell old c.0) in
    together-shows (map one (enumerate_from 0 columns)) (map other (enumerate_from 0 columns))
    (Each-maps Shows one other (enumerate_from 0 columns)
    (λ c. value-shows (given_for c.0 places xs) (given_for c.0 places ys) c.1 (cell old c.0) (given-alike c.0 places xs ys h)))

unless-shows : {A : Type 0} (fs gs : List Fault) (x : A) → IsShown fs gs → Shows (unless fs x) (unless gs x)
unless-shows [] gs x h = by gs (h.none refl)
  where
    by : (gs : List Fault) → gs ≡ [] → Shows (unless [] x) (unless gs x)
    by [] e = refl
    by (g ∷ gs) e = absurd (cc)
unless-shows (f ∷ fs) [] x h = let none = (h.within f (0, omega arith, refl)).1 in absurd (omega (arith, none))
unless-shows (f ∷ fs) (g ∷ gs) x h = h

-- ---- what shows a meaning shows what has the same value or faults

none-same : (xs ys : List Fault) → HasSame xs ys → xs ≡ [] → ys ≡ []
none-same xs [] same e = refl
none-same xs (y ∷ ys) same e = absurd (HasSame-some y ys (subst (λ (zs : List Fault). HasSame zs (y ∷ ys)) e same))

pub shows-same : {A : Type 0} (x y z : Evaluation A) → Shows x y → IsSameValue y z → Shows x z
shows-same (Ok x) (Ok y) (Ok z) h k = h ∙ k
shows-same (Ok x) (Ok y) (Err faults) h k = absurd k
shows-same (Ok x) (Err faults) z h k = absurd h
shows-same (Err shown) (Ok y) z h k = absurd h
shows-same (Err shown) (Err faults) (Ok z) h k = absurd k
shows-same (Err shown) (Err faults) (Err others) h k = record {
  within = λ fault there. (k fault).0 (h.within fault there);
  none = λ e. none-same faults others k (h.none e);
}

-- ---- the rows of trees

sources-show : (tables : Tables) (sources : List Expression) (asked : List typed_expression.Expression) → Each (MeansExpression tables) sources asked
    → Each Shows (map (source_value tables) sources) (map (λ source. value_of tables source []) asked)
sources-show tables [] [] means = tt
sources-show tables [] (x ∷ asked) means = absurd means
sources-show tables (tree ∷ sources) [] means = absurd means
sources-show tables (tree ∷ sources) (x ∷ asked) means = (
  shows-same (value_listing tables tree []) (tree_value tables tree []) (value_of tables x []) (expressions-show tables tree []) (means.0 []),
  sources-show tables sources asked means.1,
)

module _ (truths : TruthsShow) (tables : Tables) where
  checks-shown : (described : List ℕ → StoredTable) → ((name : List ℕ) → (described name).name ≡ name) → (conditions : List typed_condition.Condition) (row : Row)
      → IsShown (check_faults (map (tree_of_condition described) conditions) row) (flat_map (λ check. faults_in (check_at check row)) conditions)
  checks-shown described names [] row = IsShown-refl []
  checks-shown described names (c ∷ cs) row =
      IsShown-append (faults_in (check_truth row (tree_of_condition described c))) (faults_in (check_at c row)) (check_faults (map (tree_of_condition described) cs) row) (flat_map (λ check. faults_in (check_at check row)) cs)
      (faults_in-shown (check_truth row (tree_of_condition described c)) (check_at c row) (truths described names (λ _. []) c (row ∷ []))) (checks-shown described names cs row)

  admitted-shows : (conditions : List typed_condition.Condition) (checks : List Condition) → AreChecksOf conditions checks → (table : Table) (x y : Evaluation Row) → Shows x y
      → Shows (admitted_row checks table x) (admitted conditions table y)
  admitted-shows conditions checks trees table x y h =
      follows x y (λ r. unless (faults_at checks table r) r) (λ r. unless (row_faults conditions table r) r) h (λ r.
      let lengths = λ (row : Row). record_faults row ++ flat_map (λ index. key_faults row index.columns) table.indexes in
      let shown : IsShown (check_faults checks r) (flat_map (λ check. faults_in (check_at check r)) conditions) =
      subst (λ (cs : List Condition). IsShown (check_faults cs r) (flat_map (λ check. faults_in (check_at check r)) conditions)) (sym trees.are) (checks-shown trees.described trees.names conditions r) in
      unless-shows (faults_at checks table r) (row_faults conditions table r) r
      (IsShown-append (check_faults checks r) (flat_map (λ check. faults_in (check_at check r)) conditions) (lengths r) (lengths r) shown (IsShown-refl (lengths r))))

  each-shows : (conditions : List typed_condition.Condition) (checks : List Condition) → AreChecksOf conditions checks → (table : Table) (places : List ℕ)
      (trees : List (List Expression)) (rows : List (List typed_expression.Expression)) → Each (Each (MeansExpression tables)) trees rows
      → Each Shows (map (row_given tables checks table places) trees)
      (map (λ sources. inserted_row conditions table places (map (λ source. value_of tables source []) sources)) rows)
  each-shows conditions checks checked table places [] [] mean = tt
  each-shows conditions checks checked table places [] (x ∷ rows) mean = absurd mean
  each-shows conditions checks checked table places (tree ∷ trees) [] mean = absurd mean
  each-shows conditions checks checked table places (tree ∷ trees) (x ∷ rows) mean =
      let one = map (source_value tables) tree in
      let other = map (λ (source : typed_expression.Expression). value_of tables source []) x in (
        admitted-shows conditions checks checked table (row_with table.columns places one []) (row_with table.columns places other [])
            (row-shows table.columns places one other [] (sources-show tables tree x mean.0)),
        each-shows conditions checks checked table places trees rows mean.1,
      )

  pub rows-show : (read : ValuesRead) (lent : Tables) (conditions : List typed_condition.Condition) (checks : List Condition) (table : Table) (places : List ℕ)
      (rows : List (List typed_expression.Expression)) (trees : List (List Expression)) → Agree lent tables (tables_in_rows trees) → AreTreesOf tables rows trees → AreChecksOf conditions checks
      → Shows (rows_given lent checks table places trees) (inserted_rows conditions tables table places (Values rows))
  rows-show read lent conditions checks table places rows trees agree are checked =
      let meant = inserted_rows conditions tables table places (Values rows) in
      subst (λ (found : List (Evaluation Row)). Shows (together found) meant) (sym (same_rows read lent tables checks table places trees agree))
      (together-shows (map (row_given tables checks table places) trees)
      (map (λ sources. inserted_row conditions table places (map (λ source. value_of tables source []) sources)) rows)
      (each-shows conditions checks checked table places trees rows are.mean))

-- ---- as clauses of a call

pub stored_meant : {A : Type 0} (x : A) (found meant : Evaluation A) → found ≡ Ok x → Shows found meant → meant ≡ Ok x
stored_meant {A} x found meant is h = by meant (subst (λ (e : Evaluation A). Shows e meant) is h)
  where
    by : (meant : Evaluation A) → Shows (Ok x) meant → meant ≡ Ok x
    by (Ok y) same = ap Ok (sym same)
    by (Err faults) bad = absurd bad

pub fault_meant : {A : Type 0} (fault : Fault) (refusal : Refusal) (found meant : Evaluation A) → refusal ≡ refusal_of fault → Contains (faults_in found) fault → Shows found meant → GivesFaults (faults_in meant) refusal
fault_meant fault refusal found meant is among h = inr (fault, is, (faults_in-shown found meant h).within fault among)

-- what a schema knows of a table has the table's name
pub described_named : (schema : Schema) (name : List ℕ) → (described_in schema name).name ≡ name
described_named schema name = by (table_at schema (table_place name schema))
  where
    by : (table : Option stored.Table) → (known_of name table).name ≡ name
    by None = refl
    by (Some table) = refl

pub taken_all : {X : Type 0} (xs : List X) (k : ℕ) → length xs ≤ k → take k xs ≡ xs
taken_all [] zero h = refl
taken_all [] (suc k) h = refl
taken_all (x ∷ xs) zero h = absurd (omega (arith, h))
taken_all (x ∷ xs) (suc k) h = ap (λ rest. x ∷ rest) (taken_all xs k (omega (arith, h)))
