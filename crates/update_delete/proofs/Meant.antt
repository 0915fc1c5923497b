-- The changes that trees give are those of the definitions, or what they raise is raised there.
use Rattle.std.proofs.Common.{◌≡◌, ◌∙◌, refl, sym, ap, subst, ℕ, zero, suc, ◌+◌, Bool, true, false, cond, not, List, [], ◌∷◌, ◌++◌, map, Option, Some, None, Result, Ok, Err, arith}
use Rattle.std.specs.Prelude.{◌==◌, flat_map, filter, count_by, position, slice_get, option_and_then}
use Rattle.std.proofs.lemmas.List.Elements.{Contains-append_left, Contains-append_right}
use Rattle.std.proofs.lemmas.List.Sums.{sum_by-cons}
use Rattle.std.specs.List.{enumerate_from}
use Rattle.sqlval.specs.declared.schema.Column.{Column}
use Rattle.sqlval.specs.declared.truth.Truth.{Truth}
use Rattle.sqlval.specs.declared.truth.Truth.TheVariants.{True}
use Rattle.sqlval.specs.declared.value.Value.{Value}
use Rattle.sqlval.specs.Storing.{stored as stored_as}
use Rattle.sqlval.specs.Truth.{same_truth}
use Rattle.sqlval.specs.Value.{Row}
use Rattle.typing.specs.declared.statement.Assignment.{Assignment}
use Rattle.typing.specs.declared.statement.Delete.{Delete}
use Rattle.typing.specs.declared.statement.Update.{Update}
use Rattle.typing.specs.declared.typed.Condition as typed_condition
use Rattle.algebra.specs.declared.tree.Condition.{Condition}
use Rattle.algebra.specs.declared.tree.Expression.{Expression}
use Rattle.algebra.specs.declared.tree.StoredTable.{StoredTable}
use Rattle.algebra.specs.Listing.{truth_listing, value_listing}
use Rattle.algebra.specs.TreeOutcome.{tree_truth, tree_value}
use Rattle.algebra.specs.Translated.{tree_of_condition}
use Rattle.algebra_laws.specs.Shown.{IsShown, ShowsBy, Shows, ShowsAt}
use Rattle.algebra_laws.proofs.Trees.{conditions-show, expressions-show}
use Rattle.algebra_laws.proofs.Evaluations.{IsShown-refl, IsShown-append, faults_in-shown, follows, next-shows, then-shows, together-shows}
use Rattle.denote.specs.declared.fault.Fault.{Fault}
use Rattle.denote.specs.declared.fault.Stop.{Stop}
use Rattle.denote.specs.declared.fault.Stop.TheVariants as stop
use Rattle.denote.specs.Change.{is_touched, assigned, updated_if, updated_rows, deleted_rows}
use Rattle.denote.specs.Database.{Table, check_at, IndexDeclaration}
use Rattle.denote.specs.Evaluation.{Evaluation, ◌>>=◌, faults_in, given, joined, together, unless}
use Rattle.denote.specs.Expression.{cell}
use Rattle.denote.specs.Meaning.{Tables, truth_at, value_of}
use Rattle.denote.specs.Stop.{Gives, IsFaultOf}
use Rattle.denote.specs.StoredRow.{admitted, given_for, key_faults, record_faults, row_faults, row_with, value_for}
use Rattle.operator_laws.specs.Same.{Each, Every, IfBoth}
use Rattle.operator_laws.proofs.Same.{Each-maps}
use Rattle.constraints.proofs.Short.{admitted_fits}
use Rattle.tree_tables.specs.TablesRead.{Agree, tables_in_expression}
use Rattle.query_answers.proofs.Meant.{shows-same}
use Rattle.query_answers.specs.Sources.{AreChecksOf, tables_in_row, check_truth, check_faults, faults_at, admitted_row}
use Rattle.update_delete.specs.declared.change.RowChange.{RowChange}
use Rattle.update_delete.specs.declared.change.RowChange.TheVariants.{Becomes}
use Rattle.update_delete.specs.declared.change.RowUpdate.{RowUpdate}
use Rattle.update_delete.specs.Given.{touched_given, gone_if, deletion_given, value_at, assigned_given, replaced_if, update_given}
use Rattle.update_delete.specs.RowChanges.{left_of, rows_left, spread, is_change, IsShort, AreChanges, AreUpdates, AreDeletions, GivesChanges}
use Rattle.update_delete.specs.Statements.{IsFilterOf, IsUpdateOf, MeansCondition, MeansSource, tables_in_filter, tables_in_update}
use Rattle.update_delete.proofs.ConditionsRead.{ValuesRead, ListingsRead, conditions-read}
use Rattle.update_delete.proofs.Sparse.{ok_map, faults-kept, together-spread}

-- the law, as the call of it says
abbrev pub TruthsShow : Type 0
TruthsShow = (described : List ℕ → StoredTable) → ((name : List ℕ) → (described name).name ≡ name) → (tables : Tables) (x : typed_condition.Condition)
    → ShowsAt (truth_listing tables (tree_of_condition described x)) (truth_at tables x)

-- ---- a row of values that show others

abbrev Alike : Option (Evaluation Value) → Option (Evaluation Value) → Type 0
Alike None None = Unit {0}
Alike None (Some y) = ⊥
Alike (Some x) None = ⊥
Alike (Some x) (Some y) = Shows x y

get-alike : (xs ys : List (Evaluation Value)) → Each Shows xs ys → (k : ℕ) → Alike (slice_get xs k) (slice_get ys k)
get-alike [] [] h k = tt
get-alike [] (y ∷ ys) h k = absurd h
get-alike (x ∷ xs) [] h k = absurd h
get-alike (x ∷ xs) (y ∷ ys) h zero = h.0
get-alike (x ∷ xs) (y ∷ ys) h (suc k) = get-alike xs ys h.1 k

given-alike : (place : ℕ) (columns : List ℕ) (xs ys : List (Evaluation Value)) → Each Shows xs ys → Alike (given_for place columns xs) (given_for place columns ys)
given-alike place columns xs ys h = at (position (λ column. column == place) columns)
  where
    at : (found : Option ℕ) → Alike (option_and_then (slice_get xs) found) (option_and_then (slice_get ys) found)
    at None = tt
    at (Some k) = get-alike xs ys h k

value-shows : (x y : Option (Evaluation Value)) (column : Column) (old : Value) → Alike x y → Shows (value_for x column old) (value_for y column old)
value-shows None None column old h = refl
value-shows None (Some y) column old h = absurd h
value-shows (Some x) None column old h = absurd h
value-shows (Some x) (Some y) column old h = then-shows x y (λ v. given (stored_as v column.column_type)) h

row-shows : (columns : List Column) (places : List ℕ) (xs ys : List (Evaluation Value)) (old : Row) → Each Shows xs ys → Shows (row_with columns places xs old) (row_with columns places ys old)
row-shows columns places xs ys old h =
    let one = λ (c : ℕ × Column). value_for (given_for c.0 places xs) c.1 (cell old c.0) in
    let other = λ (c : ℕ × Column). value_for (given_for c.0 places ys) c.1 (cell old c.0) in
    together-shows (map one (enumerate_from 0 columns)) (map other (enumerate_from 0 columns))
    (Each-maps Shows one other (enumerate_from 0 columns)
    (λ c. value-shows (given_for c.0 places xs) (given_for c.0 places ys) c.1 (cell old c.0) (given-alike c.0 places xs ys h)))

unless-shows : {A : Type 0} (fs gs : List Fault) (x : A) → IsShown fs gs → Shows (unless fs x) (unless gs x)
unless-shows [] gs x h = by gs (h.none refl)
  where
    by : (gs : List Fault) → gs ≡ [] → Shows (unless [] x) (unless gs x)
    by [] e = refl
    by (g ∷ gs) e = absurd (cc)
unless-shows (f ∷ fs) [] x h = let none = (h.within f (0, omega arith, refl)).1 in absurd (omega (arith, none))
unless-shows (f ∷ fs) (g ∷ gs) x h = h

-- ---- a row after its assignments

module _ (truths : TruthsShow) where
  checks-shown : (described : List ℕ → StoredTable) → ((name : List ℕ) → (described name).name ≡ name) → (conditions : List typed_condition.Condition) (row : Row)
      → IsShown (check_faults (map (tree_of_condition described) conditions) row) (flat_map (λ check. faults_in (check_at check row)) conditions)
  checks-shown described names [] row = IsShown-refl []
  checks-shown described names (c ∷ cs) row =
      IsShown-append (faults_in (check_truth row (tree_of_condition described c))) (faults_in (check_at c row)) (check_faults (map (tree_of_condition described) cs) row) (flat_map (λ check. faults_in (check_at check row)) cs)
      (faults_in-shown (check_truth row (tree_of_condition described c)) (check_at c row) (truths described names (λ _. []) c (row ∷ []))) (checks-shown described names cs row)

  admitted-shows : (conditions : List typed_condition.Condition) (checks : List Condition) → AreChecksOf conditions checks → (table : Table) (x y : Evaluation Row) → Shows x y
      → Shows (admitted_row checks table x) (admitted conditions table y)
  admitted-shows conditions checks trees table x y h =
      follows x y (λ r. unless (faults_at checks table r) r) (λ r. unless (row_faults conditions table r) r) h (λ r.
      let lengths = λ (row : Row). record_faults row ++ flat_map (λ (index : IndexDeclaration). key_faults row index.columns) table.indexes in
      let shown : IsShown (check_faults checks r) (flat_map (λ check. faults_in (check_at check r)) conditions) =
      subst (λ (cs : List Condition). IsShown (check_faults cs r) (flat_map (λ check. faults_in (check_at check r)) conditions)) (sym trees.are) (checks-shown trees.described trees.names conditions r) in
      unless-shows (faults_at checks table r) (row_faults conditions table r) r
      (IsShown-append (check_faults checks r) (flat_map (λ check. faults_in (check_at check r)) conditions) (lengths r) (lengths r) shown (IsShown-refl (lengths r))))

-- ---- whether a row is touched

module _ (read_values : ValuesRead) (read_listings : ListingsRead) (lent tables : Tables) where
  filter-shows : (asked : Option typed_condition.Condition) (filter : Option Condition) (row : Row) → IfBoth (MeansCondition tables) filter asked
      → Agree lent tables (tables_in_filter filter) → Shows (touched_given lent filter row) (is_touched tables asked row)
  filter-shows None None row means agree = refl
  filter-shows None (Some tree) row means agree = absurd means
  filter-shows (Some c) None row means agree = absurd means
  filter-shows (Some c) (Some tree) row means agree =
      let same : truth_listing lent tree (row ∷ []) ≡ truth_listing tables tree (row ∷ []) = ap (λ f. f (row ∷ [])) (conditions-read read_values read_listings lent tables tree agree) in
      then-shows (truth_listing lent tree (row ∷ [])) (truth_at tables c (row ∷ [])) (λ t. Ok (same_truth t True))
      (subst (λ (x : Evaluation Truth). Shows x (truth_at tables c (row ∷ []))) (sym same)
      (shows-same (truth_listing tables tree (row ∷ [])) (tree_truth tables tree (row ∷ [])) (truth_at tables c (row ∷ [])) (conditions-show tables tree (row ∷ [])) (means (row ∷ []))))

-- ---- all rows

-- values that are given show others, of which this holds
holding : {A : Type 0} (P : A → Type 0) (x y : Evaluation A) → Shows x y → ((a : A) → y ≡ Ok a → P a) → ShowsBy (λ (a b : A). (a ≡ b) × P b) x y
holding P (Ok a) (Ok b) h p = (h, p b refl)
holding P (Ok a) (Err faults) h p = absurd h
holding P (Err shown) (Ok b) h p = absurd h
holding P (Err shown) (Err faults) h p = h

-- what is left of one row, of those that are found with whether they are touched
module _ (kept : Bool × Row → List Row) (indexes : List IndexDeclaration) where
  abbrev pub IsOne : Row → RowChange → Bool × Row → Type 0
  IsOne row change r = (left_of row change ≡ kept r) × ((is_change change ≡ r.0) × IsShort indexes change)

  abbrev pub AreAll : List Row → List RowChange → List (Bool × Row) → Type 0
  AreAll rows changes found = (rows_left rows changes ≡ flat_map kept found) × ((count_by is_change changes ≡ count_by (λ (r : Bool × Row). r.0) found) × Every (IsShort indexes) changes)

  all_joined : (row : Row) (rows : List Row) (x : Evaluation RowChange) (y : Evaluation (Bool × Row)) (xs : Evaluation (List RowChange)) (ys : Evaluation (List (Bool × Row)))
      → ShowsBy (IsOne row) x y → ShowsBy (AreAll rows) xs ys → ShowsBy (AreAll (row ∷ rows)) (joined x xs) (joined y ys)
  all_joined row rows (Ok x) (Ok y) (Ok xs) (Ok ys) h k =
      let counted : count_by is_change (x ∷ xs) ≡ count_by (λ (r : Bool × Row). r.0) (y ∷ ys) =
      sum_by-cons (λ (c : RowChange). cond (is_change c) 1 0) x xs ∙ (λ i. cond (h.1.0 i) 1 0 + k.1.0 i) ∙ sym (sum_by-cons (λ (r : Bool × Row). cond r.0 1 0) y ys) in
      ((λ i. h.0 i ++ k.0 i), (counted, (h.1.1, k.1.1)))
  all_joined row rows (Ok x) (Ok y) (Ok xs) (Err others) h k = absurd k
  all_joined row rows (Ok x) (Ok y) (Err faults) (Ok ys) h k = absurd k
  all_joined row rows (Ok x) (Ok y) (Err faults) (Err others) h k = k
  all_joined row rows (Ok x) (Err others) xs ys h k = absurd h
  all_joined row rows (Err faults) (Ok y) xs ys h k = absurd h
  all_joined row rows (Err faults) (Err others) xs ys h k = IsShown-append faults others (faults_in xs) (faults_in ys) h (faults_shown xs ys k)
    where
      faults_shown : (xs : Evaluation (List RowChange)) (ys : Evaluation (List (Bool × Row))) → ShowsBy (AreAll rows) xs ys → IsShown (faults_in xs) (faults_in ys)
      faults_shown (Ok xs) (Ok ys) h = IsShown-refl []
      faults_shown (Ok xs) (Err faults) h = absurd h
      faults_shown (Err shown) (Ok ys) h = absurd h
      faults_shown (Err shown) (Err faults) h = h

  pub all_shown : (f : Row → Evaluation RowChange) (g : Row → Evaluation (Bool × Row)) → ((row : Row) → ShowsBy (IsOne row) (f row) (g row)) → (rows : List Row)
      → ShowsBy (AreAll rows) (together (map f rows)) (together (map g rows))
  all_shown f g one [] = (refl, (refl, tt))
  all_shown f g one (row ∷ rows) = all_joined row rows (f row) (g row) (together (map f rows)) (together (map g rows)) (one row) (all_shown f g one rows)

-- ---- a row of a DELETE

abbrev pub kept_of : Bool × Row → List Row
kept_of r = cond r.0 [] (r.1 ∷ [])

abbrev pub found_of : Bool × Row → List Row
found_of r = r.1 ∷ []

pub deletion-shows : (indexes : List IndexDeclaration) (row : Row) (x y : Evaluation Bool) → Shows x y
    → ShowsBy (IsOne kept_of indexes row) (x >>= (λ touched. Ok (gone_if touched))) (y >>= (λ touched. Ok (touched, row)))
deletion-shows indexes row x y h =
    next-shows (λ (a b : Bool). a ≡ b) (IsOne kept_of indexes row) x y (λ touched. Ok (gone_if touched)) (λ touched. Ok (touched, row)) h
    (λ a b e. subst (λ (b : Bool). IsOne kept_of indexes row (gone_if a) (b, row)) e (one a))
  where
    one : (a : Bool) → IsOne kept_of indexes row (gone_if a) (a, row)
    one true = (refl, (refl, tt))
    one false = (refl, (refl, tt))

-- ---- and of an UPDATE

pub update-shows : (conditions : List typed_condition.Condition) (tables : Tables) (table : Table) (assignments : List Assignment) (row : Row) (new : Evaluation Row) (x y : Evaluation Bool)
    → Shows x y → Shows new (assigned conditions tables table assignments row)
    → ShowsBy (IsOne found_of table.indexes row) (x >>= replaced_if new) (y >>= updated_if conditions tables table assignments row)
update-shows conditions tables table assignments row new x y h k =
    next-shows (λ (a b : Bool). a ≡ b) (IsOne found_of table.indexes row) x y (replaced_if new) (updated_if conditions tables table assignments row) h
    (λ a b e. subst (λ (b : Bool). ShowsBy (IsOne found_of table.indexes row) (replaced_if new a) (updated_if conditions tables table assignments row b)) e (one a))
  where
    one : (a : Bool) → ShowsBy (IsOne found_of table.indexes row) (replaced_if new a) (updated_if conditions tables table assignments row a)
    one false = (refl, (refl, tt))
    one true =
        let columns = map (λ (a : Assignment). a.column) assignments in
        let meant = row_with table.columns columns (map (λ (a : Assignment). value_of tables a.source (row ∷ [])) assignments) row in
        next-shows (λ (a b : Row). (a ≡ b) × IsShort table.indexes (Becomes b)) (IsOne found_of table.indexes row) new (assigned conditions tables table assignments row)
        (λ r. Ok (Becomes r)) (λ r. Ok (true, r))
        (holding (λ r. IsShort table.indexes (Becomes r)) new (assigned conditions tables table assignments row) k
        (λ r e. let fits = admitted_fits conditions table meant r e in (fits.record_none, fits.key_none)))
        (λ a b e. ((λ i. e.0 i ∷ []), (refl, subst (λ (r : Row). IsShort table.indexes (Becomes r)) (sym e.0) e.1)))

-- ---- as clauses of a call

rows_found : (found : List (Bool × Row)) → flat_map found_of found ≡ map (λ (r : Bool × Row). r.1) found
rows_found [] = refl
rows_found (r ∷ found) = ap (λ rows. r.1 ∷ rows) (rows_found found)

abbrev kept_rows : List (Bool × Row) → List Row
kept_rows found = map (λ (r : Bool × Row). r.1) (filter (λ (r : Bool × Row). not r.0) found)

rows_kept : (found : List (Bool × Row)) → flat_map kept_of found ≡ kept_rows found
rows_kept [] = refl
rows_kept ((true, row) ∷ found) = rows_kept found
rows_kept ((false, row) ∷ found) = ap (λ rows. row ∷ rows) (rows_kept found)

same_ok : {A : Type 0} (x y : A) → ◌≡◌ {A = Evaluation A} (Ok x) (Ok y) → x ≡ y
same_ok x y e = cc

-- of what shows what is meant, a reply gives what is meant
module _ (kept : Bool × Row → List Row) (table : Table) (left : List (Bool × Row) → List Row) (same : (found : List (Bool × Row)) → flat_map kept found ≡ left found) where
  abbrev pub Are : List RowChange → List (Bool × Row) → Type 0
  Are changes found = AreChanges table changes (left found) (count_by (λ (r : Bool × Row). r.0) found)

  pub gives : (reply : Result (List RowChange) Stop) (given : Evaluation (List RowChange)) (asked : Evaluation (List (Bool × Row))) → Gives reply given
      → ShowsBy (AreAll kept table.indexes table.rows) given asked → GivesChanges Are reply asked
  gives (Ok changes) (Ok found) (Ok asked) h s =
      let is : found ≡ changes = same_ok found changes h.ok in
      let all = subst (λ (cs : List RowChange). AreAll kept table.indexes table.rows cs asked) is s in
      record { ok = (asked, refl, record { left_so = all.0 ∙ same asked; as_many = all.1.0; short = all.1.1 }); err = tt }
  gives (Ok changes) (Ok found) (Err faults) h s = absurd s
  gives (Ok changes) (Err shown) asked h s = absurd (let e = h.ok in cc e)
  gives (Err why) given asked h s = record { ok = tt; err = stopped why given asked h.err s }
    where
      stopped : (why : Stop) (given : Evaluation (List RowChange)) (asked : Evaluation (List (Bool × Row))) → IsFaultOf (faults_in given) why
          → ShowsBy (AreAll kept table.indexes table.rows) given asked → IsFaultOf (faults_in asked) why
      stopped stop.Memory given asked e s = tt
      stopped (stop.Fault fault) (Ok found) asked e s = absurd (let below = e.1 in omega (arith, below))
      stopped (stop.Fault fault) (Err shown) (Ok asked) e s = absurd s
      stopped (stop.Fault fault) (Err shown) (Err faults) e s = s.within fault e

-- of the rows that pass a test, where the others stay
module _ (kept : Bool × Row → List Row) (table : Table) (left : List (Bool × Row) → List Row) (same : (found : List (Bool × Row)) → flat_map kept found ≡ left found) (test : Row → Bool) where
  pub gives-sparse : (reply : Result (List RowChange) Stop) (found given : Evaluation (List RowChange)) (asked : Evaluation (List (Bool × Row))) → Gives reply found
      → given ≡ ok_map (λ (cs : List RowChange). spread test table.rows cs) found → ShowsBy (AreAll kept table.indexes table.rows) given asked
      → GivesChanges (λ changes rows. AreChanges table (spread test table.rows changes) (left rows) (count_by (λ (r : Bool × Row). r.0) rows)) reply asked
  gives-sparse (Ok changes) found given asked h e s =
      let given_is : given ≡ Ok (spread test table.rows changes) = e ∙ ap (ok_map (λ (cs : List RowChange). spread test table.rows cs)) h.ok in
      let all = gives kept table left same (Ok (spread test table.rows changes)) given asked (record { ok = given_is; err = tt }) s in
      record { ok = all.ok; err = tt }
  gives-sparse (Err why) found given asked h e s =
      let faults : faults_in given ≡ faults_in found = ap faults_in e ∙ faults-kept (λ (cs : List RowChange). spread test table.rows cs) found in
      let all = gives kept table left same (Err why) given asked (record { ok = tt; err = subst (λ (fs : List Fault). IsFaultOf fs why) (sym faults) h.err }) s in
      record { ok = tt; err = all.err }

module _ (read_values : ValuesRead) (read_listings : ListingsRead) (lent tables : Tables) where
  -- the changes of a DELETE
  pub deletions_meant : (table : Table) (d : Delete) (tree : Option Condition) (rows : List Row) (test : Row → Bool) (reply : Result (List RowChange) Stop) → rows ≡ filter test table.rows
      → ((row : Row) → test row ≡ false → touched_given lent tree row ≡ Ok false) → Agree lent tables (tables_in_filter tree) → IsFilterOf tables d.filter tree
      → Gives reply (together (map (deletion_given lent tree) rows))
      → GivesChanges (λ changes found. AreDeletions table (spread test table.rows changes) found) reply (deleted_rows tables table d)
  deletions_meant table d tree rows test reply is others agree of h =
      gives-sparse kept_of table kept_rows rows_kept test reply (together (map (deletion_given lent tree) (filter test table.rows))) (together (map (deletion_given lent tree) table.rows))
      (deleted_rows tables table d) (subst (λ (rs : List Row). Gives reply (together (map (deletion_given lent tree) rs))) is h)
      (together-spread (deletion_given lent tree) test (λ row out. ap (λ x. x >>= (λ touched. Ok (gone_if touched))) (others row out)) table.rows)
      (all_shown kept_of table.indexes (deletion_given lent tree) (λ row. is_touched tables d.filter row >>= (λ touched. Ok (touched, row)))
      (λ row. deletion-shows table.indexes row (touched_given lent tree row) (is_touched tables d.filter row)
      (filter-shows read_values read_listings lent tables d.filter tree row of.means agree)) table.rows)

  sources-show : (sources : List Expression) (assignments : List Assignment) (row : Row) → Each (MeansSource tables) sources assignments → Agree lent tables (tables_in_row sources)
      → Each Shows (map (value_at lent row) sources) (map (λ (a : Assignment). value_of tables a.source (row ∷ [])) assignments)
  sources-show [] [] row means agree = tt
  sources-show [] (a ∷ assignments) row means agree = absurd means
  sources-show (tree ∷ sources) [] row means agree = absurd means
  sources-show (tree ∷ sources) (a ∷ assignments) row means agree =
      let more = tables_in_row sources in
      let same : value_listing lent tree (row ∷ []) ≡ value_listing tables tree (row ∷ []) =
      ap (λ f. f (row ∷ [])) (read_values lent tables tree (λ name among. agree name (Contains-append_left (tables_in_expression tree) more name among))) in (
        subst (λ (x : Evaluation Value). Shows x (value_of tables a.source (row ∷ []))) (sym same)
            (shows-same (value_listing tables tree (row ∷ [])) (tree_value tables tree (row ∷ [])) (value_of tables a.source (row ∷ [])) (expressions-show tables tree (row ∷ [])) (means.0 (row ∷ []))),
        sources-show sources assignments row means.1 (λ name among. agree name (Contains-append_right (tables_in_expression tree) more name among)),
      )

module _ (truths : TruthsShow) (read_values : ValuesRead) (read_listings : ListingsRead) (lent tables : Tables) where
  -- a row after its assignments
  assigned-shows : (conditions : List typed_condition.Condition) (checks : List Condition) → AreChecksOf conditions checks → (table : Table) (u : Update) (made : RowUpdate) → IsUpdateOf tables u made
      → Agree lent tables (tables_in_row made.sources) → (row : Row) → Shows (assigned_given lent checks table made row) (assigned conditions tables table u.assignments row)
  assigned-shows conditions checks checked table u made of agree row =
      let columns = map (λ (a : Assignment). a.column) u.assignments in
      let meant = map (λ (a : Assignment). value_of tables a.source (row ∷ [])) u.assignments in
      let shown : Each Shows (map (value_at lent row) made.sources) meant =
      sources-show read_values read_listings lent tables made.sources u.assignments row of.sources agree in
      admitted-shows truths conditions checks checked table (row_with table.columns made.columns (map (value_at lent row) made.sources) row) (row_with table.columns columns meant row)
      (subst (λ (places : List ℕ). Shows (row_with table.columns made.columns (map (value_at lent row) made.sources) row) (row_with table.columns places meant row)) of.columns
      (row-shows table.columns made.columns (map (value_at lent row) made.sources) meant row shown))

  -- the changes of an UPDATE
  pub updates_meant : (conditions : List typed_condition.Condition) (checks : List Condition) (table : Table) (u : Update) (made : RowUpdate) (rows : List Row) (test : Row → Bool)
      (reply : Result (List RowChange) Stop) → rows ≡ filter test table.rows → ((row : Row) → test row ≡ false → touched_given lent made.filter row ≡ Ok false)
      → Agree lent tables (tables_in_update made) → IsUpdateOf tables u made → AreChecksOf conditions checks → Gives reply (together (map (update_given lent checks table made) rows))
      → GivesChanges (λ changes found. AreUpdates table (spread test table.rows changes) found) reply (updated_rows conditions tables table u)
  updates_meant conditions checks table u made rows test reply is others agree of checked h =
      let in_filter = tables_in_filter made.filter in
      let in_sources = tables_in_row made.sources in
      gives-sparse found_of table (λ found. map (λ (r : Bool × Row). r.1) found) rows_found test reply (together (map (update_given lent checks table made) (filter test table.rows)))
      (together (map (update_given lent checks table made) table.rows)) (updated_rows conditions tables table u)
      (subst (λ (rs : List Row). Gives reply (together (map (update_given lent checks table made) rs))) is h)
      (together-spread (update_given lent checks table made) test (λ row out. ap (λ x. x >>= replaced_if (assigned_given lent checks table made row)) (others row out)) table.rows)
      (all_shown found_of table.indexes (update_given lent checks table made) (λ row. is_touched tables u.filter row >>= updated_if conditions tables table u.assignments row)
      (λ row. update-shows conditions tables table u.assignments row (assigned_given lent checks table made row) (touched_given lent made.filter row) (is_touched tables u.filter row)
      (filter-shows read_values read_listings lent tables u.filter made.filter row of.filter (λ name among. agree name (Contains-append_left in_filter in_sources name among)))
      (assigned-shows conditions checks checked table u made of (λ name among. agree name (Contains-append_right in_filter in_sources name among)) row)) table.rows)
