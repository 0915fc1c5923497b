-- What is found of ordered queries, changes of rows and CHECKs is well typed.
use Rattle.std.proofs.Common.{◌≡◌, ◌<◌, refl, ap, sym, ◌∙◌, subst, ℕ, suc, ◌+◌, ◌-◌, Bool, true, false, List, [], ◌∷◌, map, length, Ok, Err, Option, Some, None, IfOk, slice_get, option_map, arith, eqb-true, nat_le, leb-true}
use Rattle.std.specs.Prelude.{◌==◌, ◌&&◌, if◌then◌else◌}
use Rattle.std.specs.List.{AllByRecursion, zip}
use Rattle.std.proofs.lemmas.Option.{none-some, same_Some, slice_get-map}
use Rattle.sqlval.specs.declared.schema.Column.{Column}
use Rattle.sqlval.specs.declared.schema.Schema.{Schema}
use Rattle.sqlval.specs.declared.value.ValueType.{ValueType}
use Rattle.refusals.specs.declared.reason.Reason.TheVariants.{Columns, Name}
use Rattle.refusals.specs.declared.refusal.Refusal.{Refusal}
use Rattle.refusals.specs.declared.refusal.Refusal.TheVariants.{Invalid}
use Rattle.sqlval.specs.Schema.{is_named}
use Rattle.ast.specs.declared.statement.Assignment.{Assignment as Written}
use Rattle.ast.specs.declared.statement.Delete.{Delete as DeleteTree}
use Rattle.ast.specs.declared.statement.Insert.{Insert as InsertTree}
use Rattle.ast.specs.declared.statement.InsertRows.{InsertRows}
use Rattle.ast.specs.declared.statement.InsertRows.TheVariants as rows
use Rattle.ast.specs.declared.statement.OrderedQuery.{OrderedQuery as OrderedTree}
use Rattle.ast.specs.declared.statement.SortColumn.{SortColumn}
use Rattle.ast.specs.declared.statement.SortColumn.TheVariants as sort
use Rattle.ast.specs.declared.statement.SortKey.{SortKey}
use Rattle.ast.specs.declared.statement.Statement.{Statement}
use Rattle.ast.specs.declared.statement.Statement.TheVariants as statement
use Rattle.ast.specs.declared.statement.StoredSource.{StoredSource}
use Rattle.ast.specs.declared.statement.StoredSource.TheVariants as written
use Rattle.ast.specs.declared.statement.Update.{Update as UpdateTree}
use Rattle.ast.specs.declared.tree.Condition.{Condition as ConditionTree}
use Rattle.typing.specs.declared.scope.ResultColumn.{ResultColumn}
use Rattle.typing.specs.declared.scope.TypedExpression.{TypedExpression}
use Rattle.typing.specs.declared.scope.TypedQuery.{TypedQuery}
use Rattle.typing.specs.declared.statement.Assignment.{Assignment}
use Rattle.typing.specs.declared.statement.Change.{Change}
use Rattle.typing.specs.declared.statement.Change.TheVariants as change
use Rattle.typing.specs.declared.statement.InsertSource.{InsertSource}
use Rattle.typing.specs.declared.statement.InsertSource.TheVariants as from
use Rattle.typing.specs.declared.statement.Typed.TheVariants as typed_statement
use Rattle.typing.specs.declared.statement.Update.{Update}
use Rattle.typing.specs.declared.typed.Condition.{Condition}
use Rattle.typing.specs.declared.typed.Expression.{Expression}
use Rattle.typing.specs.declared.typed.OrderKey.{OrderKey}
use Rattle.typing.specs.Check.{check_found}
use Rattle.typing.specs.CreateTable.{create_found}
use Rattle.typing.specs.Finding.{Finding, ◌>>=◌, also, before, each, invalid, misplaced}
use Rattle.typing.specs.Index.{dropped_index, dropped_table, index_found}
use Rattle.typing.specs.Insert.{Target, insert_found, query_stored, row_stored, rows_stored, source_found, sources_found, stored_as, target_at, target_named, targets_found, targets_from, values_stored}
use Rattle.typing.specs.Known.{Known, known, nothing_known, place_in}
use Rattle.typing.specs.declared.known.KnownTable.{KnownTable}
use Rattle.typing.specs.Order.{is_descending, key_found, named_from, only_place, ordered_found, place_of_position, sort_place}
use Rattle.typing.specs.Part.{Checked, Plain}
use Rattle.typing.specs.Scope.{Scope}
use Rattle.typing.specs.SetOperator.{agreeing, types_of}
use Rattle.typing.specs.Statement.{changes, found_over, statement_found}
use Rattle.typing.specs.Table.{as_found, distinct_found, frame_of, table_found, type_in}
use Rattle.typing.specs.Typing.{condition_part, expression_part, query_found}
use Rattle.typing.specs.Update.{assignment_found, changes_found, delete_found, filter_found, update_found}
use Rattle.typing_laws.specs.Scopes.{AreRowsOf}
use Rattle.typing_laws.specs.Statements.{IsAssignmentWell, IsChangeWell, IsDeleteWell, IsFilter, IsInsertWell, IsOrderedWell, IsStatementWell, IsStoredAs, IsUpdateWell}
use Rattle.typing_laws.specs.WellTyped.{HasResult, HasType, HaveTypes, IsWellTyped, Rows, column_types}
use Rattle.typing_laws.specs.WellTyped as typed
use Rattle.typing_laws.proofs.Columns.{Gives}
use Rattle.typing_laws.proofs.ColumnFindings.{beside, contained, follows, goes_on, mapped_any, second}
use Rattle.typing_laws.proofs.ColumnFitting.{IsResult, must}
use Rattle.typing_laws.proofs.Froms.{stored_types}
use Rattle.typing_laws.proofs.Sets.{agreeing-same}
use Rattle.typing_laws.proofs.ColumnTrees.{trees-conditions, trees-expressions, trees-queries}

-- ---- ORDER BY

abbrev Below : ℕ → ℕ → Type 0
Below n place = place < n

named-below : (name : List ℕ) (at : ℕ) (columns : List ResultColumn) → AllByRecursion (Below (at + length columns)) (named_from at name columns)
named-below name at [] = tt
named-below name at (column ∷ columns) =
    let e : (at + 1) + length columns ≡ at + length (column ∷ columns) = omega arith in
    go (is_named name column.name) (subst (λ n. AllByRecursion (Below n) (named_from (at + 1) name columns)) e (named-below name (at + 1) columns))
  where
    go : (b : Bool) → AllByRecursion (Below (at + length (column ∷ columns))) (named_from (at + 1) name columns)
        → AllByRecursion (Below (at + length (column ∷ columns))) (if b then at ∷ named_from (at + 1) name columns else named_from (at + 1) name columns)
    go true h = (omega arith, h)
    go false h = h

only-below : (n : ℕ) (places : List ℕ) → AllByRecursion (Below n) places → IfOk (only_place places) (Below n)
only-below n [] h = tt
only-below n (place ∷ []) h = h.0
only-below n (place ∷ other ∷ others) h = tt

position-below : (columns : List ResultColumn) (n : ℕ) → IfOk (place_of_position columns n) (Below (length columns))
position-below columns n = at (nat_le 1 n) refl (nat_le n (length columns)) refl
  where
    at : (a : Bool) → nat_le 1 n ≡ a → (b : Bool) → nat_le n (length columns) ≡ b → IfOk (if a && b then Ok (n - 1) else invalid Columns) (Below (length columns))
    at true is true same = let h = leb-true 1 n is in let k = leb-true n (length columns) same in omega (arith, h, k)
    at true is false same = tt
    at false is b same = tt

sort-below : (columns : List ResultColumn) (column : SortColumn) → IfOk (sort_place columns column) (Below (length columns))
sort-below columns (sort.Named name) =
    let e : 0 + length columns ≡ length columns = omega arith in
    only-below (length columns) (named_from 0 name columns) (subst (λ n. AllByRecursion (Below n) (named_from 0 name columns)) e (named-below name 0 columns))
sort-below columns (sort.Position n) = position-below columns n

abbrev IsKeyOf : List ResultColumn → OrderKey → Type 0
IsKeyOf columns key = key.place < length columns

key-below : (columns : List ResultColumn) (key : SortKey) → IfOk (key_found columns key) (IsKeyOf columns)
key-below columns key = goes_on (Below (length columns)) (IsKeyOf columns) (sort_place columns key.column) (λ place. Ok (record { place = place; descending = is_descending key.direction })) (sort-below columns key.column) (λ place h. h)

types_count : (columns : List ResultColumn) → length columns ≡ length (types_of columns)
types_count [] = refl
types_count (column ∷ columns) = ap suc (types_count columns)

pub ordered-typed : (k : Known) (tree : OrderedTree) → IfOk (ordered_found k tree) (IsOrderedWell k)
ordered-typed k tree =
    goes_on (IsResult k []) (IsOrderedWell k) (query_found k tree.query []) (λ q. each (map (key_found q.columns) tree.order) >>= (λ keys. Ok (record { query = q.query; keys = keys }))) (trees-queries k tree.query [] [] tt) ordered
  where
    ordered : (q : TypedQuery) → IsResult k [] q → IfOk (each (map (key_found q.columns) tree.order) >>= (λ keys. Ok (record { query = q.query; keys = keys }))) (IsOrderedWell k)
    ordered q h =
        goes_on (AllByRecursion (IsKeyOf q.columns)) (IsOrderedWell k) (each (map (key_found q.columns) tree.order)) (λ keys. Ok (record { query = q.query; keys = keys }))
        (mapped_any (IsKeyOf q.columns) (key_found q.columns) (key-below q.columns) tree.order)
        (λ keys m. record { types = types_of q.columns; result = h; keys = λ key c. subst (λ n. key.place < n) (types_count q.columns) (contained (IsKeyOf q.columns) keys m key c) })

-- ---- conditions and sources over one table

one_table : (shown : List ℕ) (columns : List Column) → AreRowsOf (frame_of shown columns ∷ []) (column_types columns ∷ [])
one_table shown columns = (sym (stored_types shown columns), tt)

pub check-typed : (name : List ℕ) (columns : List Column) (tree : ConditionTree) → IfOk (check_found (frame_of name columns) tree) (IsWellTyped nothing_known (column_types columns ∷ []))
check-typed name columns tree = (trees-conditions nothing_known tree).found (record { scope = frame_of name columns ∷ []; clause = Checked }) (column_types columns ∷ []) (one_table name columns) tt

module _ (k : Known) where
  filter-typed : (shown : List ℕ) (columns : List Column) (tree : Option ConditionTree) → IfOk (filter_found k (frame_of shown columns ∷ []) tree) (IsFilter k (column_types columns ∷ []))
  filter-typed shown columns None = λ c e. absurd (none-some c e)
  filter-typed shown columns (Some tree) =
      goes_on (IsWellTyped k (column_types columns ∷ [])) (IsFilter k (column_types columns ∷ [])) ((condition_part k tree).found (record { scope = frame_of shown columns ∷ []; clause = Plain })) (λ c. Ok (Some c))
      ((trees-conditions k tree).found (record { scope = frame_of shown columns ∷ []; clause = Plain }) (column_types columns ∷ []) (one_table shown columns) tt)
      (λ c h d e. subst (IsWellTyped k (column_types columns ∷ [])) (same_Some c d e) h)

  -- a source, where it is not NULL
  abbrev IsSource : Rows → Option TypedExpression → Type 0
  IsSource rows None = Unit {0}
  IsSource rows (Some x) = Gives k rows x

  source-typed : (scope : Scope) (rows : Rows) → AreRowsOf scope rows → (tree : StoredSource) → IfOk (source_found k scope tree) (IsSource rows)
  source-typed scope rows are (written.Value tree) =
      goes_on (Gives k rows) (IsSource rows) ((expression_part k tree).found (record { scope = scope; clause = Plain })) (λ x. Ok (Some x))
      ((trees-expressions k tree).found (record { scope = scope; clause = Plain }) rows are tt) (λ x h. h)
  source-typed scope rows are written.Null = tt

  stored_as-typed : (rows : Rows) (wanted : ValueType) (x : Option TypedExpression) → IsSource rows x → IfOk (stored_as wanted x) (λ e. HasType k rows e wanted)
  stored_as-typed rows wanted (Some x) h = must k rows wanted x h
  stored_as-typed rows wanted None h = typed.null

  -- ---- the columns of a table

  abbrev IsTarget : List Column → Target → Type 0
  IsTarget columns target = slice_get (column_types columns) target.0 ≡ Some target.1

  target_at-is : (columns : List Column) (place : ℕ) → IfOk (target_at columns place) (IsTarget columns)
  target_at-is columns place = at (slice_get columns place) refl
    where
      at : (o : Option Column) → slice_get columns place ≡ o → IfOk (as_found o >>= (λ column. Ok (place, type_in column.column_type))) (IsTarget columns)
      at None is = tt
      at (Some column) is = slice_get-map (λ (c : Column). type_in c.column_type) columns place ∙ ap (option_map (λ (c : Column). type_in c.column_type)) is

  target_named-is : (columns : List Column) (name : List ℕ) → IfOk (target_named columns name) (IsTarget columns)
  target_named-is columns name = follows (IsTarget columns) (as_found (place_in columns name)) (target_at columns) (target_at-is columns)

  targets_from-are : (whole : List Column) (at : ℕ) (columns : List Column) → ((j : ℕ) (t : ValueType) → slice_get (column_types columns) j ≡ Some t → slice_get (column_types whole) (at + j) ≡ Some t)
      → AllByRecursion (IsTarget whole) (targets_from at columns)
  targets_from-are whole at [] h = tt
  targets_from-are whole at (column ∷ columns) h =
      let here : at ≡ at + 0 = omega arith in (
        ap (slice_get (column_types whole)) here ∙ h 0 (type_in column.column_type) refl,
        targets_from-are whole (at + 1) columns (λ j t e. (let next : at + 1 + j ≡ at + suc j = omega arith in ap (slice_get (column_types whole)) next ∙ h (suc j) t e)),
      )

  targets-are : (columns : List Column) (names : List (List ℕ)) → IfOk (targets_found columns names) (AllByRecursion (IsTarget columns))
  targets-are columns [] = targets_from-are columns 0 columns (λ j t e. (let same : 0 + j ≡ j = omega arith in ap (slice_get (column_types columns)) same ∙ e))
  targets-are columns (name ∷ names) = mapped_any (IsTarget columns) (target_named columns) (target_named-is columns) (name ∷ names)

  places_of : (columns : List Column) (targets : List Target) → AllByRecursion (IsTarget columns) targets → map (slice_get (column_types columns)) (map (λ target. target.0) targets) ≡ map Some (map (λ target. target.1) targets)
  places_of columns [] h = refl
  places_of columns (target ∷ targets) h =
      ap (λ o. o ∷ map (slice_get (column_types columns)) (map (λ (t : Target). t.0) targets)) h.0 ∙ ap (λ l. Some target.1 ∷ l) (places_of columns targets h.1)

  -- ---- UPDATE and DELETE

  assignment-typed : (shown : List ℕ) (columns : List Column) (tree : Written) → IfOk (assignment_found k (frame_of shown columns ∷ []) columns tree) (IsAssignmentWell k (column_types columns))
  assignment-typed shown columns tree =
      goes_on (λ (p : Target × Option TypedExpression). IsTarget columns p.0 × IsSource (column_types columns ∷ []) p.1) (IsAssignmentWell k (column_types columns))
      (also (target_named columns tree.column) (source_found k (frame_of shown columns ∷ []) tree.source)) (λ p. stored_as (p.0).1 p.1 >>= (λ source. Ok (record { column = (p.0).0; source = source })))
      (beside (IsTarget columns) (IsSource (column_types columns ∷ [])) (target_named columns tree.column) (source_found k (frame_of shown columns ∷ []) tree.source) (target_named-is columns tree.column)
      (source-typed (frame_of shown columns ∷ []) (column_types columns ∷ []) (one_table shown columns) tree.source))
      (λ p h. goes_on (λ e. HasType k (column_types columns ∷ []) e (p.0).1) (IsAssignmentWell k (column_types columns)) (stored_as (p.0).1 p.1) (λ source. Ok (record { column = (p.0).0; source = source }))
      (stored_as-typed (column_types columns ∷ []) (p.0).1 p.1 h.1) (λ source m. record { column_type = (p.0).1; column = h.0; source = m }))

  changes-typed : (tree : UpdateTree) (table : KnownTable) → k.table tree.table ≡ Some table → IfOk (changes_found k tree table) (IsUpdateWell k)
  changes-typed tree table is =
      let scope = frame_of tree.table table.columns ∷ [] in
      let row = column_types table.columns in
      goes_on (λ (p : List Assignment × Option Condition). AllByRecursion (IsAssignmentWell k row) p.0 × IsFilter k (row ∷ []) p.1) (IsUpdateWell k)
      (also (each (map (assignment_found k scope table.columns) tree.assignments)) (filter_found k scope tree.filter)) (λ p. Ok (record { table = tree.table; assignments = p.0; filter = p.1 }))
      (beside (AllByRecursion (IsAssignmentWell k row)) (IsFilter k (row ∷ [])) (each (map (assignment_found k scope table.columns) tree.assignments)) (filter_found k scope tree.filter)
      (mapped_any (IsAssignmentWell k row) (assignment_found k scope table.columns) (assignment-typed tree.table table.columns) tree.assignments) (filter-typed tree.table table.columns tree.filter))
      (λ p h. record { table = table; is_there = is; assignments = contained (IsAssignmentWell k row) p.0 h.0; filter = h.1 })

  -- what follows from a table that is known
  over_table : {A : Type 0} (P : A → Type 0) (name : List ℕ) (next : KnownTable → Finding A) → ((table : KnownTable) → k.table name ≡ Some table → IfOk (next table) P) → IfOk (table_found k name >>= next) P
  over_table {A = A} P name next good = at (k.table name) refl
    where
      at : (o : Option KnownTable) → k.table name ≡ o → IfOk (as_found o >>= next) P
      at None is = tt
      at (Some table) is = good table is

  pub update-typed : (tree : UpdateTree) → IfOk (update_found k tree) (IsUpdateWell k)
  update-typed tree =
      let names = distinct_found (map (λ assignment. assignment.column) tree.assignments) in
      let found = table_found k tree.table >>= changes_found k tree in
      goes_on (λ (p : Unit {0} × Update). IsUpdateWell k p.1) (IsUpdateWell k) (also names found) (λ p. Ok p.1)
      (second (IsUpdateWell k) names found (over_table (IsUpdateWell k) tree.table (changes_found k tree) (changes-typed tree))) (λ p h. h)

  pub delete-typed : (tree : DeleteTree) → IfOk (delete_found k tree) (IsDeleteWell k)
  delete-typed tree =
      over_table (IsDeleteWell k) tree.table (λ table. filter_found k (frame_of tree.table table.columns ∷ []) tree.filter >>= (λ filter. Ok (record { table = tree.table; filter = filter })))
      (λ table is. goes_on (IsFilter k (column_types table.columns ∷ [])) (IsDeleteWell k) (filter_found k (frame_of tree.table table.columns ∷ []) tree.filter) (λ filter. Ok (record { table = tree.table; filter = filter }))
      (filter-typed tree.table table.columns tree.filter) (λ filter h. record { table = table; is_there = is; filter = h }))

  -- ---- INSERT

  abbrev types_wanted : List Target → List ValueType
  types_wanted targets = map (λ target. target.1) targets

  abbrev source_stored : Target × StoredSource → Finding Expression
  source_stored p = source_found k [] p.1 >>= stored_as (p.0).1

  abbrev IsRow : List Target → List Expression → Type 0
  IsRow targets row = HaveTypes k [] row (types_wanted targets)

  source_stored-typed : (target : Target) (source : StoredSource) → IfOk (source_stored (target, source)) (λ e. HasType k [] e target.1)
  source_stored-typed target source =
      goes_on (IsSource []) (λ e. HasType k [] e target.1) (source_found k [] source) (stored_as target.1) (source-typed [] [] tt source) (λ x h. stored_as-typed [] target.1 x h)

  first_stored : (target : Target) (targets : List Target) (x : Finding Expression) (xs : Finding (List Expression)) → IfOk x (λ e. HasType k [] e target.1) → IfOk xs (IsRow targets) → IfOk (before x xs) (IsRow (target ∷ targets))
  first_stored target targets (Ok e) (Ok more) h m = typed.one h m
  first_stored target targets (Ok e) (Err reasons) h m = tt
  first_stored target targets (Err reasons) xs h m = tt

  sources-typed : (targets : List Target) (row : List StoredSource) → length targets ≡ length row → IfOk (each (map source_stored (zip targets row))) (IsRow targets)
  sources-typed [] row e = typed.none
  sources-typed (target ∷ targets) [] e = absurd (omega (arith, e))
  sources-typed (target ∷ targets) (source ∷ row) e =
      first_stored target targets (source_stored (target, source)) (each (map source_stored (zip targets row))) (source_stored-typed target source)
      (sources-typed targets row (let f : length targets ≡ length row = omega (arith, e) in f))

  row-typed : (targets : List Target) (row : List StoredSource) → IfOk (row_stored k targets row) (IsRow targets)
  row-typed targets row = at (length targets == length row) refl
    where
      at : (b : Bool) → (length targets == length row) ≡ b → IfOk (if b then each (map source_stored (zip targets row)) else misplaced Columns (sources_found k row)) (IsRow targets)
      at true is = sources-typed targets row (eqb-true (length targets) (length row) is)
      at false is = tt

  -- the columns, and what is stored in them
  abbrev IsStored : List Column → List Target × InsertSource → Type 0
  IsStored columns p = AllByRecursion (IsTarget columns) p.0 × IsStoredAs k (types_wanted p.0) p.1

  values-typed : (columns : List Column) (targets : Finding (List Target)) (values : List (List StoredSource)) → IfOk targets (AllByRecursion (IsTarget columns)) → IfOk (values_stored k targets values) (IsStored columns)
  values-typed columns (Err reasons) values h = tt
  values-typed columns (Ok targets) values h =
      goes_on (AllByRecursion (IsRow targets)) (IsStored columns) (each (map (row_stored k targets) values)) (λ stored. Ok (targets, from.Values stored)) (mapped_any (IsRow targets) (row_stored k targets) (row-typed targets) values)
      (λ stored m. (h, contained (IsRow targets) stored m))

  same_columns : (columns : List Column) (targets : List Target) (q : TypedQuery) → AllByRecursion (IsTarget columns) targets → IsResult k [] q → (x : Finding (Unit {0})) → IfOk x (λ agreed. types_wanted targets ≡ types_of q.columns)
      → IfOk (x >>= (λ agreed. Ok (targets, from.Query q.query))) (IsStored columns)
  same_columns columns targets q h m (Ok u) e = (h, subst (HasResult k [] q.query) (sym e) m)
  same_columns columns targets q h m (Err reasons) e = tt

  query-stored : (columns : List Column) (targets : Finding (List Target)) (found : Finding TypedQuery) → IfOk targets (AllByRecursion (IsTarget columns)) → IfOk found (IsResult k []) → IfOk (query_stored targets found) (IsStored columns)
  query-stored columns (Ok targets) (Ok q) h m = same_columns columns targets q h m (agreeing (types_wanted targets) (types_of q.columns)) (agreeing-same (types_wanted targets) (types_of q.columns))
  query-stored columns (Ok targets) (Err reasons) h m = tt
  query-stored columns (Err reasons) found h m = tt

  rows-typed : (columns : List Column) (targets : Finding (List Target)) (written_rows : InsertRows) → IfOk targets (AllByRecursion (IsTarget columns)) → IfOk (rows_stored k targets written_rows) (IsStored columns)
  rows-typed columns targets (rows.Values values) h = values-typed columns targets values h
  rows-typed columns targets (rows.Query tree) h = query-stored columns targets (query_found k tree []) h (trees-queries k tree [] [] tt)

  nothing_stored : (reasons : List Refusal) (written_rows : InsertRows) → IfOk (rows_stored k (Err reasons) written_rows) (λ p. ⊥)
  nothing_stored reasons (rows.Values values) = tt
  nothing_stored reasons (rows.Query tree) = tt

  pub insert-typed : (tree : InsertTree) → IfOk (insert_found k tree) (IsInsertWell k)
  insert-typed tree = at (k.table tree.table) refl
    where
      at : (o : Option KnownTable) → k.table tree.table ≡ o
          → IfOk (also (distinct_found tree.columns) (rows_stored k (as_found o >>= (λ table. targets_found table.columns tree.columns)) tree.rows) >>= (λ p.
          Ok (record { table = tree.table; columns = map (λ target. target.0) (p.1).0; source = (p.1).1 }))) (IsInsertWell k)
      at None is =
          let stored = rows_stored k (as_found {A = KnownTable} None >>= (λ table. targets_found table.columns tree.columns)) tree.rows in
          goes_on (λ (p : Unit {0} × (List Target × InsertSource)). ⊥) (IsInsertWell k) (also (distinct_found tree.columns) stored) (λ p. Ok (record { table = tree.table; columns = map (λ target. target.0) (p.1).0; source = (p.1).1 }))
          (second (λ p. ⊥) (distinct_found tree.columns) stored (nothing_stored (Invalid Name ∷ []) tree.rows)) (λ p h. absurd h)
      at (Some table) is =
          let stored = rows_stored k (targets_found table.columns tree.columns) tree.rows in
          goes_on (λ (p : Unit {0} × (List Target × InsertSource)). IsStored table.columns p.1) (IsInsertWell k) (also (distinct_found tree.columns) stored)
          (λ p. Ok (record { table = tree.table; columns = map (λ target. target.0) (p.1).0; source = (p.1).1 }))
          (second (IsStored table.columns) (distinct_found tree.columns) stored (rows-typed table.columns (targets_found table.columns tree.columns) tree.rows (targets-are table.columns tree.columns)))
          (λ p h. record { table = table; is_there = is; types = types_wanted (p.1).0; columns = places_of table.columns (p.1).0 h.0; stored = h.1 })

  -- ---- statements

  change-typed : {A : Type 0} (P : A → Type 0) (x : Finding A) (made : A → Change) → IfOk x P → ((a : A) → P a → IsChangeWell k (made a)) → IfOk (changes (x >>= (λ a. Ok (made a)))) (IsStatementWell k)
  change-typed P (Ok a) made h good = good a h
  change-typed P (Err reasons) made h good = tt

  any_change : {A : Type 0} (x : Finding A) (made : A → Change) → ((a : A) → IsChangeWell k (made a)) → IfOk (changes (x >>= (λ a. Ok (made a)))) (IsStatementWell k)
  any_change (Ok a) made good = good a
  any_change (Err reasons) made good = tt

  over-typed : (tree : Statement) → IfOk (found_over k tree) (IsStatementWell k)
  over-typed (statement.Query tree) = goes_on (IsOrderedWell k) (IsStatementWell k) (ordered_found k tree) (λ q. Ok (typed_statement.Query q)) (ordered-typed k tree) (λ q h. h)
  over-typed (statement.Explain tree) = goes_on (IsOrderedWell k) (IsStatementWell k) (ordered_found k tree) (λ q. Ok (typed_statement.Explain q)) (ordered-typed k tree) (λ q h. h)
  over-typed (statement.CreateTable tree) = any_change (create_found k tree) (λ c. change.CreateTable c) (λ c. tt)
  over-typed (statement.DropTable name) = any_change (dropped_table k name) (λ c. change.DropTable c) (λ c. tt)
  over-typed (statement.CreateIndex tree) = any_change (index_found k tree) (λ c. change.CreateIndex c) (λ c. tt)
  over-typed (statement.DropIndex name) = any_change (dropped_index k name) (λ c. change.DropIndex c) (λ c. tt)
  over-typed (statement.Insert tree) = change-typed (IsInsertWell k) (insert_found k tree) (λ c. change.Insert c) (insert-typed tree) (λ c h. h)
  over-typed (statement.Update tree) = change-typed (IsUpdateWell k) (update_found k tree) (λ c. change.Update c) (update-typed tree) (λ c h. h)
  over-typed (statement.Delete tree) = change-typed (IsDeleteWell k) (delete_found k tree) (λ c. change.Delete c) (delete-typed tree) (λ c h. h)
  over-typed (statement.Commit has_work) = tt
  over-typed (statement.Rollback has_work) = tt
  over-typed (statement.SetTransaction mode) = tt
  over-typed (statement.DeclareCursor tree) = tt
  over-typed (statement.OpenCursor name) = tt
  over-typed (statement.Fetch name) = tt
  over-typed (statement.CloseCursor name) = tt

pub statements-typed : (tree : Statement) (schema : Schema) → IfOk (statement_found tree schema) (IsStatementWell (known schema))
statements-typed tree schema = over-typed (known schema) tree
