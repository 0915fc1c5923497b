-- What the rules of names and types find of rows that are given.
use Rattle.std.proofs.Common.{◌≡◌, ◌∙◌, refl, sym, ap, subst, ℕ, zero, suc, ◌+◌, Bool, true, false, cond, List, [], ◌∷◌, ◌++◌, map, length, Option, Some, None, Ok, Err, Contains, arith}
use Rattle.std.proofs.lemmas.List.Elements.{Contains-append_left, Contains-append_right}
use Rattle.std.specs.Prelude.{◌==◌}
use Rattle.std.proofs.lemmas.Bool.{eqb-true}
use Rattle.std.specs.List.{zip}
use Rattle.refusals.specs.declared.reason.Reason.{Reason}
use Rattle.refusals.specs.declared.reason.Reason.TheVariants.{Columns, DataType, Name as NoName}
use Rattle.refusals.specs.declared.refusal.Refusal.{Refusal}
use Rattle.refusals.specs.declared.refusal.Refusal.TheVariants.{Invalid}
use Rattle.sqlval.specs.declared.schema.Column.{Column}
use Rattle.sqlval.specs.declared.storing.ColumnType.{ColumnType}
use Rattle.sqlval.specs.declared.storing.ColumnType.TheVariants as stored
use Rattle.sqlval.specs.declared.value.Value.{Value}
use Rattle.sqlval.specs.declared.value.Value.TheVariants as value
use Rattle.sqlval.specs.Value.{Row}
use Rattle.typing.specs.declared.statement.InsertSource.TheVariants as from
use Rattle.typing.specs.declared.typed.Expression.{Expression}
use Rattle.typing.specs.declared.typed.Expression.TheVariants as typed
use Rattle.typing.specs.Finding.{Finding, ◌>>=◌, before, each, reasons_in}
use Rattle.typing.specs.Insert.{Target, stored_as, targets_from}
use Rattle.typing.specs.Known.{Known}
use Rattle.typing.specs.declared.known.KnownTable.{KnownTable}
use Rattle.typing.specs.Table.{table_found, type_in}
use Rattle.denote.specs.Database.{Name}
use Rattle.session_definitions.specs.InsertedRows.{insert_of_rows, source_of, values_in_row}
use Rattle.table_changes.specs.Given.{into}
use Rattle.change.specs.Fits.{earlier, first_fault, fits, row_fault, values_fit}
use Rattle.change.specs.Listed.{typed_row, typed_rows}

-- ---- reasons of parts beside each other

first_reasons : {A : Type 0} (x : Finding A) (xs : Finding (List A)) (r : Refusal) → Contains (reasons_in x) r → Contains (reasons_in (before x xs)) r
first_reasons (Ok y) xs r one = absurd (let below = one.1 in omega (arith, below))
first_reasons (Err reasons) xs r one = Contains-append_left reasons (reasons_in xs) r one

other_reasons : {A : Type 0} (x : Finding A) (xs : Finding (List A)) (r : Refusal) → Contains (reasons_in xs) r → Contains (reasons_in (before x xs)) r
other_reasons (Ok y) (Ok ys) r one = absurd (let below = one.1 in omega (arith, below))
other_reasons (Ok y) (Err reasons) r one = one
other_reasons (Err reasons) xs r one = Contains-append_right reasons (reasons_in xs) r one

-- ---- a value

abbrev stores : Target × Value → Finding Expression
stores p = stored_as (p.0).1 (source_of p.1)

value_stored : (v : Value) (column : ColumnType) → fits v column ≡ true → stored_as (type_in column) (source_of v) ≡ Ok (typed.Constant v)
value_stored value.Null column e = refl
value_stored (value.Int number) stored.Integer e = refl
value_stored (value.Int number) (stored.Varchar n) e = absurd (cc)
value_stored (value.Text codes) stored.Integer e = absurd (cc)
value_stored (value.Text codes) (stored.Varchar n) e = refl

value_wrong : (v : Value) (column : ColumnType) → fits v column ≡ false → stored_as (type_in column) (source_of v) ≡ Err (Invalid DataType ∷ [])
value_wrong value.Null column e = absurd (cc)
value_wrong (value.Int number) stored.Integer e = absurd (cc)
value_wrong (value.Int number) (stored.Varchar n) e = refl
value_wrong (value.Text codes) stored.Integer e = refl
value_wrong (value.Text codes) (stored.Varchar n) e = absurd (cc)

-- before others
value_first : (v : Value) (column : ColumnType) (rest : Bool) (b : Bool) → fits v column ≡ b → cond b rest false ≡ true → (others : Finding (List Expression)) (xs : List Expression)
    → (rest ≡ true → others ≡ Ok xs) → before (stored_as (type_in column) (source_of v)) others ≡ Ok (typed.Constant v ∷ xs)
value_first v column rest true is e others xs later =
    ap (λ x. before x others) (value_stored v column is) ∙ ap (λ ys. before (Ok (typed.Constant v)) ys) (later e)
value_first v column rest false is e others xs later = absurd (cc)

wrong_first : (v : Value) (column : ColumnType) (rest : Bool) (b : Bool) → fits v column ≡ b → cond b rest false ≡ false → (others : Finding (List Expression))
    → (rest ≡ false → Contains (reasons_in others) (Invalid DataType)) → Contains (reasons_in (before (stored_as (type_in column) (source_of v)) others)) (Invalid DataType)
wrong_first v column rest true is e others later = other_reasons (stored_as (type_in column) (source_of v)) others (Invalid DataType) (later e)
wrong_first v column rest false is e others later =
    first_reasons (stored_as (type_in column) (source_of v)) others (Invalid DataType)
    (subst (λ (x : Finding Expression). Contains (reasons_in x) (Invalid DataType)) (sym (value_wrong v column is)) (0, omega arith, refl))

-- ---- a row

targets_long : (at : ℕ) (columns : List Column) → length (targets_from at columns) ≡ length columns
targets_long at [] = refl
targets_long at (column ∷ columns) = ap suc (targets_long (at + 1) columns)

values_stored : (at : ℕ) (columns : List Column) (row : Row) → length columns ≡ length row → values_fit columns row ≡ true
    → each (map stores (zip (targets_from at columns) row)) ≡ Ok (typed_row row)
values_stored at [] [] long e = refl
values_stored at [] (v ∷ row) long e = absurd (omega (arith, long))
values_stored at (column ∷ columns) [] long e = absurd (omega (arith, long))
values_stored at (column ∷ columns) (v ∷ row) long e =
    value_first v column.column_type (values_fit columns row) (fits v column.column_type) refl e (each (map stores (zip (targets_from (at + 1) columns) row))) (typed_row row)
    (λ rest. values_stored (at + 1) columns row (omega (arith, long)) rest)

values_wrong : (at : ℕ) (columns : List Column) (row : Row) → length columns ≡ length row → values_fit columns row ≡ false
    → Contains (reasons_in (each (map stores (zip (targets_from at columns) row)))) (Invalid DataType)
values_wrong at [] [] long e = absurd (cc)
values_wrong at [] (v ∷ row) long e = absurd (omega (arith, long))
values_wrong at (column ∷ columns) [] long e = absurd (omega (arith, long))
values_wrong at (column ∷ columns) (v ∷ row) long e =
    wrong_first v column.column_type (values_fit columns row) (fits v column.column_type) refl e (each (map stores (zip (targets_from (at + 1) columns) row)))
    (λ rest. values_wrong (at + 1) columns row (omega (arith, long)) rest)

module _ (columns : List Column) (row : Row) where
  abbrev in_row : Finding (List Expression)
  in_row = values_in_row (targets_from 0 columns) row

  abbrev values_of : Finding (List Expression)
  values_of = each (map stores (zip (targets_from 0 columns) row))

  in_row_is : (b : Bool) → (length columns == length row) ≡ b → in_row ≡ cond b values_of (Err (Invalid Columns ∷ []))
  in_row_is b e =
      ap (λ (n : ℕ). cond (n == length row) values_of (Err (Invalid Columns ∷ []))) (targets_long 0 columns)
      ∙ ap (λ (t : Bool). cond t values_of (Err (Invalid Columns ∷ []))) e

  row_stored_by : (b : Bool) → (length columns == length row) ≡ b → (c : Bool) → values_fit columns row ≡ c
      → cond b (cond c None (Some DataType)) (Some Columns) ≡ None → in_row ≡ Ok (typed_row row)
  row_stored_by true long true fit h = in_row_is true long ∙ values_stored 0 columns row (eqb-true (length columns) (length row) long) fit
  row_stored_by true long false fit h = absurd (cc)
  row_stored_by false long c fit h = absurd (cc)

  row_stored : row_fault columns row ≡ None → in_row ≡ Ok (typed_row row)
  row_stored e = row_stored_by (length columns == length row) refl (values_fit columns row) refl e

  found_wrong : (x : Finding (List Expression)) → in_row ≡ x → (reason why : Reason) → reason ≡ why → Contains (reasons_in x) (Invalid reason)
      → Contains (reasons_in in_row) (Invalid why)
  found_wrong x is reason why same h =
      subst (λ (found : Finding (List Expression)). Contains (reasons_in found) (Invalid why)) (sym is)
      (subst (λ (r : Reason). Contains (reasons_in x) (Invalid r)) same h)

  row_wrong_by : (why : Reason) (b : Bool) → (length columns == length row) ≡ b → (c : Bool) → values_fit columns row ≡ c
      → cond b (cond c None (Some DataType)) (Some Columns) ≡ Some why → Contains (reasons_in in_row) (Invalid why)
  row_wrong_by why true long true fit h = absurd (cc)
  row_wrong_by why true long false fit h =
      found_wrong values_of (in_row_is true long) DataType why (cc) (values_wrong 0 columns row (eqb-true (length columns) (length row) long) fit)
  row_wrong_by why false long c fit h =
      let one : Contains (Invalid Columns ∷ []) (Invalid Columns) = (0, omega arith, refl) in
      found_wrong (Err (Invalid Columns ∷ [])) (in_row_is false long) Columns why (cc) one

  row_wrong : (why : Reason) → row_fault columns row ≡ Some why → Contains (reasons_in in_row) (Invalid why)
  row_wrong why e = row_wrong_by why (length columns == length row) refl (values_fit columns row) refl e

-- ---- all rows

module _ (columns : List Column) where
  abbrev in_rows : List Row → Finding (List (List Expression))
  in_rows rows = each (map (values_in_row (targets_from 0 columns)) rows)

  row_first : (row : Row) (rest : Option Reason) (o : Option Reason) → row_fault columns row ≡ o → earlier o rest ≡ None → (others : Finding (List (List Expression))) (xs : List (List Expression))
      → (rest ≡ None → others ≡ Ok xs) → before (values_in_row (targets_from 0 columns) row) others ≡ Ok (typed_row row ∷ xs)
  row_first row rest None is e others xs later =
      ap (λ x. before x others) (row_stored columns row is) ∙ ap (λ ys. before (Ok (typed_row row)) ys) (later e)
  row_first row rest (Some why) is e others xs later = absurd (cc)

  rows_stored : (rows : List Row) → first_fault columns rows ≡ None → in_rows rows ≡ Ok (typed_rows rows)
  rows_stored [] e = refl
  rows_stored (row ∷ rows) e =
      row_first row (first_fault columns rows) (row_fault columns row) refl e (in_rows rows) (typed_rows rows) (λ rest. rows_stored rows rest)

  fault_first : (row : Row) (why : Reason) (rest : Option Reason) (o : Option Reason) → row_fault columns row ≡ o → earlier o rest ≡ Some why → (others : Finding (List (List Expression)))
      → (rest ≡ Some why → Contains (reasons_in others) (Invalid why)) → Contains (reasons_in (before (values_in_row (targets_from 0 columns) row) others)) (Invalid why)
  fault_first row why rest None is e others later = other_reasons (values_in_row (targets_from 0 columns) row) others (Invalid why) (later e)
  fault_first row why rest (Some reason) is e others later =
      first_reasons (values_in_row (targets_from 0 columns) row) others (Invalid why) (row_wrong columns row why (is ∙ e))

  rows_wrong : (rows : List Row) (why : Reason) → first_fault columns rows ≡ Some why → Contains (reasons_in (in_rows rows)) (Invalid why)
  rows_wrong [] why e = absurd (cc)
  rows_wrong (row ∷ rows) why e =
      fault_first row why (first_fault columns rows) (row_fault columns row) refl e (in_rows rows) (λ rest. rows_wrong rows why rest)

-- ---- the whole

then_wrong : {A B : Type 0} (x : Finding A) (f : A → B) (r : Refusal) → Contains (reasons_in x) r → Contains (reasons_in (x >>= (λ a. Ok (f a)))) r
then_wrong (Ok a) f r one = one
then_wrong (Err reasons) f r one = one

module _ (k : Known) (name : Name) (rows : List Row) where
  pub none_found : table_found k name ≡ Err (Invalid NoName ∷ []) → Contains (reasons_in (insert_of_rows k name rows)) (Invalid NoName)
  none_found e = rw e (0, omega arith, refl)

  module _ (table : KnownTable) (there : table_found k name ≡ Ok table) where
    pub all_fit : first_fault table.columns rows ≡ None
        → insert_of_rows k name rows ≡ Ok (into name (map (λ target. target.0) (targets_from 0 table.columns)) (from.Values (typed_rows rows)))
    all_fit e = rw (there, rows_stored table.columns rows e) refl

    pub one_wrong : (why : Reason) → first_fault table.columns rows ≡ Some why → Contains (reasons_in (insert_of_rows k name rows)) (Invalid why)
    one_wrong why e =
        rw there (then_wrong (in_rows table.columns rows) (λ stored. into name (map (λ target. target.0) (targets_from 0 table.columns)) (from.Values stored)) (Invalid why)
        (rows_wrong table.columns rows why e))
