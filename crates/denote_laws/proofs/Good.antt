-- A change of a good database makes a good one.
use Rattle.std.proofs.Common.{◌≡◌, refl, ap, sym, ◌∙◌, subst, ℕ, suc, zero, ◌+◌, Bool, true, false, cond, not, ◌&&◌, ◌||◌, if◌then◌else◌, List, [], ◌∷◌, ◌++◌, map, length, take, drop, nat_le, Option, Some, None, Ok, Err, arith}
use Rattle.std.specs.Prelude.{filter, flat_map, count_by}
use Rattle.std.specs.Cmp.{eq_by_cmp_equiv}
use Rattle.std.specs.Cmp.Lexicographic.{bytes_decides, nat_list_cmp_total}
use Rattle.std.specs.Option.{option_map}
use Rattle.std.specs.List.{list_all, enumerate_from}
use Rattle.std.specs.FinMap.{get, insert, remove, entries, from_entries}
use Rattle.std.proofs.Math.ListN.{length-take}
use Rattle.sqlval.specs.declared.value.Value.{Value}
use Rattle.sqlval.specs.declared.value.Value.TheVariants.{Null, Int, Text}
use Rattle.sqlval.specs.declared.code.Code.TheVariants.{TextTooLong}
use Rattle.sqlval.specs.declared.schema.Column.{Column}
use Rattle.sqlval.specs.declared.storing.ColumnType.{ColumnType}
use Rattle.sqlval.specs.declared.storing.ColumnType.TheVariants.{Integer, Varchar}
use Rattle.sqlval.specs.declared.schema.Constraint.{Constraint}
use Rattle.sqlval.specs.declared.schema.Rule.{Rule}
use Rattle.sqlval.specs.declared.schema.Rule.TheVariants.{NotNull, PrimaryKey, Unique, Check, ForeignKey}
use Rattle.sqlval.specs.Schema.{same_name, is_named}
use Rattle.typing.specs.Known.{is_reference_to, references}
use Rattle.sqlval.specs.Storing.{stored, fits_column, is_spaces}
use Rattle.sqlval.specs.Value.{Row}
use Rattle.typing.specs.declared.statement.Change.{Change}
use Rattle.typing.specs.declared.statement.Change.TheVariants as does
use Rattle.typing.specs.declared.statement.CreateIndex.{CreateIndex}
use Rattle.typing.specs.declared.statement.Insert.{Insert}
use Rattle.typing.specs.declared.statement.InsertSource.{InsertSource}
use Rattle.typing.specs.declared.statement.InsertSource.TheVariants as from
use Rattle.typing.specs.declared.statement.Update.{Update}
use Rattle.typing.specs.declared.statement.Assignment.{Assignment}
use Rattle.typing.specs.declared.statement.Delete.{Delete}
use Rattle.typing.specs.declared.typed.Condition.{Condition}
use Rattle.denote.specs.declared.fault.Fault.{Fault}
use Rattle.denote.specs.Evaluation.{Evaluation, ◌>>=◌, given, unless, adding, joined, together}
use Rattle.denote.specs.Expression.{cell}
use Rattle.denote.specs.StoredRow.{given_for, value_for, row_with, row_faults, admitted, inserted_row, key_faults}
use Rattle.denote.specs.Meaning.{Tables, value_of, query_outcome}
use Rattle.denote.specs.Database.{Name, IndexDeclaration, Table, Database, rows_of, rows_in, CheckReading, checks_of, violated_by, is_unmatched, has_unmatched, unmatched_by, violated_in, fits_columns, AreReadable, NamesItsColumns, HasReferenced, IsReferenceIn, AreReferencesIn, index_columns, are_places, IsGoodTable, IsGoodIn, IsGood}
use Rattle.denote.specs.Change.{inserted_rows, is_touched, assigned, updated_if, updated_rows, deleted_rows, Changed, Makes, Raises, Violates, unless_violated, with_rows, unless_raised, insert_into, update_in, delete_from, created, index_on, without_index, on_table, changed}
use Rattle.denote.specs.Bag.{Permutes}
use Rattle.operator_laws.proofs.Permuting.{Permutes-refl}
use Rattle.operator_laws.specs.Same.{Every}
use Rattle.denote_laws.proofs.Maps.{is_name, is_name-equal, found-insert, found-remove, found-mapped}
use Rattle.denote_laws.proofs.Places.{places-filtered, places-owned, places-pushed}
use Rattle.denote_laws.proofs.Tables.{violated_by-same, unmatched_by-same, nothing-violated, nothing-unmatched}
use Rattle.denote_laws.proofs.Violated.{none_of_both, unviolated-at}
use Rattle.denote_laws.specs.Changed.{IsRight, IsNotReferenced, DeclaresRightly}

-- ---- evaluations whose values have a property

abbrev IfValue : {A : Type 0} → (A → Type 0) → Evaluation A → Type 0
IfValue P (Ok x) = P x
IfValue P (Err faults) = Unit {0}

IfValue-next : {A B : Type 0} (P : A → Type 0) (Q : B → Type 0) (x : Evaluation A) (next : A → Evaluation B) → IfValue P x
    → ((a : A) → P a → IfValue Q (next a)) → IfValue Q (x >>= next)
IfValue-next P Q (Ok x) next h k = k x h
IfValue-next P Q (Err faults) next h k = tt

IfValue-any : {A : Type 0} (x : Evaluation A) → IfValue (λ a. Unit {0}) x
IfValue-any (Ok x) = tt
IfValue-any (Err faults) = tt

IfValue-unless : {A : Type 0} (P : A → Type 0) (faults : List Fault) (x : A) → P x → IfValue P (unless faults x)
IfValue-unless P [] x h = h
IfValue-unless P (fault ∷ faults) x h = tt

IfValue-adding : {A : Type 0} (P : A → Type 0) (faults : List Fault) (x : Evaluation A) → IfValue P x → IfValue P (adding faults x)
IfValue-adding P [] x h = h
IfValue-adding P (fault ∷ faults) x h = tt

IfValue-joined : {A : Type 0} (P : A → Type 0) (x : Evaluation A) (xs : Evaluation (List A)) → IfValue P x → IfValue (Every P) xs → IfValue (Every P) (joined x xs)
IfValue-joined P (Ok x) (Ok xs) h k = (h, k)
IfValue-joined P (Ok x) (Err faults) h k = tt
IfValue-joined P (Err faults) xs h k = tt

IfValue-together : {A : Type 0} (P : A → Type 0) (xs : List (Evaluation A)) → Every (IfValue P) xs → IfValue (Every P) (together xs)
IfValue-together P [] h = tt
IfValue-together P (x ∷ xs) h = IfValue-joined P x (together xs) h.0 (IfValue-together P xs h.1)

Every-map : {A B : Type 0} (P : A → Type 0) (Q : B → Type 0) (f : A → B) (xs : List A) → Every P xs → ((x : A) → P x → Q (f x)) → Every Q (map f xs)
Every-map P Q f [] h k = tt
Every-map P Q f (x ∷ xs) h k = (k x h.0, Every-map P Q f xs h.1 k)

Every-all : {A B : Type 0} (Q : B → Type 0) (f : A → B) (xs : List A) → ((x : A) → Q (f x)) → Every Q (map f xs)
Every-all Q f [] k = tt
Every-all Q f (x ∷ xs) k = (k x, Every-all Q f xs k)

Every-filter : {A : Type 0} (P : A → Type 0) (p : A → Bool) (xs : List A) → Every P xs → Every P (filter p xs)
Every-filter P p [] h = tt
Every-filter {A = A} P p (x ∷ xs) h = at (p x) (Every-filter P p xs h.1)
  where
    at : (b : Bool) → Every P (filter p xs) → Every P (cond b (x ∷ filter p xs) (filter p xs))
    at true k = (h.0, k)
    at false k = k

and-both : (a b : Bool) → a ≡ true → b ≡ true → (a && b) ≡ true
and-both true b e f = f
and-both false b e f = absurd (cc)

and-first : (a b : Bool) → (a && b) ≡ true → a ≡ true
and-first true b e = refl
and-first false b e = absurd (cc)

and-second : (a b : Bool) → (a && b) ≡ true → b ≡ true
and-second true b e = e
and-second false b e = absurd (cc)

pub all-of_every : {A : Type 0} (p : A → Bool) (xs : List A) → Every (λ x. p x ≡ true) xs → list_all p xs ≡ true
all-of_every p [] h = refl
all-of_every p (x ∷ xs) h = and-both (p x) (list_all p xs) h.0 (all-of_every p xs h.1)

pub every-of_all : {A : Type 0} (p : A → Bool) (xs : List A) → list_all p xs ≡ true → Every (λ x. p x ≡ true) xs
every-of_all p [] e = tt
every-of_all p (x ∷ xs) e = (and-first (p x) (list_all p xs) e, every-of_all p xs (and-second (p x) (list_all p xs) e))

-- ---- rows that are stored fit their table

length-cut : (n : ℕ) (codes : List ℕ) → nat_le (length (take n codes)) n ≡ true
length-cut n codes = grind (arith, length-take {A = ℕ})

stored-fits : (x : Value) (column : ColumnType) → IfValue (λ y. fits_column y column ≡ true) (given (stored x column))
stored-fits Null Integer = refl
stored-fits Null (Varchar n) = refl
stored-fits (Int x) Integer = refl
stored-fits (Int x) (Varchar n) = refl
stored-fits (Text x) Integer = refl
stored-fits (Text x) (Varchar n) = at (is_spaces (drop n x))
  where
    at : (b : Bool) → IfValue (λ y. fits_column y (Varchar n) ≡ true) (given (if b then Ok (Text (take n x)) else Err TextTooLong))
    at true = length-cut n x
    at false = tt

abbrev Fits : Value → Column → Type 0
Fits value column = fits_column value column.column_type ≡ true

value_for-fits : (value : Option (Evaluation Value)) (column : Column) (old : Value) → Fits old column → IfValue (λ x. Fits x column) (value_for value column old)
value_for-fits None column old h = h
value_for-fits (Some value) column old h = IfValue-next (λ x. Unit {0}) (λ x. Fits x column) value (λ x. given (stored x column.column_type))
    (IfValue-any value) (λ x k. stored-fits x column.column_type)

joined-fits : (columns : List Column) (column : Column) (x : Evaluation Value) (xs : Evaluation Row) → IfValue (λ value. Fits value column) x
    → IfValue (λ row. fits_columns columns row ≡ true) xs
    → IfValue (λ row. fits_columns (column ∷ columns) row ≡ true) (joined x xs)
joined-fits columns column (Ok x) (Ok xs) h k = and-both (fits_column x column.column_type) (fits_columns columns xs) h k
joined-fits columns column (Ok x) (Err faults) h k = tt
joined-fits columns column (Err faults) xs h k = tt

-- the old values of these columns, from the one at place n on
row-fits : (places : List ℕ) (values : List (Evaluation Value)) (old : ℕ → Value) (n : ℕ) (columns : List Column)
    → Every (λ (c : ℕ × Column). Fits (old c.0) c.1) (enumerate_from n columns)
    → IfValue (λ row. fits_columns columns row ≡ true)
    (together (map (λ (c : ℕ × Column). value_for (given_for c.0 places values) c.1 (old c.0)) (enumerate_from n columns)))
row-fits places values old n [] h = refl
row-fits places values old n (column ∷ columns) h =
    joined-fits columns column (value_for (given_for n places values) column (old n))
    (together (map (λ (c : ℕ × Column). value_for (given_for c.0 places values) c.1 (old c.0)) (enumerate_from (n + 1) columns)))
    (value_for-fits (given_for n places values) column (old n) h.0) (row-fits places values old (n + 1) columns h.1)

no_values-fit : (n : ℕ) (columns : List Column) → Every (λ (c : ℕ × Column). Fits (cell [] c.0) c.1) (enumerate_from n columns)
no_values-fit n [] = tt
no_values-fit n (column ∷ columns) = (refl, no_values-fit (n + 1) columns)

later : (n k : ℕ) → (n + 1) + k ≡ n + suc k
later n k = omega arith

at_first : (n : ℕ) → n ≡ n + zero
at_first n = omega arith

old_values-fit : (old : ℕ → Value) (n : ℕ) (columns : List Column) (row : Row) → ((k : ℕ) → old (n + k) ≡ cell row k)
    → fits_columns columns row ≡ true → Every (λ (c : ℕ × Column). Fits (old c.0) c.1) (enumerate_from n columns)
old_values-fit old n [] row is e = tt
old_values-fit old n (column ∷ columns) [] is e = absurd (cc)
old_values-fit old n (column ∷ columns) (x ∷ row) is e = (
  ap (λ v. fits_column v column.column_type) (ap old (at_first n) ∙ is zero) ∙ and-first (fits_column x column.column_type) (fits_columns columns row) e,
  old_values-fit old (n + 1) columns row (λ k. ap old (later n k) ∙ is (suc k)) (and-second (fits_column x column.column_type) (fits_columns columns row) e),
)

admitted-fits : (checks : List Condition) (table : Table) (row : Evaluation Row) → IfValue (λ r. fits_columns table.columns r ≡ true) row
    → IfValue (λ r. fits_columns table.columns r ≡ true) (admitted checks table row)
admitted-fits checks table row h =
    IfValue-next (λ r. fits_columns table.columns r ≡ true) (λ r. fits_columns table.columns r ≡ true) row (λ r. unless (row_faults checks table r) r) h
    (λ r k. IfValue-unless (λ r. fits_columns table.columns r ≡ true) (row_faults checks table r) r k)

inserted_row-fits : (checks : List Condition) (table : Table) (places : List ℕ) (values : List (Evaluation Value))
    → IfValue (λ r. fits_columns table.columns r ≡ true) (inserted_row checks table places values)
inserted_row-fits checks table places values =
    admitted-fits checks table (row_with table.columns places values []) (row-fits places values (cell []) 0 table.columns (no_values-fit 0 table.columns))

inserted_rows-fit : (checks : List Condition) (tables : Tables) (table : Table) (places : List ℕ) (source : InsertSource)
    → IfValue (Every (λ r. fits_columns table.columns r ≡ true)) (inserted_rows checks tables table places source)
inserted_rows-fit checks tables table places (from.Values rows) =
    IfValue-together (λ r. fits_columns table.columns r ≡ true)
    (map (λ sources. inserted_row checks table places (map (λ source. value_of tables source []) sources)) rows)
    (Every-all (IfValue (λ r. fits_columns table.columns r ≡ true))
    (λ sources. inserted_row checks table places (map (λ source. value_of tables source []) sources)) rows
    (λ sources. inserted_row-fits checks table places (map (λ source. value_of tables source []) sources)))
inserted_rows-fit checks tables table places (from.Query query) =
    let o = query_outcome tables query [] in
    IfValue-adding (Every (λ r. fits_columns table.columns r ≡ true)) o.faults (together (map (λ row. inserted_row checks table places (map Ok row)) o.rows))
    (IfValue-together (λ r. fits_columns table.columns r ≡ true) (map (λ row. inserted_row checks table places (map Ok row)) o.rows)
    (Every-all (IfValue (λ r. fits_columns table.columns r ≡ true)) (λ row. inserted_row checks table places (map Ok row)) o.rows
    (λ row. inserted_row-fits checks table places (map Ok row))))

assigned-fits : (checks : List Condition) (tables : Tables) (table : Table) (assignments : List Assignment) (row : Row) → fits_columns table.columns row ≡ true
    → IfValue (λ r. fits_columns table.columns r ≡ true) (assigned checks tables table assignments row)
assigned-fits checks tables table assignments row h =
    admitted-fits checks table (row_with table.columns (map (λ a. a.column) assignments) (map (λ a. value_of tables a.source (row ∷ [])) assignments) row)
    (row-fits (map (λ a. a.column) assignments) (map (λ a. value_of tables a.source (row ∷ [])) assignments) (cell row) 0 table.columns
    (old_values-fit (cell row) 0 table.columns row (λ k. ap (cell row) (none_before k)) h))
  where
    none_before : (k : ℕ) → 0 + k ≡ k
    none_before k = omega arith

updated_if-fits : (checks : List Condition) (tables : Tables) (table : Table) (assignments : List Assignment) (row : Row) (touched : Bool)
    → fits_columns table.columns row ≡ true
    → IfValue (λ (r : Bool × Row). fits_columns table.columns r.1 ≡ true) (updated_if checks tables table assignments row touched)
updated_if-fits checks tables table assignments row false h = h
updated_if-fits checks tables table assignments row true h =
    IfValue-next (λ r. fits_columns table.columns r ≡ true) (λ (r : Bool × Row). fits_columns table.columns r.1 ≡ true)
    (assigned checks tables table assignments row) (λ new. Ok (true, new))
    (assigned-fits checks tables table assignments row h) (λ r k. k)

updated_rows-fit : (checks : List Condition) (tables : Tables) (table : Table) (u : Update) → Every (λ r. fits_columns table.columns r ≡ true) table.rows
    → IfValue (Every (λ (r : Bool × Row). fits_columns table.columns r.1 ≡ true)) (updated_rows checks tables table u)
updated_rows-fit checks tables table u h =
    IfValue-together (λ (r : Bool × Row). fits_columns table.columns r.1 ≡ true)
    (map (λ row. is_touched tables u.filter row >>= updated_if checks tables table u.assignments row) table.rows)
    (Every-map (λ r. fits_columns table.columns r ≡ true) (IfValue (λ (r : Bool × Row). fits_columns table.columns r.1 ≡ true))
    (λ row. is_touched tables u.filter row >>= updated_if checks tables table u.assignments row) table.rows h
    (λ row k. IfValue-next (λ b. Unit {0}) (λ (r : Bool × Row). fits_columns table.columns r.1 ≡ true) (is_touched tables u.filter row)
    (updated_if checks tables table u.assignments row) (IfValue-any (is_touched tables u.filter row))
    (λ touched l. updated_if-fits checks tables table u.assignments row touched k)))

deleted_rows-fit : (tables : Tables) (table : Table) (d : Delete) → Every (λ r. fits_columns table.columns r ≡ true) table.rows
    → IfValue (Every (λ (r : Bool × Row). fits_columns table.columns r.1 ≡ true)) (deleted_rows tables table d)
deleted_rows-fit tables table d h =
    IfValue-together (λ (r : Bool × Row). fits_columns table.columns r.1 ≡ true)
    (map (λ row. is_touched tables d.filter row >>= (λ touched. Ok (touched, row))) table.rows)
    (Every-map (λ r. fits_columns table.columns r ≡ true) (IfValue (λ (r : Bool × Row). fits_columns table.columns r.1 ≡ true))
    (λ row. is_touched tables d.filter row >>= (λ touched. Ok (touched, row))) table.rows h
    (λ row k. IfValue-next (λ b. Unit {0}) (λ (r : Bool × Row). fits_columns table.columns r.1 ≡ true) (is_touched tables d.filter row)
    (λ touched. Ok (touched, row)) (IfValue-any (is_touched tables d.filter row)) (λ touched l. k)))

-- ---- databases

or-first : (a b : Bool) → (a || b) ≡ false → a ≡ false
or-first true b e = absurd (cc)
or-first false b e = refl

or-second : (a b : Bool) → (a || b) ≡ false → b ≡ false
or-second true b e = absurd (cc)
or-second false b e = e

-- names that are two by one test are two by the other
is_name-same : (name : Name) → is_name name name ≡ true
is_name-same name = (eq_by_cmp_equiv nat_list_cmp_total).refl name

false_true : (b : Bool) → b ≡ false → b ≡ true → ⊥
false_true b e f = absurd (cc)

pub other_name : (one other : Name) → same_name one other ≡ false → is_name one other ≡ false
other_name one other e = at (is_name one other) refl
  where
    at : (b : Bool) → is_name one other ≡ b → b ≡ false
    at true is = absurd (false_true (same_name one other) e ((bytes_decides one other).1 (is_name-equal one other is)))
    at false is = refl

other_characters : (one other : Name) → is_name one other ≡ false → same_name one other ≡ false
other_characters one other e = at (same_name one other) refl
  where
    at : (b : Bool) → same_name one other ≡ b → b ≡ false
    at true is = absurd (false_true (is_name one other) e (ap (is_name one) (sym ((bytes_decides one other).0 is)) ∙ is_name-same one))
    at false is = refl

pub same_some : {X : Type 0} (x y : X) → Some x ≡ Some y → x ≡ y
same_some x y e = cc

module _ (reading : CheckReading) where
  -- ---- what foreign keys reference

  -- of a table that comes under a name, in place of one with the same columns if there is one
  abbrev KeepsColumns : Database → Name → Table → Type 0
  KeepsColumns db name new = (old : Table) → get db name ≡ Some old → old.columns ≡ new.columns

  found_at : (db : Database) (name : Name) (new : Table) → get (insert db name new) name ≡ Some new
  found_at db name new = found-insert db name new name ∙ ap (λ b. cond b (Some new) (get db name)) (is_name-same name)

  referenced-insert : (db : Database) (name : Name) (new : Table) (rule : Rule) → KeepsColumns db name new → IsReferenceIn db rule → IsReferenceIn (insert db name new) rule
  referenced-insert db name new (NotNull column) keeps h = tt
  referenced-insert db name new (PrimaryKey columns) keeps h = tt
  referenced-insert db name new (Unique columns) keeps h = tt
  referenced-insert db name new (Check text) keeps h = tt
  referenced-insert db name new (ForeignKey reference) keeps h = at (is_name reference.table name) refl (found-insert db name new reference.table)
    where
      at : (b : Bool) → is_name reference.table name ≡ b → get (insert db name new) reference.table ≡ cond b (Some new) (get db reference.table)
          → HasReferenced (insert db name new) reference
      at true is found = record {
        table = new;
        there = found;
        places = subst (λ (columns : List Column). are_places (length columns) reference.referenced ≡ true)
            (keeps h.table (ap (get db) (sym (is_name-equal reference.table name is)) ∙ h.there)) h.places;
        count = h.count;
      }
      at false is found = record { table = h.table; there = found ∙ h.there; places = h.places; count = h.count }

  pub references-insert : (db : Database) (name : Name) (new : Table) (constraints : List Constraint) → KeepsColumns db name new → AreReferencesIn db constraints
      → AreReferencesIn (insert db name new) constraints
  references-insert db name new [] keeps h = tt
  references-insert db name new (c ∷ constraints) keeps h = (referenced-insert db name new c.rule keeps h.0, references-insert db name new constraints keeps h.1)

  -- of a table that goes, and that none of these rules references
  referenced-remove : (db : Database) (name : Name) (rule : Rule) → is_reference_to name rule ≡ false → IsReferenceIn db rule → IsReferenceIn (remove db name) rule
  referenced-remove db name (NotNull column) away h = tt
  referenced-remove db name (PrimaryKey columns) away h = tt
  referenced-remove db name (Unique columns) away h = tt
  referenced-remove db name (Check text) away h = tt
  referenced-remove db name (ForeignKey reference) away h = record {
    table = h.table;
    there = found-remove db name reference.table ∙ ap (λ b. cond b None (get db reference.table)) (other_name reference.table name away) ∙ h.there;
    places = h.places;
    count = h.count;
  }

  references-remove : (db : Database) (name : Name) (constraints : List Constraint) → references name constraints ≡ false → AreReferencesIn db constraints
      → AreReferencesIn (remove db name) constraints
  references-remove db name [] away h = tt
  references-remove db name (c ∷ constraints) away h = (
    referenced-remove db name c.rule (or-first (is_reference_to name c.rule) (references name constraints) away) h.0,
    references-remove db name constraints (or-second (is_reference_to name c.rule) (references name constraints) away) h.1,
  )

  unmatched-remove : (db : Database) (name : Name) (rows : List Row) (rule : Rule) → is_reference_to name rule ≡ false
      → is_unmatched (rows_in (remove db name)) rows rule ≡ is_unmatched (rows_in db) rows rule
  unmatched-remove db name rows (NotNull column) away = refl
  unmatched-remove db name rows (PrimaryKey columns) away = refl
  unmatched-remove db name rows (Unique columns) away = refl
  unmatched-remove db name rows (Check text) away = refl
  unmatched-remove db name rows (ForeignKey reference) away = ap (λ found. has_unmatched reference (rows_of found) rows)
      (found-remove db name reference.table ∙ ap (λ b. cond b None (get db reference.table)) (other_name reference.table name away))

  all_unmatched-remove : (db : Database) (name : Name) (rows : List Row) (constraints : List Constraint) → references name constraints ≡ false
      → unmatched_by (rows_in (remove db name)) constraints rows ≡ unmatched_by (rows_in db) constraints rows
  all_unmatched-remove db name rows [] away = refl
  all_unmatched-remove db name rows (c ∷ constraints) away = rw (
      unmatched-remove db name rows c.rule (or-first (is_reference_to name c.rule) (references name constraints) away)
      ) (at (is_unmatched (rows_in db) rows c.rule) (all_unmatched-remove db name rows constraints (or-second (is_reference_to name c.rule) (references name constraints) away)))
    where
      at : (b : Bool) → unmatched_by (rows_in (remove db name)) constraints rows ≡ unmatched_by (rows_in db) constraints rows
          → map (λ c. c.name) (cond b (c ∷ filter (λ c. is_unmatched (rows_in (remove db name)) rows c.rule) constraints) (filter (λ c. is_unmatched (rows_in (remove db name)) rows c.rule) constraints))
          ≡ map (λ c. c.name) (cond b (c ∷ filter (λ c. is_unmatched (rows_in db) rows c.rule) constraints) (filter (λ c. is_unmatched (rows_in db) rows c.rule) constraints))
      at true e = ap (λ names. c.name ∷ names) e
      at false e = e

  -- ---- tables that come and go

  -- A table comes under a name, in place of one with the same columns or of none, and what the
  -- database then violates is nothing.
  pub good-unviolated : (db : Database) (name : Name) (new : Table) → IsGood reading db → KeepsColumns db name new → list_all (fits_columns new.columns) new.rows ≡ true
      → AreReadable name new.columns new.constraints → NamesItsColumns new → AreReferencesIn (insert db name new) new.constraints → violated_in reading (insert db name new) ≡ []
      → IsGood reading (insert db name new)
  good-unviolated db name new good keeps fitting readable names references none other table e =
      at (is_name other name) refl (sym (found-insert db name new other) ∙ e)
      (none_of_both (violated_by reading other table) (unmatched_by (rows_in (insert db name new)) table.constraints table.rows) (unviolated-at reading (insert db name new) other table e none))
    where
      at : (b : Bool) → is_name other name ≡ b → cond b (Some new) (get db other) ≡ Some table
          → (violated_by reading other table ≡ []) × (unmatched_by (rows_in (insert db name new)) table.constraints table.rows ≡ []) → IsGoodIn reading (insert db name new) other table
      at true is f nothing = record {
        alone = record {
          fitting = subst (λ (t : Table). list_all (fits_columns t.columns) t.rows ≡ true) (same_some new table f) fitting;
          unviolated = nothing.0;
          readable = subst (λ (t : Table). AreReadable other t.columns t.constraints) (same_some new table f)
              (subst (λ (n : Name). AreReadable n new.columns new.constraints) (sym (is_name-equal other name is)) readable);
          named = subst NamesItsColumns (same_some new table f) names;
        };
        referenced = subst (λ (t : Table). AreReferencesIn (insert db name new) t.constraints) (same_some new table f) references;
        matched = nothing.1;
      }
      at false is f nothing = record {
        alone = (good other table f).alone;
        referenced = references-insert db name new table.constraints keeps (good other table f).referenced;
        matched = nothing.1;
      }

  -- the same rows under every name violate the same
  same_rows : (db new : Database) → ((name : Name) → rows_in db name ≡ rows_in new name) → (name : Name) → Permutes (rows_in db name) (rows_in new name)
  same_rows db new h name = subst (Permutes (rows_in db name)) (h name) (Permutes-refl (rows_in db name))

  rows-insert : (db : Database) (name : Name) (new : Table) → rows_of (get db name) ≡ new.rows → (other : Name) → rows_in db other ≡ rows_in (insert db name new) other
  rows-insert db name new same other = at (is_name other name) refl ∙ ap rows_of (sym (found-insert db name new other))
    where
      at : (b : Bool) → is_name other name ≡ b → rows_of (get db other) ≡ rows_of (cond b (Some new) (get db other))
      at true is = ap (λ n. rows_of (get db n)) (is_name-equal other name is) ∙ same
      at false is = refl

  -- a table comes under a name, with the rows that are found there
  good-insert : (db : Database) (name : Name) (new : Table) → IsGood reading db → KeepsColumns db name new → rows_of (get db name) ≡ new.rows → IsGoodTable reading name new
      → AreReferencesIn (insert db name new) new.constraints → unmatched_by (rows_in db) new.constraints new.rows ≡ [] → IsGood reading (insert db name new)
  good-insert db name new good keeps same h references matched other table e = at (is_name other name) refl (sym (found-insert db name new other) ∙ e)
    where
      still : (t : Table) → unmatched_by (rows_in db) t.constraints t.rows ≡ [] → unmatched_by (rows_in (insert db name new)) t.constraints t.rows ≡ []
      still t none = sym (unmatched_by-same (rows_in db) (rows_in (insert db name new)) t.constraints t.rows t.rows
          (same_rows db (insert db name new) (rows-insert db name new same)) (Permutes-refl t.rows)) ∙ none

      at : (b : Bool) → is_name other name ≡ b → cond b (Some new) (get db other) ≡ Some table → IsGoodIn reading (insert db name new) other table
      at true is f = subst (λ (t : Table). IsGoodIn reading (insert db name new) other t) (same_some new table f) (record {
        alone = subst (λ (n : Name). IsGoodTable reading n new) (sym (is_name-equal other name is)) h;
        referenced = references;
        matched = still new matched;
      })
      at false is f = record {
        alone = (good other table f).alone;
        referenced = references-insert db name new table.constraints keeps (good other table f).referenced;
        matched = still table (good other table f).matched;
      }

  good-remove : (db : Database) (name : Name) → IsNotReferenced db name → IsGood reading db → IsGood reading (remove db name)
  good-remove db name away good other table e = at (is_name other name) refl (sym (found-remove db name other) ∙ e)
    where
      at : (b : Bool) → is_name other name ≡ b → cond b None (get db other) ≡ Some table → IsGoodIn reading (remove db name) other table
      at true is f = absurd (cc)
      at false is f =
          let none = away other table f (other_characters other name is) in
          record {
            alone = (good other table f).alone;
            referenced = references-remove db name table.constraints none (good other table f).referenced;
            matched = all_unmatched-remove db name table.rows table.constraints none ∙ (good other table f).matched;
          }

  -- but for the columns that they name indexes do not matter
  good-indexes : (name : Name) (table : Table) (indexes : List IndexDeclaration) → IsGoodTable reading name table
      → are_places (length table.columns) (index_columns indexes) ≡ true → IsGoodTable reading name (record table { indexes = indexes })
  good-indexes name table indexes h places = record {
    fitting = h.fitting;
    unviolated = violated_by-same reading name (record table { indexes = indexes }) table refl refl (Permutes-refl table.rows) ∙ h.unviolated;
    readable = h.readable;
    named = record { in_constraints = h.named.in_constraints; in_indexes = places };
  }

  rows-mapped : (db : Database) (index : Name) (other : Name) → rows_in db other ≡ rows_in (from_entries (map (λ e. (e.0, without_index index e.1)) (entries db))) other
  rows-mapped db index other = at (get db other) ∙ ap rows_of (sym (found-mapped (without_index index) db other))
    where
      at : (found : Option Table) → rows_of found ≡ rows_of (option_map (without_index index) found)
      at None = refl
      at (Some t) = refl

  referenced-mapped : (db : Database) (index : Name) (rule : Rule) → IsReferenceIn db rule → IsReferenceIn (from_entries (map (λ e. (e.0, without_index index e.1)) (entries db))) rule
  referenced-mapped db index (NotNull column) h = tt
  referenced-mapped db index (PrimaryKey columns) h = tt
  referenced-mapped db index (Unique columns) h = tt
  referenced-mapped db index (Check text) h = tt
  referenced-mapped db index (ForeignKey reference) h = record {
    table = without_index index h.table;
    there = found-mapped (without_index index) db reference.table ∙ ap (option_map (without_index index)) h.there;
    places = h.places;
    count = h.count;
  }

  references-mapped : (db : Database) (index : Name) (constraints : List Constraint) → AreReferencesIn db constraints
      → AreReferencesIn (from_entries (map (λ e. (e.0, without_index index e.1)) (entries db))) constraints
  references-mapped db index [] h = tt
  references-mapped db index (c ∷ constraints) h = (referenced-mapped db index c.rule h.0, references-mapped db index constraints h.1)

  good-mapped : (db : Database) (index : Name) → IsGood reading db → IsGood reading (from_entries (map (λ e. (e.0, without_index index e.1)) (entries db)))
  good-mapped db index good other table e = at (get db other) refl (sym (found-mapped (without_index index) db other) ∙ e)
    where
      new : Database
      new = from_entries (map (λ e. (e.0, without_index index e.1)) (entries db))

      at : (found : Option Table) → get db other ≡ found → option_map (without_index index) found ≡ Some table → IsGoodIn reading new other table
      at None is f = absurd (cc)
      at (Some t) is f = subst (λ (u : Table). IsGoodIn reading new other u) (same_some (without_index index t) table f) (record {
        alone = good-indexes other t (filter (λ i. not (is_named index i.name)) t.indexes) (good other t is).alone
            (places-filtered (length t.columns) (λ i. not (is_named index i.name)) t.indexes (good other t is).alone.named.in_indexes);
        referenced = references-mapped db index t.constraints (good other t is).referenced;
        matched = sym (unmatched_by-same (rows_in db) (rows_in new) t.constraints t.rows t.rows (same_rows db new (rows-mapped db index)) (Permutes-refl t.rows)) ∙ (good other t is).matched;
      })

  -- what makes a database makes a good one
  abbrev MakesGood : Changed → Type 0
  MakesGood (Makes new count) = IsGood reading new
  MakesGood (Raises faults) = Unit {0}
  MakesGood (Violates names) = Unit {0}

  with_rows-good : (db : Database) (name : Name) (table : Table) (rows : List Row) (count : ℕ) → IsGood reading db → get db name ≡ Some table
      → Every (λ r. fits_columns table.columns r ≡ true) rows → MakesGood (with_rows reading db name table rows count)
  with_rows-good db name table rows count good is h = at (violated_in reading (insert db name (record table { rows = rows }))) refl
    where
      was : IsGoodIn reading db name table
      was = good name table is

      keeps : KeepsColumns db name (record table { rows = rows })
      keeps old e = ap (λ (t : Table). t.columns) (same_some old table (sym e ∙ is))

      at : (names : List Name) → violated_in reading (insert db name (record table { rows = rows })) ≡ names
          → MakesGood (unless_violated names (insert db name (record table { rows = rows })) count)
      at [] e = good-unviolated db name (record table { rows = rows }) good keeps (all-of_every (fits_columns table.columns) rows h) was.alone.readable
          (record { in_constraints = was.alone.named.in_constraints; in_indexes = was.alone.named.in_indexes })
          (references-insert db name (record table { rows = rows }) table.constraints keeps was.referenced) e
      at (violated ∷ names) e = tt

  raised-good : {A : Type 0} (P : A → Type 0) (x : Evaluation A) (made : A → Changed) → IfValue P x → ((a : A) → P a → MakesGood (made a))
      → MakesGood (unless_raised x made)
  raised-good P (Ok x) made h k = k x h
  raised-good P (Err faults) made h k = tt

  every-append : {A : Type 0} (P : A → Type 0) (xs ys : List A) → Every P xs → Every P ys → Every P (xs ++ ys)
  every-append P [] ys h k = k
  every-append P (x ∷ xs) ys h k = (h.0, every-append P xs ys h.1 k)

  rows-fit : (name : Name) (table : Table) → IsGoodTable reading name table → Every (λ r. fits_columns table.columns r ≡ true) table.rows
  rows-fit name table h = every-of_all (fits_columns table.columns) table.rows h.fitting

  insert-good : (db : Database) (i : Insert) (table : Table) → IsGood reading db → get db i.table ≡ Some table → MakesGood (insert_into reading db i table)
  insert-good db i table good h =
      raised-good (Every (λ r. fits_columns table.columns r ≡ true)) (inserted_rows (checks_of reading i.table table) (rows_in db) table i.columns i.source)
      (λ rows. with_rows reading db i.table table (table.rows ++ rows) (length rows))
      (inserted_rows-fit (checks_of reading i.table table) (rows_in db) table i.columns i.source)
      (λ rows k. with_rows-good db i.table table (table.rows ++ rows) (length rows) good h
      (every-append (λ r. fits_columns table.columns r ≡ true) table.rows rows (rows-fit i.table table (good i.table table h).alone) k))

  update-good : (db : Database) (u : Update) (table : Table) → IsGood reading db → get db u.table ≡ Some table → MakesGood (update_in reading db u table)
  update-good db u table good h =
      raised-good (Every (λ (r : Bool × Row). fits_columns table.columns r.1 ≡ true)) (updated_rows (checks_of reading u.table table) (rows_in db) table u)
      (λ rows. with_rows reading db u.table table (map (λ r. r.1) rows) (count_by (λ r. r.0) rows))
      (updated_rows-fit (checks_of reading u.table table) (rows_in db) table u (rows-fit u.table table (good u.table table h).alone))
      (λ rows k. with_rows-good db u.table table (map (λ r. r.1) rows) (count_by (λ r. r.0) rows) good h
      (Every-map (λ (r : Bool × Row). fits_columns table.columns r.1 ≡ true) (λ r. fits_columns table.columns r ≡ true) (λ r. r.1) rows k (λ r l. l)))

  delete-good : (db : Database) (d : Delete) (table : Table) → IsGood reading db → get db d.table ≡ Some table → MakesGood (delete_from reading db d table)
  delete-good db d table good h =
      raised-good (Every (λ (r : Bool × Row). fits_columns table.columns r.1 ≡ true)) (deleted_rows (rows_in db) table d)
      (λ rows. with_rows reading db d.table table (map (λ r. r.1) (filter (λ r. not r.0) rows)) (count_by (λ r. r.0) rows)) (deleted_rows-fit (rows_in db) table d (rows-fit d.table table (good d.table table h).alone))
      (λ rows k. with_rows-good db d.table table (map (λ r. r.1) (filter (λ r. not r.0) rows)) (count_by (λ r. r.0) rows) good h
      (Every-map (λ (r : Bool × Row). fits_columns table.columns r.1 ≡ true) (λ r. fits_columns table.columns r ≡ true) (λ r. r.1) (filter (λ r. not r.0) rows)
      (Every-filter (λ (r : Bool × Row). fits_columns table.columns r.1 ≡ true) (λ r. not r.0) rows k) (λ r l. l)))

  index-good : (db : Database) (c : CreateIndex) (table : Table) → IsGood reading db → get db c.table ≡ Some table → are_places (length table.columns) c.columns ≡ true
      → MakesGood (index_on db c table)
  index-good db c table good is places =
      raised-good (λ (i : IndexDeclaration). are_places (length table.columns) i.columns ≡ true)
      (unless (flat_map (λ row. key_faults row c.columns) table.rows) (record { name = Some c.name; columns = c.columns }))
      (λ index. Makes (insert db c.table (record table { indexes = table.indexes ++ index ∷ [] })) None)
      (IfValue-unless (λ (i : IndexDeclaration). are_places (length table.columns) i.columns ≡ true) (flat_map (λ row. key_faults row c.columns) table.rows)
      (record { name = Some c.name; columns = c.columns }) places)
      (λ index k.
      let was = good c.table table is in
      let keeps : KeepsColumns db c.table (record table { indexes = table.indexes ++ index ∷ [] }) = λ old e. ap (λ (t : Table). t.columns) (same_some old table (sym e ∙ is)) in
      good-insert db c.table (record table { indexes = table.indexes ++ index ∷ [] }) good keeps (ap rows_of is)
      (good-indexes c.table table (table.indexes ++ index ∷ []) was.alone (places-pushed (length table.columns) table.indexes index was.alone.named.in_indexes k))
      (references-insert db c.table (record table { indexes = table.indexes ++ index ∷ [] }) table.constraints keeps was.referenced) was.matched)

  -- a change of the table of this name
  on_table-good : (db : Database) (name : Name) (change : Table → Changed) → IsGood reading db
      → ((table : Table) → get db name ≡ Some table → MakesGood (change table)) → MakesGood (on_table db (get db name) change)
  on_table-good db name change good h = at (get db name) refl
    where
      at : (found : Option Table) → get db name ≡ found → MakesGood (on_table db found change)
      at None e = good
      at (Some table) e = h table e

  changed-makes_good : (db : Database) (change : Change) → DeclaresRightly db change → IsGood reading db → MakesGood (changed reading db change)
  changed-makes_good db (does.CreateTable c) rightly good = good-insert db c.name (created c) good (λ old e. absurd (not_free old (sym rightly.free ∙ e))) (ap rows_of rightly.free)
      (record {
        fitting = refl;
        unviolated = nothing-violated reading c.name (created c) refl;
        readable = rightly.readable;
        named = record { in_constraints = rightly.named; in_indexes = places-owned (length c.columns) c.constraints rightly.named };
      }) rightly.referenced (nothing-unmatched (rows_in db) c.constraints)
    where
      not_free : (old : Table) → None ≡ Some old → ⊥
      not_free old e = absurd (cc)
  changed-makes_good db (does.DropTable name) rightly good = good-remove db name rightly good
  changed-makes_good db (does.CreateIndex c) rightly good = on_table-good db c.table (index_on db c) good (λ table is. index-good db c table good is (rightly table is))
  changed-makes_good db (does.DropIndex name) rightly good = good-mapped db name good
  changed-makes_good db (does.Insert i) rightly good = on_table-good db i.table (insert_into reading db i) good
      (λ table is. insert-good db i table good is)
  changed-makes_good db (does.Update u) rightly good = on_table-good db u.table (update_in reading db u) good
      (λ table is. update-good db u table good is)
  changed-makes_good db (does.Delete d) rightly good = on_table-good db d.table (delete_from reading db d) good
      (λ table is. delete-good db d table good is)

  pub changed-good : (db new : Database) (change : Change) (count : Option ℕ) → DeclaresRightly db change → IsGood reading db → changed reading db change ≡ Makes new count → IsGood reading new
  changed-good db new change count rightly good e = subst MakesGood e (changed-makes_good db change rightly good)
