-- Changes of databases that are the same up to the order of rows.
use Rattle.std.proofs.Common.{◌≡◌, refl, ap, sym, ◌∙◌, subst, ℕ, zero, suc, ◌==◌, Bool, true, false, cond, not, List, [], ◌∷◌, ◌++◌, map, length, Option, Some, None, Result, Ok, Err}
use Rattle.std.specs.Prelude.{Contains, filter, flat_map, count_by, slice_get, position, option_and_then}
use Rattle.std.specs.Option.{option_map}
use Rattle.std.specs.List.{enumerate_from}
use Rattle.std.specs.FinMap.{get, insert, remove, entries, from_entries}
use Rattle.sqlval.specs.declared.value.Value.{Value}
use Rattle.sqlval.specs.declared.truth.Truth.{Truth}
use Rattle.sqlval.specs.declared.truth.Truth.TheVariants.{True}
use Rattle.sqlval.specs.declared.schema.Column.{Column}
use Rattle.sqlval.specs.Schema.{is_named}
use Rattle.sqlval.specs.Storing.{stored}
use Rattle.sqlval.specs.Truth.{same_truth}
use Rattle.sqlval.specs.Value.{Row}
use Rattle.typing.specs.declared.statement.Change.{Change}
use Rattle.typing.specs.declared.statement.Change.TheVariants as does
use Rattle.typing.specs.declared.statement.CreateIndex.{CreateIndex}
use Rattle.typing.specs.declared.statement.Insert.{Insert}
use Rattle.typing.specs.declared.statement.InsertSource.{InsertSource}
use Rattle.typing.specs.declared.statement.InsertSource.TheVariants as from
use Rattle.typing.specs.declared.statement.Update.{Update}
use Rattle.typing.specs.declared.statement.Assignment.{Assignment}
use Rattle.typing.specs.declared.statement.Delete.{Delete}
use Rattle.typing.specs.declared.typed.Condition.{Condition}
use Rattle.denote.specs.declared.fault.Fault.{Fault}
use Rattle.denote.specs.Evaluation.{Evaluation, ◌>>=◌, given, unless, together}
use Rattle.denote.specs.Expression.{cell}
use Rattle.denote.specs.Bag.{Permutes, goes_on, HasSame, IsSame}
use Rattle.denote.specs.StoredRow.{given_for, value_for, row_with, row_faults, admitted, inserted_row, key_faults}
use Rattle.denote.specs.Meaning.{Tables, value_of, truth_at, query_outcome}
use Rattle.denote.specs.Answer.{Answers}
use Rattle.denote.specs.Query.{denotes}
use Rattle.typing.specs.declared.typed.OrderedQuery.{OrderedQuery}
use Rattle.denote.specs.Database.{Name, IndexDeclaration, Table, Database, rows_of, rows_in, CheckReading, checks_of, violated_by, unmatched_by, violated_at, violated_in, IsSameTable, AreSame, IsSameDatabase}
use Rattle.denote.specs.Change.{inserted_rows, is_touched, assigned, updated_if, updated_rows, deleted_rows, Changed, Makes, Raises, Violates, unless_violated, with_rows, unless_raised, insert_into, update_in, delete_from, created, index_on, without_index, on_table, changed, IsAccepted, IsRaised, IsNamed}
use Rattle.operator_laws.proofs.Permuting.{Permutes-refl, Permutes-sym, Permutes-map, Permutes-flat_map, Permutes-append, HasSame-permutes}
use Rattle.operator_laws.specs.Same.{IsAlikeBy, IsSameValue, IsSameBag, Each, IfBoth}
use Rattle.denote_laws.specs.Changed.{AreSameTables, IsSameChange, after}
use Rattle.denote_laws.proofs.Maps.{is_name, found-insert, found-remove, found-mapped}
use Rattle.operator_laws.proofs.Orders.{length-permutes, count_by-permutes, Permutes-filter}
use Rattle.operator_laws.proofs.Same.{HasSame-some, IsSameValue-refl, next-same, then-same, unless-alike, adding-alike, together-same, together-rows, Each-maps}
use Rattle.denote_laws.proofs.Tables.{violated_by-same, unmatched_by-same}
use Rattle.denote_laws.proofs.Violated.{violated-at, violated-in}
use Rattle.denote_laws.proofs.Trees.{values-same, truths-same, queries-same}

-- ---- rows that are stored

slice_get-both : {A B : Type 0} (R : A → B → Type 0) (xs : List A) (ys : List B) (i : ℕ) → Each R xs ys → IfBoth R (slice_get xs i) (slice_get ys i)
slice_get-both R [] [] i h = tt
slice_get-both R [] (y ∷ ys) i h = absurd h
slice_get-both R (x ∷ xs) [] i h = absurd h
slice_get-both R (x ∷ xs) (y ∷ ys) zero h = h.0
slice_get-both R (x ∷ xs) (y ∷ ys) (suc i) h = slice_get-both R xs ys i h.1

given_for-both : (place : ℕ) (columns : List ℕ) (xs ys : List (Evaluation Value)) → Each IsSameValue xs ys
    → IfBoth IsSameValue (given_for place columns xs) (given_for place columns ys)
given_for-both place columns xs ys h = at (position (λ column. column == place) columns)
  where
    at : (found : Option ℕ) → IfBoth IsSameValue (option_and_then (slice_get xs) found) (option_and_then (slice_get ys) found)
    at None = tt
    at (Some i) = slice_get-both IsSameValue xs ys i h

value_for-same : (x y : Option (Evaluation Value)) (column : Column) (old : Value) → IfBoth IsSameValue x y
    → IsSameValue (value_for x column old) (value_for y column old)
value_for-same None None column old h = refl
value_for-same None (Some y) column old h = absurd h
value_for-same (Some x) None column old h = absurd h
value_for-same (Some x) (Some y) column old h = then-same x y (λ v. given (stored v column.column_type)) h

row_with-same : (columns : List Column) (places : List ℕ) (xs ys : List (Evaluation Value)) (old : Row) → Each IsSameValue xs ys
    → IsSameValue (row_with columns places xs old) (row_with columns places ys old)
row_with-same columns places xs ys old h =
    together-same (map (λ c. value_for (given_for c.0 places xs) c.1 (cell old c.0)) (enumerate_from 0 columns))
    (map (λ c. value_for (given_for c.0 places ys) c.1 (cell old c.0)) (enumerate_from 0 columns))
    (Each-maps IsSameValue (λ (c : ℕ × Column). value_for (given_for c.0 places xs) c.1 (cell old c.0))
    (λ c. value_for (given_for c.0 places ys) c.1 (cell old c.0)) (enumerate_from 0 columns)
    (λ c. value_for-same (given_for c.0 places xs) (given_for c.0 places ys) c.1 (cell old c.0) (given_for-both c.0 places xs ys h)))

admitted-same : (checks : List Condition) (table : Table) (x y : Evaluation Row) → IsSameValue x y → IsSameValue (admitted checks table x) (admitted checks table y)
admitted-same checks table x y h = then-same x y (λ r. unless (row_faults checks table r) r) h

inserted_row-same : (checks : List Condition) (table : Table) (places : List ℕ) (xs ys : List (Evaluation Value)) → Each IsSameValue xs ys
    → IsSameValue (inserted_row checks table places xs) (inserted_row checks table places ys)
inserted_row-same checks table places xs ys h =
    admitted-same checks table (row_with table.columns places xs []) (row_with table.columns places ys []) (row_with-same table.columns places xs ys [] h)

module _ (t u : Tables) (same : AreSameTables t u) where
  inserted-same : (checks : List Condition) (table : Table) (places : List ℕ) (source : InsertSource)
      → IsSameBag (inserted_rows checks t table places source) (inserted_rows checks u table places source)
  inserted-same checks table places (from.Values rows) =
      together-rows (λ sources. inserted_row checks table places (map (λ source. value_of t source []) sources))
      (λ sources. inserted_row checks table places (map (λ source. value_of u source []) sources)) rows rows
      (λ sources. inserted_row-same checks table places (map (λ source. value_of t source []) sources) (map (λ source. value_of u source []) sources)
      (Each-maps IsSameValue (λ source. value_of t source []) (λ source. value_of u source []) sources (λ source. values-same t u same source [])))
      (Permutes-refl rows)
  inserted-same checks table places (from.Query query) =
      let o = query_outcome t query [] in
      let p = query_outcome u query [] in
      let h = queries-same t u same query [] in
      adding-alike (λ (xs ys : List Row). Permutes xs ys) o.faults p.faults
      (together (map (λ row. inserted_row checks table places (map Ok row)) o.rows))
      (together (map (λ row. inserted_row checks table places (map Ok row)) p.rows)) h.faults
      (together-rows (λ row. inserted_row checks table places (map Ok row)) (λ row. inserted_row checks table places (map Ok row)) o.rows p.rows
      (λ row. IsSameValue-refl (inserted_row checks table places (map Ok row))) h.rows)

  touched-same : (condition : Option Condition) (row : Row) → IsSameValue (is_touched t condition row) (is_touched u condition row)
  touched-same None row = refl
  touched-same (Some condition) row = then-same (truth_at t condition (row ∷ [])) (truth_at u condition (row ∷ []))
      (λ (v : Truth). Ok (same_truth v True)) (truths-same t u same condition (row ∷ []))

  assigned-same : (checks : List Condition) (table : Table) (assignments : List Assignment) (row : Row)
      → IsSameValue (assigned checks t table assignments row) (assigned checks u table assignments row)
  assigned-same checks table assignments row =
      admitted-same checks table (row_with table.columns (map (λ a. a.column) assignments) (map (λ a. value_of t a.source (row ∷ [])) assignments) row)
      (row_with table.columns (map (λ a. a.column) assignments) (map (λ a. value_of u a.source (row ∷ [])) assignments) row)
      (row_with-same table.columns (map (λ a. a.column) assignments) (map (λ a. value_of t a.source (row ∷ [])) assignments)
      (map (λ a. value_of u a.source (row ∷ [])) assignments) row
      (Each-maps IsSameValue (λ (a : Assignment). value_of t a.source (row ∷ [])) (λ a. value_of u a.source (row ∷ [])) assignments
      (λ a. values-same t u same a.source (row ∷ []))))

  updated_if-same : (checks : List Condition) (table : Table) (assignments : List Assignment) (row : Row) (touched : Bool)
      → IsSameValue (updated_if checks t table assignments row touched) (updated_if checks u table assignments row touched)
  updated_if-same checks table assignments row false = refl
  updated_if-same checks table assignments row true = then-same (assigned checks t table assignments row) (assigned checks u table assignments row)
      (λ new. Ok (true, new)) (assigned-same checks table assignments row)

  updated-same : (checks : List Condition) (table : Table) (change : Update) (others : List Row) → Permutes table.rows others
      → IsSameBag (updated_rows checks t table change) (updated_rows checks u (record table { rows = others }) change)
  updated-same checks table change others p =
      together-rows (λ row. is_touched t change.filter row >>= updated_if checks t table change.assignments row)
      (λ row. is_touched u change.filter row >>= updated_if checks u table change.assignments row) table.rows others
      (λ row. next-same (is_touched t change.filter row) (is_touched u change.filter row) (updated_if checks t table change.assignments row)
      (updated_if checks u table change.assignments row) (touched-same change.filter row)
      (λ touched. updated_if-same checks table change.assignments row touched))
      p

  deleted-same : (table : Table) (change : Delete) (others : List Row) → Permutes table.rows others
      → IsSameBag (deleted_rows t table change) (deleted_rows u (record table { rows = others }) change)
  deleted-same table change others p =
      together-rows (λ row. is_touched t change.filter row >>= (λ touched. Ok (touched, row)))
      (λ row. is_touched u change.filter row >>= (λ touched. Ok (touched, row))) table.rows others
      (λ row. then-same (is_touched t change.filter row) (is_touched u change.filter row) (λ touched. Ok (touched, row)) (touched-same change.filter row))
      p

-- ---- databases

same_but_rows : (t u : Table) → IsSameTable t u → record t { rows = u.rows } ≡ u
same_but_rows t u h = λ i. record { columns = h.columns i; constraints = h.constraints i; indexes = h.indexes i; rows = u.rows }

AreSame-cond : (b : Bool) (x y : Table) (o p : Option Table) → IsSameTable x y → AreSame o p → AreSame (cond b (Some x) o) (cond b (Some y) p)
AreSame-cond true x y o p h k = h
AreSame-cond false x y o p h k = k

AreSame-without : (b : Bool) (o p : Option Table) → AreSame o p → AreSame (cond b None o) (cond b None p)
AreSame-without true o p h = tt
AreSame-without false o p h = h

AreSame-map : (index : Name) (o p : Option Table) → AreSame o p → AreSame (option_map (without_index index) o) (option_map (without_index index) p)
AreSame-map index None None h = tt
AreSame-map index None (Some u) h = absurd h
AreSame-map index (Some t) None h = absurd h
AreSame-map index (Some t) (Some u) h =
    record { columns = h.columns; constraints = h.constraints; indexes = ap (filter (λ i. not (is_named index i.name))) h.indexes; rows = h.rows }

IsSameTable-refl : (t : Table) → IsSameTable t t
IsSameTable-refl t = record { columns = refl; constraints = refl; indexes = refl; rows = Permutes-refl t.rows }

insert-same : (db new : Database) (name : Name) (x y : Table) → IsSameTable x y → IsSameDatabase db new → IsSameDatabase (insert db name x) (insert new name y)
insert-same db new name x y h k = λ other. rw (found-insert db name x other, found-insert new name y other)
    (AreSame-cond (is_name other name) x y (get db other) (get new other) h (k other))

remove-same : (db new : Database) (name : Name) → IsSameDatabase db new → IsSameDatabase (remove db name) (remove new name)
remove-same db new name k = λ other. rw (found-remove db name other, found-remove new name other)
    (AreSame-without (is_name other name) (get db other) (get new other) (k other))

mapped-same : (db new : Database) (index : Name) → IsSameDatabase db new
    → IsSameDatabase (from_entries (map (λ e. (e.0, without_index index e.1)) (entries db)))
    (from_entries (map (λ e. (e.0, without_index index e.1)) (entries new)))
mapped-same db new index k = λ other. rw (found-mapped (without_index index) db other, found-mapped (without_index index) new other)
    (AreSame-map index (get db other) (get new other) (k other))

rows_of-same : (o p : Option Table) → AreSame o p → Permutes (rows_of o) (rows_of p)
rows_of-same None None h = Permutes-refl []
rows_of-same None (Some u) h = absurd h
rows_of-same (Some t) None h = absurd h
rows_of-same (Some t) (Some u) h = h.rows

pub tables-same : (db new : Database) → IsSameDatabase db new → AreSameTables (rows_in db) (rows_in new)
tables-same db new k = λ name. rows_of-same (get db name) (get new name) (k name)

-- ---- what databases violate

AreSame-sym : (o p : Option Table) → AreSame o p → AreSame p o
AreSame-sym None None h = tt
AreSame-sym None (Some u) h = h
AreSame-sym (Some t) None h = h
AreSame-sym (Some t) (Some u) h =
    record { columns = sym h.columns; constraints = sym h.constraints; indexes = sym h.indexes; rows = Permutes-sym t.rows u.rows h.rows }

violated_at-same : (reading : CheckReading) (db new : Database) (name : Name) (t u : Table) → IsSameDatabase db new → IsSameTable t u
    → violated_at reading db name (Some t) ≡ violated_at reading new name (Some u)
violated_at-same reading db new name t u k h =
    ap (λ xs. xs ++ unmatched_by (rows_in db) t.constraints t.rows) (violated_by-same reading name t u h.columns h.constraints h.rows)
    ∙ ap (λ xs. violated_by reading name u ++ xs)
    (unmatched_by-same (rows_in db) (rows_in new) t.constraints t.rows u.rows (tables-same db new k) h.rows ∙ ap (λ cs. unmatched_by (rows_in new) cs u.rows) h.constraints)

violated_in-within : (reading : CheckReading) (db new : Database) (constraint : Name) → IsSameDatabase db new → Contains (violated_in reading db) constraint → Contains (violated_in reading new) constraint
violated_in-within reading db new constraint k h =
    let one = violated-in reading db constraint h in
    let name = one.0 in
    at name one.1.0 one.1.2 (get new name) refl (subst (λ (o : Option Table). AreSame o (get new name)) one.1.1 (k name))
  where
    at : (name : Name) (t : Table) → Contains (violated_at reading db name (Some t)) constraint → (found : Option Table) → get new name ≡ found → AreSame (Some t) found
        → Contains (violated_in reading new) constraint
    at name t here None is same = absurd same
    at name t here (Some u) is same = violated-at reading new name u constraint is (subst (λ xs. Contains xs constraint) (violated_at-same reading db new name t u k same) here)

pub violated_in-same : (reading : CheckReading) (db new : Database) → IsSameDatabase db new → HasSame (violated_in reading db) (violated_in reading new)
violated_in-same reading db new k = λ constraint.
    (violated_in-within reading db new constraint k, violated_in-within reading new db constraint (λ name. AreSame-sym (get db name) (get new name) (k name)))

-- ---- changes

module _ (reading : CheckReading) (db new : Database) (k : IsSameDatabase db new) where
  unless_violated-same : (names others : List Name) (d e : Database) (m n : ℕ) → HasSame names others → IsSameDatabase d e → m ≡ n
      → IsSameChange (unless_violated names d m) (unless_violated others e n)
  unless_violated-same [] [] d e m n f h is = (h, ap Some is)
  unless_violated-same [] (other ∷ others) d e m n f h is = absurd (HasSame-some other others f)
  unless_violated-same (name ∷ names) [] d e m n f h is = absurd (HasSame-some name names (λ x. ((f x).1, (f x).0)))
  unless_violated-same (name ∷ names) (other ∷ others) d e m n f h is = f

  with_rows-same : (name : Name) (table : Table) (old rows others : List Row) (m n : ℕ) → Permutes rows others → m ≡ n
      → IsSameChange (with_rows reading db name table rows m) (with_rows reading new name (record table { rows = old }) others n)
  with_rows-same name table old rows others m n p is =
      let made : Database = insert db name (record table { rows = rows }) in
      let other : Database = insert new name (record table { rows = others }) in
      let same : IsSameDatabase made other = insert-same db new name (record table { rows = rows }) (record table { rows = others })
      (record { columns = refl; constraints = refl; indexes = refl; rows = p }) k in
      unless_violated-same (violated_in reading made) (violated_in reading other) made other m n (violated_in-same reading made other same) same is

  raised-same : {A B : Type 0} (R : A → B → Type 0) (x : Evaluation A) (y : Evaluation B) (made : A → Changed) (other : B → Changed) → IsAlikeBy R x y
      → ((a : A) (b : B) → R a b → IsSameChange (made a) (other b))
      → IsSameChange (unless_raised x made) (unless_raised y other)
  raised-same R (Ok x) (Ok y) made other h l = l x y h
  raised-same R (Ok x) (Err faults) made other h l = absurd h
  raised-same R (Err faults) (Ok y) made other h l = absurd h
  raised-same R (Err faults) (Err others) made other h l = h

  insert_into-same : (i : Insert) (table : Table) (others : List Row) → Permutes table.rows others
      → IsSameChange (insert_into reading db i table) (insert_into reading new i (record table { rows = others }))
  insert_into-same i table others p =
      raised-same (λ (xs ys : List Row). Permutes xs ys) (inserted_rows (checks_of reading i.table table) (rows_in db) table i.columns i.source)
      (inserted_rows (checks_of reading i.table table) (rows_in new) (record table { rows = others }) i.columns i.source)
      (λ rows. with_rows reading db i.table table (table.rows ++ rows) (length rows))
      (λ rows. with_rows reading new i.table (record table { rows = others }) (others ++ rows) (length rows))
      (inserted-same (rows_in db) (rows_in new) (tables-same db new k) (checks_of reading i.table table) table i.columns i.source)
      (λ xs ys q. with_rows-same i.table table others (table.rows ++ xs) (others ++ ys) (length xs) (length ys)
      (Permutes-append table.rows others xs ys p q) (length-permutes xs ys q))

  update_in-same : (c : Update) (table : Table) (others : List Row) → Permutes table.rows others
      → IsSameChange (update_in reading db c table) (update_in reading new c (record table { rows = others }))
  update_in-same c table others p =
      raised-same (λ (xs ys : List (Bool × Row)). Permutes xs ys) (updated_rows (checks_of reading c.table table) (rows_in db) table c)
      (updated_rows (checks_of reading c.table table) (rows_in new) (record table { rows = others }) c)
      (λ rows. with_rows reading db c.table table (map (λ r. r.1) rows) (count_by (λ r. r.0) rows))
      (λ rows. with_rows reading new c.table (record table { rows = others }) (map (λ r. r.1) rows) (count_by (λ r. r.0) rows))
      (updated-same (rows_in db) (rows_in new) (tables-same db new k) (checks_of reading c.table table) table c others p)
      (λ xs ys q. with_rows-same c.table table others (map (λ r. r.1) xs) (map (λ r. r.1) ys) (count_by (λ r. r.0) xs) (count_by (λ r. r.0) ys)
      (Permutes-map (λ (r : Bool × Row). r.1) xs ys q) (count_by-permutes (λ (r : Bool × Row). r.0) xs ys q))

  delete_from-same : (c : Delete) (table : Table) (others : List Row) → Permutes table.rows others
      → IsSameChange (delete_from reading db c table) (delete_from reading new c (record table { rows = others }))
  delete_from-same c table others p =
      raised-same (λ (xs ys : List (Bool × Row)). Permutes xs ys) (deleted_rows (rows_in db) table c) (deleted_rows (rows_in new) (record table { rows = others }) c)
      (λ rows. with_rows reading db c.table table (map (λ r. r.1) (filter (λ r. not r.0) rows)) (count_by (λ r. r.0) rows))
      (λ rows. with_rows reading new c.table (record table { rows = others }) (map (λ r. r.1) (filter (λ r. not r.0) rows)) (count_by (λ r. r.0) rows))
      (deleted-same (rows_in db) (rows_in new) (tables-same db new k) table c others p)
      (λ xs ys q. with_rows-same c.table table others (map (λ r. r.1) (filter (λ r. not r.0) xs)) (map (λ r. r.1) (filter (λ r. not r.0) ys))
      (count_by (λ r. r.0) xs) (count_by (λ r. r.0) ys)
      (Permutes-map (λ (r : Bool × Row). r.1) (filter (λ r. not r.0) xs) (filter (λ r. not r.0) ys)
      (Permutes-filter (λ (r : Bool × Row). not r.0) xs ys q)) (count_by-permutes (λ (r : Bool × Row). r.0) xs ys q))

  index_on-same : (c : CreateIndex) (table : Table) (others : List Row) → Permutes table.rows others
      → IsSameChange (index_on db c table) (index_on new c (record table { rows = others }))
  index_on-same c table others p =
      let index : IndexDeclaration = record { name = Some c.name; columns = c.columns } in
      raised-same (λ (x y : IndexDeclaration). x ≡ y) (unless (flat_map (λ row. key_faults row c.columns) table.rows) index)
      (unless (flat_map (λ row. key_faults row c.columns) others) index)
      (λ index. Makes (insert db c.table (record table { indexes = table.indexes ++ index ∷ [] })) None)
      (λ index. Makes (insert new c.table (record table { rows = others; indexes = table.indexes ++ index ∷ [] })) None)
      (unless-alike (λ (x y : IndexDeclaration). x ≡ y) (flat_map (λ row. key_faults row c.columns) table.rows)
      (flat_map (λ row. key_faults row c.columns) others) index index
      (HasSame-permutes (flat_map (λ row. key_faults row c.columns) table.rows) (flat_map (λ row. key_faults row c.columns) others)
      (Permutes-flat_map (λ row. key_faults row c.columns) table.rows others p)) (λ _. refl))
      (λ x y e. (
        insert-same db new c.table (record table { indexes = table.indexes ++ x ∷ [] }) (record table { rows = others; indexes = table.indexes ++ y ∷ [] })
            (record { columns = refl; constraints = refl; indexes = ap (λ i. table.indexes ++ i ∷ []) e; rows = p }) k,
        refl,
      ))

  on_table-same : (name : Name) (change other : Table → Changed)
      → ((table : Table) (others : List Row) → Permutes table.rows others → IsSameChange (change table) (other (record table { rows = others })))
      → IsSameChange (on_table db (get db name) change) (on_table new (get new name) other)
  on_table-same name change other h = at (get db name) (get new name) (k name)
    where
      at : (o p : Option Table) → AreSame o p → IsSameChange (on_table db o change) (on_table new p other)
      at None None l = (k, refl)
      at None (Some u) l = absurd l
      at (Some t) None l = absurd l
      at (Some t) (Some u) l = subst (λ (v : Table). IsSameChange (change t) (other v)) (same_but_rows t u l) (h t u.rows l.rows)

  pub changed-same : (change : Change) → IsSameChange (changed reading db change) (changed reading new change)
  changed-same (does.CreateTable c) = (insert-same db new c.name (created c) (created c) (IsSameTable-refl (created c)) k, refl)
  changed-same (does.DropTable name) = (remove-same db new name k, refl)
  changed-same (does.CreateIndex c) = on_table-same c.table (index_on db c) (index_on new c) (λ table others p. index_on-same c table others p)
  changed-same (does.DropIndex name) = (mapped-same db new name k, refl)
  changed-same (does.Insert i) = on_table-same i.table (insert_into reading db i) (insert_into reading new i) (λ table others p. insert_into-same i table others p)
  changed-same (does.Update c) = on_table-same c.table (update_in reading db c) (update_in reading new c) (λ table others p. update_in-same c table others p)
  changed-same (does.Delete c) = on_table-same c.table (delete_from reading db c) (delete_from reading new c) (λ table others p. delete_from-same c table others p)

-- ---- queries

none_within : {X : Type 0} (xs ys : List X) → HasSame xs ys → xs ≡ [] → ys ≡ []
none_within xs [] h e = refl
none_within {X = X} xs (y ∷ ys) h e = absurd (HasSame-some y ys (subst (λ (zs : List X). HasSame zs (y ∷ ys)) e h))

pub denotes-same : (db new : Database) (query : OrderedQuery) → IsSameDatabase db new → IsSame (denotes db query).unordered (denotes new query).unordered
denotes-same db new query k = queries-same (rows_in db) (rows_in new) (tables-same db new k) query.query []

pub answers-same : (db new : Database) (query : OrderedQuery) (reply : Result (List Row) Fault) → IsSameDatabase db new
    → Answers reply (denotes db query) → Answers reply (denotes new query)
answers-same db new query (Ok rows) k h =
    let same = denotes-same db new query k in (
      none_within (denotes db query).unordered.faults (denotes new query).unordered.faults same.faults h.0,
      goes_on (Permutes-sym (denotes db query).unordered.rows (denotes new query).unordered.rows same.rows) h.1,
      h.2,
    )
answers-same db new query (Err fault) k h = ((denotes-same db new query k).faults fault).0 h

-- ---- what a change leaves

pub after-raised : (db : Database) (c : Changed) (fault : Fault) → IsRaised c fault → after db c ≡ db
after-raised db (Makes new count) fault h = absurd h
after-raised db (Raises faults) fault h = refl
after-raised db (Violates names) fault h = absurd h

pub after-named : (db : Database) (c : Changed) (name : Name) → IsNamed c name → after db c ≡ db
after-named db (Makes new count) name h = absurd h
after-named db (Raises faults) name h = absurd h
after-named db (Violates names) name h = refl

pub raised-alone : (c : Changed) (new : Database) (fault : Fault) (count : Option ℕ) → IsRaised c fault → IsAccepted c new count → ⊥
raised-alone (Makes db n) new fault count h k = h
raised-alone (Raises faults) new fault count h k = k
raised-alone (Violates names) new fault count h k = k

pub named-alone : (c : Changed) (new : Database) (name : Name) (count : Option ℕ) → IsNamed c name → IsAccepted c new count → ⊥
named-alone (Makes db n) new name count h k = h
named-alone (Raises faults) new name count h k = k
named-alone (Violates names) new name count h k = k

pub after-accepted : (db : Database) (c : Changed) (new : Database) (count : Option ℕ) → IsAccepted c new count → IsSameDatabase (after db c) new
after-accepted db (Makes made n) new count h = h.0
after-accepted db (Raises faults) new count h = absurd h
after-accepted db (Violates names) new count h = absurd h
