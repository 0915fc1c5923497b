-- What a statement that changes tables makes of a database (ISO/IEC 9075:1992, 11.3, 11.18, 13.7,
-- 13.8, 13.10). All its expressions see the database before the statement. First come the faults of
-- evaluation, of every row; only where there are none, the violated constraints of the database
-- that would be: our own choice. So are indexes, which the standard does not know.
use Rattle.std.specs.Prelude.{ℕ, ◌≡◌, Contains, Bool, true, false, not, List, [], ◌∷◌, ◌++◌, map, filter, flat_map, count_by, length, Option, Some, None, Ok, Err}
use Rattle.std.specs.List.{filter_map}
use Rattle.std.specs.FinMap.{get, insert, remove, entries, from_entries}
use Rattle.sqlval.specs.declared.truth.Truth.TheVariants.{True}
use Rattle.sqlval.specs.declared.schema.Rule.{Rule}
use Rattle.sqlval.specs.declared.schema.Rule.TheVariants.{NotNull, PrimaryKey, Unique, Check, ForeignKey}
use Rattle.sqlval.specs.Schema.{is_named}
use Rattle.sqlval.specs.Truth.{same_truth}
use Rattle.sqlval.specs.Value.{Row}
use Rattle.typing.specs.declared.statement.Change.{Change}
use Rattle.typing.specs.declared.statement.Change.TheVariants as does
use Rattle.typing.specs.declared.statement.CreateTable.{CreateTable}
use Rattle.typing.specs.declared.statement.CreateIndex.{CreateIndex}
use Rattle.typing.specs.declared.statement.Insert.{Insert}
use Rattle.typing.specs.declared.statement.InsertSource.{InsertSource}
use Rattle.typing.specs.declared.statement.InsertSource.TheVariants as from
use Rattle.typing.specs.declared.statement.Update.{Update}
use Rattle.typing.specs.declared.statement.Assignment.{Assignment}
use Rattle.typing.specs.declared.statement.Delete.{Delete}
use Rattle.typing.specs.declared.typed.Condition.{Condition}
use Rattle.denote.specs.declared.fault.Fault.{Fault}
use Rattle.denote.specs.Evaluation.{Evaluation, ◌>>=◌, adding, unless, together}
use Rattle.denote.specs.StoredRow.{key_faults, row_with, admitted, inserted_row}
use Rattle.denote.specs.Meaning.{Tables, value_of, truth_at, query_outcome}
use Rattle.denote.specs.Database.{Name, IndexDeclaration, Table, Database, rows_in, CheckReading, checks_of, violated_in, IsSameDatabase}

-- ---- INSERT, UPDATE and DELETE: the rows that they give

-- the rows that an INSERT stores; the sources of VALUES see no column
abbrev pub inserted_rows : List Condition → Tables → Table → List ℕ → InsertSource → Evaluation (List Row)
inserted_rows checks tables table places (from.Values rows) =
    together (map (λ sources. inserted_row checks table places (map (λ source. value_of tables source []) sources)) rows)
inserted_rows checks tables table places (from.Query query) =
    let o = query_outcome tables query [] in
    adding o.faults (together (map (λ row. inserted_row checks table places (map Ok row)) o.rows))

-- whether a row is touched: without WHERE each is
abbrev pub is_touched : Tables → Option Condition → Row → Evaluation Bool
is_touched tables None row = Ok true
is_touched tables (Some condition) row = truth_at tables condition (row ∷ []) >>= (λ t. Ok (same_truth t True))

-- a row after its assignments, whose sources see the row before
abbrev pub assigned : List Condition → Tables → Table → List Assignment → Row → Evaluation Row
assigned checks tables table assignments row =
    admitted checks table (row_with table.columns (map (λ a. a.column) assignments) (map (λ a. value_of tables a.source (row ∷ [])) assignments) row)

abbrev pub updated_if : List Condition → Tables → Table → List Assignment → Row → Bool → Evaluation (Bool × Row)
updated_if checks tables table assignments row false = Ok (false, row)
updated_if checks tables table assignments row true = assigned checks tables table assignments row >>= (λ new. Ok (true, new))

-- each row after an UPDATE, and whether it was touched
abbrev pub updated_rows : List Condition → Tables → Table → Update → Evaluation (List (Bool × Row))
updated_rows checks tables table u = together (map (λ row. is_touched tables u.filter row >>= updated_if checks tables table u.assignments row) table.rows)

-- each row, and whether a DELETE touches it
abbrev pub deleted_rows : Tables → Table → Delete → Evaluation (List (Bool × Row))
deleted_rows tables table d = together (map (λ row. is_touched tables d.filter row >>= (λ touched. Ok (touched, row))) table.rows)

-- ---- what a change makes

-- A new database and, of a change of rows, how many it touched; or faults of evaluation, at least
-- one; or the names of violated constraints, at least one.
pub data Changed : Type 0 where
  Makes : (database : Database) → (count : Option ℕ) → Changed
  Raises : (faults : List Fault) → Changed
  Violates : (names : List Name) → Changed

-- the database that would be, if it violates no constraint
abbrev pub unless_violated : List Name → Database → ℕ → Changed
unless_violated [] db count = Makes db (Some count)
unless_violated (name ∷ names) db count = Violates (name ∷ names)

abbrev pub with_rows : CheckReading → Database → Name → Table → List Row → ℕ → Changed
with_rows reading db name table rows count =
    let new : Database = insert db name (record table { rows = rows }) in
    unless_violated (violated_in reading new) new count

-- what is made of the rows that a statement gives, if none faults
abbrev pub unless_raised : {A : Type 0} → Evaluation A → (A → Changed) → Changed
unless_raised (Err faults) made = Raises faults
unless_raised (Ok rows) made = made rows

abbrev pub insert_into : CheckReading → Database → Insert → Table → Changed
insert_into reading db i table =
    unless_raised (inserted_rows (checks_of reading i.table table) (rows_in db) table i.columns i.source)
    (λ rows. with_rows reading db i.table table (table.rows ++ rows) (length rows))

abbrev pub update_in : CheckReading → Database → Update → Table → Changed
update_in reading db u table =
    unless_raised (updated_rows (checks_of reading u.table table) (rows_in db) table u)
    (λ rows. with_rows reading db u.table table (map (λ r. r.1) rows) (count_by (λ r. r.0) rows))

abbrev pub delete_from : CheckReading → Database → Delete → Table → Changed
delete_from reading db d table =
    unless_raised (deleted_rows (rows_in db) table d)
    (λ rows. with_rows reading db d.table table (map (λ r. r.1) (filter (λ r. not r.0) rows)) (count_by (λ r. r.0) rows))

-- the indexes that PRIMARY KEY and UNIQUE own
abbrev pub owned_index : Rule → Option IndexDeclaration
owned_index (NotNull column) = None
owned_index (PrimaryKey columns) = Some (record { name = None; columns = columns })
owned_index (Unique columns) = Some (record { name = None; columns = columns })
owned_index (Check text) = None
owned_index (ForeignKey reference) = None

abbrev pub created : CreateTable → Table
created c = record { columns = c.columns; constraints = c.constraints; indexes = filter_map (λ k. owned_index k.rule) c.constraints; rows = [] }

-- an index is made unless some row's key is too long for it
abbrev pub index_on : Database → CreateIndex → Table → Changed
index_on db c table =
    unless_raised (unless (flat_map (λ row. key_faults row c.columns) table.rows) (record { name = Some c.name; columns = c.columns }))
    (λ index. Makes (insert db c.table (record table { indexes = table.indexes ++ index ∷ [] })) None)

abbrev pub without_index : Name → Table → Table
without_index name table = record table { indexes = filter (λ index. not (is_named name index.name)) table.indexes }

-- a change of the table that it names; where no table has that name, which the rules of names
-- exclude, nothing changes
abbrev pub on_table : Database → Option Table → (Table → Changed) → Changed
on_table db None change = Makes db (Some 0)
on_table db (Some table) change = change table

-- What the rules of names exclude is never met: a CREATE TABLE of a name that stands, a DROP of one
-- that does not, a DROP TABLE of a table that another one references.
abbrev pub changed : CheckReading → Database → Change → Changed
changed reading db (does.CreateTable c) = Makes (insert db c.name (created c)) None
changed reading db (does.DropTable name) = Makes (remove db name) None
changed reading db (does.CreateIndex c) = on_table db (get db c.table) (index_on db c)
changed reading db (does.DropIndex name) = Makes (from_entries (map (λ e. (e.0, without_index name e.1)) (entries db))) None
changed reading db (does.Insert i) = on_table db (get db i.table) (insert_into reading db i)
changed reading db (does.Update u) = on_table db (get db u.table) (update_in reading db u)
changed reading db (does.Delete d) = on_table db (get db d.table) (delete_from reading db d)

-- ---- `changes`

-- a statement is accepted with this database, up to the order of rows, and this count
abbrev pub IsAccepted : Changed → Database → Option ℕ → Type 0
IsAccepted (Makes db n) new count = IsSameDatabase db new × (n ≡ count)
IsAccepted (Raises faults) new count = ⊥
IsAccepted (Violates names) new count = ⊥

-- it is refused with this fault
abbrev pub IsRaised : Changed → Fault → Type 0
IsRaised (Makes db n) fault = ⊥
IsRaised (Raises faults) fault = Contains faults fault
IsRaised (Violates names) fault = ⊥

-- it is refused with the constraint of this name (23000)
abbrev pub IsNamed : Changed → Name → Type 0
IsNamed (Makes db n) name = ⊥
IsNamed (Raises faults) name = ⊥
IsNamed (Violates names) name = Contains names name
