-- The databases that the changes of a store make are those of the definitions.
use Rattle.std.proofs.Common.{◌≡◌, ◌∙◌, refl, sym, ap, subst, cond, ℕ, ◌+◌, false, List, [], ◌∷◌, ◌++◌, map, is_some, Some, None}
use Rattle.std.proofs.lemmas.Cmp.{nat_list_cmp_total, tied_itself}
use Rattle.std.proofs.lemmas.List.{map-append}
use Rattle.std.specs.Ordering.{is_eq}
use Rattle.std.specs.List.{enumerate_from, filter_map}
use Rattle.std.specs.FinMap.{get, insert, contains_key, get-insert}
use Rattle.sqlval.specs.declared.schema.Column.{Column}
use Rattle.sqlval.specs.declared.schema.Constraint.{Constraint}
use Rattle.sqlval.specs.declared.schema.Index.{Index}
use Rattle.sqlval.specs.declared.schema.Table as declared
use Rattle.sqlval.specs.Value.{Row}
use Rattle.typing.specs.declared.statement.CreateTable.{CreateTable}
use Rattle.denote.specs.Change.{created, owned_index}
use Rattle.denote.specs.Database.{Name, Table, Database}
use Rattle.denote.specs.SchemaOf.{index_of}
use Rattle.store.specs.Contents.{Entry, StoredTable, Contents, table_of, rows_of, database_of, next_number, with_rows, with_index, new_table, with_table, appended, indexed}
use Rattle.store.proofs.Databases.{database-insert}
use Rattle.constraints.specs.Settled.{Decided}
use Rattle.constraints.proofs.Held.{held_as, changed-database}
use Rattle.constraints.proofs.Violations.{same_some}

rows_numbered : (k : ℕ) (rows : List Row) → rows_of (enumerate_from k rows) ≡ rows
rows_numbered k [] = refl
rows_numbered k (row ∷ rows) = ap (λ more. row ∷ more) (rows_numbered (k + 1) rows)

with_rows-table : (rows : List Row) (t : StoredTable) → table_of (with_rows rows t) ≡ record (table_of t) { rows = rows_of t.entries ++ rows }
with_rows-table rows t =
    let more : rows_of (t.entries ++ enumerate_from (next_number t.entries) rows) ≡ rows_of t.entries ++ rows =
    map-append (λ (e : Entry). e.1) t.entries (enumerate_from (next_number t.entries) rows) ∙ ap (λ r. rows_of t.entries ++ r) (rows_numbered (next_number t.entries) rows) in
    λ i. record { columns = t.columns; constraints = t.constraints; indexes = t.indexes; rows = more i }

-- with rows at the end of a table
pub appended-database : (c : Contents) (name : Name) (table : Table) (rows : List Row) → get (database_of c) name ≡ Some table
    → database_of (appended c name rows) ≡ insert (database_of c) name (record table { rows = table.rows ++ rows })
appended-database c name table rows there =
    let held = held_as c name table there in
    changed-database (with_rows rows) c name held.0 held.1
    ∙ ap (insert (database_of c) name) (with_rows-table rows held.0 ∙ ap (λ (u : Table). record u { rows = u.rows ++ rows }) held.2)

-- with one more index
with_index-table : (index : Index) (t : StoredTable) → table_of (with_index index t) ≡ record (table_of t) { indexes = t.indexes ++ index_of index ∷ [] }
with_index-table index t = refl

pub indexed-database : (c : Contents) (name : Name) (table : Table) (index : Index) → get (database_of c) name ≡ Some table
    → database_of (indexed c name index) ≡ insert (database_of c) name (record table { indexes = table.indexes ++ index_of index ∷ [] })
indexed-database c name table index there =
    let held = held_as c name table there in
    changed-database (with_index index) c name held.0 held.1
    ∙ ap (insert (database_of c) name) (with_index-table index held.0 ∙ ap (λ (u : Table). record u { indexes = u.indexes ++ index_of index ∷ [] }) held.2)

none_of : (c : Contents) (name : Name) → get c name ≡ None → contains_key c name ≡ false
none_of c name e = ap is_some e

-- with a new table
pub created-database : (c : Contents) (t : declared.Table) (x : CreateTable) → get c x.name ≡ None → t.name ≡ x.name → t.columns ≡ x.columns → t.constraints ≡ x.constraints
    → map index_of t.indexes ≡ filter_map (λ k. owned_index k.rule) x.constraints → database_of (with_table c t) ≡ insert (database_of c) x.name (created x)
created-database c t x free name columns constraints indexes =
    let free_too : contains_key c t.name ≡ false = ap (contains_key c) name ∙ none_of c x.name free in
    let table : table_of (new_table t) ≡ created x = λ i. record { columns = columns i; constraints = constraints i; indexes = indexes i; rows = [] } in
    rw free_too (database-insert c t.name (new_table t)) ∙ (λ i. insert (database_of c) (name i) (table i))

-- ---- a table with other rows

-- what decides its CHECKs still does
pub decided_still : (decides : Name → List Column → List Constraint → Type 0) (db made : Database) (name : Name) (table : Table) (rows : List Row)
    → made ≡ insert db name (record table { rows = rows }) → get db name ≡ Some table → Decided decides db name → Decided decides made name
decided_still decides db made name table rows is there decided = λ t found.
    let put : get made name ≡ Some (record table { rows = rows }) =
    ap (λ (m : Database). get m name) is ∙ get-insert nat_list_cmp_total db name (record table { rows = rows }) name
    ∙ ap (λ b. cond b (Some (record table { rows = rows })) (get db name)) (ap is_eq (tied_itself nat_list_cmp_total name)) in
    subst (λ (u : Table). decides name u.columns u.constraints) (same_some (record table { rows = rows }) t (sym put ∙ found)) (decided table there)
