-- A schema is read back from its records.
use Rattle.std.proofs.Common.{◌≡◌, ℕ, ◌+◌, ◌-◌, cond, List, [], ◌∷◌, ◌++◌, Option, None, Some, refl, ap, ◌∙◌, arith, ne_eqb, append_assoc, append-nil}
use Rattle.std.specs.Prelude.{slice_index_or, pos}
use Rattle.std.specs.List.{AllByRecursion}
use Rattle.std.proofs.lemmas.List.{map-append}
use Rattle.sqlval.specs.declared.value.Value.{Value}
use Rattle.sqlval.specs.declared.value.Value.TheVariants.{Int, Text}
use Rattle.sqlval.specs.declared.storing.ColumnType.{ColumnType}
use Rattle.sqlval.specs.declared.storing.ColumnType.TheVariants.{Integer, Varchar}
use Rattle.sqlval.specs.declared.schema.Table.{Table}
use Rattle.sqlval.specs.declared.schema.Column.{Column}
use Rattle.sqlval.specs.declared.schema.Constraint.{Constraint}
use Rattle.sqlval.specs.declared.schema.Rule.{Rule}
use Rattle.sqlval.specs.declared.schema.Rule.TheVariants.{NotNull, PrimaryKey, Unique, Check, ForeignKey}
use Rattle.sqlval.specs.declared.schema.Index.{Index}
use Rattle.catalog_records.specs.declared.record.Record.{Record}
use Rattle.catalog_records.specs.Records.{counted, others_of, table_record, width_of, column_record, sort_of, detail_of, constraint_record, name_value, owner_number, index_record, column_records, constraint_records, index_records, table_records, schema_records}
use Rattle.catalog_records.specs.Keepable.{IsType, IsColumn, IsRule, IsConstraint, IsIndex, IsTable, AreTables}
use Rattle.btree_read.specs.declared.entry.Entry.{Entry}
use Rattle.btree_read.proofs.ListLemmas.{each_left, each_right}
use Rattle.catalog.specs.Held.{entry_of, entries_of, IsCoded, AreCoded}
use Rattle.stored_tables.specs.Values.{name_in}
use Rattle.stored_tables.specs.Schemas.{name_of, type_of, column_of, rule_of, constraint_of, owner_of, index_of, Parts, with_its_table, with_record, parts_of, tables_in}
use Rattle.stored_tables.proofs.ValueLemmas.{row_back, name_back}
use Rattle.stored_tables.proofs.PlaceLemmas.{places_back}

-- ---- one record

record_read : (r : Record) (more : List Entry) → IsCoded r → parts_of (entry_of r ∷ more) ≡ with_record (name_in (entry_of r).key) r.row (parts_of more)
record_read r more h = ap (λ row. with_record (name_in (entry_of r).key) row (parts_of more)) (row_back r.row h.row)

type_back : (t : ColumnType) → IsType t → type_of (width_of t) ≡ t
type_back Integer h = refl
type_back (Varchar n) h = ap (λ b. cond b Integer (Varchar n)) (ne_eqb n 0 (λ e. let some = h.0 in omega (arith, some, e)))

column_back : (name : List ℕ) (place : ℕ) (c : Column) → IsColumn c → column_of (column_record name place c).row ≡ c
column_back name place c h = ap (λ (t : ColumnType). record { name = c.name; column_type = t }) (type_back c.column_type h)

-- a rule behind these two values
rule_back : (x y : Value) (r : Rule) → IsRule r → rule_of (sort_of r) (detail_of r) (x ∷ y ∷ Text (detail_of r) ∷ others_of r) ≡ r
rule_back x y (NotNull column) h = ap (λ ps. NotNull (slice_index_or ps 0 0)) (places_back (column ∷ []) (h, tt))
rule_back x y (PrimaryKey columns) h = ap PrimaryKey (places_back columns h)
rule_back x y (Unique columns) h = ap Unique (places_back columns h)
rule_back x y (Check text) h = refl
rule_back x y (ForeignKey reference) h =
    let columns = places_back reference.columns h.columns in
    let referenced = places_back reference.referenced h.referenced in
    λ i. ForeignKey (record { columns = columns i; table = reference.table; referenced = referenced i })

constraint_back : (name : List ℕ) (place : ℕ) (c : Constraint) → IsConstraint c → constraint_of (constraint_record name place c).row ≡ c
constraint_back name place c h = ap (λ (r : Rule). record { name = c.name; rule = r }) (rule_back (Text c.name) (counted (sort_of c.rule)) c.rule h)

name_again : (name : Option (List ℕ)) → name_of (name_value name) ≡ name
name_again None = refl
name_again (Some name) = refl

owner_back : (owner : Option ℕ) → owner_of (owner_number owner) ≡ owner
owner_back None = refl
owner_back (Some place) = ap (λ b. cond b None (Some (place + 1 - 1))) (ne_eqb (place + 1) 0 (λ e. omega (arith, e))) ∙ ap Some (less place)
  where
    less : (n : ℕ) → n + 1 - 1 ≡ n
    less n = omega arith

index_back : (name : List ℕ) (place : ℕ) (x : Index) → IsIndex x → index_of (index_record name place x).row ≡ x
index_back name place x h =
    let named = name_again x.name in
    let owned = owner_back x.owner in
    let columns = places_back x.columns h.columns in
    λ i. record { name = named i; columns = columns i; owner = owned i; root = x.root }

-- ---- the records of one kind

abbrev with_columns : List Column → Parts → Parts
with_columns columns p = record { columns = columns ++ p.columns; constraints = p.constraints; indexes = p.indexes; tables = p.tables }

abbrev with_constraints : List Constraint → Parts → Parts
with_constraints constraints p = record { columns = p.columns; constraints = constraints ++ p.constraints; indexes = p.indexes; tables = p.tables }

-- a record of three values, or of five, is that of a constraint
constraint_values : (name : List ℕ) (x y z : Value) (r : Rule) (p : Parts)
    → with_record name (x ∷ y ∷ z ∷ others_of r) p ≡ with_constraints (constraint_of (x ∷ y ∷ z ∷ others_of r) ∷ []) p
constraint_values name x y z (NotNull column) p = refl
constraint_values name x y z (PrimaryKey columns) p = refl
constraint_values name x y z (Unique columns) p = refl
constraint_values name x y z (Check text) p = refl
constraint_values name x y z (ForeignKey reference) p = refl

abbrev with_indexes : List Index → Parts → Parts
with_indexes indexes p = record { columns = p.columns; constraints = p.constraints; indexes = indexes ++ p.indexes; tables = p.tables }

columns_back : (name : List ℕ) (from : ℕ) (columns : List Column) (more : List Entry) → AllByRecursion IsColumn columns → AreCoded (column_records name from columns)
    → parts_of (entries_of (column_records name from columns) ++ more) ≡ with_columns columns (parts_of more)
columns_back name from [] more h coded = refl
columns_back name from (c ∷ columns) more h coded =
    record_read (column_record name from c) (entries_of (column_records name (from + 1) columns) ++ more) coded.0
    ∙ ap (with_record (name_in (entry_of (column_record name from c)).key) (column_record name from c).row) (columns_back name (from + 1) columns more h.1 coded.1)
    ∙ ap (λ (d : Column). with_columns (d ∷ columns) (parts_of more)) (column_back name from c h.0)

constraints_back : (name : List ℕ) (from : ℕ) (constraints : List Constraint) (more : List Entry) → AllByRecursion IsConstraint constraints → AreCoded (constraint_records name from constraints)
    → parts_of (entries_of (constraint_records name from constraints) ++ more) ≡ with_constraints constraints (parts_of more)
constraints_back name from [] more h coded = refl
constraints_back name from (c ∷ constraints) more h coded =
    record_read (constraint_record name from c) (entries_of (constraint_records name (from + 1) constraints) ++ more) coded.0
    ∙ ap (with_record (name_in (entry_of (constraint_record name from c)).key) (constraint_record name from c).row) (constraints_back name (from + 1) constraints more h.1 coded.1)
    ∙ constraint_values (name_in (entry_of (constraint_record name from c)).key) (Text c.name) (counted (sort_of c.rule)) (Text (detail_of c.rule)) c.rule
    (with_constraints constraints (parts_of more))
    ∙ ap (λ (d : Constraint). with_constraints (d ∷ constraints) (parts_of more)) (constraint_back name from c h.0)

indexes_back : (name : List ℕ) (from : ℕ) (indexes : List Index) (more : List Entry) → AllByRecursion IsIndex indexes → AreCoded (index_records name from indexes)
    → parts_of (entries_of (index_records name from indexes) ++ more) ≡ with_indexes indexes (parts_of more)
indexes_back name from [] more h coded = refl
indexes_back name from (x ∷ indexes) more h coded =
    record_read (index_record name from x) (entries_of (index_records name (from + 1) indexes) ++ more) coded.0
    ∙ ap (with_record (name_in (entry_of (index_record name from x)).key) (index_record name from x).row) (indexes_back name (from + 1) indexes more h.1 coded.1)
    ∙ ap (λ (y : Index). with_indexes (y ∷ indexes) (parts_of more)) (index_back name from x h.0)

-- ---- a table, and all of them

abbrev starts : List Table → Parts
starts tables = record { columns = []; constraints = []; indexes = []; tables = tables }

-- the entries of a table's records, part by part
entries_parts : (t : Table) (more : List Entry) → entries_of (table_records t) ++ more
    ≡ entry_of (table_record t.name t.root) ∷ (entries_of (column_records t.name 0 t.columns) ++ (entries_of (constraint_records t.name 1 t.constraints) ++ (entries_of (index_records t.name 1 t.indexes) ++ more)))
entries_parts t more =
    let first = column_records t.name 0 t.columns in
    let second = constraint_records t.name 1 t.constraints in
    let third = index_records t.name 1 t.indexes in
    ap (λ es. entry_of (table_record t.name t.root) ∷ (es ++ more)) (map-append entry_of first (second ++ third) ∙ ap (λ es. entries_of first ++ es) (map-append entry_of second third))
    ∙ ap (λ es. entry_of (table_record t.name t.root) ∷ es) (append_assoc (entries_of first) (entries_of second ++ entries_of third) more
    ∙ ap (λ es. entries_of first ++ es) (append_assoc (entries_of second) (entries_of third) more))

table_made : (t : Table) (tables : List Table) (name : List ℕ) → name ≡ t.name
    → with_its_table name t.root (with_columns t.columns (with_constraints t.constraints (with_indexes t.indexes (starts tables)))) ≡ starts (t ∷ tables)
table_made t tables name is =
    let columns = append-nil t.columns in
    let constraints = append-nil t.constraints in
    let indexes = append-nil t.indexes in
    λ i. starts (record { name = is i; columns = columns i; constraints = constraints i; indexes = indexes i; root = t.root } ∷ tables)

table_back : (t : Table) (tables : List Table) (more : List Entry) → IsTable t → AreCoded (table_records t) → parts_of more ≡ starts tables → parts_of (entries_of (table_records t) ++ more) ≡ starts (t ∷ tables)
table_back t tables more h coded rest =
    let first = column_records t.name 0 t.columns in
    let second = constraint_records t.name 1 t.constraints in
    let third = index_records t.name 1 t.indexes in
    let behind = each_right IsCoded first (second ++ third) coded.1 in
    ap parts_of (entries_parts t more)
    ∙ record_read (table_record t.name t.root) (entries_of first ++ (entries_of second ++ (entries_of third ++ more))) coded.0
    ∙ ap (with_its_table (name_in (entry_of (table_record t.name t.root)).key) t.root)
    (columns_back t.name 0 t.columns (entries_of second ++ (entries_of third ++ more)) h.columns (each_left IsCoded first (second ++ third) coded.1)
    ∙ ap (with_columns t.columns) (constraints_back t.name 1 t.constraints (entries_of third ++ more) h.constraints (each_left IsCoded second third behind)
    ∙ ap (with_constraints t.constraints) (indexes_back t.name 1 t.indexes more h.indexes (each_right IsCoded second third behind)
    ∙ ap (with_indexes t.indexes) rest)))
    ∙ table_made t tables (name_in (entry_of (table_record t.name t.root)).key) (name_back t.name (Int (pos 0) ∷ Int (pos 0) ∷ []) coded.0.key)

schema_back : (tables : List Table) → AreTables tables → AreCoded (schema_records tables) → parts_of (entries_of (schema_records tables)) ≡ starts tables
schema_back [] h coded = refl
schema_back (t ∷ tables) h coded =
    ap parts_of (map-append entry_of (table_records t) (schema_records tables))
    ∙ table_back t tables (entries_of (schema_records tables)) h.0 (each_left IsCoded (table_records t) (schema_records tables) coded)
    (schema_back tables h.1 (each_right IsCoded (table_records t) (schema_records tables) coded))

pub tables_back : (tables : List Table) → AreTables tables → AreCoded (schema_records tables) → tables_in (entries_of (schema_records tables)) ≡ tables
tables_back tables h coded = ap (λ (p : Parts). p.tables) (schema_back tables h coded)
