-- The table that was read is the one of the database, and so are the constraints that it violates.
use Rattle.std.proofs.Common.{◌≡◌, ◌∙◌, refl, sym, ap, subst, false, List, [], Option, Some, None}
use Rattle.std.specs.Prelude.{Contains, MatchOption}
use Rattle.std.specs.List.{list_any}
use Rattle.std.specs.Option.{option_map}
use Rattle.std.specs.FinMap.{get}
use Rattle.sqlval.specs.declared.schema.Schema.{Schema}
use Rattle.sqlval.specs.declared.schema.Table as declared
use Rattle.sqlval.specs.Schema.{same_name}
use Rattle.sqlval.specs.Value.{Row}
use Rattle.denote.specs.Database.{Name, Table, Database, CheckReading, table_of, violated_by}
use Rattle.denote.specs.SchemaOf.{Declares, IsSchemaOf}
use Rattle.store.specs.Contents.{StoredTable, Contents, database_of, rows_of}
use Rattle.store.specs.Contents.{table_of as held}
use Rattle.store.specs.Indexes.{entries_of}
use Rattle.store.specs.Stored.{Stored}
use Rattle.store.proofs.Databases.{database-get}
use Rattle.constraints.specs.Settled.{Holds}
use Rattle.constraints.proofs.Declared.{no_table, table_there}

pub same_some : {X : Type 0} (x y : X) → Some x ≡ Some y → x ≡ y
same_some x y e = cc

-- a schema that was lent is that of the newest version as it was before
pub schema_here : (schema prepared : Schema) (a b : Stored) → schema ≡ prepared → b ≡ a → IsSchemaOf prepared (database_of b.working) → IsSchemaOf schema (database_of a.working)
schema_here schema prepared a b e m h =
    subst (λ (s : Schema). IsSchemaOf s (database_of a.working)) (sym e) (subst (λ (x : Stored). IsSchemaOf prepared (database_of x.working)) m h)

-- the table that is declared, with the rows that were read
pub table_read : (c : Contents) (schema : Schema) (name : Name) (d : declared.Table) (rows : List Row) → IsSchemaOf schema (database_of c) → Contains schema.tables d → d.name ≡ name
    → rows ≡ rows_of (entries_of (get c name)) → get (database_of c) name ≡ Some (table_of d rows)
table_read c schema name d rows h inside named read = by (table_there schema (database_of c) name d h inside named) (get c name) refl
  where
    by : (found : (t : Table) × (get (database_of c) name ≡ Some t) × Declares d t) → (o : Option StoredTable) → get c name ≡ o → get (database_of c) name ≡ Some (table_of d rows)
    by found None is = let none : get (database_of c) name ≡ None = database-get c name ∙ ap (option_map held) is in let there = found.1 in absurd (cc (none, there))
    by found (Some t) is =
        let there : get (database_of c) name ≡ Some (held t) = database-get c name ∙ ap (option_map held) is in
        let same : held t ≡ found.0 = same_some (held t) found.0 (sym there ∙ found.1) in
        let all : rows ≡ found.0.rows = read ∙ ap (λ o. rows_of (entries_of o)) is ∙ ap (λ (u : Table). u.rows) same in
        let whole : found.0 ≡ table_of d rows =
        λ i. record { columns = sym found.2.columns i; constraints = sym found.2.constraints i; indexes = sym found.2.indexes i; rows = sym all i } in
        found.1 ∙ ap (λ (u : Table). Some u) whole

pub none_holds : (reading : CheckReading) (db : Database) (schema : Schema) (name : Name) → IsSchemaOf schema db → list_any (λ (t : declared.Table). same_name t.name name) schema.tables ≡ false
    → Holds reading db name
none_holds reading db schema name h none table there = let gone = no_table schema db name h none in absurd (cc (gone, there))

pub match_weaker : {X : Type 0} (o : Option X) (P Q : Type 0) (R S : X → Type 0) → (P → Q) → ((x : X) → R x → S x) → MatchOption o P R → MatchOption o Q S
match_weaker None P Q R S f g h = f h
match_weaker (Some x) P Q R S f g h = g x h

pub finds : (reading : CheckReading) (db : Database) (name : Name) (table : Table) (found : Option Name) → get db name ≡ Some table
    → MatchOption found (violated_by reading name table ≡ []) (λ constraint. Contains (violated_by reading name table) constraint)
    → MatchOption found (Holds reading db name) (λ constraint. (t : Table) × (get db name ≡ Some t) × Contains (violated_by reading name t) constraint)
finds reading db name table found there h = match_weaker found
    (violated_by reading name table ≡ []) (Holds reading db name)
    (λ constraint. Contains (violated_by reading name table) constraint) (λ constraint. (t : Table) × (get db name ≡ Some t) × Contains (violated_by reading name t) constraint)
    (λ none t is. subst (λ (u : Table). violated_by reading name u ≡ []) (same_some table t (sym there ∙ is)) none)
    (λ constraint one. (table, there, one)) h
