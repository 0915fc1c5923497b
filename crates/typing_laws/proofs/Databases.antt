-- A good database holds the types of its columns.
use Rattle.std.proofs.Common.{◌≡◌, refl, sym, ap, ◌∙◌, subst, ℕ, zero, suc, ◌+◌, Bool, true, false, true≢false, cond, List, [], ◌∷◌, Option, Some, None, Contains, slice_get, option_map, inl, inr, arith}
use Rattle.std.specs.Cmp.Lexicographic.{bytes_decides}
use Rattle.std.specs.FinMap.{get}
use Rattle.std.specs.List.{list_all, position_from}
use Rattle.std.proofs.lemmas.Bool.{and_parts}
use Rattle.std.proofs.lemmas.List.Elements.{All-weaker}
use Rattle.std.proofs.lemmas.List.Sums.{AllPass-from_list_all}
use Rattle.std.proofs.lemmas.Option.{get_or_from_slice_get, none-some, same_Some, slice_get_within}
use Rattle.sqlval.specs.declared.schema.Column.{Column}
use Rattle.sqlval.specs.declared.schema.Schema.{Schema}
use Rattle.sqlval.specs.declared.schema.Table as declared
use Rattle.sqlval.specs.declared.storing.ColumnType.{ColumnType}
use Rattle.sqlval.specs.declared.storing.ColumnType.TheVariants.{Integer, Varchar}
use Rattle.sqlval.specs.declared.value.Value.{Value}
use Rattle.sqlval.specs.declared.value.Value.TheVariants.{Null, Int, Text}
use Rattle.sqlval.specs.Schema.{same_name, table_place}
use Rattle.sqlval.specs.Storing.{fits_column}
use Rattle.sqlval.specs.Value.{Row}
use Rattle.typing.specs.Known.{known, known_table, table_at, table_of}
use Rattle.typing.specs.declared.known.KnownTable.{KnownTable}
use Rattle.typing.specs.Table.{type_in}
use Rattle.denote.specs.Database.{CheckReading, Database, IsGood, Table, fits_columns, rows_in, rows_of}
use Rattle.denote.specs.SchemaOf.{IsSchemaOf}
use Rattle.typing_laws.specs.WellTyped.{column_types}
use Rattle.typing_laws.specs.Types.{AreRows, HasTypes, HoldsTypes, IsOfType}

-- ---- rows that fit the columns of their table

value-fits : (value : Value) (column : ColumnType) → fits_column value column ≡ true → IsOfType (type_in column) value
value-fits Null column e = inl refl
value-fits (Int n) Integer e = inr refl
value-fits (Int n) (Varchar m) e = absurd (true≢false (sym e))
value-fits (Text codes) Integer e = absurd (true≢false (sym e))
value-fits (Text codes) (Varchar m) e = inr refl

row-fits : (columns : List Column) (row : Row) → fits_columns columns row ≡ true → HasTypes (column_types columns) row
row-fits [] [] e = tt
row-fits [] (value ∷ row) e = absurd (true≢false (sym e))
row-fits (column ∷ columns) [] e = absurd (true≢false (sym e))
row-fits (column ∷ columns) (value ∷ row) e =
    let parts = and_parts (fits_column value column.column_type) (fits_columns columns row) e in
    (value-fits value column.column_type parts.0, row-fits columns row parts.1)

rows-fit : (columns : List Column) (rows : List Row) → list_all (fits_columns columns) rows ≡ true → AreRows (column_types columns) rows
rows-fit columns rows e = All-weaker (λ row. fits_columns columns row ≡ true) (HasTypes (column_types columns)) (row-fits columns) rows (AllPass-from_list_all (fits_columns columns) rows e)

-- ---- the table that a schema knows by a name

-- an element that passes a test
abbrev Passes : {A : Type 0} → (A → Bool) → ℕ → List A → ℕ → Type 0
Passes {A} test at xs p = (k : ℕ) × (p ≡ at + k) × (x : A) × (slice_get xs k ≡ Some x) × (test x ≡ true)

first_passes : {A : Type 0} (test : A → Bool) (at : ℕ) (xs : List A) (p : ℕ) → position_from test at xs ≡ Some p → Passes test at xs p
first_passes test at [] p e = absurd (none-some p e)
first_passes {A} test at (x ∷ xs) p e = go (test x) refl (first_passes test (at + 1) xs p) e
  where
    later : Passes test (at + 1) xs p → Passes test at (x ∷ xs) p
    later (k, is, y, there, passes) = (suc k, omega (arith, is), y, there, passes)

    go : (b : Bool) → test x ≡ b → (position_from test (at + 1) xs ≡ Some p → Passes test (at + 1) xs p) → cond b (Some at) (position_from test (at + 1) xs) ≡ Some p → Passes test at (x ∷ xs) p
    go true passes rest f = let here : at ≡ p = same_Some at p f in (zero, omega (arith, here), x, refl, passes)
    go false fails rest f = later (rest f)

-- what is known by this name is a table of the schema
abbrev IsDeclared : Schema → List ℕ → KnownTable → Type 0
IsDeclared schema name table = (d : declared.Table) × Contains schema.tables d × (d.name ≡ name) × (d.columns ≡ table.columns)

known_as : (schema : Schema) (name : List ℕ) (table : KnownTable) → table_of schema name ≡ Some table → IsDeclared schema name table
known_as schema name table e = go (table_place name schema) refl e
  where
    at : (p : ℕ) → Passes (λ (t : declared.Table). same_name t.name name) 0 schema.tables p → option_map known_table (slice_get schema.tables p) ≡ Some table
        → IsDeclared schema name table
    at p (k, is, d, there, passes) f =
        let same : p ≡ k = omega (arith, is) in
        let here : slice_get schema.tables p ≡ Some d = ap (slice_get schema.tables) same ∙ there in (
          d,
          (p, slice_get_within schema.tables p d here, get_or_from_slice_get schema.tables p d d here),
          (bytes_decides d.name name).0 passes,
          ap (λ (t : KnownTable). t.columns) (same_Some (known_table d) table (sym (ap (option_map known_table) here) ∙ f)),
        )

    go : (place : Option ℕ) → table_place name schema ≡ place → option_map known_table (table_at schema place) ≡ Some table → IsDeclared schema name table
    go None is f = absurd (none-some table f)
    go (Some p) is f = at p (first_passes (λ (t : declared.Table). same_name t.name name) 0 schema.tables p is) f

pub good-holds : (reading : CheckReading) (schema : Schema) (db : Database) → IsSchemaOf schema db → IsGood reading db → HoldsTypes (known schema) (rows_in db)
good-holds reading schema db of good name table e =
    let (d, among, called, columns) = known_as schema name table e in
    let (stored, is, declares) = of.tables d among in
    let here : get db name ≡ Some stored = ap (get db) (sym called) ∙ is in
    let same : stored.columns ≡ table.columns = sym declares.columns ∙ columns in
    subst (λ (o : Option Table). AreRows (column_types table.columns) (rows_of o)) (sym here)
    (subst (λ (cs : List Column). AreRows (column_types cs) stored.rows) same (rows-fit stored.columns stored.rows (good name stored here).alone.fitting))
