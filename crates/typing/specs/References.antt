-- Foreign keys of a CREATE TABLE (ISO/IEC 9075:1992, 11.8): the columns that they reference. A
-- table may reference itself, by the keys that its own text declares, wherever they stand in it.
use Rattle.std.specs.Prelude.{ℕ, Bool, true, false, ◌&&◌, nat_eq, List, [], ◌∷◌, length, slice_get, Option, Some, None, Ok, if◌then◌else◌}
use Rattle.std.specs.List.{list_any, list_all}
use Rattle.sqlval.specs.declared.schema.Column.{Column}
use Rattle.sqlval.specs.declared.schema.Rule.{Rule}
use Rattle.sqlval.specs.declared.schema.Rule.TheVariants as rule
use Rattle.sqlval.specs.declared.value.ValueType.{ValueType}
use Rattle.sqlval.specs.declared.value.ValueType.TheVariants as type
use Rattle.sqlval.specs.Schema.{same_name}
use Rattle.refusals.specs.declared.reason.Reason.TheVariants as reason
use Rattle.ast.specs.declared.statement.References.{References}
use Rattle.typing.specs.declared.known.Meant.{Meant}
use Rattle.typing.specs.Finding.{Finding, ◌>>=◌, also, invalid}
use Rattle.typing.specs.Known.{Known, KnownTable, KnownKey}
use Rattle.typing.specs.Table.{distinct_found, places_named, table_found, type_in}

-- the table that is referenced: the one that is being made, or one that is there
abbrev pub referenced_table : Known → List ℕ → Finding KnownTable → List ℕ → Finding KnownTable
referenced_table known own_name own name = if same_name name own_name then own else table_found known name

-- ---- the columns that are referenced

-- the columns of the PRIMARY KEY, in its order
abbrev pub primary_columns : List KnownKey → Finding (List ℕ)
primary_columns [] = invalid reason.Reference
primary_columns (key ∷ keys) = if key.is_primary then Ok key.columns else primary_columns keys

-- whether two lists of places, none of them twice in either, have the same places in any order
abbrev pub are_same_places : List ℕ → List ℕ → Bool
are_same_places one other = nat_eq (length one) (length other) && list_all (λ place. list_any (nat_eq place) other) one

-- all columns of one PRIMARY KEY or UNIQUE, in any order
abbrev pub key_listed : List KnownKey → List ℕ → Finding (Unit {0})
key_listed keys places = if list_any (λ key. are_same_places key.columns places) keys then Ok tt else invalid reason.Reference

-- the columns listed, no column twice; without a list the PRIMARY KEY
abbrev pub columns_referenced : KnownTable → List (List ℕ) → Finding (List ℕ)
columns_referenced table [] = primary_columns table.keys
columns_referenced table (name ∷ names) =
    also (distinct_found (name ∷ names)) (places_named table.columns (name ∷ names)) >>= (λ p. Ok p.1)

abbrev pub meant_by : Finding KnownTable → List (List ℕ) → Finding Meant
meant_by found names = found >>= (λ table. columns_referenced table names >>= (λ places. Ok (record { table = table; columns = places })))

-- ---- what they are beside the columns of the foreign key

abbrev pub is_same_type : ValueType → ValueType → Bool
is_same_type type.Integer type.Integer = true
is_same_type type.Integer type.Text = false
is_same_type type.Text type.Integer = false
is_same_type type.Text type.Text = true

abbrev pub is_same_column : Option Column → Option Column → Bool
is_same_column None other = true
is_same_column (Some one) None = true
is_same_column (Some one) (Some other) = is_same_type (type_in one.column_type) (type_in other.column_type)

-- integers reference integers and texts texts, whatever the lengths: our own choice
abbrev pub type_matches : List Column → List Column → ℕ → ℕ → Finding (Unit {0})
type_matches columns others one other = if is_same_column (slice_get columns one) (slice_get others other) then Ok tt else invalid reason.DataType

-- each of these columns beside the one that it references
abbrev pub types_match : List Column → List Column → List ℕ → List ℕ → Finding (Unit {0})
types_match columns others [] referenced = Ok tt
types_match columns others (one ∷ places) [] = Ok tt
types_match columns others (one ∷ places) (other ∷ referenced) =
    also (type_matches columns others one other) (types_match columns others places referenced) >>= (λ p. Ok tt)

abbrev pub count_matches : List ℕ → List ℕ → Finding (Unit {0})
count_matches places others = if nat_eq (length places) (length others) then Ok tt else invalid reason.Columns

-- a key, as many columns as there are own ones, each of the type of its own one
abbrev pub matched : List Column → List ℕ → KnownTable → List ℕ → Finding (Unit {0})
matched columns places table others =
    also (key_listed table.keys others) (also (count_matches places others) (types_match columns table.columns places others)) >>= (λ p. Ok tt)

-- ---- a foreign key

-- The foreign key of these columns of the table that is being made, of which this is its own name.
-- Nothing is said of it where its own columns, the columns or the keys of the table are wrong.
abbrev pub reference_found : Known → List ℕ → Finding KnownTable → Finding (List ℕ) → References → Finding Rule
reference_found known own_name own places references =
    also (also own places) (meant_by (referenced_table known own_name own references.table) references.columns) >>= (λ p.
    matched ((p.0).0).columns (p.0).1 (p.1).table (p.1).columns >>= (λ u.
    Ok (rule.ForeignKey (record { columns = (p.0).1; table = references.table; referenced = (p.1).columns }))))
