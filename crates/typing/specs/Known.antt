-- What the rules of names and types know of a schema: what its names mean. Pages, roots, the order
-- of tables and who owns an index are no part of it.
use Rattle.std.specs.Prelude.{ℕ, Bool, true, false, not, ◌&&◌, is_none, List, [], ◌∷◌, length, slice_get, Option, Some, None}
use Rattle.std.specs.List.{position_from, list_any, filter_map}
use Rattle.std.specs.Option.{option_map}
use Rattle.sqlval.specs.declared.schema.Schema.{Schema}
use Rattle.sqlval.specs.declared.schema.Table.{Table}
use Rattle.sqlval.specs.declared.schema.Column.{Column}
use Rattle.sqlval.specs.declared.schema.Constraint.{Constraint}
use Rattle.sqlval.specs.declared.schema.Rule.{Rule}
use Rattle.sqlval.specs.declared.schema.Rule.TheVariants as rule
use Rattle.sqlval.specs.Schema.{same_name, table_place, index_place}
pub use Rattle.typing.specs.declared.known.KnownKey.{KnownKey}
pub use Rattle.typing.specs.declared.known.KnownTable.{KnownTable}

-- the table of a name, whether an index has a name, and whether a foreign key of another table
-- references the table of a name
pub record Known : Type 0 where
  pub table : List ℕ → Option KnownTable
  pub has_index : List ℕ → Bool
  pub is_referenced : List ℕ → Bool

abbrev pub known_key : Rule → Option KnownKey
known_key (rule.NotNull column) = None
known_key (rule.PrimaryKey columns) = Some (record { is_primary = true; columns = columns })
known_key (rule.Unique columns) = Some (record { is_primary = false; columns = columns })
known_key (rule.Check text) = None
known_key (rule.ForeignKey reference) = None

abbrev pub known_table : Table → KnownTable
known_table table = record { columns = table.columns; keys = filter_map (λ c. known_key c.rule) table.constraints; indexes = length table.indexes }

abbrev pub table_at : Schema → Option ℕ → Option Table
table_at schema None = None
table_at schema (Some place) = slice_get schema.tables place

abbrev pub table_of : Schema → List ℕ → Option KnownTable
table_of schema name = option_map known_table (table_at schema (table_place name schema))

abbrev pub has_index : Schema → List ℕ → Bool
has_index schema name = not (is_none (index_place name schema))

-- whether a rule is a foreign key to the table of this name
abbrev pub is_reference_to : List ℕ → Rule → Bool
is_reference_to name (rule.NotNull column) = false
is_reference_to name (rule.PrimaryKey columns) = false
is_reference_to name (rule.Unique columns) = false
is_reference_to name (rule.Check text) = false
is_reference_to name (rule.ForeignKey reference) = same_name reference.table name

abbrev pub references : List ℕ → List Constraint → Bool
references name constraints = list_any (λ c. is_reference_to name c.rule) constraints

-- a table that references itself is no other table
abbrev pub is_referenced : Schema → List ℕ → Bool
is_referenced schema name = list_any (λ table. not (same_name table.name name) && references name table.constraints) schema.tables

abbrev pub known : Schema → Known
known schema = record { table = table_of schema; has_index = has_index schema; is_referenced = is_referenced schema }

-- nothing
abbrev pub nothing_known : Known
nothing_known = record { table = λ name. None; has_index = λ name. false; is_referenced = λ name. false }

-- the place of a column in its table
abbrev pub place_in : List Column → List ℕ → Option ℕ
place_in columns name = position_from (λ column. same_name column.name name) 0 columns
