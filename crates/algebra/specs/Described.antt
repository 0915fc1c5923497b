-- What a schema knows of the table of a name, as a tree keeps it.
use Rattle.std.specs.Prelude.{ℕ, List, [], ◌∷◌, map, length, slice_get, Option, Some, None}
use Rattle.sqlval.specs.declared.schema.Schema.{Schema}
use Rattle.sqlval.specs.declared.schema.Table.{Table}
use Rattle.sqlval.specs.declared.schema.Constraint.{Constraint}
use Rattle.sqlval.specs.declared.schema.Rule.{Rule}
use Rattle.sqlval.specs.declared.schema.Rule.TheVariants.{NotNull, PrimaryKey, Unique, Check, ForeignKey}
use Rattle.sqlval.specs.Schema.{table_place}
use Rattle.algebra.specs.declared.tree.StoredTable.{StoredTable}

abbrev pub key_or : Rule → Option (List ℕ) → Option (List ℕ)
key_or (PrimaryKey columns) others = Some columns
key_or (NotNull column) others = others
key_or (Unique columns) others = others
key_or (Check text) others = others
key_or (ForeignKey reference) others = others

-- the columns of the first PRIMARY KEY among these constraints
abbrev pub primary_key : List Constraint → Option (List ℕ)
primary_key [] = None
primary_key (constraint ∷ constraints) = key_or constraint.rule (primary_key constraints)

-- the table at a place, if there is one
abbrev pub table_at : Schema → Option ℕ → Option Table
table_at schema None = None
table_at schema (Some place) = slice_get schema.tables place

-- of a name that no table has, nothing but the name
abbrev pub known_of : List ℕ → Option Table → StoredTable
known_of name None = record { name = name; width = 0; key = None; indexes = [] }
known_of name (Some table) =
    record { name = name; width = length table.columns; key = primary_key table.constraints; indexes = map (λ index. index.columns) table.indexes }

abbrev pub described_in : Schema → List ℕ → StoredTable
described_in schema name = known_of name (table_at schema (table_place name schema))
