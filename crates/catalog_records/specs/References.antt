-- What foreign keys reference, among the tables of a schema. That a file is read only where it is
-- there is our own choice.
use Rattle.std.specs.Prelude.{◌≡◌, ℕ, Bool, true, false, not, ◌&&◌, nat_eq, nat_lt, List, ◌∷◌, length}
use Rattle.std.specs.List.{list_any, list_all}
use Rattle.sqlval.specs.declared.schema.Constraint.{Constraint}
use Rattle.sqlval.specs.declared.schema.Reference.{Reference}
use Rattle.sqlval.specs.declared.schema.Rule.{Rule}
use Rattle.sqlval.specs.declared.schema.Rule.TheVariants.{NotNull, PrimaryKey, Unique, Check, ForeignKey}
use Rattle.sqlval.specs.declared.schema.Table.{Table}
use Rattle.sqlval.specs.Schema.{same_name}

-- places of columns, where there are so many
abbrev pub are_within : ℕ → List ℕ → Bool
are_within count places = list_all (λ place. nat_lt place count) places

-- whether a table has the name and the columns that are referenced
abbrev pub is_meant_by : Reference → Table → Bool
is_meant_by reference table = same_name table.name reference.table && are_within (length table.columns) reference.referenced

-- whether one of these tables does, and as many columns are referenced as there are own ones
abbrev pub is_among : List Table → Reference → Bool
is_among tables reference = nat_eq (length reference.columns) (length reference.referenced) && list_any (is_meant_by reference) tables

abbrev pub is_rule_among : List Table → Rule → Bool
is_rule_among tables (NotNull column) = true
is_rule_among tables (PrimaryKey columns) = true
is_rule_among tables (Unique columns) = true
is_rule_among tables (Check text) = true
is_rule_among tables (ForeignKey reference) = is_among tables reference

abbrev pub are_rules_among : List Table → List Constraint → Bool
are_rules_among tables constraints = list_all (λ c. is_rule_among tables c.rule) constraints

-- whether what the foreign keys of some tables reference is among these
abbrev pub are_references_among : List Table → List Table → Bool
are_references_among tables referencing = list_all (λ table. are_rules_among tables table.constraints) referencing

-- what the foreign keys of these tables reference is among them
abbrev pub AreReferencesOver : List Table → Type 0
AreReferencesOver tables = are_references_among tables tables ≡ true

-- what the foreign keys of a table reference is among it and these
abbrev pub AreReferencesWith : Table → List Table → Type 0
AreReferencesWith table tables = are_rules_among (table ∷ tables) table.constraints ≡ true

-- whether a rule is a foreign key to the table of this name
abbrev pub is_reference_to : List ℕ → Rule → Bool
is_reference_to name (NotNull column) = false
is_reference_to name (PrimaryKey columns) = false
is_reference_to name (Unique columns) = false
is_reference_to name (Check text) = false
is_reference_to name (ForeignKey reference) = same_name reference.table name

abbrev pub references : List ℕ → List Constraint → Bool
references name constraints = list_any (λ c. is_reference_to name c.rule) constraints

-- whether a foreign key of a table of another name does
abbrev pub is_referenced : List ℕ → List Table → Bool
is_referenced name tables = list_any (λ table. not (same_name table.name name) && references name table.constraints) tables
