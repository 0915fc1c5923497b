-- The constraints of a CREATE TABLE (ISO/IEC 9075:1992, 11.4, 11.6 to 11.9), in the order of the
-- text, those of columns among them.
use Rattle.std.specs.Prelude.{ℕ, ◌+◌, Bool, true, false, nat_le, List, [], ◌∷◌, ◌++◌, map, filter, flat_map, length, Option, Some, None, Ok, if◌then◌else◌}
use Rattle.std.specs.List.{position_from, zip}
use Rattle.std.specs.Fmt.{decimal}
use Rattle.sqlval.specs.declared.schema.Constraint.{Constraint}
use Rattle.sqlval.specs.declared.schema.Rule.{Rule}
use Rattle.sqlval.specs.declared.schema.Rule.TheVariants as rule
use Rattle.sqlval.specs.Schema.{same_name}
use Rattle.refusals.specs.declared.limit.Limit.TheVariants as limit
use Rattle.refusals.specs.declared.reason.Reason.TheVariants.{Duplicate}
use Rattle.ast.specs.declared.statement.ColumnDefinition.{ColumnDefinition}
use Rattle.ast.specs.declared.statement.ColumnRule.{ColumnRule}
use Rattle.ast.specs.declared.statement.ColumnRule.TheVariants as column_rule
use Rattle.ast.specs.declared.statement.References.{References}
use Rattle.ast.specs.declared.statement.TableElement.{TableElement}
use Rattle.ast.specs.declared.statement.TableElement.TheVariants as element
use Rattle.ast.specs.declared.statement.TableRule.{TableRule}
use Rattle.ast.specs.declared.statement.TableRule.TheVariants as table_rule
use Rattle.typing.specs.declared.scope.Frame.{Frame}
use Rattle.typing.specs.Finding.{Finding, ◌>>=◌, also, each, invalid}
use Rattle.typing.specs.Table.{at_most, as_found, distinct_found}
use Rattle.typing.specs.Check.{check_rule}
use Rattle.typing.specs.Known.{KnownKey}

-- a constraint as it is written: its name, whether it is a PRIMARY KEY, whether it owns an index,
-- and what its rule is found to be
pub record Declared : Type 0 where
  pub name : Option (List ℕ)
  pub is_primary_key : Bool
  pub owns_index : Bool
  pub rule : Finding Rule

abbrev pub plain : Option (List ℕ) → Finding Rule → Declared
plain name r = record { name = name; is_primary_key = false; owns_index = false; rule = r }

abbrev pub primary_key : Option (List ℕ) → Finding (List ℕ) → Declared
primary_key name key = record { name = name; is_primary_key = true; owns_index = true; rule = key >>= (λ places. Ok (rule.PrimaryKey places)) }

abbrev pub unique : Option (List ℕ) → Finding (List ℕ) → Declared
unique name key = record { name = name; is_primary_key = false; owns_index = true; rule = key >>= (λ places. Ok (rule.Unique places)) }

-- ---- what each is

-- what a foreign key of these columns is found to be
abbrev pub Referencing : Type 0
Referencing = Finding (List ℕ) → References → Finding Rule

-- a constraint of the column at this place
abbrev pub column_rule_at : Frame → Referencing → ℕ → Option (List ℕ) → ColumnRule → Declared
column_rule_at frame referencing place name column_rule.NotNull = plain name (Ok (rule.NotNull place))
column_rule_at frame referencing place name column_rule.PrimaryKey = primary_key name (Ok (place ∷ []))
column_rule_at frame referencing place name column_rule.Unique = unique name (Ok (place ∷ []))
column_rule_at frame referencing place name (column_rule.Check condition) = plain name (check_rule frame condition)
column_rule_at frame referencing place name (column_rule.References x) = plain name (referencing (Ok (place ∷ [])) x)

-- the place of a column that is defined
abbrev pub defined_place : List ColumnDefinition → List ℕ → Option ℕ
defined_place definitions name = position_from (λ definition. same_name definition.column name) 0 definitions

-- at most 4 columns of the table, our own choice, and no column twice
abbrev pub key_places : List ColumnDefinition → List (List ℕ) → Finding (List ℕ)
key_places definitions names =
    also (also (at_most 4 limit.KeyColumns (length names)) (distinct_found names)) (each (map (λ name. as_found (defined_place definitions name)) names)) >>= (λ p. Ok p.1)

abbrev pub table_rule_of : Frame → Referencing → List ColumnDefinition → Option (List ℕ) → TableRule → Declared
table_rule_of frame referencing definitions name (table_rule.PrimaryKey names) = primary_key name (key_places definitions names)
table_rule_of frame referencing definitions name (table_rule.Unique names) = unique name (key_places definitions names)
table_rule_of frame referencing definitions name (table_rule.Check condition) = plain name (check_rule frame condition)
table_rule_of frame referencing definitions name (table_rule.ForeignKey x) = plain name (referencing (key_places definitions x.columns) x.references)

-- the constraints of these elements, the first column of which has this place
abbrev pub declared_from : Frame → Referencing → List ColumnDefinition → ℕ → List TableElement → List Declared
declared_from frame referencing definitions place [] = []
declared_from frame referencing definitions place (element.Column definition ∷ elements) =
    map (λ c. column_rule_at frame referencing place c.name c.rule) definition.constraints ++ declared_from frame referencing definitions (place + 1) elements
declared_from frame referencing definitions place (element.Constraint c ∷ elements) =
    table_rule_of frame referencing definitions c.name c.rule ∷ declared_from frame referencing definitions place elements

-- ---- its own keys, which its own foreign keys may reference

abbrev pub key_found : Bool → Finding (List ℕ) → Finding KnownKey
key_found is_primary places = places >>= (λ p. Ok (record { is_primary = is_primary; columns = p }))

abbrev pub column_keys : ℕ → ColumnRule → List (Finding KnownKey)
column_keys place column_rule.PrimaryKey = key_found true (Ok (place ∷ [])) ∷ []
column_keys place column_rule.Unique = key_found false (Ok (place ∷ [])) ∷ []
column_keys place _ = []

abbrev pub table_keys : List ColumnDefinition → TableRule → List (Finding KnownKey)
table_keys definitions (table_rule.PrimaryKey names) = key_found true (key_places definitions names) ∷ []
table_keys definitions (table_rule.Unique names) = key_found false (key_places definitions names) ∷ []
table_keys definitions _ = []

-- the keys of these elements, in the order of the text; the first column has this place
abbrev pub keys_from : List ColumnDefinition → ℕ → List TableElement → List (Finding KnownKey)
keys_from definitions place [] = []
keys_from definitions place (element.Column definition ∷ elements) =
    flat_map (λ c. column_keys place c.rule) definition.constraints ++ keys_from definitions (place + 1) elements
keys_from definitions place (element.Constraint c ∷ elements) = table_keys definitions c.rule ++ keys_from definitions place elements

-- ---- all of them

-- the name given, or `#n` for the n-th of all: our own choice
abbrev pub constraint_name : ℕ → Option (List ℕ) → List ℕ
constraint_name number (Some name) = name
constraint_name number None = 35 ∷ decimal number

abbrev pub names_from : ℕ → List Declared → List (List ℕ)
names_from number [] = []
names_from number (c ∷ others) = constraint_name number c.name ∷ names_from (number + 1) others

abbrev pub one_primary_key : List Declared → Finding (Unit {0})
one_primary_key declared = if nat_le (length (filter (λ c. c.is_primary_key) declared)) 1 then Ok tt else invalid Duplicate

-- at most 32 and at most 8 indexes, our own choice; no two of one name, and one PRIMARY KEY
abbrev pub are_allowed : List Declared → Finding (Unit {0})
are_allowed declared =
    also (also (at_most 32 limit.Constraints (length declared)) (distinct_found (names_from 1 declared)))
    (also (at_most 8 limit.Indexes (length (filter (λ c. c.owns_index) declared))) (one_primary_key declared)) >>= (λ p. Ok tt)

abbrev pub named : List ℕ × Rule → Constraint
named (name, r) = record { name = name; rule = r }

abbrev pub constraints_found : List Declared → Finding (List Constraint)
constraints_found declared = also (are_allowed declared) (each (map (λ c. c.rule) declared)) >>= (λ p. Ok (map named (zip (names_from 1 declared) p.1)))
