-- The columns, headings and rules of a CREATE TABLE, from the parts that are read of it.
use Rattle.std.specs.Prelude.{ℕ, ◌+◌, Bool, true, false, nat_le, not, is_none, List, [], ◌∷◌, ◌++◌, map, flat_map, filter, length, Option, Some, None, Ok, if◌then◌else◌}
use Rattle.std.specs.List.{position_from}
use Rattle.sqlval.specs.declared.schema.Column.{Column}
use Rattle.sqlval.specs.declared.schema.Constraint.{Constraint}
use Rattle.sqlval.specs.declared.schema.Rule.{Rule}
use Rattle.sqlval.specs.declared.schema.Rule.TheVariants as rule
use Rattle.sqlval.specs.Schema.{same_name}
use Rattle.refusals.specs.declared.limit.Limit.TheVariants as limit
use Rattle.refusals.specs.declared.reason.Reason.TheVariants.{Duplicate}
use Rattle.ast.specs.declared.statement.ColumnDefinition.{ColumnDefinition}
use Rattle.ast.specs.declared.statement.ColumnRule.{ColumnRule}
use Rattle.ast.specs.declared.statement.ColumnRule.TheVariants as column_rule
use Rattle.ast.specs.declared.statement.CreateTable.{CreateTable as CreateTableTree}
use Rattle.ast.specs.declared.statement.TableElement.{TableElement}
use Rattle.ast.specs.declared.statement.TableElement.TheVariants as element
use Rattle.ast.specs.declared.statement.TableRule.{TableRule}
use Rattle.ast.specs.declared.statement.TableRule.TheVariants as table_rule
use Rattle.ast.specs.declared.tree.Condition.{Condition as Tree}
use Rattle.typing.specs.declared.typed.Condition.{Condition}
use Rattle.typing.specs.declared.scope.Frame.{Frame}
use Rattle.typing.specs.declared.scope.Offer.{Offer}
use Rattle.typing.specs.declared.statement.CreateTable.{CreateTable}
use Rattle.typing.specs.Check.{check_rule}
use Rattle.typing.specs.Constraint.{Referencing, constraint_name, named}
use Rattle.typing.specs.CreateTable.{type_found, written_type}
use Rattle.typing.specs.Finding.{Finding, ◌>>=◌, also, each, invalid}
use Rattle.typing.specs.Known.{Known}
use Rattle.typing.specs.Table.{as_found, at_most, distinct_found}
use Rattle.type_rules.specs.Findings.{second_of}
use Rattle.table_types.specs.declared.columns.Definition.{Definition}
use Rattle.table_types.specs.declared.headings.Heading.{Heading}

abbrev pub made_table : List ℕ → Finding (Unit {0} × (List Column × List Constraint)) → Finding CreateTable
made_table name found = found >>= (λ p. Ok (record { name = name; columns = (p.1).0; constraints = (p.1).1 }))

-- whether a table has this name
abbrev pub has_table : Known → List ℕ → Bool
has_table known name = not (is_none (known.table name))

-- ---- columns

abbrev pub definition_of : ColumnDefinition → Definition
definition_of d = record { name = d.column; type_name = d.type_name }

abbrev pub element_definitions : TableElement → List Definition
element_definitions (element.Column d) = definition_of d ∷ []
element_definitions (element.Constraint c) = []

abbrev pub defined : List TableElement → List Definition
defined elements = flat_map element_definitions elements

abbrev pub column_of : Definition → Finding Column
column_of d = type_found d.type_name >>= (λ column_type. Ok (record { name = d.name; column_type = column_type }))

abbrev pub columns_of : List Definition → Finding (List Column)
columns_of ds = second_of (also (also (at_most 32 limit.Columns (length ds)) (distinct_found (map (λ d. d.name) ds))) (each (map column_of ds)))

abbrev pub offer_of : List ℕ → Definition → Offer
offer_of table d = record { table = table; name = Some d.name; value_type = written_type d.type_name }

abbrev pub frame_over : List ℕ → List Definition → Frame
frame_over table ds = record { tables = table ∷ []; columns = map (offer_of table) ds; key = None }

-- ---- rules

abbrev pub place_of : List Definition → List ℕ → Option ℕ
place_of ds name = position_from (λ d. same_name d.name name) 0 ds

abbrev pub key_of : List Definition → List (List ℕ) → Finding (List ℕ)
key_of ds names = second_of (also (also (at_most 4 limit.KeyColumns (length names)) (distinct_found names)) (each (map (λ name. as_found (place_of ds name)) names)))

abbrev pub column_rule_of : Frame → Referencing → ℕ → ColumnRule → Finding Rule
column_rule_of frame referencing place column_rule.NotNull = Ok (rule.NotNull place)
column_rule_of frame referencing place column_rule.PrimaryKey = Ok (rule.PrimaryKey (place ∷ []))
column_rule_of frame referencing place column_rule.Unique = Ok (rule.Unique (place ∷ []))
column_rule_of frame referencing place (column_rule.Check condition) = check_rule frame condition
column_rule_of frame referencing place (column_rule.References x) = referencing (Ok (place ∷ [])) x

abbrev pub primary_key_of : Finding (List ℕ) → Finding Rule
primary_key_of key = key >>= (λ places. Ok (rule.PrimaryKey places))

abbrev pub unique_of : Finding (List ℕ) → Finding Rule
unique_of key = key >>= (λ places. Ok (rule.Unique places))

abbrev pub table_rule_of : Frame → Referencing → List Definition → TableRule → Finding Rule
table_rule_of frame referencing ds (table_rule.PrimaryKey names) = primary_key_of (key_of ds names)
table_rule_of frame referencing ds (table_rule.Unique names) = unique_of (key_of ds names)
table_rule_of frame referencing ds (table_rule.Check condition) = check_rule frame condition
table_rule_of frame referencing ds (table_rule.ForeignKey x) = referencing (key_of ds x.columns) x.references

-- alone in a list
abbrev pub alone_of : Finding Rule → Finding (List Rule)
alone_of found = found >>= (λ x. Ok (x ∷ []))

-- of an element, the next column from which on has this place
abbrev pub element_rules : Frame → Referencing → List Definition → ℕ → TableElement → List (Finding Rule)
element_rules frame referencing ds place (element.Column d) = map (λ c. column_rule_of frame referencing place c.rule) d.constraints
element_rules frame referencing ds place (element.Constraint c) = table_rule_of frame referencing ds c.rule ∷ []

-- the place of the column after an element
abbrev pub next_place : ℕ → TableElement → ℕ
next_place place (element.Column d) = place + 1
next_place place (element.Constraint c) = place

-- what each of these elements has, one after the other; the first column has this place
abbrev pub parts_from : {A : Type 0} → (ℕ → TableElement → List A) → ℕ → List TableElement → List A
parts_from part place [] = []
parts_from part place (e ∷ elements) = part place e ++ parts_from part (next_place place e) elements

abbrev pub rules_from : Frame → Referencing → List Definition → ℕ → List TableElement → List (Finding Rule)
rules_from frame referencing ds place elements = parts_from (element_rules frame referencing ds) place elements

-- the text of a CHECK, and what its condition is found to be
abbrev pub kept : List ℕ → Finding (Unit {0} × Condition) → Finding Rule
kept text found = found >>= (λ p. Ok (rule.Check text))

-- ---- headings: what is known of a constraint before its rule is looked at

abbrev pub headed : Option (List ℕ) → Bool → Bool → Heading
headed name is_primary_key owns_index = record { name = name; is_primary_key = is_primary_key; owns_index = owns_index }

abbrev pub column_heading : Option (List ℕ) → ColumnRule → Heading
column_heading name column_rule.NotNull = headed name false false
column_heading name column_rule.PrimaryKey = headed name true true
column_heading name column_rule.Unique = headed name false true
column_heading name (column_rule.Check condition) = headed name false false
column_heading name (column_rule.References x) = headed name false false

abbrev pub table_heading : Option (List ℕ) → TableRule → Heading
table_heading name (table_rule.PrimaryKey names) = headed name true true
table_heading name (table_rule.Unique names) = headed name false true
table_heading name (table_rule.Check condition) = headed name false false
table_heading name (table_rule.ForeignKey x) = headed name false false

abbrev pub element_headings : TableElement → List Heading
element_headings (element.Column d) = map (λ c. column_heading c.name c.rule) d.constraints
element_headings (element.Constraint c) = table_heading c.name c.rule ∷ []

abbrev pub headings_from : List TableElement → List Heading
headings_from elements = flat_map element_headings elements

abbrev pub names_of : ℕ → List Heading → List (List ℕ)
names_of number [] = []
names_of number (h ∷ headings) = constraint_name number h.name ∷ names_of (number + 1) headings

abbrev pub one_at_most : ℕ → Finding (Unit {0})
one_at_most count = if nat_le count 1 then Ok tt else invalid Duplicate

abbrev pub one_primary_key : List Heading → Finding (Unit {0})
one_primary_key headings = one_at_most (length (filter (λ h. h.is_primary_key) headings))

-- that names are distinct, and how many constraints own an index or are a PRIMARY KEY
abbrev pub Counts : Type 0
Counts = Unit {0} × (Unit {0} × Unit {0})

abbrev pub counts_found : List Heading → Finding Counts
counts_found headings =
    also (distinct_found (names_of 1 headings)) (also (at_most 8 limit.Indexes (length (filter (λ h. h.owns_index) headings))) (one_primary_key headings))

abbrev pub names_allowed : List (List ℕ) → Finding Counts → Finding (List (List ℕ))
names_allowed names found = found >>= (λ p. Ok names)

abbrev pub names_found : List Heading → Finding (List (List ℕ))
names_found headings =
    also (at_most 32 limit.Constraints (length headings)) (names_allowed (names_of 1 headings) (counts_found headings)) >>= (λ p. Ok p.1)

-- the rules with their names, in order
abbrev pub named_by : List (List ℕ) → List Rule → List Constraint
named_by names [] = []
named_by [] (r ∷ rules) = named_by [] rules
named_by (name ∷ names) (r ∷ rules) = named (name, r) ∷ named_by names rules

abbrev pub constraints_of : Finding (List (List ℕ) × List Rule) → Finding (List Constraint)
constraints_of found = found >>= (λ p. Ok (named_by p.0 p.1))

-- the constraints of a CREATE TABLE, where foreign keys are found so
abbrev pub constraints_in : Referencing → CreateTableTree → Finding (List Constraint)
constraints_in referencing tree =
    let ds = defined tree.elements in
    constraints_of (also (names_found (headings_from tree.elements)) (each (rules_from (frame_over tree.table ds) referencing ds 0 tree.elements)))
