-- The parts of a CREATE TABLE as they are read, and the definitions.
use Rattle.std.proofs.Common.{◌≡◌, refl, sym, ap, ◌∙◌, ℕ, suc, ◌+◌, List, [], ◌∷◌, ◌++◌, append_assoc, map, length, true, false, Bool, Option, Ok, Err}
use Rattle.std.specs.Prelude.{filter, flat_map}
use Rattle.std.specs.List.{position_from, zip}
use Rattle.std.proofs.lemmas.List.{append-nil, length-map, map-append}
use Rattle.sqlval.specs.declared.schema.Column.{Column}
use Rattle.sqlval.specs.declared.schema.Constraint.{Constraint}
use Rattle.sqlval.specs.declared.schema.Rule.{Rule}
use Rattle.sqlval.specs.Schema.{same_name}
use Rattle.refusals.specs.declared.limit.Limit.TheVariants as limit
use Rattle.refusals.specs.declared.refusal.Refusal.{Refusal}
use Rattle.ast.specs.declared.statement.ColumnConstraint.{ColumnConstraint}
use Rattle.ast.specs.declared.statement.ColumnDefinition.{ColumnDefinition}
use Rattle.ast.specs.declared.statement.ColumnRule.{ColumnRule}
use Rattle.ast.specs.declared.statement.ColumnRule.TheVariants as column_rule
use Rattle.ast.specs.declared.statement.CreateTable.{CreateTable as Tree}
use Rattle.ast.specs.declared.statement.TableElement.{TableElement}
use Rattle.ast.specs.declared.statement.TableElement.TheVariants as element
use Rattle.ast.specs.declared.statement.TableRule.{TableRule}
use Rattle.ast.specs.declared.statement.TableRule.TheVariants as table_rule
use Rattle.typing.specs.declared.scope.Frame.{Frame}
use Rattle.typing.specs.Constraint.{Declared, Referencing, are_allowed, column_keys, column_rule_at, constraint_name, constraints_found, declared_from, defined_place, key_found, key_places, keys_from, named, names_from, one_primary_key, table_keys, table_rule_of}
use Rattle.typing.specs.CreateTable.{columns_found, column_found, create_found, defined_frame, definitions, own_table}
use Rattle.typing.specs.References.{reference_found}
use Rattle.typing.specs.Finding.{Finding, reasons_in, ◌>>=◌, also, each}
use Rattle.typing.specs.Known.{Known}
use Rattle.typing.specs.declared.known.KnownTable.{KnownTable}
use Rattle.typing.specs.Table.{as_found, at_most, distinct_found, is_new}
use Rattle.table_types.specs.declared.columns.Definition.{Definition}
use Rattle.table_types.specs.declared.headings.Heading.{Heading}
use Rattle.table_types.specs.ForeignKeys as foreign
use Rattle.table_types.specs.ForeignKeys.{element_keys, own_table_of, referencing_of}
use Rattle.table_types.specs.Tables as own
use Rattle.table_types.specs.Tables.{Counts, column_heading, column_of, columns_of, constraints_in, constraints_of, counts_found, defined, definition_of, frame_over, has_table, headings_from, key_of, made_table, named_by, names_allowed, names_found, names_of, offer_of, parts_from, place_of, rules_from, table_heading}

-- ---- columns

map-defined : {A : Type 0} (f : Definition → A) (ds : List ColumnDefinition) → map f (map definition_of ds) ≡ map (λ d. f (definition_of d)) ds
map-defined f [] = refl
map-defined f (d ∷ ds) = ap (λ rest. f (definition_of d) ∷ rest) (map-defined f ds)

columns-are : (ds : List ColumnDefinition) → columns_found ds ≡ columns_of (map definition_of ds)
columns-are ds = rw (length-map ds definition_of, map-defined (λ d. d.name) ds, map-defined column_of ds) refl

frame-is : (table : List ℕ) (ds : List ColumnDefinition) → defined_frame table ds ≡ frame_over table (map definition_of ds)
frame-is table ds = rw (map-defined (offer_of table) ds) refl

-- ---- rules

position-defined : (test : Definition → Bool) (at : ℕ) (ds : List ColumnDefinition) → position_from test at (map definition_of ds) ≡ position_from (λ d. test (definition_of d)) at ds
position-defined test at [] = refl
position-defined test at (d ∷ ds) = rw (position-defined test (at + 1) ds) refl

place-is : (ds : List ColumnDefinition) (name : List ℕ) → defined_place ds name ≡ place_of (map definition_of ds) name
place-is ds name = sym (position-defined (λ d. same_name d.name name) 0 ds)

key-is : (ds : List ColumnDefinition) (names : List (List ℕ)) → key_places ds names ≡ key_of (map definition_of ds) names
key-is ds names = λ i. also (also (at_most 4 limit.KeyColumns (length names)) (distinct_found names)) (each (map (λ name. as_found (place-is ds name i)) names)) >>= (λ p. Ok p.1)

column-rule-is : (frame : Frame) (referencing : Referencing) (place : ℕ) (name : Option (List ℕ)) (r : ColumnRule) → (column_rule_at frame referencing place name r).rule ≡ own.column_rule_of frame referencing place r
column-rule-is frame referencing place name column_rule.NotNull = refl
column-rule-is frame referencing place name column_rule.PrimaryKey = refl
column-rule-is frame referencing place name column_rule.Unique = refl
column-rule-is frame referencing place name (column_rule.Check condition) = refl
column-rule-is frame referencing place name (column_rule.References x) = refl

table-rule-is : (frame : Frame) (referencing : Referencing) (ds : List ColumnDefinition) (name : Option (List ℕ)) (r : TableRule) → (table_rule_of frame referencing ds name r).rule ≡ own.table_rule_of frame referencing (map definition_of ds) r
table-rule-is frame referencing ds name (table_rule.PrimaryKey names) = rw (key-is ds names) refl
table-rule-is frame referencing ds name (table_rule.Unique names) = rw (key-is ds names) refl
table-rule-is frame referencing ds name (table_rule.Check condition) = refl
table-rule-is frame referencing ds name (table_rule.ForeignKey x) = rw (key-is ds x.columns) refl

abbrev rule_of : Declared → Finding Rule
rule_of c = c.rule

column-rules-are : (frame : Frame) (referencing : Referencing) (place : ℕ) (cs : List ColumnConstraint) →
    map rule_of (map (λ c. column_rule_at frame referencing place c.name c.rule) cs) ≡ map (λ c. own.column_rule_of frame referencing place c.rule) cs
column-rules-are frame referencing place [] = refl
column-rules-are frame referencing place (c ∷ cs) = rw (column-rule-is frame referencing place c.name c.rule, column-rules-are frame referencing place cs) refl

rules-are : (frame : Frame) (referencing : Referencing) (ds : List ColumnDefinition) (place : ℕ) (elements : List TableElement) →
    map rule_of (declared_from frame referencing ds place elements) ≡ rules_from frame referencing (map definition_of ds) place elements
rules-are frame referencing ds place [] = refl
rules-are frame referencing ds place (element.Column d ∷ elements) =
    map-append rule_of (map (λ c. column_rule_at frame referencing place c.name c.rule) d.constraints) (declared_from frame referencing ds (place + 1) elements)
    ∙ rw (column-rules-are frame referencing place d.constraints, rules-are frame referencing ds (place + 1) elements) refl
rules-are frame referencing ds place (element.Constraint c ∷ elements) = rw (table-rule-is frame referencing ds c.name c.rule, rules-are frame referencing ds place elements) refl

-- ---- headings

abbrev heading_of : Declared → Heading
heading_of c = record { name = c.name; is_primary_key = c.is_primary_key; owns_index = c.owns_index }

column-heading-is : (frame : Frame) (referencing : Referencing) (place : ℕ) (name : Option (List ℕ)) (r : ColumnRule) → heading_of (column_rule_at frame referencing place name r) ≡ column_heading name r
column-heading-is frame referencing place name column_rule.NotNull = refl
column-heading-is frame referencing place name column_rule.PrimaryKey = refl
column-heading-is frame referencing place name column_rule.Unique = refl
column-heading-is frame referencing place name (column_rule.Check condition) = refl
column-heading-is frame referencing place name (column_rule.References x) = refl

table-heading-is : (frame : Frame) (referencing : Referencing) (ds : List ColumnDefinition) (name : Option (List ℕ)) (r : TableRule) → heading_of (table_rule_of frame referencing ds name r) ≡ table_heading name r
table-heading-is frame referencing ds name (table_rule.PrimaryKey names) = refl
table-heading-is frame referencing ds name (table_rule.Unique names) = refl
table-heading-is frame referencing ds name (table_rule.Check condition) = refl
table-heading-is frame referencing ds name (table_rule.ForeignKey x) = refl

column-headings-are : (frame : Frame) (referencing : Referencing) (place : ℕ) (cs : List ColumnConstraint) →
    map heading_of (map (λ c. column_rule_at frame referencing place c.name c.rule) cs) ≡ map (λ c. column_heading c.name c.rule) cs
column-headings-are frame referencing place [] = refl
column-headings-are frame referencing place (c ∷ cs) = rw (column-heading-is frame referencing place c.name c.rule, column-headings-are frame referencing place cs) refl

headings-are : (frame : Frame) (referencing : Referencing) (ds : List ColumnDefinition) (place : ℕ) (elements : List TableElement) →
    map heading_of (declared_from frame referencing ds place elements) ≡ headings_from elements
headings-are frame referencing ds place [] = refl
headings-are frame referencing ds place (element.Column d ∷ elements) =
    map-append heading_of (map (λ c. column_rule_at frame referencing place c.name c.rule) d.constraints) (declared_from frame referencing ds (place + 1) elements)
    ∙ rw (column-headings-are frame referencing place d.constraints, headings-are frame referencing ds (place + 1) elements) refl
headings-are frame referencing ds place (element.Constraint c ∷ elements) = rw (table-heading-is frame referencing ds c.name c.rule, headings-are frame referencing ds place elements) refl

names-are : (number : ℕ) (cs : List Declared) → names_from number cs ≡ names_of number (map heading_of cs)
names-are number [] = refl
names-are number (c ∷ cs) = ap (λ rest. constraint_name number c.name ∷ rest) (names-are (number + 1) cs)

-- how many of these have a mark
count-of : (cs : List Declared) (mark : Heading → Bool) → length (filter (λ c. mark (heading_of c)) cs) ≡ length (filter mark (map heading_of cs))
count-of [] mark = refl
count-of (c ∷ cs) mark = go (count-of cs mark) (mark (heading_of c)) refl
  where
    go : length (filter (λ d. mark (heading_of d)) cs) ≡ length (filter mark (map heading_of cs)) → (b : Bool) → mark (heading_of c) ≡ b →
        length (filter (λ d. mark (heading_of d)) (c ∷ cs)) ≡ length (filter mark (map heading_of (c ∷ cs)))
    go others true e = rw e (ap suc others)
    go others false e = rw e others

-- ---- all constraints

reasons-also : {A B : Type 0} (x : Finding A) (y : Finding B) → reasons_in (also x y) ≡ reasons_in x ++ reasons_in y
reasons-also (Ok a) (Ok b) = refl
reasons-also (Ok a) (Err reasons) = refl
reasons-also (Err reasons) y = refl

reasons-then : {A B : Type 0} (x : Finding A) (made : A → B) → reasons_in (x >>= (λ a. Ok (made a))) ≡ reasons_in x
reasons-then (Ok a) made = refl
reasons-then (Err reasons) made = refl

named-by-is : (names : List (List ℕ)) (rules : List Rule) → map named (zip names rules) ≡ named_by names rules
named-by-is [] [] = refl
named-by-is [] (r ∷ rules) = named-by-is [] rules
named-by-is (name ∷ names) [] = refl
named-by-is (name ∷ names) (r ∷ rules) = ap (λ rest. named (name, r) ∷ rest) (named-by-is names rules)

named-are : (names : List (List ℕ)) (a b : Finding (Unit {0})) (w : Finding (Unit {0} × Unit {0})) (rules : Finding (List Rule)) →
    (also {A = Unit {0}} (also (also a b) w >>= (λ p. Ok tt)) rules >>= (λ p. Ok (map named (zip names p.1))))
    ≡ constraints_of (also (also a (names_allowed names (also b w)) >>= (λ p. Ok p.1)) rules)
named-are names (Ok a) (Ok b) (Ok w) (Ok rules) = ap Ok (named-by-is names rules)
named-are names (Ok a) (Ok b) (Ok w) (Err r) = refl
named-are names (Ok a) (Ok b) (Err p) rules = refl
named-are names (Ok a) (Err n) w rules = refl
named-are names (Err m) b w rules =
    ap (λ front. Err (front ++ reasons_in rules))
    (append_assoc m (reasons_in b) (reasons_in w) ∙ ap (λ rest. m ++ rest) (sym (reasons-then (also b w) (λ p. names) ∙ reasons-also b w)))

module _ (cs : List Declared) where
  abbrev hs : List Heading
  hs = map heading_of cs

  allowed-are : are_allowed cs ≡ (also (also (at_most 32 limit.Constraints (length hs)) (distinct_found (names_of 1 hs)))
      (also (at_most 8 limit.Indexes (length (filter (λ h. h.owns_index) hs))) (own.one_primary_key hs)) >>= (λ p. Ok tt))
  allowed-are = rw (names-are 1 cs, count-of cs (λ h. h.owns_index), count-of cs (λ h. h.is_primary_key), length-map cs heading_of) refl

  constraints-are : constraints_found cs ≡ constraints_of (also (names_found hs) (each (map rule_of cs)))
  constraints-are =
      rw (allowed-are, names-are 1 cs)
      (named-are (names_of 1 hs) (at_most 32 limit.Constraints (length hs)) (distinct_found (names_of 1 hs))
      (also (at_most 8 limit.Indexes (length (filter (λ h. h.owns_index) hs))) (own.one_primary_key hs)) (each (map rule_of cs)))

-- ---- the whole

defined-are : (elements : List TableElement) → defined elements ≡ map definition_of (definitions elements)
defined-are [] = refl
defined-are (element.Column d ∷ elements) = ap (λ rest. definition_of d ∷ rest) (defined-are elements)
defined-are (element.Constraint c ∷ elements) = defined-are elements

-- ---- the keys of the table that is being made

table-keys-are : (ds : List ColumnDefinition) (r : TableRule) → table_keys ds r ≡ foreign.table_keys (map definition_of ds) r
table-keys-are ds (table_rule.PrimaryKey names) = ap (λ places. key_found true places ∷ []) (key-is ds names)
table-keys-are ds (table_rule.Unique names) = ap (λ places. key_found false places ∷ []) (key-is ds names)
table-keys-are ds (table_rule.Check condition) = refl
table-keys-are ds (table_rule.ForeignKey x) = refl

keys-are : (ds : List ColumnDefinition) (place : ℕ) (elements : List TableElement) → keys_from ds place elements ≡ parts_from (element_keys (map definition_of ds)) place elements
keys-are ds place [] = refl
keys-are ds place (element.Column d ∷ elements) = ap (λ rest. flat_map (λ c. column_keys place c.rule) d.constraints ++ rest) (keys-are ds (place + 1) elements)
keys-are ds place (element.Constraint c ∷ elements) =
    rw (table-keys-are ds c.rule, keys-are ds place elements) refl

own-is : (ds : List ColumnDefinition) (elements : List TableElement) → own_table ds elements ≡ own_table_of (map definition_of ds) elements
own-is ds elements = rw (columns-are ds, keys-are ds 0 elements) refl

module _ (k : Known) (tree : Tree) where
  abbrev ds : List ColumnDefinition
  ds = definitions tree.elements

  abbrev referencing : Referencing
  referencing = reference_found k tree.table (own_table ds tree.elements)

  abbrev declared : List Declared
  declared = declared_from (defined_frame tree.table ds) referencing ds 0 tree.elements

  referencing-is : referencing ≡ referencing_of k tree (defined tree.elements)
  referencing-is = ap (reference_found k tree.table) (own-is ds tree.elements ∙ ap (λ all. own_table_of all tree.elements) (sym (defined-are tree.elements)))

  all-constraints : constraints_found declared ≡ constraints_in referencing tree
  all-constraints =
      constraints-are declared
      ∙ rw (headings-are (defined_frame tree.table ds) referencing ds 0 tree.elements, rules-are (defined_frame tree.table ds) referencing ds 0 tree.elements, frame-is tree.table ds, ← defined-are tree.elements) refl

  pub create-is : create_found k tree
      ≡ made_table tree.table (also (is_new (has_table k tree.table)) (also (columns_of (defined tree.elements)) (constraints_in (referencing_of k tree (defined tree.elements)) tree)))
  create-is = rw (all-constraints, referencing-is, columns-are ds, ← defined-are tree.elements) refl
