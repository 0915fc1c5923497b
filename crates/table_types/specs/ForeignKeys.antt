-- The keys that the text of a CREATE TABLE declares, and its foreign keys, from the parts that are
-- read of it.
use Rattle.std.specs.Prelude.{ℕ, Bool, true, false, List, [], ◌∷◌, flat_map, length, Ok}
use Rattle.sqlval.specs.declared.schema.Column.{Column}
use Rattle.sqlval.specs.declared.schema.Rule.{Rule}
use Rattle.sqlval.specs.declared.schema.Rule.TheVariants as rule
use Rattle.ast.specs.declared.statement.ColumnRule.{ColumnRule}
use Rattle.ast.specs.declared.statement.ColumnRule.TheVariants as column_rule
use Rattle.ast.specs.declared.statement.CreateTable.{CreateTable}
use Rattle.ast.specs.declared.statement.TableElement.{TableElement}
use Rattle.ast.specs.declared.statement.TableElement.TheVariants as element
use Rattle.ast.specs.declared.statement.TableRule.{TableRule}
use Rattle.ast.specs.declared.statement.TableRule.TheVariants as table_rule
use Rattle.typing.specs.declared.known.Meant.{Meant}
use Rattle.typing.specs.Constraint.{Referencing, column_keys, key_found}
use Rattle.typing.specs.Finding.{Finding, ◌>>=◌, also, each}
use Rattle.typing.specs.Known.{Known}
use Rattle.typing.specs.declared.known.KnownKey.{KnownKey}
use Rattle.typing.specs.declared.known.KnownTable.{KnownTable}
use Rattle.typing.specs.References.{matched, reference_found}
use Rattle.typing.specs.Table.{distinct_found, places_named}
use Rattle.table_types.specs.declared.columns.Definition.{Definition}
use Rattle.table_types.specs.Tables.{columns_of, key_of, parts_from}

-- ---- keys

abbrev pub made_key : Bool → List ℕ → KnownKey
made_key is_primary columns = record { is_primary = is_primary; columns = columns }

-- the key that a rule of the column at this place declares, if it declares one
abbrev pub column_key : ℕ → ColumnRule → List KnownKey
column_key place column_rule.NotNull = []
column_key place column_rule.PrimaryKey = made_key true (place ∷ []) ∷ []
column_key place column_rule.Unique = made_key false (place ∷ []) ∷ []
column_key place (column_rule.Check condition) = []
column_key place (column_rule.References x) = []

abbrev pub key_alone : Bool → Finding (List ℕ) → Finding (List KnownKey)
key_alone is_primary found = found >>= (λ places. Ok (made_key is_primary places ∷ []))

abbrev pub table_keys : List Definition → TableRule → List (Finding KnownKey)
table_keys ds (table_rule.PrimaryKey names) = key_found true (key_of ds names) ∷ []
table_keys ds (table_rule.Unique names) = key_found false (key_of ds names) ∷ []
table_keys ds (table_rule.Check condition) = []
table_keys ds (table_rule.ForeignKey x) = []

-- of an element, the next column from which on has this place
abbrev pub element_keys : List Definition → ℕ → TableElement → List (Finding KnownKey)
element_keys ds place (element.Column d) = flat_map (λ c. column_keys place c.rule) d.constraints
element_keys ds place (element.Constraint c) = table_keys ds c.rule

abbrev pub own_of : Finding (List Column × List KnownKey) → Finding KnownTable
own_of found = found >>= (λ p. Ok (record { columns = p.0; keys = p.1; indexes = length p.1 }))

-- the table that is being made
abbrev pub own_table_of : List Definition → List TableElement → Finding KnownTable
own_table_of ds elements = own_of (also (columns_of ds) (each (parts_from (element_keys ds) 0 elements)))

-- the key that a rule of a stored table is, if it is one
abbrev pub kept_key : Rule → List KnownKey
kept_key (rule.NotNull column) = []
kept_key (rule.PrimaryKey columns) = made_key true columns ∷ []
kept_key (rule.Unique columns) = made_key false columns ∷ []
kept_key (rule.Check text) = []
kept_key (rule.ForeignKey reference) = []

-- ---- foreign keys

abbrev pub referencing_of : Known → CreateTable → List Definition → Referencing
referencing_of known tree ds = reference_found known tree.table (own_table_of ds tree.elements)

abbrev pub listed_columns : List Column → List (List ℕ) → Finding (List ℕ)
listed_columns columns names = also (distinct_found names) (places_named columns names) >>= (λ p. Ok p.1)

abbrev pub meant_of : KnownTable → Finding (List ℕ) → Finding Meant
meant_of table found = found >>= (λ places. Ok (record { table = table; columns = places }))

abbrev pub done : Finding (Unit {0} × (Unit {0} × Unit {0})) → Finding (Unit {0})
done found = found >>= (λ p. Ok tt)

abbrev pub rule_made : List ℕ → List ℕ → List ℕ → Finding (Unit {0}) → Finding Rule
rule_made table columns referenced found = found >>= (λ u. Ok (rule.ForeignKey (record { columns = columns; table = table; referenced = referenced })))

abbrev pub foreign_key_of : List ℕ → Finding ((KnownTable × List ℕ) × Meant) → Finding Rule
foreign_key_of table found = found >>= (λ p. rule_made table (p.0).1 (p.1).columns (matched ((p.0).0).columns (p.0).1 (p.1).table (p.1).columns))
