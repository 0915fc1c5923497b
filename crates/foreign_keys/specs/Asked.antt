-- The foreign keys of a schema that rows of one table may violate: its own, and those that
-- reference it (ISO/IEC 9075:1992, 11.8).
use Rattle.std.specs.Prelude.{◌≡◌, ℕ, Bool, ◌||◌, if◌then◌else◌, List, map, flat_map, Option, Some, None, All, Contains, IfSome}
use Rattle.std.specs.List.{filter_map}
use Rattle.sqlval.specs.declared.schema.Constraint.{Constraint}
use Rattle.sqlval.specs.declared.schema.Reference.{Reference}
use Rattle.sqlval.specs.declared.schema.Rule.{Rule}
use Rattle.sqlval.specs.declared.schema.Rule.TheVariants.{NotNull, PrimaryKey, Unique, Check, ForeignKey}
use Rattle.sqlval.specs.declared.schema.Schema.{Schema}
use Rattle.sqlval.specs.declared.schema.Table.{Table}
use Rattle.sqlval.specs.Schema.{same_name}
use Rattle.denote.specs.Database.{Name}
use Rattle.foreign_keys.specs.declared.asked.Asked.{Asked}
use Rattle.foreign_keys.specs.declared.ways.Way.{Way}
use Rattle.foreign_keys.specs.Pairs.{IsWay}

-- a foreign key: its name, the table whose rows reference, and what they reference
pub record Question : Type 0 where
  pub constraint : Name
  pub table : Name
  pub reference : Reference

abbrev pub question_of : Asked → Question
question_of asked = record { constraint = asked.constraint; table = asked.table; reference = asked.reference }

-- whether the foreign key of a table has the table of this name at one of its ends
abbrev pub is_at_end : Name → Name → Reference → Bool
is_at_end name table reference = same_name table name || same_name reference.table name

abbrev pub question_at : Name → Name → Name → Rule → Option Question
question_at name table constraint (NotNull column) = None
question_at name table constraint (PrimaryKey columns) = None
question_at name table constraint (Unique columns) = None
question_at name table constraint (Check text) = None
question_at name table constraint (ForeignKey reference) =
    if is_at_end name table reference then Some (record { constraint = constraint; table = table; reference = reference }) else None

abbrev pub questions_of : Name → Name → List Constraint → List Question
questions_of name table constraints = filter_map (λ c. question_at name table c.name c.rule) constraints

-- in the order of the tables and of their constraints
abbrev pub questions_in : Schema → Name → List Question
questions_in schema name = flat_map (λ table. questions_of name table.name table.constraints) schema.tables

-- an index of the table of this name finds its rows that have at some columns the key of others
abbrev pub LeadsIn : Schema → Name → List ℕ → List ℕ → Way → Type 0
LeadsIn schema name from to way = (table : Table) × Contains schema.tables table × (table.name ≡ name)
    × IsWay table.indexes from to way

-- the indexes by which its rows are looked up are those of the schema
pub record HasWays (schema : Schema) (asked : Asked) : Type 0 where
  pub matches : IfSome asked.matches (LeadsIn schema asked.reference.table asked.reference.columns asked.reference.referenced)
  pub again : IfSome asked.again (LeadsIn schema asked.reference.table asked.reference.referenced asked.reference.referenced)
  pub referencing : IfSome asked.referencing (LeadsIn schema asked.table asked.reference.referenced asked.reference.columns)

pub record AreAsked (schema : Schema) (name : Name) (asked : List Asked) : Type 0 where
  pub questions : map question_of asked ≡ questions_in schema name
  pub ways : All (HasWays schema) asked
