-- What the rules of names and types make of a statement over a database (the Syntax Rules of
-- ISO/IEC 9075:1992). The rules themselves are those of the crate below; a step takes them as they
-- are.
use Rattle.std.specs.Prelude.{◌≡◌, List, Result, Ok, Err, Contains}
use Rattle.refusals.specs.declared.refusal.Refusal.{Refusal}
use Rattle.sqlval.specs.declared.schema.Schema.{Schema}
use Rattle.ast.specs.declared.statement.Statement.{Statement}
use Rattle.typing.specs.declared.statement.Typed.{Typed}
use Rattle.typing.specs.Check.{IsCheckReading}
use Rattle.typing.specs.Statement.{answered_found}
use Rattle.denote.specs.Database.{Database, CheckReading}
use Rattle.denote.specs.SchemaOf.{IsSchemaOf}

-- What a statement stands for over a schema, or the reasons that are found against it; and the
-- condition that a CHECK's text stands for.
pub record Rules : Type 0 where
  pub statement : Schema → Statement → Result Typed (List Refusal)
  pub check : CheckReading

-- These are the rules of names and types: a statement stands for what they find, and the text of a
-- CHECK for the condition that it is.
pub record AreRules (rules : Rules) : Type 0 where
  pub statements : (schema : Schema) (x : Statement) → rules.statement schema x ≡ answered_found x schema
  pub checks : IsCheckReading rules.check

-- these rules, with any reading of the texts of CHECKs
abbrev pub rules_of : CheckReading → Rules
rules_of check = record { statement = λ schema x. answered_found x schema; check = check }

-- ---- over a database

-- the statement stands for this
pub record Means (rules : Rules) (db : Database) (x : Statement) (typed : Typed) : Type 0 where
  pub schema : Schema
  pub of_database : IsSchemaOf schema db
  pub found : rules.statement schema x ≡ Ok typed

-- this is a reason against the statement
pub record IsReason (rules : Rules) (db : Database) (x : Statement) (refusal : Refusal) : Type 0 where
  pub schema : Schema
  pub of_database : IsSchemaOf schema db
  pub reasons : List Refusal
  pub found : rules.statement schema x ≡ Err reasons
  pub one : Contains reasons refusal
