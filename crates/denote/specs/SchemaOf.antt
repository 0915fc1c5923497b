-- The schema of a database: what statements are typed against says of each table what the database
-- has (ISO/IEC 9075:1992, 11.3; where trees begin is our own choice and does not matter).
use Rattle.std.specs.Prelude.{◌≡◌, map, Contains, Some}
use Rattle.std.specs.FinMap.{get, keys}
use Rattle.sqlval.specs.declared.schema.Index.{Index}
use Rattle.sqlval.specs.declared.schema.Schema.{Schema}
use Rattle.sqlval.specs.declared.schema.Table as declared
use Rattle.denote.specs.Bag.{Permutes}
use Rattle.denote.specs.Database.{Table, Database, IndexDeclaration}

abbrev pub index_of : Index → IndexDeclaration
index_of index = record { name = index.name; columns = index.columns }

-- a table of a schema declares what a table of a database has
pub record Declares (declaration : declared.Table) (table : Table) : Type 0 where
  pub columns : declaration.columns ≡ table.columns
  pub constraints : declaration.constraints ≡ table.constraints
  pub indexes : map index_of declaration.indexes ≡ table.indexes

-- The schema has the tables of the database, in any order. Where their trees begin does not matter.
pub record IsSchemaOf (schema : Schema) (db : Database) : Type 0 where
  pub names : Permutes (map (λ table. table.name) schema.tables) (keys db)
  pub tables : (declaration : declared.Table) → Contains schema.tables declaration
      → (table : Table) × (get db declaration.name ≡ Some table) × Declares declaration table
