-- What a CREATE TABLE leaves of a store.
use Rattle.std.proofs.Common.{◌≡◌, ◌∙◌, refl, sym, ap, false, map, None}
use Rattle.std.specs.List.{filter_map, list_any}
use Rattle.std.specs.FinMap.{get}
use Rattle.sqlval.specs.declared.schema.Schema.{Schema}
use Rattle.sqlval.specs.declared.schema.Table as declared
use Rattle.sqlval.specs.Schema.{same_name}
use Rattle.typing.specs.declared.statement.Change.TheVariants as does
use Rattle.typing.specs.declared.statement.CreateTable.{CreateTable}
use Rattle.denote.specs.Change.{owned_index}
use Rattle.denote.specs.Change.Changed.{Makes}
use Rattle.denote.specs.Database.{Name, Database, CheckReading}
use Rattle.denote.specs.SchemaOf.{IsSchemaOf, index_of}
use Rattle.replies.specs.declared.reply.Reply.TheVariants as says
use Rattle.store.specs.Contents.{database_of, with_table}
use Rattle.store.specs.Stored.{Stored, marked_now, working_on}
use Rattle.constraints.specs.Changed.{HasChanged}
use Rattle.constraints.proofs.Declared.{no_table}
use Rattle.constraints.proofs.Held.{none_held}
use Rattle.table_changes.proofs.Made.{created-database}

pub table_made : (reading : CheckReading) (old mid new : Stored) (t : declared.Table) (x : CreateTable) → mid ≡ marked_now old → new ≡ working_on mid (with_table mid.working t)
    → get old.working x.name ≡ None → t.name ≡ x.name → t.columns ≡ x.columns → t.constraints ≡ x.constraints
    → map index_of t.indexes ≡ filter_map (λ k. owned_index k.rule) x.constraints → HasChanged reading old (does.CreateTable x) says.Done new
table_made reading old mid new t x m e free name columns constraints indexes = record {
  contents = with_table old.working t;
  marked = old.working;
  count = None;
  makes = ap (λ (db : Database). Makes db None) (sym (created-database old.working t x free name columns constraints indexes));
  says_so = refl;
  leaves = e ∙ ap (λ (s : Stored). working_on s (with_table s.working t)) m;
}

-- the name is free
pub free : (old : Stored) (schema : Schema) (name : Name) → IsSchemaOf schema (database_of old.working) → list_any (λ (t : declared.Table). same_name t.name name) schema.tables ≡ false
    → get old.working name ≡ None
free old schema name h none = none_held old.working name (no_table schema (database_of old.working) name h none)
