use Rattle.std.proofs.Common.{◌≡◌, ap, ◌∙◌}
use Rattle.std.proofs.lemmas.Result.{IfOk-weaker}
use Rattle.sqlval.specs.declared.schema.Schema.{Schema}
use Rattle.denote.specs.SchemaOf.{IsSchemaOf}
use Rattle.store.specs.Contents.{database_of}
use Rattle.catalog.specs.Held.{HoldsNoSchema}
use Rattle.stored_tables.specs.Held.{declared_of, HoldsNoTables, contents_of}
use Rattle.stored_tables.proofs.RefusalLemmas.{read_harm, memory_refused}
use Rattle.stored_tables.proofs.SchemaLemmas.{is_schema}
use Rattle.stored_tables.proofs.reading.read_schema.Goals as goal

pub returns-in-Ok-clause-found : goal.returns-in-Ok-clause-found
returns-in-Ok-clause-found g c = λ tables h.
    IfOk-weaker c.schema_copied.result (λ (s : Schema). s ≡ c.schema.result.now) (λ (s : Schema). IsSchemaOf s (database_of (contents_of tables)))
    (λ s e. is_schema (g.R.PageReader.pages c.args.space.now) c.args.root h.owned tables s h.schema
    (ap (λ (x : Schema). x.tables) (e ∙ c.schema.ensures) ∙ c.in-Ok.ensures.found h.owned (declared_of tables) h.schema)) c.schema_copied.ensures.found

pub returns-in-Ok-clause-refusal : goal.returns-in-Ok-clause-refusal
returns-in-Ok-clause-refusal g c = memory_refused c.schema_copied.result _ _ _ c.schema_copied.ensures.memory

pub returns-in-Err-clause-refusal : goal.returns-in-Err-clause-refusal
returns-in-Err-clause-refusal g c =
    read_harm c.in-Err.fault (HoldsNoSchema (g.R.PageReader.pages c.args.space.now) c.args.root) (HoldsNoTables (g.R.PageReader.pages c.args.space.now) c.args.root)
    (g.R.PageReader.refused c.args.space.now) (g.R.PageReader.refused c.read_known.new.space) (λ none tables h. none h.owned (declared_of tables) h.schema) c.in-Err.ensures.refusal
