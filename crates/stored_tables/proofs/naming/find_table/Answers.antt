use Rattle.std.proofs.Common.{◌≡◌, List, Option, ap, ◌∙◌}
use Rattle.std.proofs.lemmas.Result.{IfOk-weaker}
use Rattle.sqlval.specs.declared.schema.Schema.{Schema}
use Rattle.sqlval.specs.declared.schema.Table.{Table}
use Rattle.stored_tables.specs.Named.{table_named}
use Rattle.stored_tables.proofs.RefusalLemmas.{memory_refused}
use Rattle.stored_tables.proofs.naming.find_table.Goals as goal

pub returns-in-Ok-clause-found : goal.returns-in-Ok-clause-found
returns-in-Ok-clause-found g c = λ owned tables h.
    IfOk-weaker c.table_copied.result (λ (x : Option Table). x ≡ table_named c.args.name.now c.schema.result.now.tables) (λ (x : Option Table). x ≡ table_named c.args.name.now tables)
    (λ x e. e ∙ ap (table_named c.args.name.now) (ap (λ (s : Schema). s.tables) c.schema.ensures ∙ c.in-Ok.ensures.found owned tables h)) c.table_copied.ensures.found

pub returns-in-Ok-clause-refusal : goal.returns-in-Ok-clause-refusal
returns-in-Ok-clause-refusal g c = memory_refused c.table_copied.result _ _ _ c.table_copied.ensures.memory
