use Rattle.std.proofs.Common.{◌≡◌, ℕ, List, Option, slice_get, sym, ap, ◌∙◌}
use Rattle.std.proofs.lemmas.Result.{IfOk-weaker}
use Rattle.sqlval.specs.Schema.{table_place}
use Rattle.sqlval.specs.declared.schema.Table.{Table}
use Rattle.stored_tables.specs.Named.{table_named}
use Rattle.stored_tables.proofs.PlacedLemmas.{found_there, none_found}
use Rattle.stored_tables.proofs.naming.table_copied.Goals as goal

pub returns-in-Some-clause-found : goal.returns-in-Some-clause-found
returns-in-Some-clause-found c =
    IfOk-weaker c.copied_at.result (λ (x : Option Table). x ≡ slice_get c.args.schema.now.tables c.in-Some.at) (λ (x : Option Table). x ≡ table_named c.args.name.now c.args.schema.now.tables)
    (λ x e. e ∙ found_there c.args.name.now c.args.schema.now.tables c.in-Some.at (ap (λ (n : List ℕ). table_place n c.args.schema.now) (sym c.as_slice.ensures.codes) ∙ sym c.in-Some.ensures)) c.copied_at.ensures.found

pub returns-in-None-clause-found : goal.returns-in-None-clause-found
returns-in-None-clause-found c = none_found c.args.name.now c.args.schema.now.tables (ap (λ (n : List ℕ). table_place n c.args.schema.now) (sym c.as_slice.ensures.codes) ∙ sym c.in-None.ensures)
