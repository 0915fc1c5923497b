use Rattle.std.proofs.Common.{ℕ, List, sym, ap, ◌∙◌}
use Rattle.sqlval.specs.Schema.{table_place}
use Rattle.stored_tables.proofs.PlacedLemmas.{found_there, none_found}
use Rattle.stored_tables.proofs.naming.taken_out.Goals as goal

pub returns-in-Some : goal.returns-in-Some
returns-in-Some c = c.taken_at.ensures ∙ found_there c.args.name.now c.args.schema.tables c.in-Some.at (ap (λ (n : List ℕ). table_place n c.args.schema) (sym c.as_slice.ensures.codes) ∙ sym c.in-Some.ensures)

pub returns-in-None : goal.returns-in-None
returns-in-None c = none_found c.args.name.now c.args.schema.tables (ap (λ (n : List ℕ). table_place n c.args.schema) (sym c.as_slice.ensures.codes) ∙ sym c.in-None.ensures)
