use Rattle.std.proofs.Common.{◌∙◌, ap}
use Rattle.sqlval.specs.Matching.{key_of}
use Rattle.store.specs.View.{table_named}
use Rattle.foreign_keys.proofs.Answering.{found-by-index}
use Rattle.foreign_keys.proofs.sources.is_in_index.Goals as goal

pub returns-in-Ok-seek-clause-found : goal.returns-in-Ok-seek-clause-found
returns-in-Ok-seek-clause-found g c = λ from to sound leads.
    found-by-index (table_named (g.R.Reading.shows c.args.reading.now) c.args.name.now) from to c.args.way.now c.args.row.now c.as_slice-2.result.now c.in-Ok-seek.found c.is_empty.result leads
    (c.as_slice-2.ensures ∙ c.in-Ok.ensures ∙ ap (λ cs. key_of cs c.args.row.now) c.as_slice.ensures) (c.in-Ok-seek.ensures.rows sound) c.is_empty.ensures
