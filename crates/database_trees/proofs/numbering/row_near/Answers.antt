use Rattle.std.proofs.Common.{◌∙◌, ap}
use Rattle.store.specs.View.{entry_of}
use Rattle.tablestore.specs.Held.{Fits}
use Rattle.database_trees.proofs.NumberLemmas.{row_is_found, some_among}
use Rattle.database_trees.proofs.numbering.row_near.Goals as goal

pub returns-in-Ok-clause-found : goal.returns-in-Ok-clause-found
returns-in-Ok-clause-found g c = λ owned rows h. c.if_numbered.ensures.is ∙ row_is_found (g.R.PageReader.pages c.args.space.now) c.args.root owned rows c.args.number _ c.one_before.result c.one_before.ensures h.holds (c.in-Ok.ensures.found owned rows h)

pub returns-in-Ok-clause-typed : goal.returns-in-Ok-clause-typed
returns-in-Ok-clause-typed g c =
    some_among c.in-Ok.found c.if_numbered.result (λ row. Fits c.args.columns.now (entry_of row)) c.in-Ok.ensures.typed c.if_numbered.ensures.same
