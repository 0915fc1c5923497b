use Rattle.std.proofs.Common.{subst}
use Rattle.std.proofs.lemmas.Result.{IfOk-weaker}
use Rattle.store.specs.View.{table_named}
use Rattle.foreign_keys.specs.declared.sources.Source.{Source}
use Rattle.foreign_keys.specs.Sources.{IsSource}
use Rattle.foreign_keys.proofs.sources.is_in.Goals as goal

pub returns-in-Index-clause-found : goal.returns-in-Index-clause-found
returns-in-Index-clause-found g c = IfOk-weaker c.is_in_index.result _ _
    (λ found h sound source.
    h c.args.from.now c.args.to.now sound
    (subst (λ (s : Source). IsSource (table_named (g.R.Reading.shows c.args.reading.now) c.args.name.now) c.args.from.now c.args.to.now s) c.in-Index.is source))
    c.is_in_index.ensures.found
