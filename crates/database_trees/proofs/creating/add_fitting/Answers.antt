use Rattle.std.proofs.Common.{arith}
use Rattle.catalog.specs.Changed.{HoldsNoSchemaIn}
use Rattle.database_trees.proofs.RefusalLemmas.{change_refused_by, schema_reaches}
use Rattle.database_trees.proofs.creating.add_fitting.Goals as goal

pub returns-in-Err-clause-limits : goal.returns-in-Err-clause-limits
returns-in-Err-clause-limits g c = schema_reaches c.in-Err.error c.of_change.result ⊥ ⊥ ⊥ c.of_change.ensures

pub returns-in-Err-clause-refusal : goal.returns-in-Err-clause-refusal
returns-in-Err-clause-refusal g c =
    change_refused_by c.in-Err.error c.of_change.result (g.S.PageSpace.at_limit c.add_table.new.space) (HoldsNoSchemaIn (g.S.PageReader.pages c.args.space.now) c.args.root (g.S.PageReader.is_whole c.args.space.now)) (HoldsNoSchemaIn (g.S.PageReader.pages c.args.space.now) c.args.root (g.S.PageReader.is_whole c.args.space.now)) (g.S.PageReader.refused c.args.space.now) (g.S.PageReader.refused c.args.space.now) (g.S.PageReader.refused c.add_table.new.space) c.of_change.ensures
    (λ none. none) (omega arith) c.in-Err.ensures.refusal
