use Rattle.std.proofs.Common.{refl}
use Rattle.btree.specs.Overfull.{IsNoTreeIn}
use Rattle.catalog.specs.Changed.{HoldsNoSchemaIn}
use Rattle.catalog.proofs.RefusalLemmas.{refused_so}
use Rattle.catalog.proofs.LeftLemmas.{schema_left}
use Rattle.catalog.proofs.AlterLemmas.{references_without}
use Rattle.catalog.proofs.removing.drop_table.Goals as goal

pub returns-clause-dropped : goal.returns-clause-dropped
returns-clause-dropped g c = λ owned before behind held free.
    schema_left c.take_table.result _ _ _ owned before behind c.args.table.now _ refl held
    (references_without (g.S.PageReader.pages c.args.space.now) c.args.root owned before behind c.args.table.now held free) c.take_table.ensures.taken

pub returns-clause-refusal : goal.returns-clause-refusal
returns-clause-refusal g c =
    refused_so c.take_table.result (g.S.PageSpace.at_limit c.take_table.new.space)
    (IsNoTreeIn (g.S.PageReader.pages c.args.space.now) c.args.root (g.S.PageReader.is_whole c.args.space.now))
    (HoldsNoSchemaIn (g.S.PageReader.pages c.args.space.now) c.args.root (g.S.PageReader.is_whole c.args.space.now))
    _ _ (λ none owned tables held whole. none owned _ held.tree whole) c.take_table.ensures.refusal
