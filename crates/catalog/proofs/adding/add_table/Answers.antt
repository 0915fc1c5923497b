use Rattle.std.proofs.Common.{refl}
use Rattle.catalog_records.specs.Records.{schema_records}
use Rattle.catalog.specs.Held.{entries_of}
use Rattle.catalog.proofs.PutLemmas.{schema_added}
use Rattle.btree.specs.Overfull.{IsNoTreeIn}
use Rattle.catalog.specs.Changed.{HoldsNoSchemaIn}
use Rattle.catalog.proofs.RefusalLemmas.{refused_so}
use Rattle.catalog.proofs.adding.add_table.Goals as goal

pub returns-clause-added : goal.returns-clause-added
returns-clause-added g c = λ owned tables held good free own.
    schema_added c.put_table.result _ _ owned c.args.table.now tables _ _ refl held good free own
    c.put_table.ensures.coded (c.put_table.ensures.put owned (entries_of (schema_records tables)) held.tree)

pub returns-clause-refusal : goal.returns-clause-refusal
returns-clause-refusal g c =
    refused_so c.put_table.result (g.S.PageSpace.at_limit c.put_table.new.space)
    (IsNoTreeIn (g.S.PageReader.pages c.args.space.now) c.args.root (g.S.PageReader.is_whole c.args.space.now))
    (HoldsNoSchemaIn (g.S.PageReader.pages c.args.space.now) c.args.root (g.S.PageReader.is_whole c.args.space.now))
    _ _ (λ none owned tables held whole. none owned _ held.tree whole) c.put_table.ensures.refusal
