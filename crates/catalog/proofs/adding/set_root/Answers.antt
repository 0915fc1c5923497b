use Rattle.catalog_records.specs.Records.{schema_records}
use Rattle.std.proofs.Common.{◌++◌, ◌∷◌}
use Rattle.catalog.specs.Held.{entries_of}
use Rattle.catalog.proofs.RootLemmas.{root_written}
use Rattle.btree.specs.Overfull.{IsNoTreeIn}
use Rattle.catalog.specs.Changed.{HoldsNoSchemaIn}
use Rattle.catalog.proofs.RefusalLemmas.{record_refused, refused_so}
use Rattle.catalog.proofs.adding.set_root.Goals as goal

pub returns-clause-set : goal.returns-clause-set
returns-clause-set g c = λ owned before behind table held named.
    root_written c.put_record.result _ _ owned before behind table _ c.args.rows _ _ c.ranges.rows.fits named c.in_ok-r.ensures.made held
    c.put_record.ensures.coded (c.put_record.ensures.put owned (entries_of (schema_records (before ++ table ∷ behind))) held.tree)

pub returns-clause-refusal : goal.returns-clause-refusal
returns-clause-refusal g c =
    refused_so c.put_record.result (g.S.PageSpace.at_limit c.put_record.new.space)
    (IsNoTreeIn (g.S.PageReader.pages c.args.space.now) c.args.root (g.S.PageReader.is_whole c.args.space.now))
    (HoldsNoSchemaIn (g.S.PageReader.pages c.args.space.now) c.args.root (g.S.PageReader.is_whole c.args.space.now))
    _ _ (λ none owned tables held whole. none owned _ held.tree whole) c.put_record.ensures.refusal

pub returns-in_err-r-clause-refusal : goal.returns-in_err-r-clause-refusal
returns-in_err-r-clause-refusal g c = record_refused _ c.in_err-r.field-0.0 (g.S.PageSpace.at_limit c.args.space.now)
    (HoldsNoSchemaIn (g.S.PageReader.pages c.args.space.now) c.args.root (g.S.PageReader.is_whole c.args.space.now)) _ _ c.from_residual.ensures.1 c.in_err-r.ensures.refusal
