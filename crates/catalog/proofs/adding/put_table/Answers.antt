use Rattle.std.proofs.Common.{◌∙◌, List, subst}
use Rattle.std.specs.Prelude.{IfOk, OnOk}
use Rattle.btree.specs.Overfull.{IsNoTreeIn}
use Rattle.btree.specs.Written.{IsWritten}
use Rattle.catalog_records.specs.declared.record.Record.{Record}
use Rattle.catalog.specs.Held.{AreCoded}
use Rattle.catalog.specs.Changed.{put_all}
use Rattle.catalog.proofs.RefusalLemmas.{record_refused}
use Rattle.catalog.proofs.adding.put_table.Goals as goal

pub returns-clause-put : goal.returns-clause-put
returns-clause-put g c = λ owned entries t.
    subst (λ (rs : List Record). IfOk c.put_records.result (IsWritten (g.S.PageReader.pages c.args.space.now) (g.S.PageReader.pages c.put_records.new.space) owned (put_all rs entries)))
    (c.as_slice.ensures ∙ c.in_ok-records.ensures.records) (c.put_records.ensures.put owned entries t)

pub returns-clause-coded : goal.returns-clause-coded
returns-clause-coded g c = subst (λ (rs : List Record). OnOk c.put_records.result (AreCoded rs)) (c.as_slice.ensures ∙ c.in_ok-records.ensures.records) c.put_records.ensures.coded

pub returns-in_err-records-clause-refusal : goal.returns-in_err-records-clause-refusal
returns-in_err-records-clause-refusal g c = record_refused _ c.in_err-records.field-0.0 (g.S.PageSpace.at_limit c.args.space.now)
    (IsNoTreeIn (g.S.PageReader.pages c.args.space.now) c.args.root (g.S.PageReader.is_whole c.args.space.now)) _ _ c.from_residual.ensures.1 c.in_err-records.ensures.refusal
