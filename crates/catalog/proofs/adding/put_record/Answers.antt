use Rattle.btree.specs.Overfull.{IsNoTreeIn}
use Rattle.btree.proofs.PageLossLemmas.{no_page_lost_by_insertion}
use Rattle.catalog.proofs.RefusalLemmas.{record_refused}
use Rattle.catalog.proofs.adding.put_record.Goals as goal

pub returns-in_err-key-clause-refusal : goal.returns-in_err-key-clause-refusal
returns-in_err-key-clause-refusal g c = record_refused _ c.in_err-key.field-0.0 (g.S.PageSpace.at_limit c.args.space.now) (IsNoTreeIn (g.S.PageReader.pages c.args.space.now) c.args.root (g.S.PageReader.is_whole c.args.space.now)) _ _ c.from_residual.ensures.1 c.in_err-key.ensures.refusal

pub returns-in_err-row-clause-refusal : goal.returns-in_err-row-clause-refusal
returns-in_err-row-clause-refusal g c = record_refused _ c.in_err-row.field-0.0 (g.S.PageSpace.at_limit c.args.space.now) (IsNoTreeIn (g.S.PageReader.pages c.args.space.now) c.args.root (g.S.PageReader.is_whole c.args.space.now)) _ _ c.from_residual-in_err-row.ensures.1 c.in_err-row.ensures.refusal

pub returns-in-Ok-clause-keeps : goal.returns-in-Ok-clause-keeps
returns-in-Ok-clause-keeps g c = no_page_lost_by_insertion _ _ _ _ _ _ c.in-Ok.ensures.inserts c.in-Ok.ensures.keeps
