use Rattle.btree.specs.Overfull.{IsNoTreeIn}
use Rattle.btree.proofs.PageLossLemmas.{no_page_lost_by_insertion}
use Rattle.tablestore.proofs.RefusalLemmas.{code_refused}
use Rattle.tablestore.proofs.changing.put_row.Goals as goal

pub returns-in_err-code-clause-refusal : goal.returns-in_err-code-clause-refusal
returns-in_err-code-clause-refusal g c = code_refused _ c.in_err-code.field-0.0 (g.S.PageSpace.at_limit c.args.space.now)
    (IsNoTreeIn (g.S.PageReader.pages c.args.space.now) c.args.root (g.S.PageReader.is_whole c.args.space.now)) _ _ c.args.row.now c.from_residual.ensures.1 c.in_err-code.ensures.refusal

pub returns-in-Ok-clause-keeps : goal.returns-in-Ok-clause-keeps
returns-in-Ok-clause-keeps g c = no_page_lost_by_insertion _ _ _ _ _ _ c.in-Ok.ensures.inserts c.in-Ok.ensures.keeps
