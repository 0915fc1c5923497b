use Rattle.btree.specs.Overfull.{IsNoTreeIn}
use Rattle.btree.proofs.RefusalLemmas.{change_harm}
use Rattle.btree.proofs.PageLossLemmas.{no_page_lost_same}
use Rattle.tablestore.specs.Appended.{HoldsNoRowsIn}
use Rattle.tablestore.specs.Held.{entries_of}
use Rattle.tablestore.proofs.RowLemmas.{deleted_none, deleted_one, no_page_lost_by_removal}
use Rattle.tablestore.proofs.changing.delete.Goals as goal

pub returns-in-Ok-Some-clause-deleted : goal.returns-in-Ok-Some-clause-deleted
returns-in-Ok-Some-clause-deleted g c = λ owned held h.
    deleted_one _ _ _ _ _ owned held _ c.ranges.number.fits h c.to_be_bytes.ensures (rw c.in-Ok-Some.field-0-is at c.in-Ok-Some.ensures.removes owned (entries_of held) h.tree)

pub returns-in-Ok-None-clause-deleted : goal.returns-in-Ok-None-clause-deleted
returns-in-Ok-None-clause-deleted g c = λ owned held h.
    deleted_none _ _ _ _ owned held _ c.ranges.number.fits h c.to_be_bytes.ensures (rw c.in-Ok-None.field-0-is at c.in-Ok-None.ensures.removes owned (entries_of held) h.tree)

pub returns-in-Err-clause-refusal : goal.returns-in-Err-clause-refusal
returns-in-Err-clause-refusal g c =
    change_harm (g.S.PageSpace.at_limit c.remove.new.space) (IsNoTreeIn (g.S.PageReader.pages c.args.space.now) c.args.root (g.S.PageReader.is_whole c.args.space.now))
    (HoldsNoRowsIn (g.S.PageReader.pages c.args.space.now) c.args.root (g.S.PageReader.is_whole c.args.space.now)) (g.S.PageReader.refused c.args.space.now) (g.S.PageReader.refused c.remove.new.space) _
    (λ none owned rows held whole. none owned _ held.tree whole) c.in-Err.ensures.refusal

pub returns-in-Ok-Some-clause-keeps : goal.returns-in-Ok-Some-clause-keeps
returns-in-Ok-Some-clause-keeps g c = no_page_lost_by_removal _ _ _ _ _ (λ owned entries t. rw c.in-Ok-Some.field-0-is at c.in-Ok-Some.ensures.removes owned entries t)

pub returns-in-Ok-None-clause-keeps : goal.returns-in-Ok-None-clause-keeps
returns-in-Ok-None-clause-keeps g c = λ owned entries t. no_page_lost_same _ _ _ (rw c.in-Ok-None.field-0-is at c.in-Ok-None.ensures.removes owned entries t).1 owned entries t
