use Rattle.std.proofs.Common.{sym, subst}
use Rattle.btree_read.specs.Tree.{IsTree}
use Rattle.btree.specs.Overfull.{IsNoTreeIn}
use Rattle.btree.proofs.PageLossLemmas.{no_page_lost_same, no_page_lost_behind}
use Rattle.tablestore.specs.Held.{entries_of}
use Rattle.tablestore.specs.Appended.{HoldsNoRowsIn}
use Rattle.tablestore.proofs.RowLemmas.{replaced_none, replaced_by, put_refused}
use Rattle.tablestore.proofs.changing.replace.Goals as goal

pub returns-in-Ok-Some-clause-replaced : goal.returns-in-Ok-Some-clause-replaced
returns-in-Ok-Some-clause-replaced g c = λ owned held h.
    replaced_by c.put_row.result _ _ _ _ c.args.number owned held c.args.row.now _ _ _ c.ranges.number.fits h c.to_be_bytes.ensures c.in-Ok-Some.field-0-is (c.in-Ok-Some.ensures.found owned (entries_of held) h.tree)
    c.get.ensures.same c.put_row.ensures.coded c.put_row.ensures.put

pub returns-in-Ok-None-clause-replaced : goal.returns-in-Ok-None-clause-replaced
returns-in-Ok-None-clause-replaced g c = λ owned held h.
    replaced_none _ _ _ _ owned held c.args.row.now _ _ c.ranges.number.fits h c.to_be_bytes.ensures c.in-Ok-None.field-0-is (c.in-Ok-None.ensures.found owned (entries_of held) h.tree) c.get.ensures.same

pub returns-in-Ok-Some-clause-refusal : goal.returns-in-Ok-Some-clause-refusal
returns-in-Ok-Some-clause-refusal g c =
    put_refused c.put_row.result (g.S.PageSpace.at_limit c.put_row.new.space) (IsNoTreeIn (g.S.PageReader.pages c.get.new.space) c.args.root (g.S.PageReader.is_whole c.get.new.space))
    (HoldsNoRowsIn (g.S.PageReader.pages c.args.space.now) c.args.root (g.S.PageReader.is_whole c.args.space.now)) (g.S.PageReader.refused c.args.space.now) (g.S.PageReader.refused c.get.new.space) (g.S.PageReader.refused c.put_row.new.space)
    c.args.row.now c.get.ensures.rising
    (λ none owned rows held whole. none owned _ (subst (λ p. IsTree p c.args.root owned (entries_of rows)) (sym c.get.ensures.same) held.tree) (c.get.ensures.whole whole)) c.put_row.ensures.refusal

pub returns-in-Ok-Some-clause-keeps : goal.returns-in-Ok-Some-clause-keeps
returns-in-Ok-Some-clause-keeps g c = no_page_lost_behind c.put_row.result _ _ _ _ c.get.ensures.same c.put_row.ensures.keeps

pub returns-in-Ok-None-clause-keeps : goal.returns-in-Ok-None-clause-keeps
returns-in-Ok-None-clause-keeps g c = no_page_lost_same _ _ _ c.get.ensures.same
