use Rattle.std.proofs.Common.{arith, subst}
use Rattle.btree.specs.Overfull.{IsNoTreeIn}
use Rattle.btree.proofs.PageLossLemmas.{no_page_lost_on_by}
use Rattle.btree_read.specs.Tree.{IsTree}
use Rattle.catalog_records.specs.Records.{schema_records}
use Rattle.catalog.specs.Held.{entries_of}
use Rattle.catalog.proofs.RefusalLemmas.{refused_later}
use Rattle.catalog.specs.Left.{HoldsNoneWith}
use Rattle.catalog.proofs.LeftLemmas.{entries_with}
use Rattle.catalog.proofs.AlterLemmas.{altered, refused_behind}
use Rattle.catalog.proofs.altering.alter_table.Goals as goal

pub returns-in_err-top-clause-refusal : goal.returns-in_err-top-clause-refusal
returns-in_err-top-clause-refusal g c =
    refused_later _ c.in_err-top.field-0.0 (g.S.PageSpace.at_limit c.take_table.new.space)
    (IsNoTreeIn (g.S.PageReader.pages c.args.space.now) c.args.root (g.S.PageReader.is_whole c.args.space.now))
    (HoldsNoneWith (g.S.PageReader.pages c.args.space.now) c.args.root c.args.table.now (g.S.PageReader.is_whole c.args.space.now))
    (g.S.PageReader.refused c.args.space.now) (g.S.PageReader.refused c.args.space.now) (g.S.PageReader.refused c.take_table.new.space) (omega arith)
    (λ none owned before behind held whole. none owned _ held.tree whole) c.from_residual.ensures.1 c.in_err-top.ensures.refusal

pub returns-clause-altered : goal.returns-clause-altered
returns-clause-altered g c = λ owned before behind held same references good.
    altered c.put_table.result _ _ _ _ _ owned before behind c.args.table.now c.args.changed.now same references good held c.in_ok-top.ensures.taken c.put_table.ensures.coded c.put_table.ensures.put

pub returns-clause-refusal : goal.returns-clause-refusal
returns-clause-refusal g c =
    refused_behind c.put_table.result (g.S.PageSpace.at_limit c.put_table.new.space)
    (IsNoTreeIn (g.S.PageReader.pages c.take_table.new.space) c.in_ok-top.top (g.S.PageReader.is_whole c.take_table.new.space))
    (HoldsNoneWith (g.S.PageReader.pages c.args.space.now) c.args.root c.args.table.now (g.S.PageReader.is_whole c.args.space.now))
    (g.S.PageReader.refused c.args.space.now) (g.S.PageReader.refused c.take_table.new.space) (g.S.PageReader.refused c.put_table.new.space) c.in_ok-top.ensures.rising
    (λ none owned before behind held whole.
    let w = c.in_ok-top.ensures.taken owned (entries_of (schema_records before)) (entries_of (schema_records behind))
    (subst (IsTree (g.S.PageReader.pages c.args.space.now) c.args.root owned) (entries_with before behind c.args.table.now) held.tree) in
    none w.now_owned _ w.stored (c.in_ok-top.ensures.whole whole)) c.put_table.ensures.refusal

pub returns-clause-keeps : goal.returns-clause-keeps
returns-clause-keeps g c = no_page_lost_on_by c.put_table.result _ _ _ _ _ c.in_ok-top.ensures.keeps c.put_table.ensures.keeps
