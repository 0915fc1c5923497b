use Rattle.store.specs.View.{entry_of}
use Rattle.index_trees.specs.Indexed.{HoldsNoRowIn}
use Rattle.btree.proofs.PageLossLemmas.{no_page_lost}
use Rattle.database_trees.specs.Exchanged.{HasTaken}
use Rattle.database_trees.proofs.SmallLemmas.{held_is_short}
use Rattle.database_trees.proofs.IndexLemmas.{taken_none, with_taken}
use Rattle.database_trees.proofs.RefusalLemmas.{removal_refused, removal_reaches}
use Rattle.database_trees.proofs.exchange.take_row.Goals as goal

pub returns-in-None-clause-taken : goal.returns-in-None-clause-taken
returns-in-None-clause-taken g c = λ h. taken_none (g.S.PageReader.pages c.args.space.now) c.args.root c.args.columns.now c.args.taken.now c.in-None.is h

pub returns-in-Ok-clause-taken : goal.returns-in-Ok-clause-taken
returns-in-Ok-clause-taken g c = λ h. c.in-Ok.ensures.removed h.owned h.left h.held h.index (with_taken (g.S.PageReader.pages c.args.space.now) c.args.root c.args.columns.now c.args.taken.now c.in-Some.found c.in-Some.is h)

pub returns-in-Err-clause-limits : goal.returns-in-Err-clause-limits
returns-in-Err-clause-limits g c = removal_reaches c.in-Err.error c.of_removal.result c.of_removal.ensures

pub returns-in-Err-clause-refusal : goal.returns-in-Err-clause-refusal
returns-in-Err-clause-refusal g c =
    removal_refused c.in-Err.error c.of_removal.result (g.S.PageSpace.at_limit c.remove_row.new.space) (HoldsNoRowIn (g.S.PageReader.pages c.args.space.now) c.args.root c.args.columns.now (entry_of c.in-Some.found) (g.S.PageReader.is_whole c.args.space.now))
    (HasTaken (g.S.PageReader.pages c.args.space.now) c.args.root c.args.columns.now c.args.taken.now → g.S.PageReader.is_whole c.args.space.now → ⊥)
    (g.S.PageReader.refused c.args.space.now) (g.S.PageReader.refused c.remove_row.new.space) c.args.columns.now c.in-Some.found.row c.of_removal.ensures
    (λ none h whole. none h.owned h.left h.held h.index (with_taken (g.S.PageReader.pages c.args.space.now) c.args.root c.args.columns.now c.args.taken.now c.in-Some.found c.in-Some.is h) whole)
    (λ long h whole. held_is_short (g.S.PageReader.pages c.args.space.now) c.args.root h.owned c.args.columns.now h.held (entry_of c.in-Some.found) h.index
    (with_taken (g.S.PageReader.pages c.args.space.now) c.args.root c.args.columns.now c.args.taken.now c.in-Some.found c.in-Some.is h).there long) c.in-Err.ensures.refusal

pub returns-in-None-clause-keeps : goal.returns-in-None-clause-keeps
returns-in-None-clause-keeps g c = no_page_lost (g.S.PageReader.pages c.args.space.now) c.args.root
