use Rattle.std.proofs.Common.{◌∙◌}
use Rattle.btree.proofs.PageLossLemmas.{no_page_lost_by_insertion}
use Rattle.index_trees.specs.Indexed.{HoldsNoIndexIn}
use Rattle.index_trees.proofs.EntryLemmas.{index_added}
use Rattle.index_trees.proofs.RefusalLemmas.{key_refused}
use Rattle.index_trees.proofs.entries.add_row.Goals as goal

pub returns-in_err-code-clause-refusal : goal.returns-in_err-code-clause-refusal
returns-in_err-code-clause-refusal g c = key_refused _ c.in_err-code.field-0.0 (g.S.PageSpace.at_limit c.args.space.now)
    (HoldsNoIndexIn (g.S.PageReader.pages c.args.space.now) c.args.root c.args.columns.now (g.S.PageReader.is_whole c.args.space.now)) _ _ c.args.columns.now c.args.row.now c.from_residual.ensures.1 c.in_err-code.ensures.refusal

pub returns-in-Ok-clause-added : goal.returns-in-Ok-clause-added
returns-in-Ok-clause-added g c = λ owned others rows held more.
    index_added _ _ _ _ owned c.args.columns.now _ others rows _ (c.as_slice.ensures ∙ c.in_ok-code.ensures.code) held more (c.in-Ok.ensures.inserts owned held.entries held.tree)

pub returns-in-Ok-clause-keeps : goal.returns-in-Ok-clause-keeps
returns-in-Ok-clause-keeps g c = no_page_lost_by_insertion _ _ _ _ _ _ c.in-Ok.ensures.inserts c.in-Ok.ensures.keeps
