use Rattle.std.proofs.Common.{IsSome, subst, ◌∙◌}
use Rattle.btree_read.specs.Sorted.{get_of}
use Rattle.index_trees.specs.Indexed.{HoldsNoRowIn}
use Rattle.index_trees.proofs.EntryLemmas.{index_removed, index_absent, entry_was, no_page_lost_by_removal}
use Rattle.index_trees.proofs.RefusalLemmas.{key_refused}
use Rattle.index_trees.proofs.entries.remove_row.Goals as goal

pub returns-in_err-code-clause-refusal : goal.returns-in_err-code-clause-refusal
returns-in_err-code-clause-refusal g c = key_refused _ c.in_err-code.field-0.0 (g.S.PageSpace.at_limit c.args.space.now)
    (HoldsNoRowIn (g.S.PageReader.pages c.args.space.now) c.args.root c.args.columns.now (c.args.number, c.args.row.now) (g.S.PageReader.is_whole c.args.space.now)) _ _ c.args.columns.now c.args.row.now c.from_residual.ensures.1 c.in_err-code.ensures.refusal

pub returns-in-Ok-Some-clause-removed : goal.returns-in-Ok-Some-clause-removed
returns-in-Ok-Some-clause-removed g c = λ owned others rows held more.
    index_removed _ _ _ _ owned c.args.columns.now _ others rows _ (c.as_slice.ensures ∙ c.in_ok-code.ensures.code) held more (rw c.in-Ok-Some.field-0-is at c.in-Ok-Some.ensures.removes owned held.entries held.tree)

pub returns-in-Ok-None-clause-refusal : goal.returns-in-Ok-None-clause-refusal
returns-in-Ok-None-clause-refusal g c = λ owned others rows held more whole.
    index_absent _ _ owned c.args.columns.now _ others rows _ (c.as_slice.ensures ∙ c.in_ok-code.ensures.code) held more (rw c.in-Ok-None.field-0-is at c.in-Ok-None.ensures.removes owned held.entries held.tree).0

pub returns-in-Ok-Some-clause-there : goal.returns-in-Ok-Some-clause-there
returns-in-Ok-Some-clause-there g c = λ owned entries tree.
    let key = c.as_slice.ensures ∙ c.in_ok-code.ensures.code in
    subst (λ k. IsSome (get_of k entries)) key (entry_was _ _ _ _ owned entries _ tree (rw c.in-Ok-Some.field-0-is at c.in-Ok-Some.ensures.removes owned entries tree))

pub returns-in-Ok-Some-clause-keeps : goal.returns-in-Ok-Some-clause-keeps
returns-in-Ok-Some-clause-keeps g c = no_page_lost_by_removal _ _ _ _ _ (λ owned entries t. rw c.in-Ok-Some.field-0-is at c.in-Ok-Some.ensures.removes owned entries t)
