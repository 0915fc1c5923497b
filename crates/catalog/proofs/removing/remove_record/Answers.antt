use Rattle.std.proofs.Common.{ap, ◌∙◌}
use Rattle.sqlrecord.specs.Key.{key_code}
use Rattle.btree.specs.Overfull.{IsNoTreeIn}
use Rattle.btree.proofs.PageLossLemmas.{no_page_lost_same}
use Rattle.catalog.proofs.RefusalLemmas.{record_refused}
use Rattle.catalog.proofs.LeftLemmas.{one_left, not_absent, tree_removed, same_tree, no_page_lost_by_removal}
use Rattle.catalog.proofs.removing.remove_record.Goals as goal

pub returns-in_err-key-clause-refusal : goal.returns-in_err-key-clause-refusal
returns-in_err-key-clause-refusal g c = record_refused _ c.in_err-key.field-0.0 (g.S.PageSpace.at_limit c.args.space.now) (IsNoTreeIn (g.S.PageReader.pages c.args.space.now) c.args.root (g.S.PageReader.is_whole c.args.space.now)) _ _ c.from_residual.ensures.1 c.in_err-key.ensures.refusal

pub returns-in-Ok-Some-clause-removed : goal.returns-in-Ok-Some-clause-removed
returns-in-Ok-Some-clause-removed g c = λ owned before behind value t.
    one_left _ _ _ _ owned _ _ value before behind (c.as_slice-2.ensures ∙ c.in_ok-key.ensures.code ∙ ap key_code c.as_slice.ensures) t (rw c.in-Ok-Some.field-0-is at c.in-Ok-Some.ensures.removes owned _ t)

pub returns-in-Ok-Some-clause-tree : goal.returns-in-Ok-Some-clause-tree
returns-in-Ok-Some-clause-tree g c = λ h. tree_removed _ _ _ _ _ _ (rw c.in-Ok-Some.field-0-is at c.in-Ok-Some.ensures.removes h.owned h.entries h.tree)

pub returns-in-Ok-None-clause-removed : goal.returns-in-Ok-None-clause-removed
returns-in-Ok-None-clause-removed g c = λ owned before behind value t.
    not_absent _ _ _ _ _ value before behind (c.as_slice-2.ensures ∙ c.in_ok-key.ensures.code ∙ ap key_code c.as_slice.ensures) t (rw c.in-Ok-None.field-0-is at c.in-Ok-None.ensures.removes owned _ t).0

pub returns-in-Ok-None-clause-tree : goal.returns-in-Ok-None-clause-tree
returns-in-Ok-None-clause-tree g c = λ h. same_tree _ _ _ (rw c.in-Ok-None.field-0-is at c.in-Ok-None.ensures.removes h.owned h.entries h.tree).1 h

pub returns-in-Ok-Some-clause-keeps : goal.returns-in-Ok-Some-clause-keeps
returns-in-Ok-Some-clause-keeps g c = no_page_lost_by_removal _ _ _ _ _ (λ owned entries t. rw c.in-Ok-Some.field-0-is at c.in-Ok-Some.ensures.removes owned entries t)

pub returns-in-Ok-None-clause-keeps : goal.returns-in-Ok-None-clause-keeps
returns-in-Ok-None-clause-keeps g c = λ owned entries t. no_page_lost_same _ _ _ (rw c.in-Ok-None.field-0-is at c.in-Ok-None.ensures.removes owned entries t).1 owned entries t
