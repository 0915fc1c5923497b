use Rattle.std.proofs.Common.{sym, ap, ◌∙◌, subst, Some}
use Rattle.btree_remove.specs.declared.outcome.Removed.TheVariants.{Done}
use Rattle.btree.proofs.RefusalLemmas.{change_harm_on}
use Rattle.btree_remove.specs.Removed.{IsSmallOutcome}
use Rattle.btree_remove.proofs.SettleLemmas.{settles_as, cannot_as, absent_settled, kept_settled, small_split, split_settled, split_refused}
use Rattle.btree_remove.proofs.settling.settle.Goals as goal

pub exchange_branches-requires-clause-small : goal.exchange_branches-requires-clause-small
exchange_branches-requires-clause-small g c = small_split _ c.in-Done-Some.branch (c.in-Done-Some.is ∙ ap Done c.in-Done-Some.field-0-is) c.requires.small

pub returns-in-Absent-clause-settles : goal.returns-in-Absent-clause-settles
returns-in-Absent-clause-settles g c = absent_settled _ _ _ _ _ c.requires.inner c.in-Absent.is

pub returns-in-Done-None-clause-settles : goal.returns-in-Done-None-clause-settles
returns-in-Done-None-clause-settles g c = kept_settled _ _ _ _ _ c.requires.inner (c.in-Done-None.is ∙ ap Done c.in-Done-None.field-0-is)

pub returns-in-Done-Some-clause-settles : goal.returns-in-Done-Some-clause-settles
returns-in-Done-Some-clause-settles g c =
    settles_as _ _ _ _ _ _ _ c.exchange_branches.result (c.in-Done-Some.is ∙ ap Done c.in-Done-Some.field-0-is) (split_settled _ _ _ _ _ (Some c.in-Done-Some.branch) c.exchange_branches.result c.requires.inner c.exchange_branches.ensures.written)

pub returns-in-Done-Some-clause-refusal : goal.returns-in-Done-Some-clause-refusal
returns-in-Done-Some-clause-refusal g c =
    change_harm_on c.exchange_branches.result (g.S.PageSpace.at_limit c.exchange_branches.new.space) _ _ (g.S.PageReader.refused c.args.space.now) (g.S.PageReader.refused c.exchange_branches.new.space)
    (λ h. cannot_as _ _ _ _ _ _ (g.S.PageReader.is_whole c.args.space.now) (c.in-Done-Some.is ∙ ap Done c.in-Done-Some.field-0-is)
    (split_refused _ _ _ _ (Some c.in-Done-Some.branch) (g.S.PageReader.is_whole c.args.space.now) c.requires.inner h)) c.exchange_branches.ensures.refusal

pub returns-in-Emptied-clause-settles : goal.returns-in-Emptied-clause-settles
returns-in-Emptied-clause-settles g c = settles_as _ _ _ _ _ _ _ c.join_emptied.result c.in-Emptied.is c.join_emptied.ensures.settles

pub returns-in-Emptied-clause-refusal : goal.returns-in-Emptied-clause-refusal
returns-in-Emptied-clause-refusal g c =
    change_harm_on c.join_emptied.result (g.S.PageSpace.at_limit c.join_emptied.new.space) _ _ (g.S.PageReader.refused c.args.space.now) (g.S.PageReader.refused c.join_emptied.new.space)
    (cannot_as _ _ _ _ _ _ (g.S.PageReader.is_whole c.args.space.now) c.in-Emptied.is) c.join_emptied.ensures.refusal

pub returns-in-Lone-clause-settles : goal.returns-in-Lone-clause-settles
returns-in-Lone-clause-settles g c = settles_as _ _ _ _ _ _ _ c.join_lone.result c.in-Lone.is c.join_lone.ensures.settles

pub returns-in-Lone-clause-refusal : goal.returns-in-Lone-clause-refusal
returns-in-Lone-clause-refusal g c =
    change_harm_on c.join_lone.result (g.S.PageSpace.at_limit c.join_lone.new.space) _ _ (g.S.PageReader.refused c.args.space.now) (g.S.PageReader.refused c.join_lone.new.space)
    (cannot_as _ _ _ _ _ _ (g.S.PageReader.is_whole c.args.space.now) c.in-Lone.is) c.join_lone.ensures.refusal
