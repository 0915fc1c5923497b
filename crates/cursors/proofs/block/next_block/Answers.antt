use Rattle.std.proofs.Common.{◌∙◌, sym, subst, inl, inr}
use Rattle.std.proofs.lemmas.Result.{IfErr-weaker, IfOk-weaker}
use Rattle.session_definitions.specs.Refusals.{IsReserved}
use Rattle.transactions.specs.Refused.{TellsNoLimit}
use Rattle.cursors.specs.Opened.{entries_at}
use Rattle.cursors.proofs.Counts.{all_ok, goes_by_itself, no_disk}
use Rattle.cursors.proofs.block.next_block.Goals as goal

pub returns-then-is_whole-clause-rows : goal.returns-then-is_whole-clause-rows
returns-then-is_whole-clause-rows g c = IfOk-weaker c.kept_block.result _ _ (λ rows h sound can. h)
    (c.kept_block.ensures.rows (entries_at (g.R.Reading.shows c.args.reading.now).contents) c.args.plan.now (sym c.is_whole.ensures ∙ c.if-is_whole.true))

pub returns-then-is_whole-clause-goes_on : goal.returns-then-is_whole-clause-goes_on
returns-then-is_whole-clause-goes_on g c = IfOk-weaker c.kept_block.result _ _ (λ rows h sound can. inl h)
    (c.kept_block.ensures.kept (sym c.is_whole.ensures ∙ c.if-is_whole.true))

pub returns-then-is_whole-clause-refused : goal.returns-then-is_whole-clause-refused
returns-then-is_whole-clause-refused g c = IfErr-weaker c.kept_block.result _ _ (λ refusal h sound. subst IsReserved (sym h) tt) c.kept_block.ensures.refused

pub returns-then-is_whole-clause-limits : goal.returns-then-is_whole-clause-limits
returns-then-is_whole-clause-limits g c = IfErr-weaker c.kept_block.result _ _ (λ refusal h. subst TellsNoLimit (sym h) tt) c.kept_block.ensures.refused

pub returns-then-is_whole-clause-counts : goal.returns-then-is_whole-clause-counts
returns-then-is_whole-clause-counts g c = IfErr-weaker c.kept_block.result _ _ (λ refusal h is. no_disk refusal h is) c.kept_block.ensures.refused

pub returns-then-is_whole-clause-follows : goal.returns-then-is_whole-clause-follows
returns-then-is_whole-clause-follows g c = g.met.R.Reading.follows_refl _

pub returns-else-is_whole-clause-rows : goal.returns-else-is_whole-clause-rows
returns-else-is_whole-clause-rows g c = goes_by_itself _ c.args.plan.now c.args.place.now (g.R.Reading.shows c.args.reading.now).contents c.plan_block.result _
    (sym c.is_whole.ensures ∙ c.if-is_whole.false) c.plan_block.ensures.rows

pub returns-else-is_whole-clause-goes_on : goal.returns-else-is_whole-clause-goes_on
returns-else-is_whole-clause-goes_on g c = goes_by_itself _ c.args.plan.now c.args.place.now (g.R.Reading.shows c.args.reading.now).contents c.plan_block.result _
    (sym c.is_whole.ensures ∙ c.if-is_whole.false) (λ sound alone indexed. all_ok c.plan_block.result (λ rows. inr (alone, indexed)))

pub returns-else-is_whole-clause-refused : goal.returns-else-is_whole-clause-refused
returns-else-is_whole-clause-refused g c = c.plan_block.ensures.refused

pub returns-else-is_whole-clause-limits : goal.returns-else-is_whole-clause-limits
returns-else-is_whole-clause-limits g c = c.plan_block.ensures.limits

pub returns-else-is_whole-clause-counts : goal.returns-else-is_whole-clause-counts
returns-else-is_whole-clause-counts g c = c.plan_block.ensures.counts

pub returns-else-is_whole-clause-follows : goal.returns-else-is_whole-clause-follows
returns-else-is_whole-clause-follows g c = c.plan_block.ensures.follows
