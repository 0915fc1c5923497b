use Rattle.std.proofs.Common.{◌≡◌, inl}
use Rattle.std.proofs.lemmas.Result.{IfErr-weaker, IfOk-weaker}
use Rattle.cursors.proofs.Counts.{risen_later}
use Rattle.cursors.proofs.Steps.{alike_first, block_read, end_comes_next, end_fits, fault_comes_next, row_comes, row_fits}
use Rattle.cursors.proofs.cursor.next_row.Goals as goal

pub loop-init : goal.loop-init
loop-init g c = (
  g.met.R.Reading.follows_refl _,
  λ sound fits. alike_first c.args.cursor.now (g.R.Reading.shows c.args.reading.now).contents fits,
)

pub loop-preserved : goal.loop-preserved
loop-preserved g c =
    let law = g.met.R.Reading in
    let f = c.loop.invariant.0 in (
      law.follows_trans _ _ _ f c.next_block.ensures.follows,
      block_read (g.R.Reading.is_sound c.args.reading.now) (g.R.Reading.is_sound c.loop.reading) (g.R.Reading.shows c.args.reading.now).contents (g.R.Reading.shows c.loop.reading).contents
          (law.follows_sound _ _ f) (law.follows_keeps _ _ f).contents c.args.cursor.now c.loop.cursor c.first_row.new.rows c.in-None.ensures c.loop.invariant.1
          c.in-Ok.rows c.next_block.new.place
          (rw c.get.ensures at c.in-Ok.ensures.rows) (rw c.get.ensures at c.in-Ok.ensures.goes_on),
    )

pub returns-in-Some-clause-next : goal.returns-in-Some-clause-next
returns-in-Some-clause-next g c = λ sound fits.
    row_comes c.args.cursor.now c.loop.cursor (g.R.Reading.shows c.args.reading.now).contents (c.loop.invariant.1 sound fits) c.first_row.new.rows c.in-Some.row c.in-Some.ensures
    c.listings_are_sorted.ensures c.listings_answer_outcomes.ensures

pub returns-in-Some-clause-fits : goal.returns-in-Some-clause-fits
returns-in-Some-clause-fits g c = λ sound fits.
    row_fits c.args.cursor.now c.loop.cursor (g.R.Reading.shows c.args.reading.now).contents (c.loop.invariant.1 sound fits) c.first_row.new.rows c.in-Some.row c.in-Some.ensures

pub returns-in-Some-clause-follows : goal.returns-in-Some-clause-follows
returns-in-Some-clause-follows g c = c.loop.invariant.0

pub returns-in-Ended-clause-next : goal.returns-in-Ended-clause-next
returns-in-Ended-clause-next g c = IfOk-weaker c.at_end.result _ _
    (λ next h sound fits.
    end_comes_next c.args.cursor.now c.loop.cursor (g.R.Reading.shows c.args.reading.now).contents (c.loop.invariant.1 sound fits) c.first_row.new.rows c.in-None.ensures c.in-Ended.fault c.in-Ended.is
    c.listings_are_sorted.ensures c.listings_answer_outcomes.ensures next h)
    c.at_end.ensures.end

pub returns-in-Ended-clause-fits : goal.returns-in-Ended-clause-fits
returns-in-Ended-clause-fits g c = IfOk-weaker c.at_end.result _ _
    (λ next h sound fits.
    end_fits c.args.cursor.now c.loop.cursor (g.R.Reading.shows c.args.reading.now).contents (c.loop.invariant.1 sound fits) c.first_row.new.rows c.in-None.ensures c.in-Ended.fault c.in-Ended.is
    c.listings_are_sorted.ensures c.listings_answer_outcomes.ensures)
    c.at_end.ensures.end

pub returns-in-Ended-clause-refused : goal.returns-in-Ended-clause-refused
returns-in-Ended-clause-refused g c = IfErr-weaker c.at_end.result _ _
    (λ refusal h sound fits.
    fault_comes_next c.args.cursor.now c.loop.cursor (g.R.Reading.shows c.args.reading.now).contents (c.loop.invariant.1 sound fits) c.first_row.new.rows c.in-None.ensures c.in-Ended.fault c.in-Ended.is
    c.listings_are_sorted.ensures c.listings_answer_outcomes.ensures refusal h)
    c.at_end.ensures.refused

pub returns-in-Ended-clause-limits : goal.returns-in-Ended-clause-limits
returns-in-Ended-clause-limits g c = c.at_end.ensures.limits

pub returns-in-Ended-clause-counts : goal.returns-in-Ended-clause-counts
returns-in-Ended-clause-counts g c = IfErr-weaker c.at_end.result _ _ (λ refusal never is. absurd (never is)) c.at_end.ensures.device

pub returns-in-Ended-clause-follows : goal.returns-in-Ended-clause-follows
returns-in-Ended-clause-follows g c = c.loop.invariant.0

pub returns-in-Err-clause-refused : goal.returns-in-Err-clause-refused
returns-in-Err-clause-refused g c = λ sound fits. inl (c.in-Err.ensures.refused (g.met.R.Reading.follows_sound _ _ c.loop.invariant.0 sound))

pub returns-in-Err-clause-limits : goal.returns-in-Err-clause-limits
returns-in-Err-clause-limits g c = c.in-Err.ensures.limits

pub returns-in-Err-clause-counts : goal.returns-in-Err-clause-counts
returns-in-Err-clause-counts g c = λ is. risen_later _ _ _ (g.met.R.Reading.follows_keeps _ _ c.loop.invariant.0).refused (c.in-Err.ensures.counts is)

pub returns-in-Err-clause-follows : goal.returns-in-Err-clause-follows
returns-in-Err-clause-follows g c = g.met.R.Reading.follows_trans _ _ _ c.loop.invariant.0 c.next_block.ensures.follows

pub returns-clause-refused : goal.returns-clause-refused
returns-clause-refused g c = λ sound fits. inl tt

pub returns-clause-follows : goal.returns-clause-follows
returns-clause-follows g c = c.loop.invariant.0

pub returns-in-Some-clause-refused : goal.returns-in-Some-clause-refused
returns-in-Some-clause-refused g c = tt

pub returns-in-Some-clause-limits : goal.returns-in-Some-clause-limits
returns-in-Some-clause-limits g c = tt

pub returns-in-Some-clause-counts : goal.returns-in-Some-clause-counts
returns-in-Some-clause-counts g c = tt

pub returns-in-Err-clause-next : goal.returns-in-Err-clause-next
returns-in-Err-clause-next g c = tt

pub returns-in-Err-clause-fits : goal.returns-in-Err-clause-fits
returns-in-Err-clause-fits g c = tt

pub returns-clause-next : goal.returns-clause-next
returns-clause-next g c = tt

pub returns-clause-fits : goal.returns-clause-fits
returns-clause-fits g c = tt

pub returns-clause-limits : goal.returns-clause-limits
returns-clause-limits g c = tt

pub returns-clause-counts : goal.returns-clause-counts
returns-clause-counts g c = λ is. absurd (cc)
