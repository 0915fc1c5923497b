use Rattle.std.proofs.Common.{◌≡◌, ◌<◌, ◌≤◌, List, length, arith, ap, inl, subst, sym}
use Rattle.sqlval.specs.Value.{Row}
use Rattle.cursors.proofs.Counts.{risen_later}
use Rattle.cursors.proofs.Steps.{HasTaken, all_come, comes_pushed, end_comes, fits_after, none_come, one_longer, refusal_comes}
use Rattle.cursors.proofs.cursor.next_rows.Goals as goal

pub loop-taken-init : goal.loop-taken-init
loop-taken-init g c = (
  g.met.R.Reading.follows_refl _,
  subst (λ (rows : List Row). HasTaken (g.R.Reading.is_sound c.args.reading.now) (g.R.Reading.shows c.args.reading.now).contents c.args.cursor.now c.args.cursor.now rows 0) (sym c.new-rows.ensures)
      (none_come (g.R.Reading.is_sound c.args.reading.now) (g.R.Reading.shows c.args.reading.now).contents c.args.cursor.now c.listings_are_sorted.ensures c.listings_answer_outcomes.ensures),
  ap length c.new-rows.ensures,
)

pub loop-taken-preserved : goal.loop-taken-preserved
loop-taken-preserved g c = (
  g.met.R.Reading.follows_trans _ _ _ c.loop-taken.invariant.0 c.next_row.ensures.follows,
  comes_pushed (g.R.Reading.is_sound c.args.reading.now) (g.R.Reading.is_sound c.loop-taken.reading) (g.R.Reading.shows c.args.reading.now).contents (g.R.Reading.shows c.loop-taken.reading).contents
      (g.met.R.Reading.follows_sound _ _ c.loop-taken.invariant.0) (g.met.R.Reading.follows_keeps _ _ c.loop-taken.invariant.0).contents c.args.cursor.now c.loop-taken.cursor c.next_row.new.cursor c.loop-taken.rows c.loop-taken.taken c.loop-taken.invariant.1
      c.push.result c.is_err.result c.push.new.self c.in-Ok-Some.row c.push.ensures.ok c.is_err.ensures.value c.if-is_err.false
      (rw c.in-Ok-Some.field-0-is at c.in-Ok-Some.ensures.next) c.in-Ok-Some.ensures.fits,
  one_longer c.push.result c.is_err.result c.loop-taken.rows c.push.new.self c.in-Ok-Some.row c.loop-taken.taken c.push.ensures.ok c.is_err.ensures.value c.if-is_err.false
      c.loop-taken.invariant.2,
)

pub returns-then-is_err-clause-refused : goal.returns-then-is_err-clause-refused
returns-then-is_err-clause-refused g c = λ sound fits. inl tt

pub returns-then-is_err-clause-follows : goal.returns-then-is_err-clause-follows
returns-then-is_err-clause-follows g c = g.met.R.Reading.follows_trans _ _ _ c.loop-taken.invariant.0 c.next_row.ensures.follows

pub returns-in-Ok-None-clause-rows : goal.returns-in-Ok-None-clause-rows
returns-in-Ok-None-clause-rows g c =
    end_comes (g.R.Reading.is_sound c.args.reading.now) (g.R.Reading.is_sound c.loop-taken.reading) (g.R.Reading.shows c.args.reading.now).contents (g.R.Reading.shows c.loop-taken.reading).contents
    (g.met.R.Reading.follows_sound _ _ c.loop-taken.invariant.0) (g.met.R.Reading.follows_keeps _ _ c.loop-taken.invariant.0).contents c.args.cursor.now c.loop-taken.cursor c.next_row.new.cursor c.loop-taken.rows c.loop-taken.taken c.loop-taken.invariant.1
    c.args.count c.loop-taken-test.true (rw c.in-Ok-None.field-0-is at c.in-Ok-None.ensures.next)

pub returns-in-Ok-None-clause-fits : goal.returns-in-Ok-None-clause-fits
returns-in-Ok-None-clause-fits g c =
    fits_after (g.R.Reading.is_sound c.args.reading.now) (g.R.Reading.is_sound c.loop-taken.reading) (g.R.Reading.shows c.args.reading.now).contents (g.R.Reading.shows c.loop-taken.reading).contents
    (g.met.R.Reading.follows_sound _ _ c.loop-taken.invariant.0) (g.met.R.Reading.follows_keeps _ _ c.loop-taken.invariant.0).contents c.args.cursor.now c.loop-taken.cursor c.next_row.new.cursor c.loop-taken.rows c.loop-taken.taken c.loop-taken.invariant.1
    c.in-Ok-None.ensures.fits

pub returns-in-Ok-None-clause-follows : goal.returns-in-Ok-None-clause-follows
returns-in-Ok-None-clause-follows g c = g.met.R.Reading.follows_trans _ _ _ c.loop-taken.invariant.0 c.next_row.ensures.follows

pub returns-in-Err-clause-refused : goal.returns-in-Err-clause-refused
returns-in-Err-clause-refused g c =
    refusal_comes (g.R.Reading.is_sound c.args.reading.now) (g.R.Reading.is_sound c.loop-taken.reading) (g.R.Reading.shows c.args.reading.now).contents (g.R.Reading.shows c.loop-taken.reading).contents
    (g.met.R.Reading.follows_sound _ _ c.loop-taken.invariant.0) (g.met.R.Reading.follows_keeps _ _ c.loop-taken.invariant.0).contents c.args.cursor.now c.loop-taken.cursor c.next_row.new.cursor c.loop-taken.rows c.loop-taken.taken c.loop-taken.invariant.1
    c.args.count c.in-Err.refusal c.loop-taken-test.true c.in-Err.ensures.refused

pub returns-in-Err-clause-counts : goal.returns-in-Err-clause-counts
returns-in-Err-clause-counts g c = λ is. risen_later _ _ _ (g.met.R.Reading.follows_keeps _ _ c.loop-taken.invariant.0).refused (c.in-Err.ensures.counts is)

pub returns-in-Err-clause-follows : goal.returns-in-Err-clause-follows
returns-in-Err-clause-follows g c = g.met.R.Reading.follows_trans _ _ _ c.loop-taken.invariant.0 c.next_row.ensures.follows

pub returns-clause-rows : goal.returns-clause-rows
returns-clause-rows g c =
    let end : c.loop-taken.taken ≡ c.args.count = omega (arith, c.loop-taken-test.false, c.loop-taken.auto.taken-end) in
    rw (sym end) (all_come (g.R.Reading.is_sound c.args.reading.now) (g.R.Reading.shows c.args.reading.now).contents c.args.cursor.now c.loop-taken.cursor c.loop-taken.rows c.loop-taken.taken c.loop-taken.invariant.1)

pub returns-clause-fits : goal.returns-clause-fits
returns-clause-fits g c = λ sound first. (c.loop-taken.invariant.1 sound first).fits

pub returns-clause-follows : goal.returns-clause-follows
returns-clause-follows g c = c.loop-taken.invariant.0

pub returns-in-Ok-None-clause-most : goal.returns-in-Ok-None-clause-most
returns-in-Ok-None-clause-most g c = omega (arith, c.loop-taken.invariant.2, c.loop-taken-test.true)

pub returns-clause-most : goal.returns-clause-most
returns-clause-most g c = omega (arith, c.loop-taken.invariant.2, c.loop-taken-test.false, c.loop-taken.auto.taken-end)

pub returns-then-is_err-clause-rows : goal.returns-then-is_err-clause-rows
returns-then-is_err-clause-rows g c = tt

pub returns-then-is_err-clause-most : goal.returns-then-is_err-clause-most
returns-then-is_err-clause-most g c = tt

pub returns-then-is_err-clause-fits : goal.returns-then-is_err-clause-fits
returns-then-is_err-clause-fits g c = tt

pub returns-then-is_err-clause-limits : goal.returns-then-is_err-clause-limits
returns-then-is_err-clause-limits g c = tt

pub returns-then-is_err-clause-counts : goal.returns-then-is_err-clause-counts
returns-then-is_err-clause-counts g c = λ is. absurd (cc)

pub returns-in-Ok-None-clause-refused : goal.returns-in-Ok-None-clause-refused
returns-in-Ok-None-clause-refused g c = tt

pub returns-in-Ok-None-clause-limits : goal.returns-in-Ok-None-clause-limits
returns-in-Ok-None-clause-limits g c = tt

pub returns-in-Ok-None-clause-counts : goal.returns-in-Ok-None-clause-counts
returns-in-Ok-None-clause-counts g c = tt

pub returns-in-Err-clause-rows : goal.returns-in-Err-clause-rows
returns-in-Err-clause-rows g c = tt

pub returns-in-Err-clause-most : goal.returns-in-Err-clause-most
returns-in-Err-clause-most g c = tt

pub returns-in-Err-clause-fits : goal.returns-in-Err-clause-fits
returns-in-Err-clause-fits g c = tt

pub returns-in-Err-clause-limits : goal.returns-in-Err-clause-limits
returns-in-Err-clause-limits g c = c.in-Err.ensures.limits

pub returns-clause-refused : goal.returns-clause-refused
returns-clause-refused g c = tt

pub returns-clause-limits : goal.returns-clause-limits
returns-clause-limits g c = tt

pub returns-clause-counts : goal.returns-clause-counts
returns-clause-counts g c = tt
