use Rattle.std.proofs.Common.{sym}
use Rattle.transactions.proofs.Tests.{reserved, tells_reached}
use Rattle.cursors.proofs.Counts.{can_run, of_store}
use Rattle.cursors.proofs.block.plan_block.Goals as goal

pub returns-in-Ok-clause-rows : goal.returns-in-Ok-clause-rows
returns-in-Ok-clause-rows g c = λ sound alone indexed.
    rw c.rows_ahead.ensures (c.in-Ok.ensures.rows sound (can_run _ c.args.plan.now (g.R.Reading.shows c.args.reading.now) alone indexed))

pub returns-in-Err-clause-refused : goal.returns-in-Err-clause-refused
returns-in-Err-clause-refused g c = λ sound. rw c.refusal_of.ensures (reserved _ _ _ _ _ c.in-Err.ensures.refused sound (λ bad. bad) (λ bad. bad))

pub returns-in-Err-clause-limits : goal.returns-in-Err-clause-limits
returns-in-Err-clause-limits g c = tells_reached _ _ _ _ _ _ c.refusal_of.ensures c.in-Err.ensures.refused

pub returns-in-Err-clause-counts : goal.returns-in-Err-clause-counts
returns-in-Err-clause-counts g c = λ is. of_store _ _ _ _ _ c.in-Err.ensures.refused (rw c.refusal_of.ensures at is)

pub returns-in-Ok-clause-follows : goal.returns-in-Ok-clause-follows
returns-in-Ok-clause-follows g c = c.next_rows.ensures.follows

pub returns-in-Err-clause-follows : goal.returns-in-Err-clause-follows
returns-in-Err-clause-follows g c = c.next_rows.ensures.follows

pub returns-in-Ok-clause-refused : goal.returns-in-Ok-clause-refused
returns-in-Ok-clause-refused g c = tt

pub returns-in-Ok-clause-limits : goal.returns-in-Ok-clause-limits
returns-in-Ok-clause-limits g c = tt

pub returns-in-Ok-clause-counts : goal.returns-in-Ok-clause-counts
returns-in-Ok-clause-counts g c = tt

pub returns-in-Err-clause-rows : goal.returns-in-Err-clause-rows
returns-in-Err-clause-rows g c = λ sound alone indexed. tt
