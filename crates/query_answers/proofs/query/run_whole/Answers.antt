use Rattle.query_answers.specs.Lent.{rows_lent}
use Rattle.query_answers.proofs.Answering.{run_listed}
use Rattle.query_answers.proofs.query.run_whole.Goals as goal

pub returns-clause-lists : goal.returns-clause-lists
returns-clause-lists g c =
    run_listed c.listings_read_their_tables.ensures (g.R.Reading.shows c.args.reading.now).contents (rows_lent c.in-Ok-lent_tables.lent.tables) c.args.plan.now (g.R.Reading.is_sound c.args.reading.now)
    (λ sound. rw (c.as_slice.ensures, c.in-Ok.ensures.named) at c.in-Ok-lent_tables.ensures.lent sound) c.unstopped.result (c.unstopped.ensures.lists _ c.listed_once.ensures.lists)
