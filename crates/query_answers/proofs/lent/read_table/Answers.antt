use Rattle.transactions.proofs.Tests.{tells_reached}
use Rattle.query_answers.proofs.Lending.{scanned, counted}
use Rattle.query_answers.specs.Answered.{rows_found}
use Rattle.query_answers.proofs.lent.read_table.Goals as goal

pub returns-in_ok-name_kept-in-Ok-clause-rows : goal.returns-in_ok-name_kept-in-Ok-clause-rows
returns-in_ok-name_kept-in-Ok-clause-rows g c = λ sound. scanned (g.R.Reading.shows c.args.reading.now).contents c.args.name.now c.in-Ok.found.rows (c.in-Ok.ensures.rows sound).rows

pub returns-in_ok-name_kept-in-Ok-clause-read : goal.returns-in_ok-name_kept-in-Ok-clause-read
returns-in_ok-name_kept-in-Ok-clause-read g c = λ sound.
    counted _ _ c.in-Ok.found.rows (rows_found (g.R.Reading.shows c.args.reading.now).contents c.args.name.now) c.in-Ok.ensures.read (scanned (g.R.Reading.shows c.args.reading.now).contents c.args.name.now c.in-Ok.found.rows (c.in-Ok.ensures.rows sound).rows)

pub returns-in-Err-clause-limits : goal.returns-in-Err-clause-limits
returns-in-Err-clause-limits g c = tells_reached _ _ _ _ _ _ c.refusal_of.ensures c.in-Err.ensures.refused
