use Rattle.std.proofs.Common.{take, ◌≤◌, ◌+◌}
use Rattle.query_answers.specs.Answered.{rows_found}
use Rattle.query_answers.specs.Lent.{IsLending, rows_under}
use Rattle.query_answers.proofs.lent.lent_tables.Given as goal

abbrev pub invariant-loop-name : goal.invariant-loop-name
invariant-loop-name g l =
    g.R.Reading.follows l.fn.reading l.reading
    × (g.R.Reading.is_sound l.fn.reading → IsLending l.tables (rows_found (g.R.Reading.shows l.fn.reading).contents) (take l.name-index l.names))
    × (g.R.Reading.is_sound l.fn.reading → (g.R.Reading.shows l.reading).read ≤ (g.R.Reading.shows l.fn.reading).read + rows_under (rows_found (g.R.Reading.shows l.fn.reading).contents) (take l.name-index l.names))
