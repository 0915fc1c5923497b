use Rattle.cursors.specs.Opened.{Fits, IsAlike}
use Rattle.cursors.proofs.cursor.next_row.Given as goal

abbrev pub invariant-loop : goal.invariant-loop
invariant-loop g l = g.R.Reading.follows l.fn.reading l.reading
    × (g.R.Reading.is_sound l.fn.reading → Fits l.fn.cursor (g.R.Reading.shows l.fn.reading).contents
    → IsAlike l.fn.cursor l.cursor (g.R.Reading.shows l.fn.reading).contents)
