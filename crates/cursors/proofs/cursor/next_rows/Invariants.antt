use Rattle.std.specs.Prelude.{◌≡◌, length}
use Rattle.cursors.proofs.Steps.{HasTaken}
use Rattle.cursors.proofs.cursor.next_rows.Given as goal

abbrev pub invariant-loop-taken : goal.invariant-loop-taken
invariant-loop-taken g l = g.R.Reading.follows l.fn.reading l.reading
    × HasTaken (g.R.Reading.is_sound l.fn.reading) (g.R.Reading.shows l.fn.reading).contents l.fn.cursor l.cursor l.rows l.taken
    × (length l.rows ≡ l.taken)
