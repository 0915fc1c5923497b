use Rattle.foreign_keys.proofs.Told.{nothing-told, something-told}
use Rattle.foreign_keys.proofs.looking.first_unmatched.Goals as goal

pub returns-clause-none : goal.returns-clause-none
returns-clause-none g c = nothing-told (g.R.Reading.shows c.args.reading.now) (g.R.Reading.is_sound c.args.reading.now) c.args.name.now c.args.came.now c.args.gone.now c.args.asked
    c.first_violated.result c.first_violated.ensures.none

pub returns-clause-some : goal.returns-clause-some
returns-clause-some g c = something-told (g.R.Reading.shows c.args.reading.now) (g.R.Reading.is_sound c.args.reading.now) c.args.name.now c.args.came.now c.args.gone.now c.args.asked
    c.first_violated.result c.first_violated.ensures.some
