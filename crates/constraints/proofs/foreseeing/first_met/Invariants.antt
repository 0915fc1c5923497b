use Rattle.std.proofs.Common.{◌≡◌}
use Rattle.store.specs.View.{table_named}
use Rattle.constraints.specs.Foreseen.{foreseen_by, met_in}
use Rattle.constraints.proofs.foreseeing.first_met.Given as goal

-- no key before this one is met
abbrev pub invariant-loop-key : goal.invariant-loop-key
invariant-loop-key g l =
    g.R.Reading.follows l.fn.reading l.reading
    × (g.R.Reading.is_sound l.fn.reading → foreseen_by (met_in l.own (table_named (g.R.Reading.shows l.fn.reading) l.name) l.rows) l.key-iterator.rest.items
    ≡ foreseen_by (met_in l.own (table_named (g.R.Reading.shows l.fn.reading) l.name) l.rows) l.fn.keys)
