use Rattle.std.proofs.Common.{◌≡◌, drop}
use Rattle.store.specs.View.{table_named}
use Rattle.constraints.specs.Foreseen.{is_met}
use Rattle.constraints.proofs.foreseeing.is_met.Given as goal

-- no row before this one is met
abbrev pub invariant-loop-row : goal.invariant-loop-row
invariant-loop-row g l =
    g.R.Reading.follows l.fn.reading l.reading
    × (g.R.Reading.is_sound l.fn.reading → is_met l.own (table_named (g.R.Reading.shows l.fn.reading) l.name) l.place l.columns (drop l.row-index l.rows)
    ≡ is_met l.own (table_named (g.R.Reading.shows l.fn.reading) l.name) l.place l.columns l.rows)
