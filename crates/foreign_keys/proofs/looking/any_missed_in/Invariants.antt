use Rattle.std.proofs.Common.{◌≡◌, drop}
use Rattle.store.specs.View.{table_named}
use Rattle.foreign_keys.specs.Sources.{IsSource, has_missed, rows_shown}
use Rattle.foreign_keys.proofs.looking.any_missed_in.Given as goal

-- no row before this one is missed
abbrev pub invariant-loop-row : goal.invariant-loop-row
invariant-loop-row g l =
    g.R.Reading.follows l.fn.reading l.reading
    × (g.R.Reading.is_sound l.fn.reading
    → IsSource (table_named (g.R.Reading.shows l.fn.reading) l.asked.reference.table) l.asked.reference.referenced l.asked.reference.referenced l.others
    → IsSource (table_named (g.R.Reading.shows l.fn.reading) l.asked.table) l.asked.reference.referenced l.asked.reference.columns l.referencing
    → has_missed l.asked.reference (rows_shown (g.R.Reading.shows l.fn.reading) l.asked.reference.table) (rows_shown (g.R.Reading.shows l.fn.reading) l.asked.table) (drop l.row-index l.rows)
    ≡ has_missed l.asked.reference (rows_shown (g.R.Reading.shows l.fn.reading) l.asked.reference.table) (rows_shown (g.R.Reading.shows l.fn.reading) l.asked.table) l.rows)
