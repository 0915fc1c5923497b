use Rattle.std.proofs.Common.{◌≡◌, drop}
use Rattle.store.specs.View.{table_named}
use Rattle.denote.specs.Database.{has_unmatched}
use Rattle.foreign_keys.specs.Sources.{IsSource, rows_shown}
use Rattle.foreign_keys.proofs.looking.any_unmatched_in.Given as goal

-- no row before this one is unmatched
abbrev pub invariant-loop-row : goal.invariant-loop-row
invariant-loop-row g l =
    g.R.Reading.follows l.fn.reading l.reading
    × (g.R.Reading.is_sound l.fn.reading
    → IsSource (table_named (g.R.Reading.shows l.fn.reading) l.asked.reference.table) l.asked.reference.columns l.asked.reference.referenced l.source
    → has_unmatched l.asked.reference (rows_shown (g.R.Reading.shows l.fn.reading) l.asked.reference.table) (drop l.row-index l.rows)
    ≡ has_unmatched l.asked.reference (rows_shown (g.R.Reading.shows l.fn.reading) l.asked.reference.table) l.rows)
