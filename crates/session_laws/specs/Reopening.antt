-- Close and a later open, among the moments of a run.
use Rattle.session_definitions.specs.Run.{Event, Moment}
use Rattle.session_definitions.specs.World.{World}

-- in this world
abbrev pub reopening : World → Moment
reopening w = record { before = w; event = Event.Reopens }
