use Rattle.std.proofs.Common.{◌≡◌}
use Rattle.std.specs.Prelude.{All, Contains}
use Rattle.std.specs.List.{list_any}
use Rattle.foreign_keys.specs.declared.asked.Asked.{Asked}
use Rattle.foreign_keys.specs.Sources.{Leads, is_violated_by}
use Rattle.foreign_keys.proofs.looking.first_violated.Given as goal

-- no foreign key before this one is violated
abbrev pub invariant-loop-one : goal.invariant-loop-one
invariant-loop-one g l =
    g.R.Reading.follows l.fn.reading l.reading
    × (g.R.Reading.is_sound l.fn.reading → All (Leads (g.R.Reading.shows l.fn.reading)) l.fn.asked
    → list_any (is_violated_by (g.R.Reading.shows l.fn.reading) l.name l.came l.gone) l.one-iterator.rest.items
    ≡ list_any (is_violated_by (g.R.Reading.shows l.fn.reading) l.name l.came l.gone) l.fn.asked)
    × ((x : Asked) → Contains l.one-iterator.rest.items x → Contains l.fn.asked x)
