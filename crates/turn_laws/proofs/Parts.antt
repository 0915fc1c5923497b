-- Parts of runs.
use Rattle.std.proofs.Common.{List, [], ◌∷◌, ◌++◌, refl}
use Rattle.session_definitions.specs.Rules.{Rules}
use Rattle.session_definitions.specs.Run.{Moment, Run}
use Rattle.session_definitions.specs.World.{World}

pub parted : (rules : Rules) (start end : World) (earlier later : List Moment) → Run rules start (later ++ earlier) end
    → (mid : World) × Run rules start earlier mid × Run rules mid later end
parted rules start end earlier [] run = (end, run, refl)
parted rules start end earlier (moment ∷ later) run =
    let before = parted rules start moment.before earlier later run.0 in (before.0, before.1, (before.2, run.1))
