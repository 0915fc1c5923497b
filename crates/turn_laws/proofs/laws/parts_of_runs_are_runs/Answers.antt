use Rattle.turn_laws.proofs.Parts.{parted}
use Rattle.turn_laws.proofs.laws.parts_of_runs_are_runs.Goals as goal

pub returns : goal.returns
returns c rules start end earlier later = parted rules start end earlier later
