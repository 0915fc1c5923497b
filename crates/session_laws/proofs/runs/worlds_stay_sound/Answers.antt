use Rattle.session_laws.proofs.Serializable.{stays_sound}
use Rattle.session_laws.proofs.SoundSteps.{sound_event}
use Rattle.session_laws.proofs.runs.worlds_stay_sound.Goals as goal

pub returns : goal.returns
returns c = record { event = λ rules old new event sound happens. sound_event rules old event new sound happens; run = stays_sound }
