use Rattle.denote_laws.proofs.SoundTrees.{value-sound, truth-sound, function-sound}
use Rattle.denote_laws.proofs.SoundChanges.{changed-decided}
use Rattle.denote_laws.proofs.failures.no_meaning_is_an_empty_failure.Goals as goal

pub returns : goal.returns
returns c = record { expression = value-sound; condition = truth-sound; function = function-sound; change = changed-decided }
