use Rattle.snapshot_pins.proofs.ListedLemmas.{found_pinned}
use Rattle.snapshot_pins.proofs.laws.found_is_pinned.Goals as goal

pub returns : goal.returns
returns c = λ readers pins reader number pinned found. found_pinned readers.list pins reader number pinned found
