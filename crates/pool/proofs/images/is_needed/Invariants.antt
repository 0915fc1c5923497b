use Rattle.std.proofs.Common.{◌≡◌, drop}
use Rattle.pool.specs.Images.{reads_newest, pinned_in}
use Rattle.pool.proofs.images.is_needed.Given as goal

abbrev pub invariant-loop-pin : goal.invariant-loop-pin
invariant-loop-pin l = reads_newest (pinned_in (drop l.pin-index l.pins)) l.images ≡ reads_newest (pinned_in l.pins) l.images
