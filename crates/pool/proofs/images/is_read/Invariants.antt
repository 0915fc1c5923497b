use Rattle.std.proofs.Common.{◌≡◌, drop}
use Rattle.std.specs.List.{list_any}
use Rattle.pool.specs.Images.{reads, pinned_in}
use Rattle.pool.proofs.images.is_read.Given as goal

abbrev pub invariant-loop-pin : goal.invariant-loop-pin
invariant-loop-pin l = list_any (reads l.images l.place) (pinned_in (drop l.pin-index l.pins)) ≡ list_any (reads l.images l.place) (pinned_in l.pins)
