use Rattle.std.proofs.Common.{◌≡◌, drop, Option, List, ℕ}
use Rattle.pool.specs.Slots.{seen}
use Rattle.pool.proofs.found.image_for.Given as goal

abbrev pub invariant-loop-image : goal.invariant-loop-image
invariant-loop-image l = (d : Option (List ℕ)) → seen l.at (drop l.image-index l.images) d ≡ seen l.at l.images d
