use Rattle.std.proofs.Common.{◌≡◌, map, take}
use Rattle.change_types.proofs.inserts.places_of.Given as goal

-- the places so far
abbrev pub invariant-loop-place : goal.invariant-loop-place
invariant-loop-place l = l.places ≡ map (λ target. target.0) (take l.place-index l.targets)
