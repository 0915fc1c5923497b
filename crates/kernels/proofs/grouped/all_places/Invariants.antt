use Rattle.std.proofs.Common.{◌≡◌, ◌++◌, [], drop, map}
use Rattle.sqlval.specs.Matching.{key_of}
use Rattle.kernels.specs.Groups.{places_from}
use Rattle.kernels.proofs.grouped.all_places.Given as goal

abbrev pub invariant-loop-place : goal.invariant-loop-place
invariant-loop-place l = l.places ++ places_from [] l.place (map (key_of []) (drop l.place l.rows)) ≡ places_from [] 0 (map (key_of []) l.rows)
