use Rattle.std.proofs.Common.{◌≡◌, drop}
use Rattle.std.specs.List.{zip}
use Rattle.foreign_keys.specs.Pairs.{are_within}
use Rattle.foreign_keys.proofs.ways.are_within.Given as goal

-- each pair before this one is among the others
abbrev pub invariant-loop-at : goal.invariant-loop-at
invariant-loop-at l =
    are_within (zip (drop l.at l.from) (drop l.at l.to)) (zip l.others l.places) ≡ are_within (zip l.from l.to) (zip l.others l.places)
