use Rattle.std.proofs.Common.{◌≡◌, drop}
use Rattle.std.specs.List.{list_any, zip}
use Rattle.foreign_keys.specs.Pairs.{is_same_pair}
use Rattle.foreign_keys.proofs.ways.is_among.Given as goal

-- no pair before this one is the same
abbrev pub invariant-loop-at : goal.invariant-loop-at
invariant-loop-at l =
    list_any (is_same_pair (l.own, l.column)) (zip (drop l.at l.others) (drop l.at l.places)) ≡ list_any (is_same_pair (l.own, l.column)) (zip l.others l.places)
