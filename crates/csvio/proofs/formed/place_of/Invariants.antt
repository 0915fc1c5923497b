use Rattle.std.proofs.Common.{◌≡◌, List, ℕ, drop}
use Rattle.std.specs.List.{position_from}
use Rattle.sqlval.specs.Schema.{same_name}
use Rattle.csvio.proofs.formed.place_of.Given as goal

abbrev pub invariant-loop-at : goal.invariant-loop-at
invariant-loop-at l =
    position_from (λ (other : List ℕ). same_name other l.name) l.at (drop l.at l.names) ≡ position_from (λ (other : List ℕ). same_name other l.name) 0 l.names
