use Rattle.std.proofs.Common.{◌≡◌, List, ℕ, drop}
use Rattle.std.specs.List.{position_from}
use Rattle.places.specs.Indexes.{same_columns}
use Rattle.places.proofs.indexes.index_place.Given as goal

-- no index before this one is over these columns
abbrev pub invariant-loop-place : goal.invariant-loop-place
invariant-loop-place l =
    position_from (λ (index : List ℕ). same_columns index l.columns) l.place (drop l.place l.indexes)
    ≡ position_from (λ (index : List ℕ). same_columns index l.columns) 0 l.indexes
