use Rattle.std.proofs.Common.{◌≡◌, ◌==◌, drop}
use Rattle.std.specs.List.{position_from}
use Rattle.scopes.proofs.columns.place_in_key.Given as goal

-- the answer is that for what is left
abbrev pub invariant-loop-at : goal.invariant-loop-at
invariant-loop-at l = position_from (λ place. place == l.wanted) l.at (drop l.at l.key) ≡ position_from (λ place. place == l.wanted) 0 l.key
