use Rattle.std.proofs.Common.{◌≡◌, ◌++◌, drop, map}
use Rattle.typing.specs.Insert.{targets_from}
use Rattle.change.proofs.given_rows.all_places.Given as goal

-- the places so far, and those of the columns that are left
abbrev pub invariant-loop-place : goal.invariant-loop-place
invariant-loop-place l = l.places ++ map (λ target. target.0) (targets_from l.place (drop l.place l.columns)) ≡ map (λ target. target.0) (targets_from 0 l.columns)
