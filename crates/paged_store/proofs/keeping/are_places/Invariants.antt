use Rattle.std.proofs.Common.{ℕ, ◌<◌, ◌^◌, drop}
use Rattle.std.specs.List.{AllByRecursion}
use Rattle.paged_store.proofs.keeping.are_places.Given as goal

abbrev pub invariant-loop-place : goal.invariant-loop-place
invariant-loop-place l = AllByRecursion (λ (n : ℕ). n < 2 ^ 64) (drop l.place-index l.places) → AllByRecursion (λ (n : ℕ). n < 2 ^ 64) l.places
