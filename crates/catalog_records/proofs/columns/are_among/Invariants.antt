use Rattle.std.proofs.Common.{ℕ, ◌<◌, drop}
use Rattle.std.specs.Prelude.{◌↔◌}
use Rattle.std.specs.List.{AllByRecursion}
use Rattle.catalog_records.proofs.columns.are_among.Given as goal

-- what is left decides
abbrev pub invariant-loop-place : goal.invariant-loop-place
invariant-loop-place l = AllByRecursion (λ (place : ℕ). place < l.count) (drop l.place-index l.places) ↔ AllByRecursion (λ (place : ℕ). place < l.count) l.places
