use Rattle.std.proofs.Common.{◌≡◌, drop}
use Rattle.catalog_records.specs.References.{are_within}
use Rattle.catalog_records.proofs.references.are_within.Given as goal

-- what is left decides
abbrev pub invariant-loop-place : goal.invariant-loop-place
invariant-loop-place l = are_within l.count (drop l.place-index l.places) ≡ are_within l.count l.places
