use Rattle.std.proofs.Common.{◌≡◌, ℕ, List, ◌<◌, ◌^◌, ◌++◌, length}
use Rattle.std.specs.List.{flat_map}
use Rattle.catalog_records.specs.Places.{next_place}
use Rattle.catalog_records.specs.Keepable.{ArePlaces}
use Rattle.catalog_records.proofs.Repeats.{Remains}
use Rattle.catalog_records.proofs.read_places.next_places.Given as goal

abbrev pub invariant-loop-comma : goal.invariant-loop-comma
invariant-loop-comma l = record {
  sound : flat_map next_place l.places ++ l.rest ≡ l.text;
  kept : ArePlaces l.places;
  again : (all : List ℕ) → ArePlaces all → flat_map next_place all ≡ l.text → Remains next_place (λ place. place < 2 ^ 64) all l.places l.rest;
}

abbrev pub decreases-loop-comma : goal.decreases-loop-comma
decreases-loop-comma l = length l.rest
