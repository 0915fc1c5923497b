use Rattle.std.proofs.Common.{◌≡◌, drop, map}
use Rattle.typing.specs.Finding.{each}
use Rattle.change_types.specs.Parts.{place_named}
use Rattle.type_rules.proofs.FindsLemmas.{after}
use Rattle.change_types.proofs.indexes.places_named.Given as goal

-- the places so far, and then those of the names that are left, are all
abbrev pub invariant-loop-name : goal.invariant-loop-name
invariant-loop-name l = after l.places (each (map (place_named l.table.columns) (drop l.name-index l.names))) ≡ each (map (place_named l.table.columns) l.names)
