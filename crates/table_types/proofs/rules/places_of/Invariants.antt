use Rattle.std.proofs.Common.{◌≡◌, drop, map}
use Rattle.typing.specs.Finding.{each}
use Rattle.type_rules.proofs.FindsLemmas.{after}
use Rattle.typing.specs.Table.{as_found}
use Rattle.table_types.specs.Tables.{place_of}
use Rattle.table_types.proofs.rules.places_of.Given as goal

-- those so far, and then those that are left, are all
abbrev pub invariant-loop-name : goal.invariant-loop-name
invariant-loop-name l = after l.places (each (map (λ name. as_found (place_of l.definitions name)) (drop l.name-index l.names))) ≡ each (map (λ name. as_found (place_of l.definitions name)) l.names)
