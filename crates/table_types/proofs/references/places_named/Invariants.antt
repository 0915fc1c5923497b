use Rattle.std.proofs.Common.{◌≡◌, drop, map}
use Rattle.typing.specs.Finding.{each}
use Rattle.type_rules.proofs.FindsLemmas.{after}
use Rattle.typing.specs.Known.{place_in}
use Rattle.typing.specs.Table.{as_found}
use Rattle.table_types.proofs.references.places_named.Given as goal

-- those so far, and then those that are left, are all
abbrev pub invariant-loop-name : goal.invariant-loop-name
invariant-loop-name l = after l.places (each (map (λ name. as_found (place_in l.columns name)) (drop l.name-index l.names))) ≡ each (map (λ name. as_found (place_in l.columns name)) l.names)
