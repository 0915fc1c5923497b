use Rattle.std.proofs.Common.{◌≡◌, drop, map}
use Rattle.typing.specs.Finding.{each}
use Rattle.type_rules.proofs.FindsLemmas.{after}
use Rattle.scopes.specs.Seen.{frames}
use Rattle.type_rules.specs.Selects.{own_place}
use Rattle.type_rules.proofs.selects.places_of.Given as goal

-- the places so far, and then those that are left, are all
abbrev pub invariant-loop-column : goal.invariant-loop-column
invariant-loop-column l = after l.places (each (map (own_place (frames l.scope)) (drop l.column-index l.groups))) ≡ each (map (own_place (frames l.scope)) l.groups)
