use Rattle.std.proofs.Common.{◌≡◌, drop, map}
use Rattle.std.specs.List.{zip}
use Rattle.typing.specs.Finding.{each}
use Rattle.typing.specs.Known.{known}
use Rattle.change_types.specs.Parts.{source_for}
use Rattle.type_rules.proofs.FindsLemmas.{after}
use Rattle.change_types.proofs.inserts.typed_sources.Given as goal

-- the sources so far, and then those that are left, are all
abbrev pub invariant-loop-at : goal.invariant-loop-at
invariant-loop-at l = after l.row (each (map (source_for (known l.schema)) (zip (drop l.at l.targets) (drop l.at l.sources)))) ≡ each (map (source_for (known l.schema)) (zip l.targets l.sources))
