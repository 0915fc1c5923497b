use Rattle.std.proofs.Common.{◌≡◌, drop, map}
use Rattle.typing.specs.Finding.{each}
use Rattle.typing.specs.Insert.{target_named}
use Rattle.type_rules.proofs.FindsLemmas.{after}
use Rattle.change_types.proofs.targets.named_targets.Given as goal

-- the targets so far, and then those of the names that are left, are all
abbrev pub invariant-loop-name : goal.invariant-loop-name
invariant-loop-name l = after l.targets (each (map (target_named l.table.columns) (drop l.name-index l.names))) ≡ each (map (target_named l.table.columns) l.names)
