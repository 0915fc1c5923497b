use Rattle.std.proofs.Common.{◌≡◌, drop}
use Rattle.std.specs.Option.{option_copied}
use Rattle.typing.specs.Finding.{each}
use Rattle.typing.specs.Select.{columns_from}
use Rattle.type_rules.proofs.FindsLemmas.{after}
use Rattle.type_rules.proofs.selects.columns_of.Given as goal

-- the items so far, and those of the columns that are left
abbrev pub invariant-loop-place : goal.invariant-loop-place
invariant-loop-place l = after l.items (each (columns_from (option_copied l.key) l.place (drop l.place l.offers))) ≡ each (columns_from (option_copied l.key) 0 l.offers)
