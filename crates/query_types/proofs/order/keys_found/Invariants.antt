use Rattle.std.proofs.Common.{◌≡◌, drop, map}
use Rattle.typing.specs.Finding.{each}
use Rattle.typing.specs.Order.{key_found}
use Rattle.type_rules.proofs.FindsLemmas.{after}
use Rattle.query_types.proofs.order.keys_found.Given as goal

-- the keys so far, and then those that are left, are all
abbrev pub invariant-loop-key : goal.invariant-loop-key
invariant-loop-key l = after l.keys (each (map (key_found l.columns) (drop l.key-index l.order))) ≡ each (map (key_found l.columns) l.order)
