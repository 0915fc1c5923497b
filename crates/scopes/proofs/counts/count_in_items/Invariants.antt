use Rattle.std.proofs.Common.{◌≡◌, ◌+◌, take}
use Rattle.typing.specs.Known.{Known}
use Rattle.typing.specs.Typing.{item_part}
use Rattle.scopes.specs.Seen.{capped}
use Rattle.scopes.proofs.Counted.{counted}
use Rattle.scopes.proofs.counts.count_in_items.Given as goal

-- those of the items so far
abbrev pub invariant-loop-item : goal.invariant-loop-item
invariant-loop-item l = (k : Known) → l.count ≡ capped (0 + counted (item_part k) (take l.item-index l.item-items))
